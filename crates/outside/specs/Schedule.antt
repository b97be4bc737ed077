-- Which calls are to fail, and how many were made.
use Rattle.std.specs.Prelude.{ℕ, ◌+◌, ◌-◌, ◌^◌, List, min}
use Rattle.outside.specs.declared.schedule.Schedule.{Schedule}

-- the calls that fail, counted from 1
abbrev pub failing_calls : Schedule → List ℕ
failing_calls s = s.fails.items

-- the calls made so far
abbrev pub calls_made : Schedule → ℕ
calls_made s = s.calls

-- one more, up to the greatest number that a list of calls can name
abbrev pub one_call_more : ℕ → ℕ
one_call_more calls = min (calls + 1) (2 ^ 32 - 1)
