use Rattle.std.proofs.Common.{◌≡◌, ◌-◌, ◌^◌, ◌<◌, ◌≤◌, ℕ, true, take}
use Rattle.change_spans.specs.Reaches.{has_in}
use Rattle.change_spans.proofs.closing.all_above.Given as goal

-- what leads into one of the child's spans so far
abbrev pub invariant-loop-i : goal.invariant-loop-i
invariant-loop-i l =
    (a : ℕ) → a < 2 ^ 64 → l.offset ≤ a → has_in (take l.i l.spans) l.child (a - l.offset) ≡ true → has_in l.spans l.container a ≡ true
