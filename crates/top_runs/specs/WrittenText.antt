-- What is written: the text of the commands, or the line of a text that is no script.
use Rattle.std.specs.Prelude.{ℕ, ◌≡◌, List, [], Option, Ok, Err}
use Rattle.outside.specs.Sink.{Takes, TakesPrefix}
use Rattle.mem_base.specs.script.Spelling.{Text}
use Rattle.mem_base.specs.script.Scripts.{Line, Meaning}
use Rattle.mem_base.specs.script.RefusalLines.{bad_line}
use Rattle.mem_base.specs.script.Run.{text_of}
use Rattle.run_laws.specs.LawfulRuns.{RunIsLawful}
use Rattle.top_runs.specs.declared.endings.Ending.{Ending}
use Rattle.top_runs.specs.declared.endings.Ending.TheVariants as endings
use Rattle.top_runs.specs.Statuses.{IfBad}

-- the text of a script, or the line of a text that is none
abbrev pub text_of_script : Meaning → Text
text_of_script (Ok lines) = text_of lines
text_of_script (Err bad) = bad_line bad

-- by the commands that were read, or the first line at fault, and the sink before and after
pub record WritesTextOf {K : Type 0} (written : K → Option (List ℕ)) (holds : K → List ℕ → Type 0) (script : Meaning)
    (sink sink' : K) (ending : Ending) : Type 0 where
  -- Done: exactly the text of the commands was written, each run in the state of the machine that those before it left
  pub done : ending ≡ endings.Done → (lines : List Line) × (script ≡ Ok lines) × Takes written holds sink sink' (text_of lines)
  -- this run is one legal history of the machine, to which each command adds its events. Before each command and after the last:
  -- what each listener was told since it joined replays to the ranges and the live ioeventfds of its space in the current forest;
  -- that forest is the last committed one, and what `show` and `at` print of it is what the rules of QEMU's manual, as a
  -- relation, find at each address; and a `reap` releases just the dropped regions that no generation in use names
  pub lawful : (lines : List Line) → script ≡ Ok lines → RunIsLawful lines
  -- a bad script: exactly the line of its first fault was written
  pub bad : IfBad ending (λ fault. (script ≡ Err fault) × Takes written holds sink sink' (bad_line fault))
  -- a read fault: nothing was written
  pub read : ending ≡ endings.ReadFault → Takes written holds sink sink' []
  -- however it ended, a prefix of the text was written
  pub prefix : TakesPrefix written holds sink sink' (text_of_script script)
