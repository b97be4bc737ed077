-- The tasks that read nothing: a text that the words alone determine.
use Rattle.std.specs.Prelude.{ℕ, ◌≡◌, ◌⊎◌, List, Option}
use Rattle.outside.specs.Causes.{Rose}
use Rattle.outside.specs.Sink.{Takes, TakesPrefix}
use Rattle.mem_base.specs.script.Spelling.{Text}
use Rattle.mem_base.specs.script.Run.{text_of}
use Rattle.mem_base.specs.script.Summary.{summary}
use Rattle.script_make.specs.Texts.{script_of_seed}
use Rattle.top_runs.specs.declared.endings.Ending.{Ending}
use Rattle.top_runs.specs.declared.endings.Ending.TheVariants as endings

-- by the text, the ending that comes where all of it was written, the sink before and after, and the ending
pub record Says {K : Type 0} (written : K → Option (List ℕ)) (holds : K → List ℕ → Type 0) (write_faults : K → ℕ) (text : Text)
    (said : Ending)
    (sink sink' : K) (ending : Ending) : Type 0 where
  -- the whole text was written
  pub whole : ending ≡ said → Takes written holds sink sink' text
  -- nothing else comes than that a write fails, or memory runs out
  pub only : (ending ≡ said) ⊎ (ending ≡ endings.WriteFault) ⊎ (ending ≡ endings.Memory)
  -- a write failed in this call
  pub write : ending ≡ endings.WriteFault → Rose (write_faults sink) (write_faults sink')
  -- however it ended, a prefix of the text was written
  pub prefix : TakesPrefix written holds sink sink' text

-- the source was left alone: it has what it had, and no read failed
pub record IsLeftAlone {S : Type 0} (left : S → Option (List ℕ)) (read_faults : S → ℕ) (source source' : S) : Type 0 where
  pub same_left : left source' ≡ left source
  pub same_faults : read_faults source' ≡ read_faults source

-- what `demo` writes of a seed: the summary of what `run` writes for the script that `make` writes
abbrev pub demo_text : ℕ → Text
demo_text seed = summary (text_of (script_of_seed seed))
