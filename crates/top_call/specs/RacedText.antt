-- What a race writes: a text of the script for the history of the very machine on which it ran.
use Rattle.std.specs.Prelude.{ℕ, ◌≡◌, false, List, [], Option, Some, None, Ok, Err, replicate}
use Rattle.outside.specs.Sink.{Takes, TakesPrefix}
use Rattle.mem_base.specs.declared.machine.events.HistoryEntry.{HistoryEntry}
use Rattle.mem_base.specs.lists.Every.{Every}
use Rattle.mem_base.specs.map.Limits.{most_passes}
use Rattle.mem_base.specs.script.Spelling.{Text}
use Rattle.mem_base.specs.script.Scripts.{Line, Meaning}
use Rattle.mem_base.specs.script.RefusalLines.{bad_line}
use Rattle.mem_base.specs.script.Race.{IsAlone, IsTextOfRace, phases_of}
use Rattle.mem_base.specs.script.Run.{text_of}
use Rattle.config_desk.specs.LawfulDesks.{IsLawfulDesk}
use Rattle.config_desk.specs.SeenLaws.{HasSeenAll}
use Rattle.race_run.specs.HandedOn.{ConfigState}
use Rattle.top_runs.specs.declared.endings.Ending.{Ending}
use Rattle.top_runs.specs.declared.endings.Ending.TheVariants as endings
use Rattle.top_runs.specs.Statuses.{IfBad}

-- a text that the commands may write as a race, or the line of a text that is no script
abbrev pub IsRacedText : Meaning → Text → Type 0
IsRacedText (Ok lines) text = (xs : List HistoryEntry) × IsTextOfRace lines xs text
IsRacedText (Err bad) text = text ≡ bad_line bad

-- The machine on which the commands ran as a race, by its desk: all passes are taken in, and so what the desk has seen is the whole history of
-- its machine; it is a history of the commands, and the sink took its text. At every moment of this history what holds of a run before each command holds too: what is published shows what the manual's
-- search finds, listeners have been told just that, and a reap releases what no held generation names
pub record HasRaced {K : Type 0} (written : K → Option (List ℕ)) (holds : K → List ℕ → Type 0) (lines : List Line) (sink sink' : K)
    (c : ConfigState) : Type 0 where
  pub home : c.seat.out ≡ replicate most_passes false
  pub all : HasSeenAll c.seat
  pub text : Text
  pub race : IsTextOfRace lines c.seat.seen text
  pub lawful : IsLawfulDesk c
  pub took : Takes written holds sink sink' text

-- what a script without a block, or with an empty one, writes: the text of its run, or a prefix of it
pub record WritesPlain {K : Type 0} (written : K → Option (List ℕ)) (holds : K → List ℕ → Type 0) (lines : List Line) (sink sink' : K)
    (ending : Ending) : Type 0 where
  pub whole : ending ≡ endings.Done → Takes written holds sink sink' (text_of lines)
  pub part : TakesPrefix written holds sink sink' (text_of lines)

-- by the commands that were read, or the first line at fault, the sink before and after, and the machine that is kept, if any
pub record WritesRaceOf {K : Type 0} (written : K → Option (List ℕ)) (holds : K → List ℕ → Type 0) (script : Meaning)
    (sink sink' : K) (machine : Option ConfigState) (ending : Ending) : Type 0 where
  -- Done: the commands ran on the machine that is kept, and exactly their text for its history was written
  pub done : ending ≡ endings.Done → (lines : List Line) × (c : ConfigState) × (script ≡ Ok lines) × (machine ≡ Some c)
      × HasRaced written holds lines sink sink' c
  -- after any other ending no machine is kept
  pub kept : (ending ≡ endings.Done → ⊥) → machine ≡ None
  -- a script without a block, or with an empty one, writes what `run` writes
  pub plain : (lines : List Line) → script ≡ Ok lines → Every IsAlone (phases_of lines) → WritesPlain written holds lines sink sink' ending
  -- a bad script: exactly the line of its first fault was written
  pub bad : IfBad ending (λ fault. (script ≡ Err fault) × Takes written holds sink sink' (bad_line fault))
  -- a read fault: nothing was written
  pub read : ending ≡ endings.ReadFault → Takes written holds sink sink' []
  -- however it ended, a prefix of a text was written which the commands may write as a race
  pub prefix : (text : Text) × IsRacedText script text × TakesPrefix written holds sink sink' text
