-- A race under way: what some of its phases do to it, what the sink takes of their text, and how a race stops.
use Rattle.std.specs.Prelude.{◌≡◌, ◌≤◌, ◌++◌, ℕ, List, Option, Result, OnOk, OnErr, IsErrOf}
use Rattle.outside.specs.Causes.{Rose}
use Rattle.outside.specs.Sink.{Takes}
use Rattle.mem_base.specs.declared.machine.events.HistoryEntry.{HistoryEntry}
use Rattle.mem_base.specs.script.Spelling.{Text}
use Rattle.mem_base.specs.script.Scripts.{Line}
use Rattle.mem_base.specs.script.Run.{pool_words}
use Rattle.mem_base.specs.script.Race.{Phase, phases_of}
use Rattle.run_laws.specs.Fitting.{AreFitting}
use Rattle.race_laws.specs.SoFar.{IsRaceSoFar}
use Rattle.race_laws.specs.Outside.{IsFault}
use Rattle.race_inside.specs.HandedOn.{ConfigState, IsLater, AreReady, sizes_of, stand_of}
use Rattle.script_run.specs.declared.faults.RunFault.{RunFault}
use Rattle.script_run.specs.declared.faults.RunFault.TheVariants.{Write}
use Rattle.race_run.specs.declared.racers.Racer.{Racer}
use Rattle.race_run.specs.Ends.{AreLeaves}

-- what the lines of a race need
abbrev pub IsReady : Racer → Type 0
IsReady a = AreReady a.desk a.cpus.items

-- the race so far takes these phases, and this is their text
abbrev pub GoesThrough : List Phase → Racer → Racer → Text → Type 0
GoesThrough phases a b more = (pool : ℕ) (done : List Phase) (text : Text) → a.desk.seat.sizes ≡ sizes_of pool
    → IsRaceSoFar pool done (stand_of a.known a.desk) text → IsRaceSoFar pool (done ++ phases) (stand_of b.known b.desk) (text ++ more)

-- the race stopped in these phases, after this much of their text: what was written so far is the beginning of the text of a
-- history of the script that begins with what was seen
abbrev pub StopsWithin : List Phase → Racer → Racer → Text → Type 0
StopsWithin phases a b more = (lines : List Line) (done left : List Phase) (text : Text) → a.desk.seat.sizes ≡ sizes_of (pool_words lines)
    → AreFitting lines → phases_of lines ≡ done ++ (phases ++ left) → IsRaceSoFar (pool_words lines) done (stand_of a.known a.desk) text
    → IsFault lines b.desk.seat.seen (text ++ more)

-- the sink took a text of which this holds
abbrev pub TakesOne : {K : Type 0} → (K → Option (List ℕ)) → (K → List ℕ → Type 0) → K → K → (Text → Type 0) → Type 0
TakesOne written holds old new fact = (text : Text) × Takes written holds old new text × fact text

-- some phases were done and their text was written, or the race stopped within them; that a write failed is told only where one did
pub record Goes {K : Type 0} (written : K → Option (List ℕ)) (holds : K → List ℕ → Type 0) (faults : K → ℕ) (old new : K)
    (phases : List Phase) (a b : Racer) (result : Result (Unit {0}) RunFault) : Type 0 where
  pub later : IsLater a.desk b.desk
  pub through : OnOk result (TakesOne written holds old new (GoesThrough phases a b))
  pub stopped : OnErr result (TakesOne written holds old new (StopsWithin phases a b))
  pub failed : IsErrOf result Write → Rose (faults old) (faults new)
  pub no_less : faults old ≤ faults new

-- a race that stopped: what was written is the beginning of the text of a history of the script that begins with what the desk has
-- seen, but for the entries with which the passes left then
pub record HasStopped (lines : List Line) (c : ConfigState) (text : Text) : Type 0 where
  pub seen : List HistoryEntry
  pub last : List HistoryEntry
  pub whole : c.seat.seen ≡ seen ++ last
  pub leaves : AreLeaves seen last
  pub fault : IsFault lines seen text
