-- What a runner keeps of a race from one phase to the next: what stands between two phases, and the text so far.
use Rattle.std.specs.Prelude.{◌≡◌, ℕ, ◌+◌, ◌<◌, List, [], ◌∷◌, ◌++◌, length}
use Rattle.mem_base.specs.declared.machine.events.HistoryEntry.{HistoryEntry}
use Rattle.mem_base.specs.declared.machine.records.DeskEntry.{DeskEntry}
use Rattle.mem_base.specs.lists.Every.{Every}
use Rattle.mem_base.specs.map.Limits.{most_passes, notifier_count}
use Rattle.mem_base.specs.machine.Generations.{Generation}
use Rattle.mem_base.specs.machine.SharedHistory.{IsSharedLegal}
use Rattle.mem_base.specs.machine.Actors.{generations_published}
use Rattle.mem_base.specs.machine.Turns.{writers_of}
use Rattle.mem_base.specs.machine.Records.{FitsDeskOrder, got_by}
use Rattle.mem_base.specs.script.Spelling.{Text}
use Rattle.mem_base.specs.script.Scripts.{Line}
use Rattle.mem_base.specs.script.Run.{pool_words}
use Rattle.mem_base.specs.script.RaceLines.{number_looked}
use Rattle.mem_base.specs.script.Race.{Phase, Course, Stand, first_stand, stand_after, phase_text, text_along, phases_of, passes}
use Rattle.mem_base.specs.script.Race.{desk_number, IsPhase, ArePhases, LeavesLast, IsTextOfRace}

-- each order that was given fits
abbrev pub HasFitting : Course → Type 0
HasFitting c = Every (λ g. FitsDeskOrder g.order) c.given

-- the number that a Look told is that of a generation that was published; `count` were
abbrev pub IsTold : ℕ → DeskEntry → Type 0
IsTold count e = number_looked e.answer < count

-- all that the desk's own actor got tells such numbers
abbrev pub HasTold : ℕ → Course → Type 0
HasTold count c = Every (IsTold count) (got_by desk_number c.clerks)

-- what stands after these phases
abbrev pub stand_along : List Generation → Stand → List Phase → List Course → Stand
stand_along published s (phase ∷ phases) (c ∷ cs) = stand_along published (stand_after published s phase c) phases cs
stand_along published s _ _ = s

-- by what came to pass in these phases: the history so far is legal, they lead to what stands now, and this is their text
pub record HasGone (pool : ℕ) (done : List Phase) (courses : List Course) (s : Stand) (text : Text) : Type 0 where
  pub legal : IsSharedLegal (pool + notifier_count) most_passes s.seen
  pub phases : ArePhases (generations_published s.seen) (first_stand pool) done courses
  pub ends : stand_along (generations_published s.seen) (first_stand pool) done courses ≡ s
  pub writes : text ≡ text_along (generations_published s.seen) (first_stand pool) done courses
  pub told : Every (HasTold (length (generations_published s.seen))) courses
  pub fits : Every HasFitting courses

-- a race whose phases so far are these, with what stands now and the text so far
abbrev pub IsRaceSoFar : ℕ → List Phase → Stand → Text → Type 0
IsRaceSoFar pool done s text = (courses : List Course) × HasGone pool done courses s text

abbrev pub RaceStarts : Type 0
RaceStarts = (pool : ℕ) → IsRaceSoFar pool [] (first_stand pool) []

-- what came to pass in the next phase, held against the history with it
pub record IsNextPhase (pool : ℕ) (s : Stand) (phase : Phase) (c : Course) : Type 0 where
  pub legal : IsSharedLegal (pool + notifier_count) most_passes (s.seen ++ c.entries)
  pub lines : IsPhase (generations_published (s.seen ++ c.entries)) s phase c
  pub told : HasTold (length (generations_published (s.seen ++ c.entries))) c
  pub fits : HasFitting c

abbrev pub RaceTakesPhase : Type 0
RaceTakesPhase = (pool : ℕ) (done : List Phase) (s : Stand) (text : Text) (phase : Phase) (c : Course) → IsRaceSoFar pool done s text
    → IsNextPhase pool s phase c → let published = generations_published (s.seen ++ c.entries) in
    IsRaceSoFar pool (done ++ phase ∷ []) (stand_after published s phase c) (text ++ phase_text published s phase c)

-- after the last phase each pass that is still entered leaves
abbrev pub RaceStops : Type 0
RaceStops = (lines : List Line) (s : Stand) (text : Text) (last : List HistoryEntry) → IsRaceSoFar (pool_words lines) (phases_of lines) s text
    → IsSharedLegal (pool_words lines + notifier_count) most_passes (s.seen ++ last) → Every (LeavesLast s.seen last) passes
    → writers_of last ≡ [] → IsTextOfRace lines (s.seen ++ last) text
