-- Where a race stops: what each actor has done of a phase, and how the race could have gone on.
use Rattle.std.specs.Prelude.{◌≡◌, ℕ, ◌+◌, ◌<◌, List, [], ◌∷◌, ◌++◌, length, map, flat_map, true, Option, Some, None, Ok}
use Rattle.std.specs.List.{list_any}
use Rattle.mem_base.specs.map.PassIds.{PassId}
use Rattle.mem_base.specs.declared.machine.events.HistoryEntry.{HistoryEntry}
use Rattle.mem_base.specs.declared.machine.records.DeskEntry.{DeskEntry}
use Rattle.mem_base.specs.lists.Every.{Every}
use Rattle.mem_base.specs.map.Limits.{most_passes, notifier_count}
use Rattle.mem_base.specs.machine.Passes.{PassState}
use Rattle.mem_base.specs.machine.Generations.{Generation}
use Rattle.mem_base.specs.machine.SharedHistory.{IsSharedLegal}
use Rattle.mem_base.specs.machine.Actors.{generations_published, own_entries}
use Rattle.mem_base.specs.machine.Turns.{entries_of_turn, replies_of, writers_of}
use Rattle.mem_base.specs.machine.Records.{Clerk, Closes, got_by, recorded}
use Rattle.mem_base.specs.script.Spelling.{Text}
use Rattle.mem_base.specs.script.Scripts.{Line}
use Rattle.mem_base.specs.script.Named.{Names}
use Rattle.mem_base.specs.script.Run.{pool_words}
use Rattle.mem_base.specs.script.Tasks.{Known, task_of}
use Rattle.mem_base.specs.script.Tasks as tasks
use Rattle.mem_base.specs.script.RaceLines.{DeskLine, PassLine, known_after, lines_of_desk, lines_of_pass}
use Rattle.mem_base.specs.script.Race.{Phase, Course, Stand, alone, block, publishes_number, actors_in, desk_number, lines_by, pass_state, phases_of, turns_in}
use Rattle.mem_base.specs.script.Race.{ActsAfterPublishes, AsksAsGiven, IsTextOfRace, MayDiffer}
use Rattle.run_laws.specs.Fitting.{AreFitting}
use Rattle.race_laws.specs.Acting.{DeskAt, PassAt}
use Rattle.race_laws.specs.SoFar.{HasFitting, HasTold, IsNextPhase, IsRaceSoFar}

-- the generation that an answer told was published in this history
abbrev pub StandsPublished : List HistoryEntry → Option ℕ → Type 0
StandsPublished xs None = Unit {0}
StandsPublished xs (Some number) = list_any (publishes_number number) xs ≡ true

-- Outside the block no lock stands before the desk, so what the actor got is what the record has of it. In the block that is not asked:
-- where it is not so, a line `differs` tells it
abbrev pub MayClose : Phase → List DeskEntry → List Clerk → Type 0
MayClose (alone line) entries clerks = Closes entries clerks None
MayClose (block lines) entries clerks = Unit {0}

-- the generations that were published by the end of a part of a phase
abbrev pub published_by : Stand → Course → List Generation
published_by s c = generations_published (s.seen ++ c.entries)

-- the first lines of the desk, by these entries
abbrev pub first_desk_lines : Stand → Course → List Line → List DeskEntry → List DeskLine
first_desk_lines s c front got = lines_of_desk (published_by s c) s.known front got

-- an order of the next line was answered, and it has not asked yet what is current
abbrev pub BeginsLine : Known → List Line → List DeskEntry → Type 0
BeginsLine k left [] = Unit {0}
BeginsLine k (line ∷ left) (e ∷ []) = (name : Text) × (task_of k line.1 ≡ Ok (tasks.ordered e.order name))
BeginsLine k left had = ⊥

-- the desk has done the first of its lines, and may have begun the next one
pub record DeskHasDone (s : Stand) (phase : Phase) (c : Course) : Type 0 where
  pub front : List Line
  pub left : List Line
  pub lines : lines_by desk_number phase ≡ front ++ left
  pub got : List DeskEntry
  pub had : List DeskEntry
  pub all : got_by desk_number c.clerks ≡ got ++ had
  pub asks : AsksAsGiven got (flat_map (λ x. x.asks) (first_desk_lines s c front got))
  pub next : BeginsLine (known_after s.known (first_desk_lines s c front got)) left had

-- the first lines of a pass, by all that it got
abbrev pub first_pass_lines : Stand → Course → PassId → Names → List Line → List PassLine
first_pass_lines s c pass names front = lines_of_pass (published_by s c) s.known names pass (pass_state pass s.seen) front
    (replies_of (own_entries (pass.0 + 1) c.entries)) (got_by pass.0 c.clerks)

-- a pass has done the first of its lines, by whatever names they are printed; each generation that an answer told it was published
pub record PassHasDone (s : Stand) (phase : Phase) (c : Course) (pass : PassId) : Type 0 where
  pub names : Names
  pub front : List Line
  pub left : List Line
  pub lines : lines_by pass.0 phase ≡ front ++ left
  pub entries : own_entries (pass.0 + 1) c.entries ≡ flat_map (λ x. x.turn.entries) (first_pass_lines s c pass names front)
  pub asks : AsksAsGiven (got_by pass.0 c.clerks) (flat_map (λ x. x.asks) (first_pass_lines s c pass names front))
  pub after : ActsAfterPublishes (s.seen ++ c.entries) (pass.0 + 1) (length (own_entries (pass.0 + 1) s.seen)) (first_pass_lines s c pass names front)
  pub published : Every (λ x. StandsPublished (s.seen ++ c.entries) x.published) (first_pass_lines s c pass names front)

-- what came to pass in a part of a phase, after what stands before it: each actor has done the first of its lines
pub record HasBegun (pool : ℕ) (s : Stand) (phase : Phase) (c : Course) : Type 0 where
  pub legal : IsSharedLegal (pool + notifier_count) most_passes (s.seen ++ c.entries)
  pub writer : writers_of c.entries ≡ flat_map entries_of_turn (turns_in s c)
  pub desk : DeskHasDone s phase c
  pub each : (pass : PassId) → pass.0 < most_passes → PassHasDone s phase c pass
  pub clerks : map (λ clerk. clerk.who) c.clerks ≡ actors_in phase
  pub closes : MayClose phase (recorded s.writer c.given) c.clerks
  pub told : HasTold (length (published_by s c)) c
  pub fits : HasFitting c

-- The same by what the actors keep from line to line

pub record DeskActor (s : Stand) (phase : Phase) (c : Course) : Type 0 where
  pub front : List Line
  pub left : List Line
  pub lines : lines_by desk_number phase ≡ front ++ left
  pub got : List DeskEntry
  pub had : List DeskEntry
  pub all : got_by desk_number c.clerks ≡ got ++ had
  pub now : Known
  pub at : DeskAt (published_by s c) s.known front got now
  pub next : BeginsLine now left had

pub record PassActor (s : Stand) (phase : Phase) (c : Course) (pass : PassId) : Type 0 where
  pub front : List Line
  pub left : List Line
  pub lines : lines_by pass.0 phase ≡ front ++ left
  pub at : PassAt (published_by s c) s.known pass (s.seen ++ c.entries) (length (own_entries (pass.0 + 1) s.seen)) (record {
    before = pass_state pass s.seen;
    lines = front;
    own = own_entries (pass.0 + 1) c.entries;
    got = got_by pass.0 c.clerks;
    now = pass_state pass (s.seen ++ c.entries);
  })

pub record ActorsHaveBegun (pool : ℕ) (s : Stand) (phase : Phase) (c : Course) : Type 0 where
  pub legal : IsSharedLegal (pool + notifier_count) most_passes (s.seen ++ c.entries)
  pub writer : writers_of c.entries ≡ flat_map entries_of_turn (turns_in s c)
  pub desk : DeskActor s phase c
  pub each : (pass : PassId) → pass.0 < most_passes → PassActor s phase c pass
  pub clerks : map (λ clerk. clerk.who) c.clerks ≡ actors_in phase
  pub closes : MayClose phase (recorded s.writer c.given) c.clerks
  pub told : HasTold (length (published_by s c)) c
  pub fits : HasFitting c

-- where they have done all of their lines, and it is told how the clerks stand to the record, the phase is whole
pub record ActorsHaveDone (pool : ℕ) (s : Stand) (phase : Phase) (c : Course) : Type 0 where
  pub legal : IsSharedLegal (pool + notifier_count) most_passes (s.seen ++ c.entries)
  pub writer : writers_of c.entries ≡ flat_map entries_of_turn (turns_in s c)
  pub now : Known
  pub desk : DeskAt (published_by s c) s.known (lines_by desk_number phase) (got_by desk_number c.clerks) now
  pub each : (pass : PassId) → pass.0 < most_passes → (state : PassState) ×
      PassAt (published_by s c) s.known pass (s.seen ++ c.entries) (length (own_entries (pass.0 + 1) s.seen)) (record {
        before = pass_state pass s.seen;
        lines = lines_by pass.0 phase;
        own = own_entries (pass.0 + 1) c.entries;
        got = got_by pass.0 c.clerks;
        now = state;
      })
  pub clerks : map (λ clerk. clerk.who) c.clerks ≡ actors_in phase
  pub closes : Closes (recorded s.writer c.given) c.clerks c.differs
  pub lock : MayDiffer phase c.differs
  pub told : HasTold (length (published_by s c)) c
  pub fits : HasFitting c

abbrev pub ActorsMakePhase : Type 0
ActorsMakePhase = (pool : ℕ) (s : Stand) (phase : Phase) (c : Course) → ActorsHaveDone pool s phase c → IsNextPhase pool s phase c

-- a race of which these entries were made, and this text written, could have gone on: there is a history of the script that begins with
-- the entries, and its text begins with the text
abbrev pub GoesOn : List Line → List HistoryEntry → Text → Type 0
GoesOn lines seen text = (more : List HistoryEntry) × (rest : Text) × IsTextOfRace lines (seen ++ more) (text ++ rest)

-- where it stops between two phases
abbrev pub RaceGoesOn : Type 0
RaceGoesOn = (lines : List Line) (done left : List Phase) (s : Stand) (text : Text) → AreFitting lines → phases_of lines ≡ done ++ left
    → IsRaceSoFar (pool_words lines) done s text → GoesOn lines s.seen text

-- so each script has a race
abbrev pub RacesExist : Type 0
RacesExist = (lines : List Line) → AreFitting lines → (xs : List HistoryEntry) × (text : Text) × IsTextOfRace lines xs text

-- where it stops within a phase, of which nothing is written yet
abbrev pub StoppedRaceGoesOn : Type 0
StoppedRaceGoesOn = (lines : List Line) (done : List Phase) (phase : Phase) (left : List Phase) (s : Stand) (text : Text) (c : Course) → AreFitting lines
    → phases_of lines ≡ done ++ phase ∷ left → IsRaceSoFar (pool_words lines) done s text → HasBegun (pool_words lines) s phase c
    → GoesOn lines (s.seen ++ c.entries) text

abbrev pub StoppedActorsGoOn : Type 0
StoppedActorsGoOn = (lines : List Line) (done : List Phase) (phase : Phase) (left : List Phase) (s : Stand) (text : Text) (c : Course)
    → AreFitting lines → phases_of lines ≡ done ++ phase ∷ left → IsRaceSoFar (pool_words lines) done s text
    → ActorsHaveBegun (pool_words lines) s phase c → GoesOn lines (s.seen ++ c.entries) text
