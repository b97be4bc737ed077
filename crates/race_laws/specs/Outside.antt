-- What a runner cites at each line: which phases a script has, which orders its lines ask for, and when a line outside the block is a phase.
use Rattle.std.specs.Prelude.{◌≡◌, ℕ, ◌+◌, ◌<◌, true, false, List, [], ◌∷◌, ◌++◌, length, map, flat_map, Some, None, Ok}
use mathlib.Core.List.{IsPrefix}
use Rattle.mem_base.specs.map.PassIds.{PassId}
use Rattle.mem_base.specs.declared.machine.events.HistoryEntry.{HistoryEntry}
use Rattle.mem_base.specs.declared.machine.records.DeskOrder.{DeskOrder}
use Rattle.mem_base.specs.declared.script.commands.Command.{Command}
use Rattle.mem_base.specs.lists.Every.{Every}
use Rattle.mem_base.specs.map.Limits.{most_passes, notifier_count}
use Rattle.mem_base.specs.machine.Generations.{Generation}
use Rattle.mem_base.specs.machine.SharedHistory.{IsSharedLegal}
use Rattle.mem_base.specs.machine.Actors.{generations_published, own_entries}
use Rattle.mem_base.specs.machine.Turns.{entries_of_turn, replies_of, turns, writers_of}
use Rattle.mem_base.specs.machine.Records.{Closes, Given, answered, recorded, FitsDeskOrder}
use Rattle.mem_base.specs.machine.PassTurns.{pass_begins}
use Rattle.mem_base.specs.script.Spelling.{Text}
use Rattle.mem_base.specs.script.Scripts.{Line}
use Rattle.mem_base.specs.script.Tasks.{Known, task_of}
use Rattle.mem_base.specs.script.Tasks as tasks
use Rattle.mem_base.specs.script.RaceLines.{DeskLine, PassLine, entry_at, line_of_desk, line_of_pass, said_text}
use Rattle.mem_base.specs.script.Race.{Phase, Course, Stand, IsPhase, IsTextOfRace, actor_number, alone, block, desk_number, is_end, is_par, pass_state}
use Rattle.mem_base.specs.script.Race.{phase_text, phases_of, stand_after, turns_in}
use Rattle.run_laws.specs.Fitting.{FitsCommand}
use Rattle.race_laws.specs.SoFar.{HasTold, IsRaceSoFar}
use Rattle.race_laws.specs.Stopped.{StandsPublished, GoesOn, HasBegun}

-- which phases a script has

-- a line that neither begins nor ends the block
pub record IsPlain (line : Line) : Type 0 where
  pub begins : is_par line.1 ≡ false
  pub ends : is_end line.1 ≡ false

abbrev pub phases_alone : List Line → List Phase
phases_alone lines = map alone lines

-- the block, where it has lines
abbrev pub block_of : List Line → List Phase
block_of [] = []
block_of lines = block lines ∷ []

pub record HasPhases : Type 0 where
  pub plain : (front : List Line) → Every IsPlain front → phases_of front ≡ phases_alone front
  pub with_block : (front inside back : List Line) (par end : Line) → Every IsPlain front → Every IsPlain inside → Every IsPlain back
      → is_par par.1 ≡ true → is_par end.1 ≡ false → is_end end.1 ≡ true
      → phases_of (front ++ par ∷ (inside ++ end ∷ back)) ≡ phases_alone front ++ (block_of inside ++ phases_alone back)

-- an order that a line asks for fits, where the numbers of the line do
abbrev pub OrdersFit : Type 0
OrdersFit = (k : Known) (c : Command) (order : DeskOrder) (name : Text) → FitsCommand c → task_of k c ≡ Ok (tasks.ordered order name) → FitsDeskOrder order

-- a number above 0 of a generation that was published was published by an entry of the history
abbrev pub PublishStands : Type 0
PublishStands = (words passes : ℕ) (xs : List HistoryEntry) (number : ℕ) → IsSharedLegal words passes xs → 0 < number
    → number < length (generations_published xs) → StandsPublished xs (Some number)

-- where what the actors got is what the record has of them, each number that a Look told is that of a generation that was published
abbrev pub RecordTells : Type 0
RecordTells = (pool : ℕ) (done : List Phase) (s : Stand) (text : Text) (c : Course) → IsRaceSoFar pool done s text
    → IsSharedLegal (pool + notifier_count) most_passes (s.seen ++ c.entries) → writers_of c.entries ≡ flat_map entries_of_turn (turns_in s c)
    → Closes (recorded s.writer c.given) c.clerks None → HasTold (length (generations_published (s.seen ++ c.entries))) c

-- what a fault has to say: what was written is the beginning of the text of a history of the script that begins with what was seen
pub record IsFault (lines : List Line) (seen : List HistoryEntry) (written : Text) : Type 0 where
  pub history : List HistoryEntry
  pub text : Text
  pub begins : IsPrefix seen history
  pub race : IsTextOfRace lines history text
  pub prefix : IsPrefix written text

abbrev pub FaultsWrite : Type 0
FaultsWrite = (lines : List Line) (seen : List HistoryEntry) (text written : Text) → GoesOn lines seen text → IsPrefix written text
    → IsFault lines seen written

-- a line of the desk outside the block

-- what comes to pass: the desk gives these orders, and nothing else is done
abbrev pub desk_course : Stand → List Given → Course
desk_course s given = record {
  given = given;
  clerks = record { who = desk_number; got = recorded s.writer given } ∷ [];
  differs = None;
  entries = flat_map entries_of_turn (turns s.writer (map answered given));
}

-- the line, by what the desk answers
abbrev pub desk_line_of : List Generation → Stand → Line → List Given → DeskLine
desk_line_of published s line given = line_of_desk published s.known line (recorded s.writer given)

pub record IsDeskPhase (published : List Generation) (s : Stand) (line : Line) (given : List Given) : Type 0 where
  pub phase : IsPhase published s (alone line) (desk_course s given)
  pub known : (stand_after published s (alone line) (desk_course s given)).known ≡ (desk_line_of published s line given).known
  pub text : let after = stand_after published s (alone line) (desk_course s given) in
      phase_text published s (alone line) (desk_course s given)
      ≡ said_text after.known.names after.writer.desk.listening.journal (desk_line_of published s line given).said

-- where the desk gives the orders that the line asks for
abbrev pub DeskLineIsPhase : Type 0
DeskLineIsPhase = (published : List Generation) (s : Stand) (line : Line) (given : List Given) → actor_number line.1 ≡ desk_number
    → Every (λ g. g.who ≡ desk_number) given → map (λ g. g.order) given ≡ (desk_line_of published s line given).asks → IsDeskPhase published s line given

-- where it stops after the order of a line, and before it asks what is current: the line has begun
abbrev pub DeskLineStops : Type 0
DeskLineStops = (pool : ℕ) (done : List Phase) (s : Stand) (text : Text) (line : Line) (g : Given) (name : Text) → IsRaceSoFar pool done s text
    → actor_number line.1 ≡ desk_number → g.who ≡ desk_number → task_of s.known line.1 ≡ Ok (tasks.ordered g.order name) → FitsDeskOrder g.order
    → IsSharedLegal (pool + notifier_count) most_passes (s.seen ++ (desk_course s (g ∷ [])).entries)
    → HasBegun pool s (alone line) (desk_course s (g ∷ []))

-- a line of a pass outside the block

-- what comes to pass: the pass makes these entries, gives these orders, and nothing else is done
abbrev pub pass_course : Stand → PassId → List HistoryEntry → List Given → Course
pass_course s pass ys given = record {
  given = given;
  clerks = record { who = pass.0; got = recorded s.writer given } ∷ [];
  differs = None;
  entries = ys ++ flat_map entries_of_turn (turns s.writer (map answered given));
}

-- the line, by the replies of its entries and what the desk answers
abbrev pub pass_line_of : List Generation → Stand → PassId → Line → List HistoryEntry → List Given → PassLine
pass_line_of published s pass line ys given = line_of_pass published s.known.names pass line.0 (task_of s.known line.1)
    (pass_begins (pass_state pass s.seen) (replies_of ys)) (entry_at (recorded s.writer given) 0)

pub record IsPassPhase (published : List Generation) (s : Stand) (pass : PassId) (line : Line) (ys : List HistoryEntry) (given : List Given) : Type 0 where
  pub phase : IsPhase published s (alone line) (pass_course s pass ys given)
  pub known : (stand_after published s (alone line) (pass_course s pass ys given)).known ≡ s.known
  pub text : let after = stand_after published s (alone line) (pass_course s pass ys given) in
      phase_text published s (alone line) (pass_course s pass ys given)
      ≡ said_text after.known.names after.writer.desk.listening.journal (pass_line_of published s pass line ys given).said

-- where the entries are the pass's and those of the line, and it gives the orders that the line asks for
abbrev pub PassLineIsPhase : Type 0
PassLineIsPhase = (published : List Generation) (s : Stand) (pass : PassId) (line : Line) (ys : List HistoryEntry) (given : List Given)
    → pass.0 < most_passes → actor_number line.1 ≡ pass.0 → own_entries (pass.0 + 1) ys ≡ ys → Every (λ g. g.who ≡ pass.0) given
    → ys ≡ (pass_line_of published s pass line ys given).turn.entries → map (λ g. g.order) given ≡ (pass_line_of published s pass line ys given).asks
    → IsPassPhase published s pass line ys given
