-- What the desk does in a block, line by line.
use Rattle.std.specs.Prelude.{◌≡◌, ◌⊎◌, ℕ, ◌<◌, true, false, List, [], ◌∷◌, ◌++◌, length, map, Option, Some, None, Result, Ok}
use Rattle.std.specs.Arc.{arc_value}
use mathlib.Core.List.{IsPrefix}
use Rattle.atomic_table.specs.Seated.{TableId}
use Rattle.mem_base.specs.declared.machine.events.HistoryEntry.{HistoryEntry}
use Rattle.mem_base.specs.declared.machine.records.DeskEntry.{DeskEntry}
use Rattle.mem_base.specs.declared.machine.records.DeskOrder.{DeskOrder}
use Rattle.mem_base.specs.lists.Every.{Every}
use Rattle.mem_base.specs.machine.Generations.{Generation}
use Rattle.mem_base.specs.machine.Actors.{generations_published}
use Rattle.mem_base.specs.machine.Records.{Clerk}
use Rattle.mem_base.specs.script.Scripts.{Line}
use Rattle.mem_base.specs.script.Tasks.{Known, task_of}
use Rattle.mem_base.specs.script.RaceLines.{DeskLine, Said, asked_first, entry_at, line_of_desk, lines_of_desk, no_entry, number_looked}
use Rattle.mem_base.specs.script.Race.{AsksAsGiven}
use Rattle.epoch_rule.specs.Values.{NoteValue}
use Rattle.race_laws.specs.Acting.{DeskAt}
use Rattle.race_laws.specs.SoFar.{IsTold}
use Rattle.race_laws.specs.Stopped.{BeginsLine}
use Rattle.desk_orders.specs.declared.orders.Receipt.{Receipt}
use Rattle.desk_orders.specs.Clerks.{wrote_down}
use Rattle.desk_orders.specs.Receipts.{IsReceipt}
use Rattle.race_lines.specs.declared.tasks.LineTask.{LineTask}
use Rattle.race_lines.specs.declared.tasks.LineTask.TheVariants.{Ordered}
use Rattle.race_lines.specs.declared.tasks.Refused.{Refused}
use Rattle.race_lines.specs.DeskLines.{desk_line_by, entry_with}
use Rattle.race_lines.specs.LineTasks.{Resolves, resolved}
use Rattle.race_block.specs.declared.desks.Asked.{Asked}
use Rattle.race_block.specs.declared.desks.Given.{Given}
use Rattle.race_block.specs.declared.tasks.OwnLine.{OwnLine}
use Rattle.race_block.specs.declared.desks.DeskActor.{DeskActor}

-- the line of the script
abbrev pub line_meant : OwnLine → Line
line_meant x = x.line.now

-- an order was given, and what it got is its receipt's; the clerk wrote it down, and the receipt's note was kept
pub record Gives (cabinet : TableId) (order : DeskOrder) (c : Clerk) (notes : List NoteValue) (got : Given) (d : Clerk) (more : List NoteValue)
    : Type 0 where
  pub receipt : Receipt
  pub is : IsReceipt cabinet order receipt
  pub clerk : d ≡ wrote_down c order receipt
  pub notes_are : more ≡ notes ++ receipt.note ∷ []
  pub answer : got.answer ≡ receipt.answer
  pub from : got.from ≡ receipt.from
  pub to : got.to ≡ receipt.to
  pub current : got.current ≡ receipt.current

-- the notes are of this cabinet, and go on to be so
abbrev pub AreNotesOf : TableId → List NoteValue → Type 0
AreNotesOf cabinet notes = Every (λ n. n.cabinet ≡ cabinet) notes

abbrev pub KeepsNotes : TableId → List NoteValue → List NoteValue → Type 0
KeepsNotes cabinet notes more = AreNotesOf cabinet notes → AreNotesOf cabinet more

-- the order of a task was given, where it has one
abbrev pub GivesOwn : TableId → Result LineTask Refused → Clerk → List NoteValue → Option Given → Clerk → List NoteValue → Type 0
GivesOwn cabinet (Ok (Ordered order naming)) c notes got d more = (g : Given) × (got ≡ Some g) × Gives cabinet order c notes g d more
GivesOwn cabinet _ c notes got d more = (got ≡ None) × (d ≡ c) × (more ≡ notes)

-- the history begins with what these notes had seen
abbrev pub HasHeard : List NoteValue → List HistoryEntry → Type 0
HasHeard notes seen = Every (λ n. IsPrefix n.seen seen) notes

abbrev pub clerk_with : Clerk → List DeskEntry → Clerk
clerk_with c new = record { who = c.who; got = c.got ++ new }

-- what a line got is what it asks for, and each number that it was told is that of a generation that was published
pub record IsGiven (published : List Generation) (k : Known) (line : Line) (new : List DeskEntry) : Type 0 where
  pub asks : AsksAsGiven new (line_of_desk published k line new).asks
  pub looked : number_looked (entry_at new (asked_first (task_of k line.1))).answer < length published
  pub told : Every (IsTold (length published)) new

-- all orders of a line were given: so it is in every history that begins with what their notes had seen
pub record HasAsked (k : Known) (line : Line) (c : Clerk) (notes : List NoteValue) (d : Clerk) (more : List NoteValue) : Type 0 where
  pub new : List DeskEntry
  pub heard : List NoteValue
  pub clerk : d ≡ clerk_with c new
  pub notes_are : more ≡ notes ++ heard
  pub is : (seen : List HistoryEntry) → HasHeard heard seen → IsGiven (generations_published seen) k line new

-- the entry of the order that a line gave, if any
abbrev pub entry_of : Option Given → DeskEntry
entry_of None = no_entry
entry_of (Some g) = entry_with g.answer g.from g.to

-- a line, by what it asked for and got
abbrev pub line_asked : Known → ℕ → Asked → DeskLine
line_asked k number x = desk_line_by k number (resolved x.task) (entry_of x.got) (arc_value x.current).number (arc_value x.current).forest

-- the same, with what it asked for and got: by that it is the line of the script
pub record IsAsked (k : Known) (line : Line) (c : Clerk) (notes : List NoteValue) (x : Asked) (d : Clerk) (more : List NoteValue) : Type 0 where
  pub task : Resolves k x.task (task_of k line.1)
  pub asked : HasAsked k line c notes d more
  pub is : (seen : List HistoryEntry) → HasHeard asked.heard seen → (others : List DeskEntry)
      → line_of_desk (generations_published seen) k line (asked.new ++ others) ≡ line_asked k line.0 x

-- the line has not asked for the current generation yet: its own order was given, or not
pub record StopsIn (k : Known) (line : Line) (c : Clerk) (notes : List NoteValue) (d : Clerk) (more : List NoteValue) : Type 0 where
  pub new : List DeskEntry
  pub heard : List NoteValue
  pub clerk : d ≡ clerk_with c new
  pub notes_are : more ≡ notes ++ heard
  pub begins : BeginsLine k (line ∷ []) new
  pub told : (seen : List HistoryEntry) → HasHeard heard seen → Every (IsTold (length (generations_published seen))) new

-- a line leaves this known, and wrote this
pub record LeavesLine (k : Known) (number : ℕ) (x : Asked) (before : List Said) (next : Known) (after : List Said) : Type 0 where
  pub known : next ≡ (line_asked k number x).known
  pub written : after ≡ before ++ (line_asked k number x).said ∷ []

-- a line was done
pub record DoesDeskLine (k : Known) (line : Line) (c : Clerk) (notes : List NoteValue) (before : List Said) (d : Clerk) (more : List NoteValue)
    (next : Known) (after : List Said) : Type 0 where
  pub x : Asked
  pub asked : IsAsked k line c notes x d more
  pub leaves : LeavesLine k line.0 x before next after

-- the next line was not done: it stopped within its orders, or what it wrote was lost after them
abbrev pub IsNotDone : Known → Line → Clerk → List NoteValue → Clerk → List NoteValue → Type 0
IsNotDone k line c notes d more = StopsIn k line c notes d more ⊎ ((x : Asked) × IsAsked k line c notes x d more)

-- What the desk keeps of the lines that it did, held against the generations of a history: it took just what they asked for, and then it knows this
pub record DeskKeeps (published : List Generation) (k : Known) (lines : List Line) (got : List DeskEntry) (now : Known) (said : List Said)
    : Type 0 where
  pub at : DeskAt published k lines got now
  pub told : Every (IsTold (length published)) got
  pub writes : (more : List DeskEntry) → map (λ (x : DeskLine). x.said) (lines_of_desk published k lines (got ++ more)) ≡ said

-- these lines were done: so it is in every history that begins with what the notes of all orders had seen
pub record HasDoneLines (k : Known) (lines : List Line) (c d : Clerk) (notes : List NoteValue) (now : Known) (said : List Said) : Type 0 where
  pub got : List DeskEntry
  pub clerk : d ≡ clerk_with c got
  pub keeps : (seen : List HistoryEntry) → HasHeard notes seen → DeskKeeps (generations_published seen) k lines got now said

-- the first of the lines were done, and the next one may have begun
pub record HasStopped (k : Known) (lines : List Line) (c d : Clerk) (notes : List NoteValue) : Type 0 where
  pub front : List Line
  pub left : List Line
  pub cut : lines ≡ front ++ left
  pub got : List DeskEntry
  pub had : List DeskEntry
  pub clerk : d ≡ clerk_with c (got ++ had)
  pub now : Known
  pub next : BeginsLine now left had
  pub at : (seen : List HistoryEntry) → HasHeard notes seen → DeskAt (generations_published seen) k front got now
  pub told : (seen : List HistoryEntry) → HasHeard notes seen → Every (IsTold (length (generations_published seen))) (got ++ had)

-- the desk may begin
pub record IsReady (a : DeskActor) : Type 0 where
  pub silent : a.said.items ≡ []
  pub unheard : a.notes.items ≡ []

abbrev pub lines_meant : List OwnLine → List Line
lines_meant xs = map line_meant xs

-- it did all its lines, or out of memory the first of them
pub record HasRun (a b : DeskActor) : Type 0 where
  pub lines : b.lines.items ≡ a.lines.items
  pub whole : b.out_of_memory ≡ false → HasDoneLines a.known (lines_meant a.lines.items) a.clerk b.clerk b.notes.items b.known b.said.items
  pub stopped : b.out_of_memory ≡ true → HasStopped a.known (lines_meant a.lines.items) a.clerk b.clerk b.notes.items
