-- What a pass does in a block, line by line.
use Rattle.std.specs.Prelude.{◌≡◌, ◌⊎◌, ℕ, ◌≤◌, Bool, true, false, List, [], ◌∷◌, ◌++◌, length, take}
use mathlib.Core.List.{IsPrefix}
use Rattle.std.specs.Prelude.{All}
use Rattle.std.specs.List.{list_any}
use Rattle.mem_base.specs.declared.machine.records.DeskOrder.{DeskOrder}
use Rattle.mem_base.specs.access.AccessSteps.{reading, writing}
use Rattle.mem_base.specs.machine.Passes.{pass_id}
use Rattle.mem_base.specs.machine.Records.{Clerk}
use Rattle.mem_base.specs.script.Scripts.{Line}
use Rattle.mem_base.specs.script.Spelling.{Text}
use Rattle.mem_base.specs.script.Tasks.{Known, Task, entered, left, accessed, copied}
use Rattle.generation.specs.Published.{Published}
use Rattle.epoch_rule.specs.Values.{PassValue}
use Rattle.desk_orders.specs.declared.orders.Receipt.{Receipt}
use Rattle.desk_orders.specs.Clerks.{wrote_down}
use Rattle.desk_orders.specs.Receipts.{IsReceipt}
use Rattle.pass_lines.specs.declared.answers.LineAnswer.{LineAnswer}
use Rattle.pass_lines.specs.declared.answers.LineAnswer.TheVariants as answers
use Rattle.pass_lines.specs.Doing.{DoesLine, Grew, IsInItsGeneration}
use Rattle.race_block.specs.declared.tasks.PassTask.{PassTask}
use Rattle.race_block.specs.declared.tasks.PassTask.TheVariants.{Refused, Order, Enter, Leave, Read, Write, Copy}
use Rattle.race_block.specs.declared.tasks.BlockLine.{BlockLine}
use Rattle.race_block.specs.declared.tasks.LineGot.{LineGot}
use Rattle.race_block.specs.declared.tasks.LineGot.TheVariants as gots
use Rattle.race_block.specs.declared.tasks.PassLines.{PassLines}
use Rattle.race_block.specs.declared.tasks.PassLines.TheVariants as kinds
use Rattle.race_block.specs.declared.passes.PassActor.{PassActor}
use Rattle.race_block.specs.declared.tasks.OwnLine.{OwnLine}
use Rattle.race_block.specs.Desks.{lines_meant}
use Rattle.race_block.specs.Resolving.{AreFirstTasksIn, AreFirstTasksOf, AreTasksIn, AreTasksOf, IsPassLine, IsTaskOf, copy_room, tasks_in}
use Rattle.race_block.specs.Texts.{KeepsTold, gave_order, plain_text, plain_texts}

-- what is asked of a task: the bounce has room for what it copies
abbrev pub FitsTask : ℕ → PassTask → Type 0
FitsTask room (Copy from addr len to to_addr) = len ≤ room
FitsTask room task = Unit {0}

abbrev pub FitsLine : ℕ → BlockLine → Type 0
FitsLine room line = FitsTask room line.task

-- An order was given: the pass has seen what its receipt's note tells of, made no entry and stays where it was, and the clerk wrote down
-- what was got
pub record HasOrdered (order : DeskOrder) (c : Clerk) (v : PassValue Published) (d : Clerk) (w : PassValue Published) : Type 0 where
  pub receipt : Receipt
  pub is : IsReceipt v.cabinet order receipt
  pub grew : Grew v [] w
  pub seen : IsPrefix receipt.note.seen w.seen
  pub inside : IsInItsGeneration w
  pub clerk : d ≡ wrote_down c order receipt

-- what a line got is this answer
abbrev pub IsAnswer : LineGot → LineAnswer → Type 0
IsAnswer (gots.Answered given) answer = given ≡ answer
IsAnswer (gots.ReadFew access bytes) answer = answers.Read access bytes ≡ answer
IsAnswer _ answer = ⊥

-- the pass did a task, and got its answer
pub record HasGot (task : Task) (v : PassValue Published) (got : LineGot) (w : PassValue Published) : Type 0 where
  pub answer : LineAnswer
  pub is : IsAnswer got answer
  pub does : DoesLine v task answer w

-- the pass did what this task asks for
pub record HasAnswered (task : Task) (c : Clerk) (v : PassValue Published) (got : LineGot) (d : Clerk) (w : PassValue Published) : Type 0 where
  pub answer : LineAnswer
  pub is : IsAnswer got answer
  pub clerk : d ≡ c
  pub does : DoesLine v task answer w

-- a line was done, with what its clerk had written down and its pass was, and what both are after it
abbrev pub HasDone : PassTask → Clerk → PassValue Published → LineGot → Clerk → PassValue Published → Type 0
HasDone (Refused why) c v got d w = (got ≡ gots.Refused) × (d ≡ c) × (w ≡ v)
HasDone (Order order) c v got d w = (got ≡ gots.Ordered) × HasOrdered order c v d w
HasDone Enter c v got d w = HasAnswered entered c v got d w
HasDone Leave c v got d w = HasAnswered left c v got d w
HasDone (Read space addr len) c v got d w = HasAnswered (accessed space addr (reading len)) c v got d w
HasDone (Write space addr bytes) c v got d w = HasAnswered (accessed space addr (writing bytes.now)) c v got d w
HasDone (Copy from addr len to to_addr) c v got d w = HasAnswered (copied from addr len to to_addr) c v got d w

-- the same, where what it got comes after what the lines before it got
pub record HasStepped (line : BlockLine) (c : Clerk) (v : PassValue Published) (before : List LineGot) (d : Clerk) (w : PassValue Published)
    (after : List LineGot) : Type 0 where
  pub got : LineGot
  pub done : HasDone line.task c v got d w
  pub more : after ≡ before ++ got ∷ []

-- lines were done one after another
pub record ThenDone (Rest : Clerk → PassValue Published → List LineGot → Type 0) (line : BlockLine) (c : Clerk) (v : PassValue Published)
    (all : List LineGot) : Type 0 where
  pub got : LineGot
  pub rest : List LineGot
  pub clerk : Clerk
  pub pass : PassValue Published
  pub first : HasDone line.task c v got clerk pass
  pub then : Rest clerk pass rest
  pub is : all ≡ got ∷ rest

abbrev pub HaveRun : List BlockLine → Clerk → PassValue Published → List LineGot → Clerk → PassValue Published → Type 0
HaveRun [] c v all d w = (all ≡ []) × (d ≡ c) × (w ≡ v)
HaveRun (line ∷ lines) c v all d w = ThenDone (λ e x rest. HaveRun lines e x rest d w) line c v all

-- the first `at` of these lines were done
pub record IsUnderway (xs : List BlockLine) (c : Clerk) (v : PassValue Published) (at : ℕ) (d : Clerk) (w : PassValue Published) (all : List LineGot)
    : Type 0 where
  pub ran : HaveRun (take at xs) c v all d w
  pub count : length all ≡ at
  pub inside : IsInItsGeneration w
  pub cabinet : w.cabinet ≡ v.cabinet

-- the lines of a pass may be done: the numbers of their commands fit, or what is asked of their tasks holds
abbrev pub AreFit : PassLines → Type 0
AreFit (kinds.Unresolved lines names) = All IsPassLine lines.items
AreFit (kinds.Resolved tasks) = All (FitsLine copy_room) tasks.items

-- an actor that may begin
pub record IsReady (a : PassActor) : Type 0 where
  pub inside : IsInItsGeneration a.vcpu
  pub room : a.bounce ≡ copy_room
  pub fits : AreFit a.lines
  pub nothing : a.got.items ≡ []

-- these lines were done, all of them, or out of memory the first of them, with a bounce, what a clerk had written down and what a pass was
pub record HasRunLines (xs : List BlockLine) (bounce : ℕ) (c : Clerk) (v : PassValue Published) (b : PassActor) : Type 0 where
  pub lines : tasks_in b.lines ≡ xs
  pub bounce_is : b.bounce ≡ bounce
  pub most : length b.got.items ≤ length xs
  pub ran : HaveRun (take (length b.got.items) xs) c v b.got.items b.clerk b.vcpu
  pub whole : b.out_of_memory ≡ false → length b.got.items ≡ length xs

-- the first lines of a pass were done, and memory ran out then
pub record HasStopped (k : Known) (lines : List OwnLine) (c : Clerk) (v : PassValue Published) (d : Clerk) (w : PassValue Published) : Type 0 where
  pub at : ℕ
  pub tasks : List BlockLine
  pub all : List LineGot
  pub are : AreTasksOf k (lines_meant (take at lines)) tasks
  pub count : length all ≡ length tasks
  pub ran : HaveRun tasks c v all d w

-- the first `at` lines of a pass were done, none of which gave an order, and this is what they wrote
pub record IsTold (k : Known) (lines : List OwnLine) (c : Clerk) (v : PassValue Published) (at : ℕ) (d : Clerk) (w : PassValue Published) (text : Text)
    : Type 0 where
  pub tasks : List BlockLine
  pub all : List LineGot
  pub are : AreTasksOf k (lines_meant (take at lines)) tasks
  pub count : length all ≡ length tasks
  pub ran : HaveRun tasks c v all d w
  pub none : list_any gave_order all ≡ false
  pub told : text ≡ plain_texts (pass_id v.number) tasks all
  pub clerk : d ≡ c
  pub inside : IsInItsGeneration w
  pub cabinet : w.cabinet ≡ v.cabinet
  pub number : w.number ≡ v.number

-- a line of a pass that gives no order was done, and where memory lasted it was told: what it wrote was added to a text
pub record HasDoneLine (k : Known) (line : Line) (c : Clerk) (v : PassValue Published) (before : Text) (lasted : Bool) (d : Clerk) (w : PassValue Published)
    (after : Text) : Type 0 where
  pub own : BlockLine
  pub got : LineGot
  pub task : IsTaskOf k line own
  pub done : HasDone own.task c v got d w
  pub told : lasted ≡ true → after ≡ before ++ plain_text (pass_id v.number) own got

-- so a line was done, or memory ran out before anything was
abbrev pub HasTold : Known → Line → Clerk → PassValue Published → Text → Bool → Clerk → PassValue Published → Text → Type 0
HasTold k line c v before lasted d w after =
    ((lasted ≡ false) × (d ≡ c) × (w ≡ v)) ⊎ HasDoneLine k line c v before lasted d w after

-- Lines were done, with a bounce, what a clerk had written down and what a pass was: all of them, or out of memory the first of them. `Are` says which
-- tasks all have, and `Begin` which the first of them. Where all were done, the pass keeps what they wrote
pub record HasRunTasks (Are Begin : List BlockLine → Type 0) (room : ℕ) (c : Clerk) (v : PassValue Published) (b : PassActor) : Type 0 where
  pub tasks : List BlockLine
  pub all : List LineGot
  pub lines : Are tasks ⊎ ((b.out_of_memory ≡ true) × Begin (take (length all) tasks))
  pub bounce : b.bounce ≡ room
  pub most : length all ≤ length tasks
  pub ran : HaveRun (take (length all) tasks) c v all b.clerk b.vcpu
  pub whole : b.out_of_memory ≡ false → length all ≡ length tasks
  pub text : b.out_of_memory ≡ false → KeepsTold (pass_id v.number) tasks all b.lines b.got.items b.text

-- so tasks were done, all of them or the first
abbrev pub HasDoneTasks : List BlockLine → ℕ → Clerk → PassValue Published → PassActor → Type 0
HasDoneTasks xs room c v b = HasRunTasks (λ ys. ys ≡ xs) (λ ys. ⊥) room c v b

-- so lines were done whose names are resolved or are still to be
abbrev pub HasRunFrom : PassLines → ℕ → Clerk → PassValue Published → PassActor → Type 0
HasRunFrom own room c v b = HasRunTasks (AreTasksIn own) (AreFirstTasksIn own) room c v b

-- and so lines whose names are resolved by these
abbrev pub HasRunBy : Known → List OwnLine → ℕ → Clerk → PassValue Published → PassActor → Type 0
HasRunBy k lines room c v b = HasRunTasks (AreTasksOf k (lines_meant lines)) (AreFirstTasksOf k lines) room c v b

-- the actor did its lines
abbrev pub HasRun : PassActor → PassActor → Type 0
HasRun a b = HasRunFrom a.lines a.bounce a.clerk a.vcpu b
