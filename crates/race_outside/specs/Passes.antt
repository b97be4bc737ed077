-- What a line of a pass does on the running machine: to its virtual CPU, or by an order to the record.
use Rattle.std.specs.Prelude.{◌≡◌, ◌≢◌, ℕ, ◌<◌, ◌≤◌, All, List, [], ◌++◌, Result, Ok, Err, length, slice_index_or}
use Rattle.mem_base.specs.map.PassIds.{PassId}
use Rattle.mem_base.specs.declared.machine.records.DeskOrder.{DeskOrder}
use Rattle.mem_base.specs.views.Listening.{Delivery}
use Rattle.mem_base.specs.script.Spelling.{Text}
use Rattle.mem_base.specs.script.Named.{Names}
use Rattle.mem_base.specs.script.RaceLines.{said_text}
use Rattle.mem_base.specs.script.Tasks.{Task}
use Rattle.generation.specs.Published.{Published}
use Rattle.epoch_rule.specs.Rule.{IsLegal}
use Rattle.epoch_rule.specs.Values.{PassValue}
use Rattle.desk_orders.specs.declared.orders.Receipt.{Receipt}
use Rattle.desk_orders.specs.Records.{GrewBy, RecordState}
use Rattle.desk_lock.specs.Turned.{Takes}
use Rattle.pass_lines.specs.declared.answers.LineAnswer.{LineAnswer}
use Rattle.pass_lines.specs.declared.answers.LineAnswer.TheVariants as answers
use Rattle.pass_lines.specs.Doing.{DoesLine}
use Rattle.race_lines.specs.declared.passes.PassSaid.{PassSaid}
use Rattle.race_lines.specs.declared.passes.PassSaid.TheVariants as saids
use Rattle.race_lines.specs.declared.tasks.LineTask.{LineTask}
use Rattle.race_lines.specs.declared.tasks.LineTask.TheVariants.{Ordered, Entered, Left, Read, Written, Copied}
use Rattle.race_lines.specs.declared.tasks.Refused.{Refused}
use Rattle.race_lines.specs.LineTasks.{task_meant}
use Rattle.race_lines.specs.PassLines.{said_of}
use Rattle.race_levels.specs.Levels.{HasMet, IsHeard}

-- what is asked of a task: the bounce has room for what it copies
abbrev pub FitsTask : ℕ → Result LineTask Refused → Type 0
FitsTask room (Ok (Copied space addr len to_space to_addr)) = len ≤ room
FitsTask room task = Unit {0}

-- what is kept of an answer until it is written
abbrev pub said_by : LineAnswer → PassSaid
said_by (answers.Entered number) = saids.Entered number
said_by answers.Left = saids.Left
said_by (answers.Read access bytes) = saids.Read access bytes
said_by (answers.Wrote access) = saids.Written access
said_by (answers.Copied access) = saids.Copied access

-- nothing was done but to say this
pub record IsIdle (v : RecordState) (a : PassValue Published) (said is : PassSaid) (w : RecordState) (b : PassValue Published) : Type 0 where
  pub said_is : said ≡ is
  pub desk : w ≡ v
  pub cpu : b ≡ a

-- the record took an order of the pass of this number
pub record HasOrdered (p : ℕ) (v : RecordState) (a : PassValue Published) (order : DeskOrder) (said : PassSaid) (w : RecordState) (b : PassValue Published)
    : Type 0 where
  pub receipt : Receipt
  pub takes : Takes v p order receipt w
  pub said_is : said ≡ saids.Answered receipt.answer receipt.from receipt.to
  pub cpu : b ≡ a

-- the virtual CPU did this task
pub record HasActed (v : RecordState) (a : PassValue Published) (task : Task) (said : PassSaid) (w : RecordState) (b : PassValue Published) : Type 0 where
  pub answer : LineAnswer
  pub does : DoesLine a task answer b
  pub said_is : said ≡ said_by answer
  pub desk : w ≡ v

-- what a line of the pass of this number does, by its task; a task of the desk is none of a pass
abbrev pub DoesPassLine : ℕ → RecordState → PassValue Published → Result LineTask Refused → PassSaid → RecordState → PassValue Published → Type 0
DoesPassLine p v a (Ok (Ordered order naming)) said w b = HasOrdered p v a order said w b
DoesPassLine p v a (Ok Entered) said w b = HasActed v a (task_meant Entered) said w b
DoesPassLine p v a (Ok Left) said w b = HasActed v a (task_meant Left) said w b
DoesPassLine p v a (Ok (Read space addr len)) said w b = HasActed v a (task_meant (Read space addr len)) said w b
DoesPassLine p v a (Ok (Written space addr bytes)) said w b = HasActed v a (task_meant (Written space addr bytes)) said w b
DoesPassLine p v a (Ok (Copied space addr len to_space to_addr)) said w b = HasActed v a (task_meant (Copied space addr len to_space to_addr)) said w b
DoesPassLine p v a (Ok task) said w b = IsIdle v a said saids.Nothing w b
DoesPassLine p v a (Err why) said w b = IsIdle v a said (saids.Refused why) w b

-- the virtual CPU at a place was a, and is b; the others are as they were
pub record Changed (p : ℕ) (a b : PassValue Published) (olds news : List (PassValue Published)) : Type 0 where
  pub was : (d : PassValue Published) → slice_index_or olds p d ≡ a
  pub is : (d : PassValue Published) → slice_index_or news p d ≡ b
  pub others : (i : ℕ) (d : PassValue Published) → i ≢ p → slice_index_or news i d ≡ slice_index_or olds i d
  pub count : length news ≡ length olds

-- the line was done on the virtual CPU at its place
pub record HasDoneLine (p : ℕ) (v : RecordState) (olds : List (PassValue Published)) (task : Result LineTask Refused) (said : PassSaid) (w : RecordState)
    (news : List (PassValue Published)) : Type 0 where
  pub a : PassValue Published
  pub b : PassValue Published
  pub does : DoesPassLine p v a task said w b
  pub changed : Changed p a b olds news

-- nothing was done
pub record HasDoneNothing (p : ℕ) (v : RecordState) (olds : List (PassValue Published)) (w : RecordState) (news : List (PassValue Published)) : Type 0 where
  pub a : PassValue Published
  pub desk : w ≡ v
  pub changed : Changed p a a olds news

-- The rest of a line: all are level again, and what the line writes is added to a text

-- the record heard all virtual CPUs, and they met it
pub record HasSettled (v : RecordState) (olds : List (PassValue Published)) (w : RecordState) (news : List (PassValue Published)) : Type 0 where
  pub grew : GrewBy [] v w
  pub legal : IsLegal w.seat.sizes w.seat.seen
  pub heard : All (IsHeard w.seat.seen) olds
  pub count : length news ≡ length olds
  pub met : (i : ℕ) (d : PassValue Published) → i < length olds → HasMet w.seat.seen (slice_index_or olds i d) (slice_index_or news i d)

-- what is kept of a line was written after what stood there
abbrev pub IsWritten : {E : Type 0} → Names → List Delivery → PassId → ℕ → Text → Text → Result PassSaid E → Type 0
IsWritten names journal pass line before after (Ok said) = after ≡ before ++ said_text names journal (said_of names pass line said)
IsWritten names journal pass line before after (Err e) = ⊥
