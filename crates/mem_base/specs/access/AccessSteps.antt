-- What an access does, as one list in order. Its events, its result and the bytes that it reads are all read off
-- this list. The list and the result do not depend on what the events reply; only the bytes read do.
use Rattle.std.specs.Prelude.{ℕ, ◌||◌, Bool, true, false, nat_lt, List, [], ◌∷◌, ◌++◌, take, drop, length, replicate, filter_map, Option, Some, None}
use Rattle.std.specs.List.{list_any}
use Rattle.mem_base.specs.declared.map.ids.RegionId.{RegionId}
use Rattle.mem_base.specs.map.PassIds.{PassId}
use Rattle.mem_base.specs.declared.map.kinds.Client.{Client}
use Rattle.mem_base.specs.declared.access.cells.Cell.{Cell}
use Rattle.mem_base.specs.declared.access.cells.WordStep.{WordStep}
use Rattle.mem_base.specs.declared.access.cells.WordStep.TheVariants.{Replace}
use Rattle.mem_base.specs.declared.access.accesses.TxResult.{TxResult}
use Rattle.mem_base.specs.declared.machine.events.Event.{Event}
use Rattle.mem_base.specs.declared.machine.events.Event.TheVariants as events
use Rattle.mem_base.specs.declared.machine.events.Hand.TheVariants as hands
use Rattle.mem_base.specs.map.Limits.{word_size}
use Rattle.mem_base.specs.access.Words.{bytes_from, bytes_of}

-- what an access is to do: to read a number of bytes, or to write these
pub data Transfer : Type 0 where
  reading : ℕ → Transfer
  writing : List ℕ → Transfer

-- it is to write
abbrev pub is_write : Transfer → Bool
is_write (reading n) = false
is_write (writing bs) = true

-- how many bytes it is about
abbrev pub length_of : Transfer → ℕ
length_of (reading n) = n
length_of (writing bs) = length bs

-- the bytes that a transfer reads
abbrev pub read_length : Transfer → ℕ
read_length (reading n) = n
read_length (writing bs) = 0

-- the part of a transfer after the first `skip` bytes, of `n` bytes
abbrev pub part : ℕ → ℕ → Transfer → Transfer
part skip n (reading all) = reading n
part skip n (writing bs) = writing (take n (drop skip bs))

-- what a read takes of a word: `size` bytes from byte `first` on are one number, and its first `count` bytes, in the
-- order of addresses, are read
pub record ShownPart : Type 0 where
  pub first : ℕ
  pub size : ℕ
  pub big : Bool
  pub count : ℕ

-- such a part, by its four numbers
abbrev pub shown_part : ℕ → ℕ → Bool → ℕ → ShownPart
shown_part first size big count = record { first = first; size = size; big = big; count = count }

-- a write reads nothing
abbrev pub nothing_shown : ShownPart
nothing_shown = shown_part 0 0 false 0

-- the bytes that are read, by the word that the step replied
abbrev pub shown_bytes : ShownPart → ℕ → List ℕ
shown_bytes x word = take x.count (bytes_of (bytes_from word x.first x.size) x.size x.big)

-- one thing that an access does
pub data AccessStep : Type 0 where
  blank : ℕ → TxResult → AccessStep  -- a number of bytes that read as 0, with this result
  steps : Cell → WordStep → ShownPart → AccessStep  -- an atomic step, and what is read of its reply
  marks : RegionId → Client → ℕ → AccessStep  -- a page is marked for a client

-- a result, by whether there was an error and whether there was a decode error
abbrev pub tx : Bool → Bool → TxResult
tx error decode = record { error = error; decode = decode }

-- nothing answers: a read gives 0, a write changes nothing, with decode error
abbrev pub unanswered : Transfer → List AccessStep
unanswered transfer = blank (read_length transfer) (tx false true) ∷ []

-- the events of what is done, by a pass
abbrev pub event_of : PassId → AccessStep → Option Event
event_of pass (blank n result) = None
event_of pass (steps cell step x) = Some (events.Word (hands.Pass pass) cell step)
event_of pass (marks region client page) = Some (events.Mark pass region client page)

-- the events of all that is done, in order
abbrev pub events_of_steps : PassId → List AccessStep → List Event
events_of_steps pass ds = filter_map (event_of pass) ds

-- the result: an error or a decode error anywhere is one of the whole access
abbrev pub result_at : AccessStep → TxResult
result_at (blank n result) = result
result_at (steps cell step x) = tx false false
result_at (marks region client page) = tx false false

-- the result of two parts together
abbrev pub either : TxResult → TxResult → TxResult
either x y = tx (x.error || y.error) (x.decode || y.decode)

-- the result of all parts; of none it is neither an error nor a decode error
abbrev pub result_of : List AccessStep → TxResult
result_of [] = tx false false
result_of (d ∷ ds) = either (result_at d) (result_of ds)

-- the bytes that are read, by the replies to the events, one for each
abbrev pub bytes_read : List AccessStep → List ℕ → List ℕ
bytes_read [] replies = []
bytes_read (blank n result ∷ ds) replies = replicate n 0 ++ bytes_read ds replies
bytes_read (steps cell step x ∷ ds) [] = []
bytes_read (steps cell step x ∷ ds) (old ∷ replies) = shown_bytes x old ++ bytes_read ds replies
bytes_read (marks region client page ∷ ds) replies = bytes_read ds (drop 1 replies)

-- a step that replaces a part of a word, so that one store of the whole word does not do
abbrev pub is_partial : AccessStep → Bool
is_partial (steps cell (Replace first bytes value) x) = nat_lt bytes word_size
is_partial _ = false

-- one of the steps is about a part of a word
abbrev pub has_partial : List AccessStep → Bool
has_partial ds = list_any is_partial ds
