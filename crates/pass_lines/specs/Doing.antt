-- What a line of a pass does to the pass's own entries in the shared history, and what it answers.
use Rattle.std.specs.Prelude.{◌≡◌, ℕ, ◌+◌, Bool, is_some, if◌then◌else◌, unwrap_or, option_map, List, [], ◌++◌}
use mathlib.Core.List.{IsPrefix}
use Rattle.mem_base.specs.map.PassIds.{PassId}
use Rattle.mem_base.specs.declared.map.ids.SpaceId.{SpaceId}
use Rattle.mem_base.specs.declared.map.forests.Forest.{Forest}
use Rattle.mem_base.specs.declared.access.accesses.Access.{Access}
use Rattle.mem_base.specs.declared.access.accesses.TxResult.{TxResult}
use Rattle.mem_base.specs.declared.machine.events.HistoryEntry.{HistoryEntry}
use Rattle.mem_base.specs.access.AccessSteps.{Transfer, reading, writing, bytes_read, either, result_of}
use Rattle.mem_base.specs.access.Access.{access}
use Rattle.mem_base.specs.machine.Passes.{PassState, pass_id}
use Rattle.mem_base.specs.machine.Generations.{Generation}
use Rattle.mem_base.specs.machine.Actors.{generations_published, own_entries, pass_after_all}
use Rattle.mem_base.specs.machine.Composites.{enters_anew, leaves}
use Rattle.mem_base.specs.machine.Turns.{replies_of}
use Rattle.mem_base.specs.script.Race.{pass_state}
use Rattle.mem_base.specs.script.Tasks.{Task, entered, left, accessed, copied}
use Rattle.generation.specs.Published.{Published}
use Rattle.epoch_rule.specs.Values.{PassValue}
use Rattle.race_laws.specs.Acting.{AreAccess, AreCopy, AreEntries, bytes_of_read, generation_in}
use Rattle.pass_lines.specs.declared.answers.LineAnswer.{LineAnswer}
use Rattle.pass_lines.specs.declared.answers.LineAnswer.TheVariants as answers

-- the pass is the same, has seen what it had seen and maybe more, and its own entries grew by these
pub record Grew (v : PassValue Published) (new : List HistoryEntry) (w : PassValue Published) : Type 0 where
  pub cabinet : w.cabinet ≡ v.cabinet
  pub number : w.number ≡ v.number
  pub sizes : w.sizes ≡ v.sizes
  pub begins : IsPrefix v.seen w.seen
  pub own : own_entries (v.number + 1) w.seen ≡ own_entries (v.number + 1) v.seen ++ new

-- the state of a pass, by its own entries in what it has seen
abbrev pub state_seen : PassValue Published → PassState
state_seen v = pass_state (pass_id v.number) v.seen

-- by its own entries it is entered in the generation of its edition, or in none where it has no edition
abbrev pub IsInItsGeneration : PassValue Published → Type 0
IsInItsGeneration v = (state_seen v).entered ≡ option_map (λ g. g.number) v.edition

-- the number of the generation in which a pass is, and the forest of that
abbrev pub number_in : PassState → ℕ
number_in p = unwrap_or p.entered 0

abbrev pub forest_in : List Generation → PassState → Forest
forest_in gs p = (generation_in gs p).forest

abbrev pub access_answer : TxResult → ℕ → Access
access_answer result number = record { result = result; number = number }

-- the entries of an access, how it ended, and what it read: `gs` were published, and the pass was in state p
pub record DoesAccess (gs : List Generation) (pass : PassId) (s : SpaceId) (a : ℕ) (transfer : Transfer) (p : PassState) (ys : List HistoryEntry)
    (answer : Access) (bytes : List ℕ) : Type 0 where
  pub was : Bool
  pub one : List HistoryEntry
  pub two : List HistoryEntry
  pub three : List HistoryEntry
  pub parts : ys ≡ (one ++ two) ++ three
  pub are : AreAccess was gs pass s a transfer p one two three
  pub ended : answer ≡ access_answer (result_of (access (forest_in gs (pass_after_all p one)) s a transfer)) (number_in (pass_after_all p one))
  pub read : bytes ≡ bytes_read (access (forest_in gs (pass_after_all p one)) s a transfer) (replies_of two)

-- how a copy ended: its read from a state of the pass on, with these entries, and then its write
abbrev pub copy_result : List Generation → SpaceId → ℕ → ℕ → SpaceId → ℕ → PassState → List HistoryEntry → TxResult
copy_result gs from a n to c p ys =
    either (result_of (access (forest_in gs p) from a (reading n)))
    (result_of (access (forest_in gs (pass_after_all p ys)) to c (writing (bytes_of_read (generation_in gs p) from a n ys))))

-- the entries of a copy, and how it ended
pub record DoesCopy (gs : List Generation) (pass : PassId) (from : SpaceId) (a n : ℕ) (to : SpaceId) (c : ℕ) (p : PassState) (ys : List HistoryEntry)
    (answer : Access) : Type 0 where
  pub was : Bool
  pub one : List HistoryEntry
  pub two : List HistoryEntry
  pub three : List HistoryEntry
  pub four : List HistoryEntry
  pub parts : ys ≡ ((one ++ two) ++ three) ++ four
  pub are : AreCopy was gs pass from a n to c p one two three four
  pub ended : answer ≡ access_answer (copy_result gs from a n to c (pass_after_all p one) two) (number_in (pass_after_all p one))

-- a copy by a pass: whatever is published later, its own entries grew by just those of the copy
pub record HasCopied (v : PassValue Published) (from to : SpaceId × ℕ) (n : ℕ) (answer : Access) (w : PassValue Published) : Type 0 where
  pub entries : List HistoryEntry
  pub grew : Grew v entries w
  pub does : (later : List Generation) → DoesCopy (generations_published w.seen ++ later) (pass_id v.number) from.0 from.1 n to.0 to.1
      (state_seen v) entries answer
  pub inside : IsInItsGeneration w

-- the entries of entering anew and of leaving, and their answers
pub record DoesEnter (pass : PassId) (p : PassState) (ys : List HistoryEntry) (answer : LineAnswer) : Type 0 where
  pub are : AreEntries [] (enters_anew (is_some p.entered) pass) ys
  pub told : answer ≡ answers.Entered (number_in (pass_after_all p ys))

pub record DoesLeave (pass : PassId) (p : PassState) (ys : List HistoryEntry) (answer : LineAnswer) : Type 0 where
  pub are : AreEntries [] (if is_some p.entered then leaves pass else []) ys
  pub told : answer ≡ answers.Left

-- the entries of a line, by its task, and its answer; a task of the desk is none of a pass
abbrev pub DoesTask : List Generation → PassId → PassState → List HistoryEntry → Task → LineAnswer → Type 0
DoesTask gs pass p ys entered answer = DoesEnter pass p ys answer
DoesTask gs pass p ys left answer = DoesLeave pass p ys answer
DoesTask gs pass p ys (accessed space addr (reading len)) answer =
    (x : Access) × (bytes : List ℕ) × (answer ≡ answers.Read x bytes) × DoesAccess gs pass space addr (reading len) p ys x bytes
DoesTask gs pass p ys (accessed space addr (writing bytes)) answer =
    (x : Access) × (answer ≡ answers.Wrote x) × DoesAccess gs pass space addr (writing bytes) p ys x []
DoesTask gs pass p ys (copied from addr len to to_addr) answer =
    (x : Access) × (answer ≡ answers.Copied x) × DoesCopy gs pass from addr len to to_addr p ys x
DoesTask gs pass p ys task answer = ⊥

-- a line of a pass was done: whatever is published later, the pass's own entries grew by just those of the line, and the answer is the line's
pub record DoesLine (v : PassValue Published) (task : Task) (answer : LineAnswer) (w : PassValue Published) : Type 0 where
  pub entries : List HistoryEntry
  pub grew : Grew v entries w
  pub does : (later : List Generation) → DoesTask (generations_published w.seen ++ later) (pass_id v.number) (state_seen v) entries task answer
  pub inside : IsInItsGeneration w
