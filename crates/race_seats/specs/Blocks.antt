-- What the run of a block leaves.
use Rattle.std.specs.Prelude.{◌≡◌, ℕ, ◌<◌, List, length, slice_index_or, Option}
use Rattle.mem_base.specs.declared.machine.records.Differs.{Differs}
use Rattle.mem_base.specs.machine.Records.{Clerk, Closes}
use Rattle.epoch_rule.specs.Rule.{IsLegal}
use Rattle.desk_orders.specs.Records.{IsLater, RecordState, later_entries}
use Rattle.race_block.specs.declared.blocks.BlockActor.{BlockActor}
use Rattle.race_block.specs.Joined.{HasJoined}

-- the actors did their lines, or the first of them: what each is then, what its clerk wrote down, and how that stands to the record
pub record HasRunAll (v w : RecordState) (olds news : List BlockActor) (clerks : List Clerk) (differs : Option Differs) : Type 0 where
  pub later : IsLater v w
  pub legal : IsLegal w.seat.sizes w.seat.seen
  pub closes : Closes (later_entries v w) clerks differs
  pub all_news : length news ≡ length olds
  pub all_clerks : length clerks ≡ length olds
  pub joined : (i : ℕ) (d : BlockActor) (c : Clerk) → i < length olds
      → HasJoined w.seat.seen (slice_index_or olds i d) (slice_index_or news i d) (slice_index_or clerks i c)
