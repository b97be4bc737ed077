-- What came to pass while the desk or one pass did something, once all are on one level again.
use Rattle.std.specs.Prelude.{◌≡◌, ◌≢◌, ℕ, ◌+◌, ◌<◌, List, [], ◌++◌, flat_map, slice_index_or}
use Rattle.mem_base.specs.declared.machine.events.HistoryEntry.{HistoryEntry}
use Rattle.mem_base.specs.map.Limits.{most_passes, notifier_count}
use Rattle.mem_base.specs.machine.Actors.{own_entries}
use Rattle.mem_base.specs.machine.Records.{Given}
use Rattle.mem_base.specs.machine.SharedHistory.{IsSharedLegal}
use Rattle.mem_base.specs.machine.Turns.{entries_of_turn}
use Rattle.generation.specs.Published.{Published}
use Rattle.epoch_rule.specs.Values.{PassValue}
use Rattle.desk_orders.specs.Records.{GrewBy, RecordState, turns_given}
use Rattle.race_levels.specs.Levels.{HasMet}

-- the pass at a place of a list
abbrev pub pass_at : List (PassValue Published) → ℕ → PassValue Published → PassValue Published
pass_at passes v d = slice_index_or passes v d

-- each of the sixteen passes stands at its number, and has seen just this history
abbrev pub AreLevel : List HistoryEntry → List (PassValue Published) → Type 0
AreLevel seen passes = (v : ℕ) (d : PassValue Published) → v < most_passes → ((pass_at passes v d).number ≡ v) × ((pass_at passes v d).seen ≡ seen)

-- each has met this history
abbrev pub HaveMet : List HistoryEntry → List (PassValue Published) → List (PassValue Published) → Type 0
HaveMet seen olds news = (v : ℕ) (d : PassValue Published) → v < most_passes → HasMet seen (pass_at olds v d) (pass_at news v d)

-- a record's history grew by just the turns of the orders that were given, where all passes were level before, and met it after
abbrev pub DeskSettles : Type 0
DeskSettles = (pool : ℕ) (r w : RecordState) (given : List Given) (olds news : List (PassValue Published)) (d : PassValue Published)
    → IsSharedLegal (pool + notifier_count) most_passes w.seat.seen → GrewBy given r w → AreLevel r.seat.seen olds → HaveMet w.seat.seen olds news
    → (w.seat.seen ≡ r.seat.seen ++ flat_map entries_of_turn (turns_given r.part given)) × AreLevel w.seat.seen news

-- one of the passes made these entries, and the others did nothing
pub record OnePassMade (p : ℕ) (seen new : List HistoryEntry) (olds between : List (PassValue Published)) : Type 0 where
  pub near : p < most_passes
  pub made : (d : PassValue Published) → own_entries (p + 1) (pass_at between p d).seen ≡ own_entries (p + 1) seen ++ new
  pub number : (d : PassValue Published) → (pass_at between p d).number ≡ p
  pub others : (v : ℕ) (d : PassValue Published) → v < most_passes → v ≢ p → pass_at between v d ≡ pass_at olds v d

-- the same, where one pass made its entries, and no order was given
abbrev pub PassSettles : Type 0
PassSettles = (pool p : ℕ) (r w : RecordState) (new : List HistoryEntry) (olds between news : List (PassValue Published)) (d : PassValue Published)
    → IsSharedLegal (pool + notifier_count) most_passes w.seat.seen → GrewBy [] r w → AreLevel r.seat.seen olds
    → OnePassMade p r.seat.seen new olds between → HaveMet w.seat.seen between news
    → (w.seat.seen ≡ r.seat.seen ++ new) × AreLevel w.seat.seen news
