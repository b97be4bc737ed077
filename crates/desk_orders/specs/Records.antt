-- The record of a desk, and how it grows: by orders, each of which is a turn of the writer.
use Rattle.std.specs.Prelude.{◌≡◌, ℕ, ◌+◌, List, [], ◌++◌, map, flat_map, length, drop}
use mathlib.Core.List.{IsPrefix}
use Rattle.mem_base.specs.declared.machine.records.DeskEntry.{DeskEntry}
use Rattle.mem_base.specs.lists.Every.{Every}
use Rattle.mem_base.specs.map.Limits.{notifier_count}
use Rattle.mem_base.specs.machine.Actors.{own_entries}
use Rattle.mem_base.specs.machine.Reaps.{Writer, first_writer}
use Rattle.mem_base.specs.machine.Records.{Given, FitsDeskOrder, answered, recorded}
use Rattle.mem_base.specs.machine.Turns.{WriterCall, turns, entries_of_turn, last_writer}
use Rattle.epoch_rule.specs.Rule.{KeepsHome}
use Rattle.epoch_rule.specs.Values.{WriterValue}

-- a record: what the writer's seat has seen, the writer's part, and the entries
pub record RecordState : Type 0 where
  pub seat : WriterValue
  pub part : Writer
  pub entries : List DeskEntry

-- the turns of these orders
abbrev pub turns_given : Writer → List Given → List WriterCall
turns_given first given = turns first (map answered given)

abbrev pub AreFitting : List Given → Type 0
AreFitting given = Every (λ g. FitsDeskOrder g.order) given

-- The entries are those of these orders, from the first writer's part on; so are the writer's own entries in what its seat has
-- seen, and the writer's part
pub record IsOfOrders (first : Writer) (given : List Given) (s : RecordState) : Type 0 where
  pub fits : AreFitting given
  pub entries : s.entries ≡ recorded first given
  pub own : own_entries 0 s.seat.seen ≡ flat_map entries_of_turn (turns_given first given)
  pub part : s.part ≡ last_writer first (turns_given first given)

-- what a record keeps
pub record IsRecord (s : RecordState) : Type 0 where
  pub pool_words : ℕ
  pub wide : s.seat.sizes.words ≡ pool_words + notifier_count
  pub given : List Given
  pub orders : IsOfOrders (first_writer pool_words s.seat.sizes.passes) given s

-- More was seen, and these orders were given: the entries are theirs, the writer's own entries grew by those of their turns, and the
-- writer's part is what they left. The same passes are out, and of those that are not out no entries were added
pub record GrewBy (given : List Given) (v w : RecordState) : Type 0 where
  pub cabinet : w.seat.cabinet ≡ v.seat.cabinet
  pub sizes : w.seat.sizes ≡ v.seat.sizes
  pub out : w.seat.out ≡ v.seat.out
  pub home : KeepsHome v.seat.out v.seat.seen w.seat.seen
  pub seen : IsPrefix v.seat.seen w.seat.seen
  pub fits : AreFitting given
  pub entries : w.entries ≡ v.entries ++ recorded v.part given
  pub own : own_entries 0 w.seat.seen ≡ own_entries 0 v.seat.seen ++ flat_map entries_of_turn (turns_given v.part given)
  pub part : w.part ≡ last_writer v.part (turns_given v.part given)

-- the second record is the first one with more orders, if any
pub record IsLater (v w : RecordState) : Type 0 where
  pub given : List Given
  pub grew : GrewBy given v w

-- the entries after those of an earlier record
abbrev pub later_entries : RecordState → RecordState → List DeskEntry
later_entries v w = drop (length v.entries) w.entries

-- a record of no cabinet, where no caller picks one
abbrev pub no_record : RecordState
no_record = record {
  seat = record {
    cabinet = record { words = 0; slots = 0; views_name = 0; atom = 0; block = 0; offset = 0; slot_names = [] };
    sizes = record { passes = 0; words = 0 };
    seen = [];
    out = [];
  };
  part = first_writer 0 0;
  entries = [];
}
