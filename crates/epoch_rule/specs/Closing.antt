-- The one history of a cabinet: what each seat has seen of it, and what there is of it at the end.
use Rattle.std.specs.Prelude.{◌≡◌, ℕ, false, List, slice_index_or, Option, Some}
use Rattle.std.specs.declared.sync.Arc.{Arc}
use Rattle.std.proofs.Common.{Global}
use mathlib.Core.Option.{some}
use mathlib.Core.List.{IsPrefix}
use lib.ListN.{get_elem?}
use Rattle.atomic_table.specs.Table.{State}
use Rattle.mem_base.specs.declared.map.forests.Forest.{Forest}
use Rattle.mem_base.specs.declared.access.cells.Place.{Place}
use Rattle.mem_base.specs.declared.machine.events.HistoryEntry.{HistoryEntry}
use Rattle.epoch_rule.specs.declared.views.Sizes.{Sizes}
use Rattle.epoch_rule.specs.declared.views.View.{View}
use Rattle.epoch_rule.specs.Rule.{IsLegal, IsRuled}
use Rattle.epoch_rule.specs.Copies.{IsCopy}
use Rattle.epoch_rule.specs.Values.{WriterValue}

-- the table of a cabinet, with its slots for copies of editions and with what each of its seats knows
abbrev pub TableState : Type 0 → Type 0
TableState E = State (Option (Arc E Global)) View

-- the table is as the cabinet's rule says
abbrev pub IsRuledTable : {E : Type 0} → (E → ℕ) → (E → Forest) → (E → List Place) → Sizes → TableState E → Type 0
IsRuledTable {E} number forest places z s = IsRuled (IsCopy {E = E} {Z = Global} number forest places) z s

-- The history is legal, what each seat of the table has seen is a first part of it, and the writer's seat has seen all of it
-- where no pass is out
pub record IsOneHistory {E : Type 0} (z : Sizes) (s : TableState E) (log : List HistoryEntry) : Type 0 where
  pub lawful : IsLegal z log
  pub begins : (seat : ℕ) (v : View) → get_elem? s.views seat ≡ some v → IsPrefix v.seen log
  pub whole : (seat : ℕ) (v : View) → get_elem? s.views seat ≡ some v → v.role ≡ Some 0 → ((p : ℕ) → slice_index_or v.out p false ≡ false) → v.seen ≡ log

-- so it is of every table that is as the rule says: there is one such history
abbrev pub SeatsBeginOneHistory : {E : Type 0} → (E → ℕ) → (E → Forest) → (E → List Place) → Type 0
SeatsBeginOneHistory {E} number forest places =
    (z : Sizes) (s : TableState E) → IsRuledTable number forest places z s → (log : List HistoryEntry) × IsOneHistory z s log

-- This is the whole history of the cabinet: the one that the rule says there is, of the table at its end. It is what the writer's
-- seat, one of that table's, has seen
pub record IsWholeHistory {E : Type 0} (number : E → ℕ) (forest : E → Forest) (places : E → List Place) (z : Sizes) (xs : List HistoryEntry) : Type 0 where
  pub table : TableState E
  pub ruled : IsRuledTable number forest places z table
  pub seat : ℕ
  pub view : View
  pub here : get_elem? table.views seat ≡ some view
  pub role : view.role ≡ Some 0
  pub seen : xs ≡ view.seen
  pub whole : xs ≡ ruled.log

-- Between any two steps of any threads the cabinet's table is as its rule says. In each such table in which the writer's seat has seen this and
-- has these passes out, it has seen all of the history, if none is out
abbrev pub SeesWhole : {E : Type 0} → (E → ℕ) → (E → Forest) → (E → List Place) → WriterValue → Type 0
SeesWhole {E} number forest places w = ((p : ℕ) → slice_index_or w.out p false ≡ false) → (s : TableState E)
    (k : IsRuledTable number forest places w.sizes s) (seat : ℕ) (v : View) → get_elem? s.views seat ≡ some v → v.role ≡ Some 0 → v.seen ≡ w.seen
    → v.out ≡ w.out → w.seen ≡ k.log
