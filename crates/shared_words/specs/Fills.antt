-- What clears a place.
use Rattle.std.specs.Prelude.{ℕ, zero, suc, List, [], ◌∷◌, ◌++◌}
use Rattle.mem_base.specs.declared.access.cells.Place.{Place}
use Rattle.mem_base.specs.declared.machine.events.Event.TheVariants.{Fill}
use Rattle.mem_base.specs.declared.machine.events.Carried.TheVariants.{At}
use Rattle.mem_base.specs.declared.machine.events.HistoryEntry.{HistoryEntry}
use Rattle.mem_base.specs.access.Cells.{cell}
use Rattle.mem_base.specs.machine.Turns.{history_entry}

-- one Fill of each of the first `n` words of a place, by ascending word
abbrev pub fills_of : Place → ℕ → List HistoryEntry
fills_of p zero = []
fills_of p (suc n) = fills_of p n ++ history_entry (Fill (cell p.region n)) (At p) 0 ∷ []
