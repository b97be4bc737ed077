-- The cells of one region that are not cleared yet, kept as a flag for each word of it.
use Rattle.std.specs.Prelude.{ℕ, ◌+◌, Bool, true, false, List, [], ◌∷◌, Option, Some, None}
use Rattle.mem_base.specs.declared.map.ids.RegionId.{RegionId}
use Rattle.mem_base.specs.declared.access.cells.Cell.{Cell}
use Rattle.mem_base.specs.declared.access.cells.Place.{Place}
use Rattle.mem_base.specs.access.Cells.{cell}
use Rattle.mem_base.specs.machine.Desk.{cells_of}

-- the cells, and the number of flags for which there is room
pub record Waiting : Type 0 where
  pub cells : List Cell
  pub room : ℕ

abbrev pub waiting : List Cell → ℕ → Waiting
waiting cells room = record { cells = cells; room = room }

-- the words of a region, from one on, whose flags are on
abbrev pub cells_left : RegionId → ℕ → List Bool → List Cell
cells_left region at [] = []
cells_left region at (true ∷ flags) = cell region at ∷ cells_left region (at + 1) flags
cells_left region at (false ∷ flags) = cells_left region (at + 1) flags

-- the cells of a new region, where it has a place
abbrev pub cells_at : Option Place → List Cell
cells_at None = []
cells_at (Some p) = cells_of p
