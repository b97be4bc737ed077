-- The rows of a picture.
use Rattle.std.specs.Prelude.{◌≡◌, ℕ, ◌+◌, ◌-◌, ◌≤◌, nat_lt, if◌then◌else◌, List, [], ◌∷◌}
use Rattle.mem_base.specs.declared.views.flat.FlatRange.{FlatRange}
use Rattle.view_picture.specs.declared.rows.Row.{Row}
use Rattle.view_picture.specs.declared.rows.Row.TheVariants.{Range, Hole}

-- where a row begins and ends
abbrev pub start_of : Row → ℕ
start_of (Range r) = r.start
start_of (Hole start last) = start

abbrev pub last_of : Row → ℕ
last_of (Range r) = r.last
last_of (Hole start last) = last

-- rows that go from one address to before another, each from where the one before it has ended
abbrev pub Tiles : ℕ → ℕ → List Row → Type 0
Tiles from end [] = from ≡ end
Tiles from end (row ∷ rows) = (start_of row ≡ from) × (from ≤ last_of row) × Tiles (last_of row + 1) end rows

-- the ranges among some rows
abbrev pub ranges_of : List Row → List FlatRange
ranges_of [] = []
ranges_of (Range r ∷ rows) = r ∷ ranges_of rows
ranges_of (Hole start last ∷ rows) = ranges_of rows

-- a range, and before it the hole from an address on, if there is one
abbrev pub with_hole : ℕ → FlatRange → List Row
with_hole next r = if nat_lt next r.start then Hole next (r.start - 1) ∷ Range r ∷ [] else Range r ∷ []
