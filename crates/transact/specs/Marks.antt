-- Marks beside the numbers of regions.
-- This project's own: QEMU's core keeps no list of what its views name.
use Rattle.std.specs.Prelude.{◌≡◌, ℕ, ◌<◌, ◌==◌, ◌||◌, Bool, true, List, length, slice_index_or}
use Rattle.std.specs.List.{list_any}
use Rattle.mem_base.specs.declared.map.ids.SpaceId.{SpaceId}
use Rattle.mem_base.specs.declared.views.flat.FlatRange.{FlatRange}

-- whether a number has a mark; one that is past all marks counts as marked
abbrev pub has_mark : List Bool → ℕ → Bool
has_mark marks n = slice_index_or marks n true

-- just the numbers that pass a test are marked, beside those that were
abbrev pub Marks : List Bool → (ℕ → Bool) → List Bool → Type 0
Marks old test new = (n : ℕ) → has_mark new n ≡ (has_mark old n || test n)

-- the region of a number is the leaf of one of these ranges
abbrev pub is_leaf_number : List FlatRange → ℕ → Bool
is_leaf_number ranges n = list_any (λ r. r.leaf.0 == n) ranges

-- each mark tells whether the region of its number is a leaf in one of the views
abbrev pub AreLeafMarks : {X : Type 0} → (X → List FlatRange) → List (SpaceId × X) → List Bool → Type 0
AreLeafMarks view atlases marks = (n : ℕ) → n < length marks → has_mark marks n ≡ list_any (λ p. is_leaf_number (view p.1) n) atlases
