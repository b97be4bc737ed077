-- The leaves of ranges, as numbers, so that one is found by one look.
use Rattle.std.specs.Prelude.{◌≡◌, ℕ, ◌==◌, Bool, List, map, slice_index_or}
use Rattle.std.specs.List.{list_any}
use Rattle.mem_base.specs.declared.views.flat.FlatRange.{FlatRange}

-- the number is among these
abbrev pub has_number : ℕ → List ℕ → Bool
has_number n ns = list_any (λ m. m == n) ns

-- the leaf of each range, by its number
abbrev pub leaf_numbers : List FlatRange → List ℕ
leaf_numbers rs = map (λ r. r.leaf.0) rs

-- the number is noted: by its mark, or where it is past all marks, among the others
abbrev pub is_noted : List Bool → List ℕ → ℕ → Bool
is_noted marks others n = slice_index_or marks n (has_number n others)

-- by marks and others, the numbers of the ranges' leaves are noted, and no others
abbrev pub AreLeavesOf : List FlatRange → (List Bool × List ℕ) → Type 0
AreLeavesOf rs leaves = (n : ℕ) → is_noted leaves.0 leaves.1 n ≡ has_number n (leaf_numbers rs)
