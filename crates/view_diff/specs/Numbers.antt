-- Numbers for the leaves of the views of two scripts: the same number where the name and the kind are the same.
use Rattle.std.specs.Prelude.{◌≡◌, ℕ, ◌<◌, List, [], ◌∷◌, ◌++◌, Some, codes, length}
use Rattle.mem_base.specs.declared.map.ids.RegionId.{RegionId}
use Rattle.mem_base.specs.declared.views.flat.FlatRange.{FlatRange}
use Rattle.mem_base.specs.script.Spelling.{Text}
use Rattle.mem_base.specs.script.Named.{Names, kind_named, name_at, region_name}
use Rattle.mem_base.specs.script.SpotLines.{kind_text}
use Rattle.script_names.specs.Tables.{Table, number_of}

-- the name of a leaf, and the word of its kind
abbrev pub label_of : Names → RegionId → Text
label_of names leaf = region_name names leaf ++ (codes " " ++ kind_text (kind_named names leaf))

-- a number is that of one label
abbrev pub Numbers : Table → Type 0
Numbers t = (label : Text) (i : ℕ) → number_of t.bound label ≡ Some i → (i < length t.made) × (name_at t.made i ≡ label)

-- a label that has a number keeps it
abbrev pub Grows : List (Text × ℕ) → List (Text × ℕ) → Type 0
Grows old new = (label : Text) (i : ℕ) → number_of old label ≡ Some i → number_of new label ≡ Some i

-- the second range is the first one, with the number of its leaf's label
pub record Stands (bound : List (Text × ℕ)) (names : Names) (r q : FlatRange) : Type 0 where
  pub number : number_of bound (label_of names r.leaf) ≡ Some q.leaf.0
  pub same : q ≡ record r { leaf = q.leaf }

-- the second ranges are the first ones, with the numbers of their leaves' labels
abbrev pub Renumbered : List (Text × ℕ) → Names → List FlatRange → List FlatRange → Type 0
Renumbered bound names [] [] = Unit {0}
Renumbered bound names (r ∷ rs) (q ∷ qs) = Stands bound names r q × Renumbered bound names rs qs
Renumbered bound names [] (q ∷ qs) = ⊥
Renumbered bound names (r ∷ rs) [] = ⊥
