-- Names with the numbers of what they stand for.
use Rattle.std.specs.Prelude.{◌≡◌, ℕ, List, [], ◌∷◌, Option, None, Some, if◌then◌else◌}
use Rattle.std.specs.Str.{bytes_eq}
use Rattle.mem_base.specs.declared.map.kinds.Kind.{Kind}
use Rattle.mem_base.specs.script.Spelling.{Text}
use Rattle.mem_base.specs.script.Named as named

-- names of one sort: those that stand for something, each with its number, and by number the names of all that was made
pub record Table : Type 0 where
  pub bound : List (Text × ℕ)
  pub made : List Text

abbrev pub table : List (Text × ℕ) → List Text → Table
table bound made = record { bound = bound; made = made }

-- the number that a name stands for
abbrev pub number_of : List (Text × ℕ) → Text → Option ℕ
number_of [] name = None
number_of (entry ∷ bound) name = if bytes_eq name entry.0 then Some entry.1 else number_of bound name

-- every name stands for what it did, but that this one stands for another number, or for none
abbrev pub Rebinds : List (Text × ℕ) → List (Text × ℕ) → Text → Option ℕ → Type 0
Rebinds old new name number = (other : Text) → number_of new other ≡ (if bytes_eq name other then number else number_of old other)

-- the names of all sorts
pub record AllNames : Type 0 where
  pub regions : Table
  pub kinds : List Kind
  pub spaces : Table
  pub listeners : Table
  pub notifiers : Table

-- the names that lines print
abbrev pub printed_names : AllNames → named.Names
printed_names x = record {
  regions = x.regions.made;
  kinds = x.kinds;
  spaces = x.spaces.made;
  listeners = x.listeners.made;
  notifiers = x.notifiers.made;
}
