-- An atlas: ranges, with levels over their starts.
use Rattle.std.specs.Prelude.{ℕ, Bool, ◌+◌, ◌-◌, ◌*◌, ◌^◌, ◌<◌, ◌≤◌, false, nat_lt, nat_le, slice_index, slice_index_or, if◌then◌else◌, List, [], ◌∷◌, map, length}
use Rattle.mem_base.specs.declared.views.flat.FlatRange.{FlatRange}
use Rattle.flat_lookup.specs.Levels.{IsBuilt}
use Rattle.flat_lookup.specs.Leaves.{AreLeavesOf}

-- the last address of the range that holds an address, or else of the hole that does
abbrev pub run_end : List FlatRange → ℕ → ℕ
run_end [] a = 2 ^ 64 - 1
run_end (r ∷ rs) a = if nat_lt a r.start then r.start - 1 else if nat_le a r.last then r.last else run_end rs a

abbrev pub starts_of : List FlatRange → List ℕ
starts_of rs = map (λ r. r.start) rs

-- what stands in for a range that is not there
abbrev pub no_range : FlatRange
no_range = record {
  start = 0;
  last = 0;
  leaf = record { 0 = 0 };
  offset = 0;
  attrs =
      record { readonly = false; nonvolatile = false; romd = false; unmergeable = false; log = 0 };
}

-- the end of the run at a place
abbrev pub end_at : List FlatRange → ℕ → ℕ → FlatRange → ℕ
end_at rs a p d = if nat_le a (slice_index_or rs p d).last then (slice_index_or rs p d).last else if nat_lt (p + 1) (length rs) then slice_index
    (starts_of rs) (p + 1) - 1 else 2 ^ 64 - 1

-- where there are ranges, the levels are over their starts
pub record HasLevels (rs : List FlatRange) (levels : List (List ℕ)) : Type 0 where
  pub built : 0 < length rs → IsBuilt (starts_of rs) levels

-- an atlas: its levels are over the starts of its ranges, and its leaves are theirs
pub record IsAtlas (rs : List FlatRange) (levels : List (List ℕ)) (leaves : List Bool × List ℕ) : Type 0 where
  pub levels_over : HasLevels rs levels
  pub leaves_of : AreLeavesOf rs leaves

-- a count of probes of a look-up among `ranges` ranges: at most k where 16 ^ k is at least 2 * ranges + 1
abbrev pub AreProbes : ℕ → ℕ → Type 0
AreProbes probes ranges = (k : ℕ) → 2 * ranges + 1 ≤ 16 ^ k → probes ≤ k
