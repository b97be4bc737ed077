-- Levels of keys: each level has every sixteenth key of the level below it, and the top one at most sixteen. A node
-- is sixteen neighbours of a level.
use Rattle.std.specs.Prelude.{◌≡◌, ℕ, ◌+◌, ◌-◌, ◌*◌, ◌/◌, ◌^◌, ◌<◌, ◌≤◌, List, [], length, slice_index, slice_index_or}

-- each key is below all later ones
abbrev pub Ascends : List ℕ → Type 0
Ascends keys = (i j : ℕ) → i < j → j < length keys → slice_index keys i < slice_index keys j

-- the key at this index is the last that is at most `a`
pub record IsPlace (keys : List ℕ) (a p : ℕ) : Type 0 where
  pub inside : p < length keys
  pub reached : slice_index keys p ≤ a
  pub after : (j : ℕ) → p < j → j < length keys → a < slice_index keys j

-- the node of this number holds the last key that is at most `a`
pub record IsNode (keys : List ℕ) (a q : ℕ) : Type 0 where
  pub inside : 16 * q < length keys
  pub reached : slice_index keys (16 * q) ≤ a
  pub after : 16 * q + 16 < length keys → a < slice_index keys (16 * q + 16)

-- every sixteenth key
pub record IsThin (below above : List ℕ) : Type 0 where
  pub length_is : length above ≡ (length below + 15) / 16
  pub keys : (i : ℕ) → i < length above → slice_index above i ≡ slice_index below (16 * i)

-- the levels, the lowest first
pub record AreLevels (levels : List (List ℕ)) : Type 0 where
  pub some : 0 < length levels
  pub ascend : (j : ℕ) → j < length levels → Ascends (slice_index_or levels j [])
  pub begin : (j : ℕ) → j < length levels → (0 < length (slice_index_or levels j []))
      × (slice_index (slice_index_or levels j []) 0 ≡ slice_index (slice_index_or levels 0 []) 0)
  pub thin : (j : ℕ) → j + 1 < length levels → IsThin (slice_index_or levels j []) (slice_index_or levels (j + 1) [])

-- the top level is one node
abbrev pub HasTop : List (List ℕ) → Type 0
HasTop levels = length (slice_index_or levels (length levels - 1) []) ≤ 16

-- there are no more levels than `keys` keys take: at most k where the keys are at most 16 ^ k
abbrev pub AreFew : ℕ → ℕ → Type 0
AreFew count keys = (k : ℕ) → 0 < k → keys ≤ 16 ^ k → count ≤ k

-- all levels over these keys
pub record IsBuilt (keys : List ℕ) (all : List (List ℕ)) : Type 0 where
  pub levels : AreLevels all
  pub top : HasTop all
  pub lowest : slice_index_or all 0 [] ≡ keys
  pub few : AreFew (length all) (length keys)
