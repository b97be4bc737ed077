-- A forest that differs from another one in a few regions.
use Rattle.std.specs.Prelude.{◌≡◌, ◌==◌, ◌&&◌, ◌<◌, ℕ, Bool, true, false, nat_le, nat_lt, List, [], length, Option, Some, None}
use Rattle.std.specs.List.{list_any}
use Rattle.mem_base.specs.declared.map.ids.RegionId.{RegionId}
use Rattle.mem_base.specs.declared.map.forests.Node.{Node}
use Rattle.mem_base.specs.map.Region.{node_of, IsAscending}
use Rattle.mem_base.specs.map.Chunks.{first_id}

-- each region that is not among these is the same in both lists
abbrev pub OthersAre : List Node → List Node → List RegionId → Type 0
OthersAre xs ys rs = (r : RegionId) → list_any (λ q. q.0 == r.0) rs ≡ false → node_of xs r ≡ node_of ys r

-- the number of a region is below a bound, if there is one
abbrev pub is_below : Option RegionId → ℕ → Bool
is_below None n = true
is_below (Some bound) n = nat_lt n bound.0

-- the bound is the id of the first of these regions; there is none where there is no region
abbrev pub IsBound : Option RegionId → List Node → Type 0
IsBound None nodes = nodes ≡ []
IsBound (Some bound) nodes = (0 < length nodes) × (bound.0 ≡ first_id nodes)

-- one of these regions has a number from one on and below a bound
abbrev pub is_touched : ℕ → Option RegionId → List RegionId → Bool
is_touched from bound rs = list_any (λ q. nat_le from q.0 && is_below bound q.0) rs

-- What is left of an old list of regions and of a new one, where the regions below a number are done: each region that is not among the
-- changed ones from that number on is the same in both.
pub record AreLeft (from : ℕ) (old new : List Node) (rs : List RegionId) : Type 0 where
  pub old_ascends : IsAscending old
  pub new_ascends : IsAscending new
  pub same : (r : RegionId) → (nat_le from r.0 && list_any (λ q. q.0 == r.0) rs) ≡ false → node_of old r ≡ node_of new r
