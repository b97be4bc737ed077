-- Regions of a forest in chunks.
use Rattle.std.specs.Prelude.{◌≡◌, ◌<◌, ◌≤◌, ℕ, Bool, List, [], ◌∷◌, length, nat_lt}
use Rattle.std.specs.List.{list_any}
use Rattle.mem_base.specs.declared.map.ids.RegionId.{RegionId}
use Rattle.mem_base.specs.declared.map.forests.Node.{Node}
use Rattle.mem_base.specs.map.Kinds.{is_iommu}

-- the id of the first of these regions; 0 where there is none
abbrev pub first_id : List Node → ℕ
first_id [] = 0
first_id (n ∷ ns) = n.id.0

-- one of these regions is an IOMMU region
abbrev pub any_iommu : List Node → Bool
any_iommu nodes = list_any (λ n. is_iommu n.kind) nodes

-- one of these regions has ioeventfds
abbrev pub any_events : List Node → Bool
any_events nodes = list_any (λ n. nat_lt 0 (length n.events)) nodes

-- the regions of a chunk, 1 to 64, and what is told of them: the first one's id, whether one is an IOMMU region, whether one has ioeventfds
pub record IsChunk (nodes : List Node) (first : RegionId) (iommu events : Bool) : Type 0 where
  pub some : 0 < length nodes
  pub few : length nodes ≤ 64
  pub least : first.0 ≡ first_id nodes
  pub iommus : iommu ≡ any_iommu nodes
  pub notifying : events ≡ any_events nodes
