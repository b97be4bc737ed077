-- How deep and how wide the regions of slots are, with one more step.
use Rattle.std.specs.Prelude.{ℕ, ◌≡◌, Some, None, ◌+◌, ◌==◌, if◌then◌else◌, List, [], ◌∷◌, map}
use Rattle.mem_base.specs.declared.map.ids.RegionId.{RegionId}
use Rattle.mem_base.specs.declared.map.forests.Node.{Node}
use Rattle.mem_base.specs.map.Region.{has_id}
use Rattle.mem_base.specs.map.Steps.{Steps, steps_of, depth_by, weight_by, greatest, total}
use Rattle.region_slots.specs.declared.slots.Slot.{Slot}
use Rattle.region_extents.specs.declared.extents.Extent.{Extent}
use Rattle.region_extents.specs.declared.extents.Join.{Join}
use Rattle.mem_base.specs.map.Kinds.{target_of}
use Rattle.region_slots.specs.Slots.{ids_in}

-- the steps, with one more from the parent to the child
abbrev pub steps_with : List Node → Join → Steps
steps_with nodes join q = if q.0 == join.parent.0 then join.child ∷ steps_of nodes q else steps_of nodes q

unfoldable pub extent_by : List Node → Join → ℕ → RegionId → Extent
extent_by nodes join round r = record { depth = depth_by (steps_with nodes join) round r; weight = weight_by (steps_with nodes join) round r }

abbrev pub extents_by : List Node → Join → ℕ → List Slot → List Extent
extents_by nodes join round slots = map (λ s. extent_by nodes join round s.node.id) slots

-- the steps of a region are seen at its slot
pub record HasItsSteps (nodes : List Node) (s : Slot) : Type 0 where
  pub alias : (t : RegionId) → target_of s.node.kind ≡ Some t → steps_of nodes s.node.id ≡ t ∷ []
  pub listed : target_of s.node.kind ≡ None → steps_of nodes s.node.id ≡ ids_in s.children

-- a region that leads nowhere
abbrev pub alone : Extent
alone = record { depth = 1; weight = 1 }

-- the extent of a region in a list with one for each slot; of a region that is not there, that of one that leads nowhere
abbrev pub told_of : List Slot → List Extent → RegionId → Extent
told_of [] es r = alone
told_of (s ∷ ss) [] r = alone
told_of (s ∷ ss) (e ∷ es) r = if has_id r s.node then e else told_of ss es r

-- the extent of a region, from what is told of those that it leads to
abbrev pub stepped : (RegionId → Extent) → List RegionId → Extent
stepped told steps = record { depth = greatest (map (λ q. (told q).depth) steps) + 1; weight = total (map (λ q. (told q).weight) steps) + 1 }
