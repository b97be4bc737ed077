-- Laws of the depths and weights after a region is placed in a container.
use Rattle.std.proofs.Common.{◌≡◌, ℕ, Bool, true, false, ℤ, List, [], ◌∷◌, map, Option}
use Rattle.std.proofs.Common.{Some, None, refl, sym, ap, ◌∙◌}
use Rattle.std.specs.Prelude.{is_some}
use Rattle.mem_base.specs.declared.map.ids.RegionId.{RegionId}
use Rattle.mem_base.specs.declared.map.forests.Node.{Node}
use Rattle.mem_base.specs.declared.map.forests.Forest.{Forest}
use Rattle.mem_base.specs.declared.map.refusals.Refusal.{Refusal}
use Rattle.mem_base.specs.declared.map.refusals.Refusal.TheVariants.{AliasParent}
use Rattle.mem_base.specs.declared.map.refusals.What.TheVariants as what
use Rattle.mem_base.specs.declared.map.calls.Call.TheVariants as calls
use Rattle.mem_base.specs.lists.Every.{Every}
use Rattle.mem_base.specs.map.Kinds.{is_alias}
use Rattle.mem_base.specs.map.Region.{node_of}
use Rattle.mem_base.specs.map.Region.{IsAscending}
use Rattle.mem_base.specs.map.Forest.{IsOrderedForest}
use Rattle.mem_base.specs.map.Refusals.{alias_parent, has_container, refuse_if, refuse_where}
use Rattle.mem_base.specs.map.Changes.{changed, changed_at, placed}
use Rattle.mem_base.specs.map.Steps.{longest, steps_of, greatest, depth_by, weight_by, depth_of, weight_of, greatest_depth, greatest_weight}
use Rattle.mem_base.proofs.StepLaws.{joined_steps, depth_by-alike, weight_by-alike, map_agree, every_of}
use Rattle.mem_base.proofs.JoinLaws.{steps_joined, map_ids-changed_at}
use Rattle.region_slots.specs.declared.slots.Slot.{Slot}
use Rattle.region_extents.specs.declared.extents.Extent.{Extent}
use Rattle.region_extents.specs.declared.extents.Join.{Join}
use Rattle.region_slots.specs.Slots.{nodes_of}
use Rattle.region_slots.specs.Slots.{HasItsChildren}
use Rattle.region_extents.specs.Extents.{steps_with, extent_by, extents_by, HasItsSteps}
use Rattle.region_extents.specs.Room.{are_within, is_within}
use Rattle.region_extents.proofs.ExtentsLaws.{steps_alias, steps_listed}
use Rattle.region_extents.proofs.RoomLaws.{within_greatest}
use Rattle.region_slots.proofs.HandedOn.{has_container-none, is_known}
use Rattle.region_slots.proofs.SlotsLaws.{every_by_place}

depths_seen : (nodes : List Node) (join : Join) (slots : List Slot) →
    map (λ (e : Extent). e.depth) (extents_by nodes join longest slots) ≡ map (λ (n : Node). depth_by (steps_with nodes join) longest n.id) (nodes_of slots)
unfolding extent_by
depths_seen nodes join [] = refl
depths_seen nodes join (s ∷ ss) = ap (λ l. depth_by (steps_with nodes join) longest s.node.id ∷ l) (depths_seen nodes join ss)

weights_seen : (nodes : List Node) (join : Join) (slots : List Slot) →
    map (λ (e : Extent). e.weight) (extents_by nodes join longest slots) ≡ map (λ (n : Node). weight_by (steps_with nodes join) longest n.id) (nodes_of slots)
unfolding extent_by
weights_seen nodes join [] = refl
weights_seen nodes join (s ∷ ss) = ap (λ l. weight_by (steps_with nodes join) longest s.node.id ∷ l) (weights_seen nodes join ss)

pub no_alias_of : (o : Option Node) (n : Node) (why : Refusal) → o ≡ Some n → (b : Bool) → refuse_if b why ≡ None → b ≡ false
no_alias_of o n why e true h = cc
no_alias_of o n why e false h = refl

abbrev pub alias_parent_of : RegionId → Option Node → Option Refusal
alias_parent_of parent o = refuse_where (λ n. is_alias n.kind) (AliasParent parent) o

-- the greatest depth and weight with one more step are those after the call
pub joined_greatest : (f : Forest) → IsOrderedForest f → (parent child : RegionId) → is_some (node_of f.nodes parent) ≡ true →
    is_some (node_of f.nodes child) ≡ true → alias_parent f parent ≡ None → has_container f child ≡ None → (offset : ℕ) (priority : ℤ) →
    (greatest (map (λ (x : Node). depth_by (joined_steps (steps_of f.nodes) parent child) longest x.id) f.nodes) ≡
    greatest_depth (changed f (calls.Add parent offset child priority)).nodes)
    × (greatest (map (λ (x : Node). weight_by (joined_steps (steps_of f.nodes) parent child) longest x.id) f.nodes) ≡
    greatest_weight (changed f (calls.Add parent offset child priority)).nodes)
joined_greatest f h parent child is_known here no_alias free offset priority =
    let new = changed_at child (placed parent offset priority f.placings) f.nodes in
    let depths = map (λ (x : Node). depth_by (joined_steps (steps_of f.nodes) parent child) longest x.id) f.nodes in
    let weights = map (λ (x : Node). weight_by (joined_steps (steps_of f.nodes) parent child) longest x.id) f.nodes in
    elim (node_of f.nodes parent) as (λ o. node_of f.nodes parent ≡ o → (greatest depths ≡ greatest_depth new) × (greatest weights ≡ greatest_weight new)) [
      | None ↦ λ at_parent. let k = ap is_some at_parent in cc
      | Some n ↦ λ at_parent.
          elim (node_of f.nodes child) as
          (λ o. node_of f.nodes child ≡ o → (greatest depths ≡ greatest_depth new) × (greatest weights ≡ greatest_weight new)) [
            | None ↦ λ at_child. let k = ap is_some at_child in cc
            | Some m ↦ λ at_child.
                let plain : is_alias n.kind ≡ false = no_alias_of (node_of f.nodes parent) n _ at_parent (is_alias n.kind)
                (sym (ap (alias_parent_of parent) at_parent) ∙ no_alias) in
                let loose : m.parent ≡ None = has_container-none f child m at_child free in
                let alike = steps_joined f h parent offset child priority n m at_parent plain at_child loose in
                let d = depth_by-alike (steps_of new) (joined_steps (steps_of f.nodes) parent child) alike longest in
                let w = weight_by-alike (steps_of new) (joined_steps (steps_of f.nodes) parent child) alike longest in
                let ids_d = map_ids-changed_at (depth_of new) child (placed parent offset priority f.placings) (λ x. refl) f.nodes in
                let ids_w = map_ids-changed_at (weight_of new) child (placed parent offset priority f.placings) (λ x. refl) f.nodes in
                let to_d = map_agree (λ (x : Node). depth_of new x.id)
                (λ (x : Node). depth_by (joined_steps (steps_of f.nodes) parent child) longest x.id) f.nodes (every_of _ (λ x. d x.id) f.nodes) in
                let to_w = map_agree (λ (x : Node). weight_of new x.id)
                (λ (x : Node). weight_by (joined_steps (steps_of f.nodes) parent child) longest x.id) f.nodes (every_of _ (λ x. w x.id) f.nodes) in
                (ap greatest (sym to_d ∙ sym ids_d), ap greatest (sym to_w ∙ sym ids_w))
          ] refl
    ] refl

-- the extents with one more step are those after the call
pub stretched : (f : Forest) → IsOrderedForest f → (slots : List Slot) → f.nodes ≡ nodes_of slots → (parent child : RegionId) →
    is_some (node_of f.nodes parent) ≡ true → is_some (node_of f.nodes child) ≡ true → alias_parent f parent ≡ None → has_container f child ≡ None →
    (es : List Extent) → es ≡ extents_by (nodes_of slots) (record { parent = parent; child = child }) longest slots → (offset : ℕ) (priority : ℤ) →
    (greatest (map (λ (e : Extent). e.depth) es) ≡ greatest_depth (changed f (calls.Add parent offset child priority)).nodes)
    × (greatest (map (λ (e : Extent). e.weight) es) ≡ greatest_weight (changed f (calls.Add parent offset child priority)).nodes)
stretched f h slots seen parent child is_known here no_alias free es e offset priority =
    let join : Join = record { parent = parent; child = child } in
    let both = joined_greatest f h parent child is_known here no_alias free offset priority in
    let seen_d = ap (map (λ (x : Extent). x.depth)) e ∙ depths_seen (nodes_of slots) join slots
    ∙ ap (λ ns. map (λ (x : Node). depth_by (joined_steps (steps_of ns) parent child) longest x.id) ns) (sym seen) in
    let seen_w = ap (map (λ (x : Extent). x.weight)) e ∙ weights_seen (nodes_of slots) join slots
    ∙ ap (λ ns. map (λ (x : Node). weight_by (joined_steps (steps_of ns) parent child) longest x.id) ns) (sym seen) in
    (ap greatest seen_d ∙ both.0, ap greatest seen_w ∙ both.1)

-- the regions stay within the limits with one more step just where the greatest depth and weight after the call do
pub within_joined : (f : Forest) → IsOrderedForest f → (parent child : RegionId) → is_some (node_of f.nodes parent) ≡ true →
    is_some (node_of f.nodes child) ≡ true → alias_parent f parent ≡ None → has_container f child ≡ None → (offset : ℕ) (priority : ℤ) →
    are_within f.nodes (record { parent = parent; child = child }) ≡
    is_within (greatest_depth (changed f (calls.Add parent offset child priority)).nodes)
    (greatest_weight (changed f (calls.Add parent offset child priority)).nodes)
within_joined f h parent child is_known here no_alias free offset priority =
    let steps = joined_steps (steps_of f.nodes) parent child in
    let both = joined_greatest f h parent child is_known here no_alias free offset priority in
    within_greatest (λ (x : Node). depth_by steps longest x.id) (λ (x : Node). weight_by steps longest x.id) f.nodes
    ∙ ap (λ d. is_within d (greatest (map (λ (x : Node). weight_by steps longest x.id) f.nodes))) both.0
    ∙ ap (is_within (greatest_depth (changed f (calls.Add parent offset child priority)).nodes)) both.1

-- each slot shows the steps of its region
pub slots_show_steps : (slots : List Slot) → IsAscending (nodes_of slots) → Every (HasItsChildren (nodes_of slots)) slots →
    Every (HasItsSteps (nodes_of slots)) slots
slots_show_steps slots a h = every_by_place (HasItsSteps (nodes_of slots)) slots
    (λ i d l. record { alias = steps_alias slots i d l a; listed = steps_listed slots i d l a h })
