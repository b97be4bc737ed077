-- Laws of what a tree keeps.
use Rattle.std.proofs.Common.{◌≡◌, ℕ, ◌+◌, ◌-◌, true, false, List, [], ◌∷◌, ◌++◌, Option, Some, None}
use Rattle.std.proofs.Common.{refl, sym, ap, subst, ◌∙◌}
use Rattle.mem_base.specs.declared.map.forests.Forest.{Forest}
use Rattle.mem_base.specs.declared.map.calls.Call.{Call}
use Rattle.mem_base.specs.map.Forest.{FitsTypes, IsRegion, IsPlainRegion, HasPlainContainer, HasTarget}
use Rattle.mem_base.specs.lists.Every.{Every}
use Rattle.mem_base.specs.map.Kinds.{target_of}
use Rattle.mem_base.specs.map.Refusals.{targets}
use Rattle.mem_base.specs.map.TableRefusals.{no_more_calls}
use Rattle.mem_base.specs.map.Changes.{changed}
use Rattle.mem_base.specs.map.Calls.{counted, refusal_of, refusals}
use Rattle.region_slots.proofs.HandedOn.{IsOrderedForest-accepted, IsClosedForest-accepted, not_met, each_none, known_node, refuse_where-none, in_use-none, has_container-none}
use Rattle.std.specs.Prelude.{is_none, is_some}
use Rattle.mem_base.specs.declared.map.ids.RegionId.{RegionId}
use Rattle.mem_base.specs.declared.map.forests.Node.{Node}
use Rattle.mem_base.specs.declared.map.calls.Call.TheVariants as calls
use Rattle.mem_base.specs.map.Region.{node_of}
use Rattle.mem_base.specs.declared.map.refusals.Refusal.TheVariants.{NotChild}
use Rattle.mem_base.proofs.ForestLaws.{every_node_of, id_of}
use Rattle.std.specs.Prelude.{option_map, option_and_then}
use Rattle.mem_base.specs.declared.map.refusals.Refusal.TheVariants.{PageOverlap}
use Rattle.mem_base.specs.map.Entries.{least_met}
use Rattle.region_tree.specs.Tree.{IsWhole}

pub whole_accepted : (f : Forest) (call : Call) → IsWhole f → FitsTypes call → refusal_of f call ≡ None → IsWhole (counted (changed f call))
whole_accepted f call h fits none = record {
  forest = IsOrderedForest-accepted f call h.forest none;
  sound = IsClosedForest-accepted f call h.forest h.sound fits none;
}

-- a container that is there
container_there : (nodes : List Node) (o : Option RegionId) → is_none o ≡ false → HasPlainContainer nodes o → (p : Node) × (o ≡ Some p.id)
    × (node_of nodes p.id ≡ Some p)
container_there nodes None e h = cc
container_there nodes (Some q) e h = found (node_of nodes q) refl h
  where
    found : (o : Option Node) → node_of nodes q ≡ o → IsPlainRegion o → (p : Node) × (Some q ≡ Some p.id) × (node_of nodes p.id ≡ Some p)
    found None k t = absurd t
    found (Some p) k t = let same = id_of nodes q p k in (p, ap Some (sym same), ap (node_of nodes) same ∙ k)

-- a child that may be moved, and its container
pub moves_child : (f : Forest) (child : RegionId) (offset : ℕ) → IsWhole f → refusal_of f (calls.Move child offset) ≡ None → (m : Node) × (p : Node)
    × (node_of f.nodes child ≡ Some m) × (m.parent ≡ Some p.id) × (node_of f.nodes p.id ≡ Some p)
moves_child f child offset h e =
    let each = each_none (refusals f (calls.Move child offset) ++ no_more_calls f ∷ []) e in
    let m = known_node f child each.0 in
    let inside = refuse_where-none (λ (n : Node). is_none n.parent) (NotChild child) (node_of f.nodes child) m.0 m.1 each.1.0 in
    let region = (every_node_of (IsRegion f.nodes) f.nodes child m.0 m.1 h.sound.regions).0 in
    let p = container_there f.nodes m.0.parent inside region.container in
    (m.0, p.0, m.1, p.1, p.2)

pub page_apart : (iova size : ℕ) (o : Option Node) (n : Node) → o ≡ Some n →
    option_and_then (λ (m : Node). option_map (λ met. PageOverlap met) (least_met iova size m.entries)) o ≡ None → least_met iova size n.entries ≡ None
page_apart iova size None n e h = cc
page_apart iova size (Some m) n e h = let same : m ≡ n = cc in
    subst (λ (x : Node). least_met iova size x.entries ≡ None) same (not_met (least_met iova size m.entries) h)

-- a region that may be dropped: it is in no container, and nobody's target
pub record IsDroppable (f : Forest) (r : RegionId) : Type 0 where
  pub node : Node
  pub there : node_of f.nodes r ≡ Some node
  pub free : node.parent ≡ None
  pub unused : Every (λ n. targets r n.kind ≡ false) f.nodes

pub dropped_region : (f : Forest) (r : RegionId) → refusal_of f (calls.Drop r) ≡ None → IsDroppable f r
dropped_region f r e =
    let each = each_none (refusals f (calls.Drop r) ++ no_more_calls f ∷ []) e in
    let m = known_node f r each.0 in
    record {
      node = m.0;
      there = m.1;
      free = has_container-none f r m.0 m.1 each.1.0;
      unused = (in_use-none f r each.1.1.0).no_aliases;
    }

-- the target of a region is there
pub target_there : (f : Forest) (r : RegionId) (m : Node) → IsWhole f → node_of f.nodes r ≡ Some m → (t : RegionId) → target_of m.kind ≡ Some t →
    is_some (node_of f.nodes t) ≡ true
target_there f r m h there t e =
    let region = (every_node_of (IsRegion f.nodes) f.nodes r m there h.sound.regions).0 in
    subst (HasTarget f.nodes) e region.target
