-- What the calls on one region keep of a forest.
use Rattle.std.proofs.Common.{◌≡◌, ℕ, ◌<◌, Option, Some, None, refl, sym, subst, arith}
use Rattle.mem_base.specs.declared.map.ids.RegionId.{RegionId}
use Rattle.mem_base.specs.declared.map.forests.Node.{Node}
use Rattle.mem_base.specs.declared.map.kinds.Kind.{Kind}
use Rattle.mem_base.specs.declared.map.kinds.Kind.TheVariants.{Alias}
use Rattle.mem_base.specs.declared.map.forests.Forest.{Forest}
use Rattle.mem_base.specs.declared.map.calls.Call.TheVariants as calls
use Rattle.mem_base.specs.map.Kinds.{target_of}
use Rattle.mem_base.specs.map.Forest.{IsOrderedForest, IsPlacedBefore, IsTargetBefore}
use Rattle.mem_base.specs.map.Changes.{at_region, changed}
use Rattle.mem_base.specs.map.Edits.{retargeted}
use Rattle.mem_base.specs.map.Calls.{counted}
use Rattle.mem_base.proofs.ForestLaws.{every_changed_at, ascending_changed_at}
use Rattle.map_laws.proofs.FieldLaws.{IsField}
use Rattle.map_laws.proofs.LeadLaws.{KeepsSteps, greatest_depth-kept, greatest_weight-kept}
use Rattle.mem_base.proofs.DelLaws.{greatest_depth_left, greatest_weight_left}

abbrev IsBelow : ℕ → Option RegionId → Type 0
IsBelow made None = Unit {0}
IsBelow made (Some target) = target.0 < made

below_by_target : (made : ℕ) (k : Kind) → IsTargetBefore made k → IsBelow made (target_of k)
below_by_target made (Alias target offset) h = h
below_by_target made _ h = tt

target_below : (made : ℕ) (k : Kind) → IsBelow made (target_of k) → IsTargetBefore made k
target_below made (Alias target offset) h = h
target_below made _ h = tt

-- kinds with one target
pub same_target_before : (made : ℕ) (k l : Kind) → target_of l ≡ target_of k → IsTargetBefore made k → IsTargetBefore made l
same_target_before made k l e h = target_below made l (subst (IsBelow made) (sym e) (below_by_target made k h))

-- a change of one region that leaves its place and its target
pub field_forest : (f : Forest) (r : RegionId) (g : Node → Node) → IsField g → IsOrderedForest f → IsOrderedForest (counted (at_region f r g))
field_forest f r g field h =
    let keeps : KeepsSteps g = record { id = field.id; parent = field.parent; target = field.target } in
    record {
      ascending = ascending_changed_at r g field.id f.nodes h.ascending;
      made_before = every_changed_at (λ n. n.id.0 < f.made) r g (λ n l. subst (λ (q : RegionId). q.0 < f.made) (sym (field.id n)) l) f.nodes h.made_before;
      placed_before = every_changed_at (λ n. IsPlacedBefore f.made f.placings n.parent n.placing) r g
          (λ n w. subst (λ (p : Option RegionId). IsPlacedBefore f.made f.placings p (g n).placing) (sym (field.parent n))
          (subst (λ (k : ℕ). IsPlacedBefore f.made f.placings n.parent k) (sym (field.placing n)) w)) f.nodes h.placed_before;
      few_placings = let few = h.few_placings in omega arith;
      targets_before = every_changed_at (λ n. IsTargetBefore f.made n.kind) r g
          (λ n w. same_target_before f.made n.kind (g n).kind (field.target n) w) f.nodes h.targets_before;
      shallow = let e = greatest_depth-kept r g keeps f.nodes in let l = h.shallow in omega arith;
      narrow = let e = greatest_weight-kept r g keeps f.nodes in let l = h.narrow in omega arith;
    }

-- an alias goes on to the same target
target_retargeted : (offset : ℕ) (k : Kind) → target_of (retargeted offset k) ≡ target_of k
target_retargeted offset (Alias target old) = refl
target_retargeted offset _ = refl

pub retarget_field : (offset : ℕ) → IsField (λ n. record n { kind = retargeted offset n.kind })
retarget_field offset = record { id = λ n. refl; parent = λ n. refl; priority = λ n. refl; placing = λ n. refl; target = λ n. target_retargeted offset n.kind }

-- a region taken out of its container
pub del_forest : (f : Forest) (parent child : RegionId) → IsOrderedForest f → IsOrderedForest (counted (changed f (calls.Del parent child)))
del_forest f parent child h =
    let g : Node → Node = λ n. record n { parent = None } in
    record {
      ascending = ascending_changed_at child g (λ n. refl) f.nodes h.ascending;
      made_before = every_changed_at (λ n. n.id.0 < f.made) child g (λ n l. l) f.nodes h.made_before;
      placed_before = every_changed_at (λ n. IsPlacedBefore f.made f.placings n.parent n.placing) child g (λ n w. tt) f.nodes h.placed_before;
      few_placings = let few = h.few_placings in omega arith;
      targets_before = every_changed_at (λ n. IsTargetBefore f.made n.kind) child g (λ n w. w) f.nodes h.targets_before;
      shallow = let l = greatest_depth_left child g (λ n. refl) (λ n. refl) (λ n. refl) f.nodes in let k = h.shallow in omega arith;
      narrow = let l = greatest_weight_left child g (λ n. refl) (λ n. refl) (λ n. refl) f.nodes in let k = h.narrow in omega arith;
    }
