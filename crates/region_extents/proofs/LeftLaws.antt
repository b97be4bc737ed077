-- Laws of a region that is taken out of its container: only the container leads elsewhere then.
use Rattle.std.proofs.Common.{◌≡◌, ◌≢◌, true, false, eqb, List, [], ◌∷◌, ◌++◌, length, Option, Some, None, refl, sym, ap, ◌∙◌, arith}
use Rattle.std.specs.Prelude.{not}
use Rattle.std.proofs.lemmas.Bool.Decides.{nat_tests}
use Rattle.mem_base.specs.declared.map.ids.RegionId.{RegionId}
use Rattle.mem_base.specs.declared.map.forests.Node.{Node}
use Rattle.mem_base.specs.declared.map.forests.Forest.{Forest}
use Rattle.mem_base.specs.declared.map.calls.Call.TheVariants as calls
use Rattle.mem_base.specs.declared.map.refusals.Refusal.TheVariants.{NotChild}
use Rattle.mem_base.specs.lists.Every.{Every}
use Rattle.mem_base.specs.map.Region.{node_of, has_id, is_in, is_child_of}
use Rattle.mem_base.specs.lists.Sorting.{sorted_by}
use Rattle.mem_base.specs.map.Order.{trial_order, children_of}
use Rattle.mem_base.specs.map.Region.{IsAscending}
use Rattle.mem_base.specs.map.Forest.{IsOrderedForest}
use Rattle.mem_base.specs.map.Changes.{changed_at}
use Rattle.mem_base.specs.map.TableRefusals.{no_more_calls}
use Rattle.mem_base.specs.map.Calls.{refusal_of, refusals}
use Rattle.mem_base.specs.map.Steps.{steps_of, steps_from}
use Rattle.mem_base.proofs.EveryLaws.{weaker}
use Rattle.mem_base.proofs.ForestLaws.{filter-changed_at, only_node, id_of}
use Rattle.mem_base.proofs.JoinLaws.{node_of-changed_at, steps_seen, steps_alike}
use Rattle.region_slots.proofs.HandedOn.{each_none, known_node, refuse_where-none}
use Rattle.region_slots.specs.declared.slots.Slot.{Slot}
use Rattle.region_extents.specs.declared.extents.Extent.{Extent}
use Rattle.region_extents.specs.declared.kept.Kept.{Kept}
use Rattle.region_slots.specs.Slots.{nodes_of}
use Rattle.region_extents.specs.Kept.{extents_in, aliases_in, steps_plus, IsSettledBy, IsShort, IsBeside}
use Rattle.region_extents.proofs.JoinedLaws.{kept_elsewhere, settled_extents_in}
use Rattle.std.proofs.lemmas.Bool.{not-false}

-- without a container
abbrev pub freed : Node → Node
freed n = record n { parent = None }

-- a child of one region is no child of another
other_container : (parent q : RegionId) (p : Option RegionId) → parent.0 ≢ q.0 → is_in parent p ≡ true → is_in q p ≡ false
other_container parent q None k h = refl
other_container parent q (Some c) k h =
    elim (eqb c.0 q.0) as (λ b. eqb c.0 q.0 ≡ b → b ≡ false) [
      | true ↦ λ t.
          let a : c.0 ≡ parent.0 = grind (arith, nat_tests) in
          let b : c.0 ≡ q.0 = grind (arith, nat_tests) in
          absurd (k (omega arith))
      | false ↦ λ t. refl
    ] refl

module _ (f : Forest) (h : IsOrderedForest f) (parent child : RegionId) (m : Node) (at_child : node_of f.nodes child ≡ Some m)
    (inside : is_child_of parent m ≡ true) where
  abbrev left : List Node
  left = changed_at child freed f.nodes

  children_elsewhere : (q : RegionId) → parent.0 ≢ q.0 → children_of left q ≡ children_of f.nodes q
  children_elsewhere q k =
      ap (sorted_by trial_order) (filter-changed_at (is_child_of q) child freed f.nodes
      (weaker (λ n. has_id child n ≡ true → n ≡ m) (λ n. has_id child n ≡ true → (is_child_of q n ≡ false) × (is_child_of q (freed n) ≡ false))
      (λ n w e. (ap (is_child_of q) (w e) ∙ other_container parent q m.parent k inside, refl)) f.nodes (only_node f.nodes child m h.ascending at_child)))

  from_elsewhere : (q : RegionId) → parent.0 ≢ q.0 → (o : Option Node) → node_of f.nodes q ≡ o → steps_from left o ≡ steps_from f.nodes o
  from_elsewhere q k None e = refl
  from_elsewhere q k (Some n) e = steps_alike left f.nodes n.kind n
      (ap (children_of left) (id_of f.nodes q n e) ∙ children_elsewhere q k ∙ sym (ap (children_of f.nodes) (id_of f.nodes q n e)))

  -- each other region leads where it led
  pub steps_elsewhere : (q : RegionId) → parent.0 ≢ q.0 → steps_of left q ≡ steps_of f.nodes q
  steps_elsewhere q k =
      ap (steps_from left) (node_of-changed_at child freed (λ n. refl) f.nodes q)
      ∙ steps_seen left child freed (λ n. refl) (λ n. refl) (node_of f.nodes q)
      ∙ from_elsewhere q k (node_of f.nodes q) refl

  -- so what was kept settles each other region
  pub settled_elsewhere : (slots : List Slot) → nodes_of slots ≡ left → (es : List Extent) → es ≡ extents_in f.nodes → (v : RegionId) → v.0 ≢ parent.0 →
      IsSettledBy (steps_plus (nodes_of slots) None) slots es v
  settled_elsewhere slots seen es e v k =
      kept_elsewhere f h child freed (λ n. refl) slots seen es e v (ap (λ ns. steps_of ns v) seen ∙ steps_elsewhere v (λ same. k (sym same)))

-- what an accepted Del says of the child
pub child_of_del : (f : Forest) (parent child : RegionId) → refusal_of f (calls.Del parent child) ≡ None → (m : Node) × (node_of f.nodes child ≡ Some m)
    × (is_child_of parent m ≡ true)
child_of_del f parent child e =
    let each = each_none (refusals f (calls.Del parent child) ++ no_more_calls f ∷ []) e in
    let m = known_node f child each.1.0 in
    let t = refuse_where-none (λ (n : Node). not (is_child_of parent n)) (NotChild child) (node_of f.nodes child) m.0 m.1 each.1.1.0 in
    (m.0, m.1, not-false (is_child_of parent m.0) t)

-- what is kept after that
pub left_beside : (slots : List Slot) (k : Kept) → IsAscending (nodes_of slots) → (k.fresh ≡ true → k.aliases.items ≡ aliases_in (nodes_of slots)) →
    (k.fresh ≡ true → length k.extents.items ≡ length slots) →
    (k.fresh ≡ true → (v : RegionId) → IsSettledBy (steps_plus (nodes_of slots) None) slots k.extents.items v) →
    (k.fresh ≡ true → Every IsShort k.extents.items) → IsBeside k (nodes_of slots)
left_beside slots k ascending aliases all settled short = record {
  extents = λ t. settled_extents_in slots k.extents.items ascending (all t) (settled t) (short t);
  aliases = aliases;
}
