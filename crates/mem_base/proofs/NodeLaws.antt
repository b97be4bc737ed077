-- The place of a region among nodes that stand by ascending id.
use Rattle.std.proofs.Common.{◌≡◌, ◌≢◌, ℕ, zero, suc, ◌<◌, ◌≤◌, false, eqb, List, [], ◌∷◌, length, get_or, Some, None, Err, true}
use Rattle.std.proofs.Common.{refl, sym, ap, ◌∙◌, arith}
use Rattle.std.specs.List.Sorted.{IsBinarySearchResult, IsNonDecreasingBy}
use Rattle.std.specs.declared.cmp.Ordering.TheVariants.{Equal}
use Rattle.std.specs.Ordering.{nat_cmp, ordering_index}
use Rattle.std.proofs.lemmas.Cmp.{ranked}
use Rattle.std.proofs.lemmas.Bool.Decides.{nat_tests}
use Rattle.mem_base.specs.declared.map.ids.RegionId.{RegionId}
use Rattle.mem_base.specs.declared.map.forests.Node.{Node}
use Rattle.mem_base.specs.map.Region.{IsAscending, node_of, has_id}
use Rattle.mem_base.proofs.EveryLaws.{every_at}
use Rattle.mem_base.proofs.ForestLaws.{node_of-itself, id_of}
use Rattle.mem_base.specs.declared.map.kinds.Kind.{Kind}
use Rattle.mem_base.specs.declared.map.kinds.Kind.TheVariants.{Alias, Ram, Rom, RomDevice}
use Rattle.mem_base.specs.map.Kinds.{target_of, has_bytes}
use Rattle.mem_base.specs.map.Order.{children_of, ids_of}
use Rattle.mem_base.specs.map.Steps.{steps_at}
use Rattle.std.specs.Option.{option_or}
use Rattle.mem_base.specs.declared.map.forests.Forest.{Forest}
use Rattle.mem_base.specs.map.Search.{Search, first_of_children, inside, itself}
use Rattle.mem_base.specs.access.Places.{extent_of}

ids_rise : (nodes : List Node) (i j : ℕ) (d : Node) → IsAscending nodes → i < j → j < length nodes → (get_or nodes i d).id.0 < (get_or nodes j d).id.0
ids_rise [] i j d h l m = absurd (omega arith)
ids_rise (n ∷ ns) i zero d h l m = absurd (omega arith)
ids_rise (n ∷ ns) zero (suc j) d h l m = every_at (λ m. n.id.0 < m.id.0) ns j d (omega arith) h.0
ids_rise (n ∷ ns) (suc i) (suc j) d h l m = ids_rise ns i j d h.1 (omega arith) (omega arith)

-- the region at a place is the one with its id
found_there : (nodes : List Node) (i : ℕ) (d : Node) (r : RegionId) → i < length nodes → IsAscending nodes → (get_or nodes i d).id.0 ≡ r.0 →
    node_of nodes r ≡ Some (get_or nodes i d)
found_there nodes i d r l ascending e =
    let same : (get_or nodes i d).id ≡ r = ap (λ (v : ℕ). let q : RegionId = record { 0 = v } in q) e in
    ap (node_of nodes) (sym same) ∙ every_at (λ n. node_of nodes n.id ≡ Some n) nodes i d l (node_of-itself nodes ascending)

-- a region whose id stands nowhere is not there
missing : (nodes : List Node) (r : RegionId) → ((k : ℕ) (d : Node) → k < length nodes → (get_or nodes k d).id.0 ≢ r.0) → node_of nodes r ≡ None
missing [] r h = refl
missing (n ∷ ns) r h =
    let first = h 0 n (omega arith) in
    let t : eqb n.id.0 r.0 ≡ false = grind (arith, nat_tests) in
    rw t (missing ns r (λ k d l. h (suc k) d (omega arith)))

module _ (nodes : List Node) (ascending : IsAscending nodes) (r : RegionId) where
  comparisons_rise : IsNonDecreasingBy (λ (n : Node). ordering_index (nat_cmp n.id.0 r.0)) nodes
  comparisons_rise i j d le l =
      let rise : (get_or nodes i d).id.0 ≤ (get_or nodes j d).id.0 =
      grind (arith, ids_rise nodes i j d ascending, λ (same : i ≡ j). ap (λ k. (get_or nodes k d).id.0) same) in
      grind (arith, nat_tests)

  pub node_found : (i : ℕ) (d : Node) → i < length nodes → ((d : Node) → nat_cmp (get_or nodes i d).id.0 r.0 ≡ Equal) →
      node_of nodes r ≡ Some (get_or nodes i d)
  node_found i d l e = found_there nodes i d r l ascending (ranked _ r.0 _ (sym (e d)))

  pub node_missing : (i : ℕ) → i ≤ length nodes → IsBinarySearchResult (λ (n : Node). nat_cmp n.id.0 r.0) nodes (Err i) → node_of nodes r ≡ None
  node_missing i l e =
      let parts = e comparisons_rise in
      missing nodes r (λ k d m same.
      let a : k < i → (get_or nodes k d).id.0 < r.0 = λ b. ranked _ r.0 _ (sym (parts.0 k d (omega arith) b)) in
      let b : i ≤ k → r.0 < (get_or nodes k d).id.0 = λ c. ranked _ r.0 _ (sym (parts.1 k d c m)) in
      grind (arith, a, b))

pub found_itself : (nodes : List Node) (r : RegionId) (n : Node) → Some n ≡ node_of nodes r → node_of nodes n.id ≡ Some n
found_itself nodes r n e = ap (node_of nodes) (id_of nodes r n (sym e)) ∙ sym e

pub steps_to_children : (nodes : List Node) (k : Kind) (n : Node) → target_of k ≡ None → steps_at nodes k n ≡ ids_of (children_of nodes n.id)
steps_to_children nodes (Alias target offset) n e = cc
steps_to_children nodes _ n e = refl

pub steps_to_target : (nodes : List Node) (k : Kind) (n : Node) (t : RegionId) → target_of k ≡ Some t → steps_at nodes k n ≡ t ∷ []
steps_to_target nodes (Alias target offset) n t e = let same : target ≡ t = cc in ap (λ q. q ∷ []) same
steps_to_target nodes _ n t e = cc

pub found_id : (nodes : List Node) (r : RegionId) (n : Node) → node_of nodes r ≡ Some n → has_id r n ≡ true
found_id nodes r n e = let q : n.id.0 ≡ r.0 = ap (λ (x : RegionId). x.0) (id_of nodes r n e) in grind (arith, nat_tests)

pub inside-own : (f : Forest) (below : Search) (k : Kind) (n : Node) (b : ℕ) → ((target : RegionId) (offset : ℕ) → k ≡ Alias target offset → ⊥) →
    inside f below k n b ≡ option_or (first_of_children below (children_of f.nodes n.id) b) (itself f.global n.kind n b)
inside-own f below (Alias target offset) n b h = absurd (h target offset refl)
inside-own f below _ n b h = refl

pub whole_bytes : (kind : Kind) (size : ℕ) → has_bytes kind ≡ true → (extent_of kind size).bytes ≡ size
whole_bytes Ram size e = refl
whole_bytes Rom size e = refl
whole_bytes (RomDevice device) size e = refl
whole_bytes _ size e = cc
