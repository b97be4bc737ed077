-- Laws of a region that is dropped: nothing led to it, so all others stay as deep and as wide as they were.
use Rattle.std.proofs.Common.{◌≡◌, ◌≢◌, ℕ, ◌<◌, true, false, cond, eqb, not, List, [], ◌∷◌, length, get_or, set, map}
use Rattle.std.proofs.Common.{filter, Option, Some, None, refl, sym, ap, subst, ◌∙◌, arith}
use Rattle.std.specs.List.{remove}
use Rattle.std.proofs.lemmas.Bool.Decides.{nat_tests}
use Rattle.std.proofs.lemmas.List.{get_or-map}
use Rattle.mem_base.specs.declared.map.ids.RegionId.{RegionId}
use Rattle.mem_base.specs.declared.map.forests.Node.{Node}
use Rattle.mem_base.specs.lists.Every.{Every}
use Rattle.mem_base.specs.map.Region.{node_of, has_id, IsAscending}
use Rattle.mem_base.specs.map.Order.{ids_of}
use Rattle.mem_base.specs.map.Kinds.{target_of}
use Rattle.mem_base.specs.map.Refusals.{targets}
use Rattle.mem_base.specs.map.Steps.{longest, steps_of, depth_of, weight_of}
use Rattle.mem_base.proofs.EveryLaws.{weaker}
use Rattle.mem_base.proofs.StepLaws.{depth_by-inside, weight_by-inside}
use Rattle.std.specs.Prelude.{is_some}
use Rattle.mem_base.specs.declared.map.forests.Forest.{Forest}
use Rattle.mem_base.proofs.ForestLaws.{only_node, id_of}
use Rattle.region_slots.specs.declared.slots.Slot.{Slot}
use Rattle.region_slots.specs.Slots.{nodes_of}
use Rattle.region_slots.proofs.PlaceLaws.{length_nodes}
use Rattle.region_slots.proofs.HandedOn.{without, steps_of-without}
use Rattle.region_slots.proofs.SlotsLaws.{map-remove, remove_there, some_element}
use Rattle.region_extents.specs.declared.extents.Extent.{Extent}
use Rattle.region_extents.specs.declared.kept.Kept.{Kept}
use Rattle.region_extents.specs.Kept.{listed, container_list, aliases_of, aliases_in, extent_in, extents_in, delisted, IsBeside}
use Rattle.region_extents.proofs.RaiseLaws.{unlisted}
use Rattle.region_extents.proofs.UsersLaws.{users_apart}
use Rattle.region_extents.proofs.BesideLaws.{set_map, targets_aims, aims, IsTargetPlace}
use Rattle.mem_base.proofs.ListLaws.{map_same}

abbrev extent : ℕ → ℕ → Extent
extent d w = record { depth = d; weight = w }

-- all that are left are other regions
others_left : (r : RegionId) (nodes : List Node) → Every (λ n. n.id.0 ≢ r.0) (without r nodes)
others_left r [] = tt
others_left r (n ∷ ns) =
    let ih = others_left r ns in
    elim (has_id r n) as (λ b. has_id r n ≡ b → Every (λ m. m.id.0 ≢ r.0) (cond (not b) (n ∷ without r ns) (without r ns)))
    [ true ↦ λ t. ih | false ↦ λ t. (λ e. grind (arith, nat_tests), ih) ] refl

-- what stands beside the regions that are left
left_beside : {B : Type 0} (h : RegionId → B) (r : RegionId) (nodes : List Node) (i : ℕ) (d : Node) → i < length nodes → IsAscending nodes →
    has_id r (get_or nodes i d) ≡ true → remove (map (λ (n : Node). h n.id) nodes) i ≡ map (λ (n : Node). h n.id) (without r nodes)
left_beside h r nodes i d l a e = sym (map-remove (λ (n : Node). h n.id) nodes i) ∙ ap (map (λ (n : Node). h n.id)) (remove_there r nodes i d l a e)

-- no region of this list
none_listed : (r : RegionId) (nodes : List Node) → Every (λ n. targets r n.kind ≡ false) nodes → aliases_of nodes r ≡ []
none_listed r [] h = refl
none_listed r (n ∷ ns) h = let t = h.0 in rw t (none_listed r ns h.1)

-- the aliases of a region, without the region that is dropped
aliases_of-without : (r q : RegionId) (nodes : List Node) → aliases_of (without r nodes) q ≡ filter (λ (x : RegionId). not (eqb x.0 r.0)) (aliases_of nodes q)
aliases_of-without r q [] = refl
aliases_of-without r q (n ∷ ns) =
    let ih = aliases_of-without r q ns in
    elim (has_id r n) as (λ b. has_id r n ≡ b →
    aliases_of (cond (not b) (n ∷ without r ns) (without r ns)) q ≡ filter (λ (x : RegionId). not (eqb x.0 r.0)) (aliases_of (n ∷ ns) q)) [
      | true ↦ λ t. elim (targets q n.kind) as
          (λ c. aliases_of (without r ns) q ≡ filter (λ (x : RegionId). not (eqb x.0 r.0))
          (ids_of (cond c (n ∷ filter (λ (m : Node). targets q m.kind) ns) (filter (λ (m : Node). targets q m.kind) ns)))) [ true ↦ rw t ih | false ↦ ih ]
      | false ↦ λ t. elim (targets q n.kind) as
          (λ c. ids_of (cond c (n ∷ filter (λ (m : Node). targets q m.kind) (without r ns)) (filter (λ (m : Node). targets q m.kind) (without r ns))) ≡
          filter (λ (x : RegionId). not (eqb x.0 r.0))
          (ids_of (cond c (n ∷ filter (λ (m : Node). targets q m.kind) ns) (filter (λ (m : Node). targets q m.kind) ns))))
          [ true ↦ rw t (ap (λ l. n.id ∷ l) ih) | false ↦ ih ]
    ] refl

-- a region that is no alias of another is not in its list
unlisted_kept : (r q : RegionId) (nodes : List Node) → Every (λ n. has_id r n ≡ true → targets q n.kind ≡ false) nodes →
    filter (λ (x : RegionId). not (eqb x.0 r.0)) (aliases_of nodes q) ≡ aliases_of nodes q
unlisted_kept r q [] h = refl
unlisted_kept r q (n ∷ ns) h =
    let ih = unlisted_kept r q ns h.1 in
    elim (targets q n.kind) as (λ c. targets q n.kind ≡ c →
    filter (λ (x : RegionId). not (eqb x.0 r.0))
    (ids_of (cond c (n ∷ filter (λ (m : Node). targets q m.kind) ns) (filter (λ (m : Node). targets q m.kind) ns))) ≡ ids_of
    (cond c (n ∷ filter (λ (m : Node). targets q m.kind) ns) (filter (λ (m : Node). targets q m.kind) ns))) [
      | true ↦ λ t.
          let other : has_id r n ≡ false = elim (has_id r n) as
          (λ b. has_id r n ≡ b → b ≡ false) [ true ↦ λ u. let no = h.0 u in cc | false ↦ λ u. refl ] refl in
          rw other (ap (λ l. n.id ∷ l) ih)
      | false ↦ λ t. ih
    ] refl

module _ (r : RegionId) (m : Node) (nodes : List Node) (a : IsAscending nodes) (there : node_of nodes r ≡ Some m) (free : m.parent ≡ None)
    (unused : Every (λ n. targets r n.kind ≡ false) nodes) where
  abbrev left : List Node
  left = without r nodes

  -- no step leads to it
  closed : (q : RegionId) → q.0 ≢ r.0 → Every (λ (x : RegionId). x.0 ≢ r.0) (steps_of nodes q)
  closed q k =
      let no_container : listed q [] ≡ false = refl in
      let apart = users_apart nodes r q m a there (ap (λ p. listed q (container_list p)) free ∙ no_container) (ap (listed q) (none_listed r nodes unused)) in
      weaker (λ (x : RegionId). r.0 ≢ x.0) (λ (x : RegionId). x.0 ≢ r.0) (λ x w e. w (sym e)) (steps_of nodes q) (unlisted r (steps_of nodes q) apart)

  extent_left : (q : RegionId) → q.0 ≢ r.0 → extent_in left q ≡ extent_in nodes q
  unfolding extent_in
  extent_left q k =
      let same = steps_of-without r m nodes a there free in
      let d = depth_by-inside (steps_of left) (steps_of nodes) (λ x. x.0 ≢ r.0) same closed longest q k in
      let w = weight_by-inside (steps_of left) (steps_of nodes) (λ x. x.0 ≢ r.0) same closed longest q k in
      ap (λ j. extent j (weight_of left q)) d ∙ ap (λ j. extent (depth_of nodes q) j) w

  module _ (i : ℕ) (d : Node) (l : i < length nodes) (at : has_id r (get_or nodes i d) ≡ true) where
    pub left_extents : remove (extents_in nodes) i ≡ extents_in left
    left_extents =
        left_beside (extent_in nodes) r nodes i d l a at
        ∙ map_same (λ (n : Node). extent_in nodes n.id) (λ (n : Node). extent_in left n.id) left
        (weaker (λ (n : Node). n.id.0 ≢ r.0) (λ n. extent_in nodes n.id ≡ extent_in left n.id) (λ n k. sym (extent_left n.id k)) left
        (others_left r nodes))

    -- each list without the region
    abbrev cut : RegionId → List RegionId
    cut q = filter (λ (x : RegionId). not (eqb x.0 r.0)) (aliases_of nodes q)

    cut_lists : remove (map (λ (n : Node). cut n.id) nodes) i ≡ aliases_in left
    cut_lists =
        left_beside cut r nodes i d l a at
        ∙ map_same (λ (n : Node). cut n.id) (λ (n : Node). aliases_of left n.id) left
        (weaker (λ (n : Node). n.id.0 ≢ r.0) (λ n. cut n.id ≡ aliases_of left n.id) (λ n k. sym (aliases_of-without r n.id nodes)) left
        (others_left r nodes))

    other_lists : (q : RegionId) → targets q m.kind ≡ false → cut q ≡ aliases_of nodes q
    other_lists q h = unlisted_kept r q nodes
        (weaker (λ n. has_id r n ≡ true → n ≡ m) (λ n. has_id r n ≡ true → targets q n.kind ≡ false)
        (λ n w t. ap (λ (x : Node). targets q x.kind) (w t) ∙ h) nodes (only_node nodes r m a there))

    pub left_plain : target_of m.kind ≡ None → remove (delisted (aliases_in nodes) None r) i ≡ aliases_in left
    left_plain e =
        ap (λ ls. remove ls i) (sym (map_same (λ (n : Node). cut n.id) (λ (n : Node). aliases_of nodes n.id) nodes (every_other nodes)))
        ∙ cut_lists
      where
        every_other : (ns : List Node) → Every (λ (n : Node). cut n.id ≡ aliases_of nodes n.id) ns
        every_other [] = tt
        every_other (n ∷ ns) = (other_lists n.id (targets_aims n.id m.kind ∙ ap (aims n.id) e), every_other ns)

    pub left_alias : (t : RegionId) → target_of m.kind ≡ Some t → (j : ℕ) (x : Node) → j < length nodes → (get_or nodes j x).id ≡ t →
        remove (delisted (aliases_in nodes) (Some j) r) i ≡ aliases_in left
    left_alias t e j x k here = ap (λ ls. remove ls i) written ∙ cut_lists
      where
        not_same : (u v : RegionId) → v.0 ≢ u.0 → eqb u.0 v.0 ≡ false
        not_same u v w = elim (eqb u.0 v.0) as (λ b. eqb u.0 v.0 ≡ b → b ≡ false) [ true ↦ λ s. absurd (w (grind (arith, nat_tests))) | false ↦ λ s. refl ] refl

        here_list : get_or (aliases_in nodes) j [] ≡ aliases_of nodes t
        here_list = get_or-map (λ (n : Node). aliases_of nodes n.id) nodes j x [] k ∙ ap (aliases_of nodes) here

        written : set (aliases_in nodes) j (filter (λ (y : RegionId). not (eqb y.0 r.0)) (get_or (aliases_in nodes) j [])) ≡ map (λ (n : Node). cut n.id) nodes
        written =
            ap (λ ys. set (aliases_in nodes) j (filter (λ (y : RegionId). not (eqb y.0 r.0)) ys)) here_list
            ∙ set_map (aliases_of nodes) cut t (λ q w. other_lists q (targets_aims q m.kind ∙ ap (aims q) e ∙ not_same t q w)) nodes a j x k here

-- what is kept beside the regions that are left
module _ (f : Forest) (slots : List Slot) (seen : f.nodes ≡ nodes_of slots) (a : IsAscending f.nodes) (r : RegionId) (m : Node)
    (there : node_of f.nodes r ≡ Some m) (free : m.parent ≡ None) (unused : Every (λ n. targets r n.kind ≡ false) f.nodes)
    (i : ℕ) (d : Node) (l : i < length f.nodes) (has : has_id r (get_or f.nodes i d) ≡ true) where
  lists_by : (o : Option RegionId) → target_of m.kind ≡ o → ((t : RegionId) → o ≡ Some t → is_some (node_of f.nodes t) ≡ true) → (at : Option ℕ) →
      IsTargetPlace slots o at → remove (delisted (aliases_in f.nodes) at r) i ≡ aliases_in (without r f.nodes)
  lists_by None e known None p = left_plain r m f.nodes a there free unused i d l has e
  lists_by None e known (Some j) p = let k = p.none refl in cc
  lists_by (Some t) e known None p = let k = p.some t refl (subst (λ ns. is_some (node_of ns t) ≡ true) seen (known t refl)) in cc
  lists_by (Some t) e known (Some j) p =
      let x = some_element slots j p.within in
      let here = id_of (nodes_of slots) t (get_or slots j x).node (p.there t refl x) in
      let at : (get_or f.nodes j x.node).id ≡ t = ap (λ ns. (get_or ns j x.node).id) seen
      ∙ ap (λ (n : Node). n.id) (get_or-map (λ (s : Slot). s.node) slots j x x.node p.within) ∙ here in
      let all = length_nodes slots in
      let same = ap length seen in
      let k = p.within in
      left_alias r m f.nodes a there free unused i d l has t e j x.node (omega arith) at

  pub dropped_beside : ((t : RegionId) → target_of m.kind ≡ Some t → is_some (node_of f.nodes t) ≡ true) → (at : Option ℕ) →
      IsTargetPlace slots (target_of m.kind) at → (k k' : Kept) → IsBeside k f.nodes → k'.fresh ≡ k.fresh →
      (k.fresh ≡ true → k'.extents.items ≡ remove k.extents.items i) → (k.fresh ≡ true → k'.aliases.items ≡ remove (delisted k.aliases.items at r) i) →
      IsBeside k' (without r f.nodes)
  dropped_beside known at p k k' b fresh x y = record {
    extents = λ t. let u = sym fresh ∙ t in x u ∙ ap (λ es. remove es i) (b.extents u) ∙ left_extents r m f.nodes a there free unused i d l has;
    aliases = λ t. let u = sym fresh ∙ t in y u ∙ ap (λ ls. remove (delisted ls at r) i) (b.aliases u) ∙ lists_by (target_of m.kind) refl known at p;
  }

-- the region that stands at its place
pub found_node_at : (nodes : List Node) (slots : List Slot) → nodes ≡ nodes_of slots → (i : ℕ) (d : Slot) → i < length slots → (i < length nodes)
    × (get_or nodes i d.node ≡ (get_or slots i d).node)
found_node_at nodes slots seen i d l =
    let all = length_nodes slots in
    let same = ap length seen in
    (omega arith, ap (λ ns. get_or ns i d.node) seen ∙ get_or-map (λ (s : Slot). s.node) slots i d d.node l)

pub has_itself : (r : RegionId) (n : Node) → n.id ≡ r → has_id r n ≡ true
has_itself r n e = let q : n.id.0 ≡ r.0 = ap (λ (v : RegionId). v.0) e in grind (arith, nat_tests)
