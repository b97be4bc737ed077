-- Where no changed region has other ways to it or from it, the same regions are reached.
use Rattle.std.proofs.Common.{◌≡◌, ℕ, zero, suc, ◌<◌, Bool, true, false, ◌||◌, List, [], ◌∷◌, map, filter, refl, sym, ap, ◌∙◌, subst}
use Rattle.std.proofs.Common.{if◌then◌else◌, Option, Some, None}
use Rattle.std.specs.Prelude.{◌==◌, pos}
use Rattle.std.specs.List.{list_any}
use Rattle.mem_base.specs.declared.map.ids.RegionId.{RegionId}
use Rattle.mem_base.specs.declared.map.ids.SpaceId.{SpaceId}
use Rattle.mem_base.specs.declared.map.forests.Node.{Node}
use Rattle.mem_base.specs.declared.map.forests.Forest.{Forest}
use Rattle.mem_base.specs.declared.map.kinds.Kind.TheVariants.{Container}
use Rattle.mem_base.specs.lists.Every.{Every}
use Rattle.mem_base.specs.map.Kinds.{target_of}
use Rattle.mem_base.specs.map.Region.{IsAscending, node_of, is_in, is_child_of}
use Rattle.mem_base.specs.map.Order.{trial_order, children_of, ids_of}
use Rattle.mem_base.specs.map.Steps.{steps_of, steps_from, steps_at, reaches_by, longest}
use Rattle.mem_base.specs.map.Search.{root_of}
use Rattle.mem_base.specs.map.Touched.{is_reached, is_reached_from, reached}
use Rattle.mem_base.proofs.ForestLaws.{id_of, node_of-itself}
use Rattle.view_laws.proofs.LiveLaws.{In, every_in}
use Rattle.view_laws.proofs.SortedLaws.{filter_in, filter_out, map_in, map_out, sorted_in, sorted_out, any_in, any_found}
use Rattle.view_laws.proofs.TouchedLaws.{found_in_list, unique}
use Rattle.change_laws.specs.Meeting.{is_among}
use Rattle.change_laws.specs.Reaching.{HasSameWays, KeepsWays}
use Rattle.mem_base.proofs.BoolLaws.{both_ways}
use Rattle.mem_base.proofs.NodeLaws.{steps_to_children, steps_to_target}

ways_same : (o p : Option Node) → o ≡ p → HasSameWays o p
ways_same o p e = subst (HasSameWays o) e (itself o)
  where
    itself : (o : Option Node) → HasSameWays o o
    itself None = tt
    itself (Some n) = (refl, refl)

ways_back : (o p : Option Node) → HasSameWays o p → HasSameWays p o
ways_back None None h = tt
ways_back None (Some m) h = absurd h
ways_back (Some n) None h = absurd h
ways_back (Some n) (Some m) h = (sym h.0, sym h.1)

abbrev AllKept : Forest → Forest → Type 0
AllKept f g = (r : RegionId) → HasSameWays (node_of f.nodes r) (node_of g.nodes r)

-- a child is one in the other forest too
child_there : (f g : Forest) → IsAscending f.nodes → AllKept f g → (q : RegionId) (p : RegionId → Bool) → list_any p (ids_of (children_of f.nodes q)) ≡ true
    → list_any p (ids_of (children_of g.nodes q)) ≡ true
child_there f g up all q p h =
    let t = any_found p (ids_of (children_of f.nodes q)) h in
    let c = map_in (λ (n : Node). n.id) t.0 (children_of f.nodes q) t.1 in
    let k = filter_in (is_child_of q) c.item f.nodes (sorted_in trial_order c.item (filter (is_child_of q) f.nodes) c.there) in
    let itself : node_of f.nodes c.item.id ≡ Some c.item = every_in (λ (n : Node). node_of f.nodes n.id ≡ Some n) c.item f.nodes
    (node_of-itself f.nodes up) k.0 in
    go c.item (subst (λ (x : RegionId). p x ≡ true) c.is t.2) k.1 (node_of g.nodes c.item.id) refl
    (subst (λ (o : Option Node). HasSameWays o (node_of g.nodes c.item.id)) itself (all c.item.id))
  where
    go : (c : Node) → p c.id ≡ true → is_child_of q c ≡ true → (o : Option Node) → node_of g.nodes c.id ≡ o → HasSameWays (Some c) o
        → list_any p (ids_of (children_of g.nodes q)) ≡ true
    go c h k None e w = absurd w
    go c h k (Some m) e w =
        let id : m.id ≡ c.id = id_of g.nodes c.id m e in
        let child : is_child_of q m ≡ true = ap (is_in q) (sym w.0) ∙ k in
        any_in p m.id (ids_of (children_of g.nodes q))
        (map_out (λ (n : Node). n.id) m (children_of g.nodes q)
        (sorted_out trial_order m (filter (is_child_of q) g.nodes) (filter_out (is_child_of q) m g.nodes (found_in_list g.nodes c.id m e) child)))
        (ap p id ∙ h)

module _ (f g : Forest) (up : IsAscending f.nodes) (vp : IsAscending g.nodes) (all : AllKept f g) where
  any_step : (p : RegionId → Bool) (r : RegionId) → list_any p (steps_of f.nodes r) ≡ list_any p (steps_of g.nodes r)
  any_step p r = go (node_of f.nodes r) (node_of g.nodes r) refl refl (all r)
    where
      target : (n m : Node) → node_of f.nodes r ≡ Some n → node_of g.nodes r ≡ Some m → (o : Option RegionId) → target_of n.kind ≡ o → target_of m.kind ≡ o
          → list_any p (steps_at f.nodes n.kind n) ≡ list_any p (steps_at g.nodes m.kind m)
      target n m e h (Some t) i j = ap (list_any p) (steps_to_target f.nodes n.kind n t i ∙ sym (steps_to_target g.nodes m.kind m t j))
      target n m e h None i j =
          let same : n.id ≡ m.id = id_of f.nodes r n e ∙ sym (id_of g.nodes r m h) in
          ap (list_any p) (steps_to_children f.nodes n.kind n i)
          ∙ both_ways _ _ (child_there f g up all n.id p) (child_there g f vp (λ q. ways_back (node_of f.nodes q) (node_of g.nodes q) (all q)) n.id p)
          ∙ ap (λ (q : RegionId). list_any p (ids_of (children_of g.nodes q))) same ∙ ap (list_any p) (sym (steps_to_children g.nodes m.kind m j))

      go : (x y : Option Node) → node_of f.nodes r ≡ x → node_of g.nodes r ≡ y → HasSameWays x y
          → list_any p (steps_from f.nodes x) ≡ list_any p (steps_from g.nodes y)
      go None None e h w = refl
      go None (Some m) e h w = absurd w
      go (Some n) None e h w = absurd w
      go (Some n) (Some m) e h w = target n m e h (target_of n.kind) refl (sym w.1)

  pub reaches_same : (m : ℕ) (r x : RegionId) → reaches_by (steps_of f.nodes) m r x ≡ reaches_by (steps_of g.nodes) m r x
  unfolding reaches_by
  reaches_same zero r x = refl
  reaches_same (suc m) r x =
      (λ i. (r.0 == x.0) || list_any (λ q. reaches_same m q x i) (steps_of f.nodes r))
      ∙ ap (λ (b : Bool). (r.0 == x.0) || b) (any_step (λ q. reaches_by (steps_of g.nodes) m q x) r)

  is_reached_same : (s : SpaceId) → root_of f s ≡ root_of g s → (r : RegionId) → is_reached f s r ≡ is_reached g s r
  is_reached_same s root r = go (root_of f s) ∙ ap (λ (o : Option RegionId). is_reached_from g.nodes o r) root
    where
      go : (o : Option RegionId) → is_reached_from f.nodes o r ≡ is_reached_from g.nodes o r
      go None = refl
      go (Some q) = reaches_same longest q r

ids_filter : (p : RegionId → Bool) (nodes : List Node) → ids_of (filter (λ n. p n.id) nodes) ≡ filter p (ids_of nodes)
ids_filter p [] = refl
ids_filter p (n ∷ ns) = go (p n.id) (ids_filter p ns)
  where
    go : (b : Bool) → ids_of (filter (λ n. p n.id) ns) ≡ filter p (ids_of ns)
        → ids_of (if b then n ∷ filter (λ n. p n.id) ns else filter (λ n. p n.id) ns) ≡ (if b then n.id ∷ filter p (ids_of ns) else filter p (ids_of ns))
    go true e = ap (λ (l : List RegionId). n.id ∷ l) e
    go false e = e

-- a region of this id and nothing else
abbrev bare : RegionId → Node
bare r = record {
  id = r;
  kind = Container;
  size = 0;
  parent = None;
  offset = 0;
  priority = pos 0;
  placing = 0;
  enabled = false;
  readonly = false;
  nonvolatile = false;
  romd = false;
  unmergeable = false;
  log = 0;
  entries = [];
  events = [];
}

bare_ids : (nodes : List Node) → ids_of (map (λ n. bare n.id) nodes) ≡ ids_of nodes
bare_ids [] = refl
bare_ids (n ∷ ns) = ap (λ (l : List RegionId). n.id ∷ l) (bare_ids ns)

bare_ascend : (nodes : List Node) → IsAscending nodes → IsAscending (map (λ n. bare n.id) nodes)
bare_ascend [] h = tt
bare_ascend (n ∷ ns) h = (each ns h.0, bare_ascend ns h.1)
  where
    each : (ms : List Node) → Every (λ m. n.id.0 < m.id.0) ms → Every (λ m. n.id.0 < m.id.0) (map (λ m. bare m.id) ms)
    each [] k = tt
    each (m ∷ ms) k = (k.0, each ms k.1)

-- each region of the one forest is in the other
bare_there : (f g : Forest) → IsAscending f.nodes → AllKept f g → (z : Node) → In z (map (λ n. bare n.id) f.nodes) → In z (map (λ n. bare n.id) g.nodes)
bare_there f g up all z m =
    let t = map_in (λ (n : Node). bare n.id) z f.nodes m in
    let itself : node_of f.nodes t.item.id ≡ Some t.item = every_in (λ (n : Node). node_of f.nodes n.id ≡ Some n) t.item f.nodes
    (node_of-itself f.nodes up) t.there in
    go t.item t.is (node_of g.nodes t.item.id) refl
    (subst (λ (o : Option Node). HasSameWays o (node_of g.nodes t.item.id)) itself (all t.item.id))
  where
    go : (n : Node) → z ≡ bare n.id → (o : Option Node) → node_of g.nodes n.id ≡ o → HasSameWays (Some n) o → In z (map (λ m. bare m.id) g.nodes)
    go n is None e h = absurd h
    go n is (Some m) e h =
        subst (λ y. In y (map (λ m. bare m.id) g.nodes)) (ap bare (id_of g.nodes n.id m e) ∙ sym is)
        (map_out (λ (m : Node). bare m.id) m g.nodes (found_in_list g.nodes n.id m e))

same_ids : (f g : Forest) → IsAscending f.nodes → IsAscending g.nodes → AllKept f g → ids_of f.nodes ≡ ids_of g.nodes
same_ids f g up vp all =
    sym (bare_ids f.nodes)
    ∙ ap ids_of (unique _ _ (bare_ascend f.nodes up) (bare_ascend g.nodes vp) (bare_there f g up all)
    (bare_there g f vp (λ r. ways_back (node_of f.nodes r) (node_of g.nodes r) (all r))))
    ∙ bare_ids g.nodes

pub same_are_reached : (rs : List RegionId) (f g : Forest) (s : SpaceId) → IsAscending f.nodes → IsAscending g.nodes → root_of f s ≡ root_of g s
    → KeepsWays rs f g → reached f s ≡ reached g s
same_are_reached rs f g s up vp root k =
    ids_filter (is_reached f s) f.nodes ∙ (λ i. filter (λ r. is_reached_same f g up vp all s root r i) (same_ids f g up vp all i))
    ∙ sym (ids_filter (is_reached g s) g.nodes)
  where
    all : AllKept f g
    all r = go (is_among rs r) refl
      where
        go : (b : Bool) → is_among rs r ≡ b → HasSameWays (node_of f.nodes r) (node_of g.nodes r)
        go true e = k.ways r e
        go false e = ways_same (node_of f.nodes r) (node_of g.nodes r) (k.others r e)
