-- Where a search comes from no container to a region that was placed otherwise, it finds the same in both forests.
use Rattle.std.proofs.Common.{◌≡◌, ℕ, zero, suc, ◌+◌, ◌-◌, Bool, true, false, ◌&&◌, ◌||◌, not, List, [], ◌∷◌, filter, refl, sym, ap, ◌∙◌, subst}
use Rattle.std.proofs.Common.{if◌then◌else◌, Option, Some, None}
use Rattle.std.specs.Prelude.{nat_le, option_map, option_and_then}
use Rattle.std.specs.Option.{option_or}
use Rattle.mem_base.specs.declared.map.ids.RegionId.{RegionId}
use Rattle.mem_base.specs.declared.map.ids.SpaceId.{SpaceId}
use Rattle.mem_base.specs.declared.map.forests.Node.{Node}
use Rattle.mem_base.specs.declared.map.forests.Forest.{Forest}
use Rattle.mem_base.specs.declared.map.kinds.Kind.{Kind}
use Rattle.mem_base.specs.declared.map.kinds.Kind.TheVariants.{Container, Ram, Rom, RomDevice, Io, Iommu, Alias, Reserve, Host}
use Rattle.mem_base.specs.lists.Every.{Every}
use Rattle.mem_base.specs.map.Limits.{most_depth}
use Rattle.mem_base.specs.map.Region.{IsAscending, node_of, is_child_of}
use Rattle.mem_base.specs.map.Order.{children_of}
use Rattle.mem_base.specs.map.Search.{Found, passed, itself, first_of_children, inside, at_node, found_in, found_at, root_of}
use Rattle.mem_base.proofs.EveryLaws.{weaker}
use Rattle.mem_base.proofs.ForestLaws.{node_of-itself, every_child}
use Rattle.change_laws.specs.Meeting.{is_among, Meeting, OthersStay}
use Rattle.change_laws.specs.Upward.{is_open}
use Rattle.change_laws.specs.Placing.{placed_child, placed_inside, placed_at, placed_in, placed_from, meets_placed, inner, DiffersInPlace, ChangesPlaces}
use Rattle.change_laws.proofs.MeetingLaws.{and_second, others, child_finds, same_children}
use Rattle.std.proofs.lemmas.Bool.{or_parts}

-- nothing is found in a region that is not open
closed_none : (f : Forest) (d : ℕ) (c : Node) (a : ℕ) → node_of f.nodes c.id ≡ Some c → is_open c a ≡ false → found_in f d c.id a ≡ None
unfolding found_in
closed_none f zero c a e o = refl
closed_none f (suc d) c a e o =
    ap (option_and_then (λ n. at_node f (found_in f d) n a)) e
    ∙ ap (λ (b : Bool). if b then option_map (passed c) (inside f (found_in f d) c.kind c a) else None) o

abbrev Itself : Forest → Node → Type 0
Itself f c = node_of f.nodes c.id ≡ Some c

-- the children that are asked for and not met may be left out
first_without : (f : Forest) (rs : List RegionId) (d : ℕ) (cs : List Node) (a : ℕ) → Every (Itself f) cs
    → placed_child rs (placed_in f rs d) cs a ≡ false
    → first_of_children (found_in f d) cs a ≡ first_of_children (found_in f d) (others rs cs) a
first_without f rs d [] a h m = refl
first_without f rs d (c ∷ cs) a h m = go (is_among rs c.id) refl (first_without f rs d cs a h.1 parts.1)
  where
    parts : ((nat_le c.offset a && ((is_among rs c.id && is_open c (a - c.offset)) || placed_in f rs d c.id (a - c.offset))) ≡ false)
        × (placed_child rs (placed_in f rs d) cs a ≡ false)
    parts = or_parts _ _ m

    none : is_among rs c.id ≡ true → (b : Bool)
        → (b && ((is_among rs c.id && is_open c (a - c.offset)) || placed_in f rs d c.id (a - c.offset))) ≡ false
        → (if b then found_in f d c.id (a - c.offset) else None) ≡ None
    none k true e = closed_none f d c (a - c.offset) h.0 (and_second _ _ (or_parts _ _ e).0 k)
    none k false e = refl

    go : (b : Bool) → is_among rs c.id ≡ b → first_of_children (found_in f d) cs a ≡ first_of_children (found_in f d) (others rs cs) a
        → option_or (child_finds (found_in f d) c a) (first_of_children (found_in f d) cs a)
        ≡ first_of_children (found_in f d) (if not b then c ∷ others rs cs else others rs cs) a
    go true k rest = ap (λ (x : Option Found). option_or x (first_of_children (found_in f d) cs a)) (none k (nat_le c.offset a) parts.0) ∙ rest
    go false k rest = ap (λ (x : Option Found). option_or (child_finds (found_in f d) c a) x) rest

unmet_part : (rs : List RegionId) (below : Meeting) (test : Node → Bool) (cs : List Node) (a : ℕ) → placed_child rs below cs a ≡ false
    → placed_child rs below (filter test cs) a ≡ false
unmet_part rs below test [] a m = refl
unmet_part rs below test (c ∷ cs) a m = go (test c) (or_parts _ _ m) (unmet_part rs below test cs a)
  where
    go : (b : Bool) → ((nat_le c.offset a && ((is_among rs c.id && is_open c (a - c.offset)) || below c.id (a - c.offset))) ≡ false)
        × (placed_child rs below cs a ≡ false)
        → (placed_child rs below cs a ≡ false → placed_child rs below (filter test cs) a ≡ false)
        → placed_child rs below (if b then c ∷ filter test cs else filter test cs) a ≡ false
    go true p rest = rw (p.0, rest p.1) refl
    go false p rest = rest p.1

-- of a node and of one that differs in its place, the search reads the same
itself_inner : (global : Bool) (k : Kind) (n : Node) (a : ℕ) → itself global k n a ≡ itself global k (inner n) a
itself_inner global Container n a = refl
itself_inner global _ n a = refl

module _ (rs : List RegionId) (f g : Forest) (up : IsAscending f.nodes) (vp : IsAscending g.nodes) (global : f.global ≡ g.global)
    (stay : OthersStay f g rs) (places : (r : RegionId) → is_among rs r ≡ true → DiffersInPlace (node_of f.nodes r) (node_of g.nodes r)) where
  abbrev Same : ℕ → Type 0
  Same d = (q : RegionId) (x : ℕ) → placed_in f rs d q x ≡ false → placed_in g rs d q x ≡ false → found_in f d q x ≡ found_in g d q x

  first_same : (d : ℕ) → Same d → (cs : List Node) (a : ℕ) → placed_child rs (placed_in f rs d) cs a ≡ false
      → placed_child rs (placed_in g rs d) cs a ≡ false → first_of_children (found_in f d) cs a ≡ first_of_children (found_in g d) cs a
  first_same d rec [] a m k = refl
  first_same d rec (c ∷ cs) a m k =
      let p = or_parts _ _ m in let q = or_parts _ _ k in
      λ i. option_or (one (nat_le c.offset a) p.0 q.0 i) (first_same d rec cs a p.1 q.1 i)
    where
      one : (b : Bool) → (b && ((is_among rs c.id && is_open c (a - c.offset)) || placed_in f rs d c.id (a - c.offset))) ≡ false
          → (b && ((is_among rs c.id && is_open c (a - c.offset)) || placed_in g rs d c.id (a - c.offset))) ≡ false
          → (if b then found_in f d c.id (a - c.offset) else None) ≡ (if b then found_in g d c.id (a - c.offset) else None)
      one true m k = rec c.id (a - c.offset) (or_parts _ _ m).1 (or_parts _ _ k).1
      one false m k = refl

  themselves : (h : Forest) → IsAscending h.nodes → (q : RegionId) → Every (Itself h) (children_of h.nodes q)
  themselves h hp q =
      every_child (Itself h) q h.nodes (weaker (Itself h) (λ n. is_child_of q n ≡ true → Itself h n) (λ n e t. e) h.nodes (node_of-itself h.nodes hp))

  children_same : (d : ℕ) → Same d → (q : RegionId) (a : ℕ) → placed_child rs (placed_in f rs d) (children_of f.nodes q) a ≡ false
      → placed_child rs (placed_in g rs d) (children_of g.nodes q) a ≡ false
      → first_of_children (found_in f d) (children_of f.nodes q) a ≡ first_of_children (found_in g d) (children_of g.nodes q) a
  children_same d rec q a m k =
      let alike : others rs (children_of f.nodes q) ≡ others rs (children_of g.nodes q) = same_children rs f g up vp global stay q in
      first_without f rs d (children_of f.nodes q) a (themselves f up q) m
      ∙ first_same d rec (others rs (children_of f.nodes q)) a (unmet_part rs (placed_in f rs d) _ (children_of f.nodes q) a m)
      (subst (λ (cs : List Node). placed_child rs (placed_in g rs d) cs a ≡ false) (sym alike)
      (unmet_part rs (placed_in g rs d) _ (children_of g.nodes q) a k))
      ∙ ap (λ (cs : List Node). first_of_children (found_in g d) cs a) alike
      ∙ sym (first_without g rs d (children_of g.nodes q) a (themselves g vp q) k)

  -- of one region, whose nodes differ in their places alone
  step_same : (d : ℕ) → Same d → (n o : Node) (a : ℕ) → n.id ≡ o.id → n.kind ≡ o.kind → is_open n a ≡ is_open o a
      → ((x : Option Found) → option_map (passed n) x ≡ option_map (passed o) x)
      → ((k : Kind) → itself f.global k n a ≡ itself f.global k o a)
      → placed_at f rs (placed_in f rs d) (Some n) a ≡ false → placed_at g rs (placed_in g rs d) (Some o) a ≡ false
      → at_node f (found_in f d) n a ≡ at_node g (found_in g d) o a
  step_same d rec n o a id kind opens pass own m k =
      go (is_open n a) refl m
      (subst (λ (b : Bool). (b && placed_inside g rs (placed_in g rs d) o.kind o a) ≡ false) (sym opens) k)
      ∙ ap (λ (b : Bool). if b then option_map (passed o) (inside g (found_in g d) o.kind o a) else None) opens
    where
      within : (w : Kind) → placed_inside f rs (placed_in f rs d) w n a ≡ false → placed_inside g rs (placed_in g rs d) w o a ≡ false
          → inside f (found_in f d) w n a ≡ inside g (found_in g d) w o a
      within (Alias target offset) m k = rec target (a + offset) m k
      within w m k =
          let far : placed_child rs (placed_in g rs d) (children_of g.nodes n.id) a ≡ false =
          subst (λ (q : RegionId). placed_child rs (placed_in g rs d) (children_of g.nodes q) a ≡ false) (sym id) k in
          let first : first_of_children (found_in f d) (children_of f.nodes n.id) a ≡ first_of_children (found_in g d) (children_of g.nodes o.id) a =
          children_same d rec n.id a m far ∙ ap (λ (q : RegionId). first_of_children (found_in g d) (children_of g.nodes q) a) id in
          let ends : itself f.global n.kind n a ≡ itself g.global o.kind o a =
          own n.kind ∙ (λ i. itself (global i) (kind i) o a) in
          λ i. option_or (first i) (ends i)

      go : (b : Bool) → is_open n a ≡ b → (b && placed_inside f rs (placed_in f rs d) n.kind n a) ≡ false
          → (b && placed_inside g rs (placed_in g rs d) o.kind o a) ≡ false
          → (if b then option_map (passed n) (inside f (found_in f d) n.kind n a) else None)
          ≡ (if b then option_map (passed o) (inside g (found_in g d) o.kind o a) else None)
      go true e m k =
          pass (inside f (found_in f d) n.kind n a)
          ∙ ap (option_map (passed o)) (within n.kind m (subst (λ (w : Kind). placed_inside g rs (placed_in g rs d) w o a ≡ false) (sym kind) k)
          ∙ ap (λ (w : Kind). inside g (found_in g d) w o a) kind)
      go false e m k = refl

  -- what a search reads of a node is not its place
  from_inner : (d : ℕ) → Same d → (n o : Node) (a : ℕ) → inner n ≡ inner (record o { priority = n.priority })
      → placed_at f rs (placed_in f rs d) (Some n) a ≡ false → placed_at g rs (placed_in g rs d) (Some o) a ≡ false
      → at_node f (found_in f d) n a ≡ at_node g (found_in g d) o a
  from_inner d rec n o a same m k =
      step_same d rec n o a (ap (λ (w : Node). w.id) same) (ap (λ (w : Node). w.kind) same) (ap (λ (w : Node). is_open w a) same)
      (λ x. ap (λ (w : Node). option_map (passed w) x) same)
      (λ w. itself_inner f.global w n a ∙ ap (λ (v : Node). itself f.global w v a) same ∙ itself_priority w)
      m k
    where
      itself_priority : (w : Kind) → itself f.global w (inner (record o { priority = n.priority })) a ≡ itself f.global w o a
      itself_priority Container = refl
      itself_priority Ram = refl
      itself_priority Rom = refl
      itself_priority (RomDevice x) = refl
      itself_priority (Io x) = refl
      itself_priority Iommu = refl
      itself_priority (Alias target offset) = refl
      itself_priority Reserve = refl
      itself_priority Host = refl

  pub same_found : (d : ℕ) → Same d
  unfolding found_in placed_in
  same_found zero r a m k = refl
  same_found (suc d) r a m k = go (node_of f.nodes r) (node_of g.nodes r) refl refl (differ (is_among rs r) refl) (same_found d) m k
    where
      itself_differs : (o : Option Node) → DiffersInPlace o o
      itself_differs None = tt
      itself_differs (Some n) = refl

      differ : (b : Bool) → is_among rs r ≡ b → DiffersInPlace (node_of f.nodes r) (node_of g.nodes r)
      differ true e = places r e
      differ false e = subst (DiffersInPlace (node_of f.nodes r)) (stay r e) (itself_differs (node_of f.nodes r))

      go : (x y : Option Node) → node_of f.nodes r ≡ x → node_of g.nodes r ≡ y → DiffersInPlace x y → Same d → placed_at f rs (placed_in f rs d) x a ≡ false
          → placed_at g rs (placed_in g rs d) y a ≡ false
          → option_and_then (λ n. at_node f (found_in f d) n a) x ≡ option_and_then (λ n. at_node g (found_in g d) n a) y
      go None None e h w rec m k = refl
      go None (Some o) e h w rec m k = absurd w
      go (Some n) None e h w rec m k = absurd w
      go (Some n) (Some o) e h w rec m k = from_inner d rec n o a w m k

-- of a space
pub stays_where_none_is_placed : (rs : List RegionId) (f g : Forest) (s : SpaceId) → IsAscending f.nodes → IsAscending g.nodes → ChangesPlaces rs f g s
    → (a : ℕ) → meets_placed f rs s a ≡ false → meets_placed g rs s a ≡ false → found_at f s a ≡ found_at g s a
stays_where_none_is_placed rs f g s up vp only a m k = go (root_of f s) m
    (subst (λ (o : Option RegionId). placed_from g rs o a ≡ false) (sym only.root) k)
    ∙ ap (λ (o : Option RegionId). option_and_then (λ r. found_in g most_depth r a) o) only.root
  where
    go : (o : Option RegionId) → placed_from f rs o a ≡ false → placed_from g rs o a ≡ false
        → option_and_then (λ r. found_in f most_depth r a) o ≡ option_and_then (λ r. found_in g most_depth r a) o
    go None m k = refl
    go (Some r) m k = same_found rs f g up vp only.global only.others only.places most_depth r a m k
