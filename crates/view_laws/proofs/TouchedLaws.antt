-- A space that is not touched has the same view in both forests.
use Rattle.std.proofs.Common.{◌≡◌, ℕ, zero, suc, ◌+◌, ◌-◌, ◌<◌, ◌≤◌, eq-eqb, Bool, true, false, ◌&&◌, ◌||◌, List, [], ◌∷◌, ◌++◌, map, sym}
use Rattle.std.proofs.Common.{refl, ap, ◌∙◌, subst, inl, inr, arith, if◌then◌else◌, Option, Some, None}
use Rattle.std.specs.Prelude.{◌==◌, ◌^◌, not, nat_lt, nat_le, filter, is_some, option_map, option_and_then}
use Rattle.std.specs.Option.{option_or}
use Rattle.std.specs.List.{list_any}
use Rattle.std.specs.declared.cmp.Ordering.{Ordering}
use Rattle.std.specs.declared.cmp.Ordering.TheVariants.{Less, Equal, Greater}
use Rattle.std.specs.Ordering.{is_lt, is_eq, int_cmp}
use Rattle.std.proofs.lemmas.Bool.{eqb-true, or_parts, not-false, and_parts, or_left, or_right}
use Rattle.mem_base.specs.declared.map.ids.RegionId.{RegionId}
use Rattle.mem_base.specs.declared.map.ids.SpaceId.{SpaceId}
use Rattle.mem_base.specs.declared.map.forests.Node.{Node}
use Rattle.mem_base.specs.declared.map.forests.Forest.{Forest}
use Rattle.mem_base.specs.declared.map.kinds.Kind.{Kind}
use Rattle.mem_base.specs.declared.map.kinds.Kind.TheVariants.{Container, Ram, Rom, RomDevice, Io, Iommu, Alias, Reserve, Host}
use Rattle.mem_base.specs.declared.map.kinds.Device.{Device}
use Rattle.mem_base.specs.declared.map.kinds.DeviceKind.{DeviceKind}
use Rattle.mem_base.specs.declared.map.kinds.DeviceKind.TheVariants.{Latch, Count, Bell, Fault}
use Rattle.mem_base.specs.declared.map.kinds.Ops.{Ops}
use Rattle.mem_base.specs.lists.Booleans.{bool_eq}
use Rattle.mem_base.specs.lists.Every.{Every}
use Rattle.mem_base.specs.lists.Sorting.{put_by, sorted_by}
use Rattle.mem_base.specs.map.Limits.{most_depth}
use Rattle.mem_base.specs.map.Region.{IsAscending, has_id, node_of, is_in, is_child_of}
use Rattle.mem_base.specs.map.Kinds.{is_alias}
use Rattle.mem_base.specs.map.Order.{trial_order, children_of, ids_of}
use Rattle.mem_base.specs.map.Steps.{Steps, steps_at, steps_of, reaches_by, longest}
use Rattle.mem_base.specs.map.Search.{Found, Search, passed, itself, first_of_children, inside, at_node, found_in, found_at, root_of, spot_of, path_of}
use Rattle.mem_base.specs.map.Touched.{is_reached, is_reached_from, reached, is_same_region, is_same_device_kind, is_same_ops}
use Rattle.mem_base.specs.map.Touched.{is_same_device, is_same_kind, looks_alike, stays_alike, is_touched}
use Rattle.mem_base.specs.views.Flattened.{ranges_from, view_of}
use Rattle.mem_base.proofs.ForestLaws.{id_of, node_of-itself}
use Rattle.view_laws.proofs.Tests.{none_is_not_some, same_region}
use Rattle.view_laws.proofs.LiveLaws.{In, every_in, same_int}
use Rattle.view_laws.proofs.SortedLaws.{any_in, filter_in, filter_out, each_in, map_in, map_out, sorted_out}
use Rattle.mem_base.proofs.BoolLaws.{bool_same, true_is_not_false}
use Rattle.std.proofs.lemmas.Option.{same_Some}

-- what tests call the same is the same

device_kind_same : (x y : DeviceKind) → is_same_device_kind x y ≡ true → x ≡ y
device_kind_same Latch Latch h = refl
device_kind_same Count Count h = refl
device_kind_same Bell Bell h = refl
device_kind_same Fault Fault h = refl
device_kind_same x y h = absurd (grind arith)

ops_same : (x y : Ops) → is_same_ops x y ≡ true → x ≡ y
ops_same x y h =
    let g = and_parts _ _ h in let f = and_parts _ _ g.0 in let e = and_parts _ _ f.0 in
    let d = and_parts _ _ e.0 in let c = and_parts _ _ d.0 in let b = and_parts _ _ c.0 in
    let valid_min = eqb-true x.valid_min y.valid_min b.0 in let valid_max = eqb-true x.valid_max y.valid_max b.1 in
    let valid_unaligned = bool_same x.valid_unaligned y.valid_unaligned c.1 in
    let impl_min = eqb-true x.impl_min y.impl_min d.1 in let impl_max = eqb-true x.impl_max y.impl_max e.1 in
    let impl_unaligned = bool_same x.impl_unaligned y.impl_unaligned f.1 in let big = bool_same x.big y.big g.1 in
    λ i. record {
      valid_min = valid_min i;
      valid_max = valid_max i;
      valid_unaligned = valid_unaligned i;
      impl_min = impl_min i;
      impl_max = impl_max i;
      impl_unaligned = impl_unaligned i;
      big = big i;
    }

device_same : (x y : Device) → is_same_device x y ≡ true → x ≡ y
device_same x y h =
    let b = and_parts _ _ h in let a = and_parts _ _ b.0 in
    let kind = device_kind_same x.kind y.kind a.0 in let regs = eqb-true x.regs y.regs a.1 in let ops = ops_same x.ops y.ops b.1 in
    λ i. record { kind = kind i; regs = regs i; ops = ops i }

pub kind_same : (x y : Kind) → is_same_kind x y ≡ true → x ≡ y
kind_same Container Container h = refl
kind_same Ram Ram h = refl
kind_same Rom Rom h = refl
kind_same (RomDevice x) (RomDevice y) h = ap (λ (d : Device). RomDevice d) (device_same x y h)
kind_same (Io x) (Io y) h = ap (λ (d : Device). Io d) (device_same x y h)
kind_same Iommu Iommu h = refl
kind_same (Alias r x) (Alias q y) h =
    let p = and_parts _ _ h in let target = same_region r q (eqb-true r.0 q.0 p.0) in let offset = eqb-true x y p.1 in λ i. Alias (target i) (offset i)
kind_same Reserve Reserve h = refl
kind_same Host Host h = refl
kind_same x y h = absurd (grind arith)

pub region_same : (x y : Option RegionId) → is_same_region x y ≡ true → x ≡ y
region_same None None h = refl
region_same (Some r) (Some q) h = ap (λ (z : RegionId). Some z) (same_region r q (eqb-true r.0 q.0 h))
region_same None (Some q) h = absurd (grind arith)
region_same (Some r) None h = absurd (grind arith)

-- a region without its translations and ioeventfds, which no view shows
abbrev shape : Node → Node
shape n = record n { entries = []; events = [] }

pub is_equal : (o : Ordering) → is_eq o ≡ true → o ≡ Equal
is_equal Less h = absurd (grind arith)
is_equal Equal h = refl
is_equal Greater h = absurd (grind arith)

alike_shape : (n m : Node) → n.id ≡ m.id → looks_alike n m ≡ true → shape n ≡ shape m
alike_shape n m same h =
    let l = and_parts _ _ h in let k = and_parts _ _ l.0 in let j = and_parts _ _ k.0 in let i = and_parts _ _ j.0 in
    let g = and_parts _ _ i.0 in let f = and_parts _ _ g.0 in let e = and_parts _ _ f.0 in let d = and_parts _ _ e.0 in
    let c = and_parts _ _ d.0 in let b = and_parts _ _ c.0 in let a = and_parts _ _ b.0 in
    let kind = kind_same n.kind m.kind a.0 in let size = eqb-true n.size m.size a.1 in
    let parent = region_same n.parent m.parent b.1 in let offset = eqb-true n.offset m.offset c.1 in
    let priority = same_int n.priority m.priority (is_equal (int_cmp n.priority m.priority) d.1) in let placing = eqb-true n.placing m.placing e.1 in
    let enabled = bool_same n.enabled m.enabled f.1 in let readonly = bool_same n.readonly m.readonly g.1 in
    let nonvolatile = bool_same n.nonvolatile m.nonvolatile i.1 in let romd = bool_same n.romd m.romd j.1 in
    let unmergeable = bool_same n.unmergeable m.unmergeable k.1 in let log = eqb-true n.log m.log l.1 in
    λ z. record {
      id = same z;
      kind = kind z;
      size = size z;
      parent = parent z;
      offset = offset z;
      priority = priority z;
      placing = placing z;
      enabled = enabled z;
      readonly = readonly z;
      nonvolatile = nonvolatile z;
      romd = romd z;
      unmergeable = unmergeable z;
      log = log z;
      entries = [];
      events = [];
    }

-- one step of the search, by the shapes of a region and of its children

abbrev inside_of : Bool → List Node → Search → Kind → Node → ℕ → Option Found
inside_of global cs below (Alias target offset) n a = below target (a + offset)
inside_of global cs below _ n a = option_or (first_of_children below cs a) (itself global n.kind n a)

abbrev step : Bool → List Node → Search → Node → ℕ → Option Found
step global cs below n a =
    if n.enabled && nat_lt a n.size then option_map (passed n) (inside_of global cs below n.kind n a) else None

first_shapes : (below : Search) (cs : List Node) (a : ℕ) → first_of_children below cs a ≡ first_of_children below (map shape cs) a
first_shapes below [] a = refl
first_shapes below (c ∷ cs) a = ap (λ (x : Option Found). option_or (if nat_le c.offset a then below c.id (a - c.offset) else None) x) (first_shapes below cs a)

itself_shape : (global : Bool) (k : Kind) (n : Node) (a : ℕ) → itself global k n a ≡ itself global k (shape n) a
itself_shape global Container n a = refl
itself_shape global _ n a = refl

step_is : (f : Forest) (below : Search) (n : Node) (a : ℕ) → at_node f below n a ≡ step f.global (map shape (children_of f.nodes n.id)) below (shape n) a
step_is f below n a = ap (λ (x : Option Found). if n.enabled && nat_lt a n.size then option_map (passed n) x else None) (go n.kind)
  where
    rest : option_or (first_of_children below (children_of f.nodes n.id) a) (itself f.global n.kind n a)
        ≡ option_or (first_of_children below (map shape (children_of f.nodes n.id)) a) (itself f.global n.kind (shape n) a)
    rest i = option_or (first_shapes below (children_of f.nodes n.id) a i) (itself_shape f.global n.kind n a i)

    go : (k : Kind) → inside f below k n a ≡ inside_of f.global (map shape (children_of f.nodes n.id)) below k (shape n) a
    go (Alias target offset) = refl
    go k = rest

-- two searches agree below a region
abbrev Agrees : Search → Search → Kind → List Node → Type 0
Agrees b d (Alias target offset) cs = (x : ℕ) → b target x ≡ d target x
Agrees b d _ cs = Every (λ c. (x : ℕ) → b c.id x ≡ d c.id x) cs

first_below : (b d : Search) (cs : List Node) (a : ℕ) → Every (λ c. (x : ℕ) → b c.id x ≡ d c.id x) cs → first_of_children b cs a ≡ first_of_children d cs a
first_below b d [] a h = refl
first_below b d (c ∷ cs) a h = λ i. option_or (if nat_le c.offset a then h.0 (a - c.offset) i else None) (first_below b d cs a h.1 i)

step_below : (global : Bool) (cs : List Node) (b d : Search) (n : Node) (a : ℕ) → Agrees b d n.kind cs → step global cs b n a ≡ step global cs d n a
step_below global cs b d n a h = ap (λ (x : Option Found). if n.enabled && nat_lt a n.size then option_map (passed n) x else None) (go n.kind h)
  where
    go : (k : Kind) → Agrees b d k cs → inside_of global cs b k n a ≡ inside_of global cs d k n a
    go (Alias target offset) h = h (a + offset)
    go k h = ap (λ (x : Option Found). option_or x (itself global n.kind n a)) (first_below b d cs a h)

-- an alias asks no children
step_alias : (global : Bool) (cs ds : List Node) (b : Search) (n : Node) (a : ℕ) → is_alias n.kind ≡ true → step global cs b n a ≡ step global ds b n a
step_alias global cs ds b n a h = ap (λ (x : Option Found). if n.enabled && nat_lt a n.size then option_map (passed n) x else None) (go n.kind h)
  where
    go : (k : Kind) → is_alias k ≡ true → inside_of global cs b k n a ≡ inside_of global ds b k n a
    go (Alias target offset) h = refl
    go k h = absurd (grind arith)

-- children in order, by their shapes

map_put : (x : Node) (xs : List Node) → map shape (put_by trial_order x xs) ≡ put_by trial_order (shape x) (map shape xs)
map_put x [] = refl
map_put x (y ∷ ys) = go (is_lt (trial_order x y)) (map_put x ys)
  where
    go : (b : Bool) → map shape (put_by trial_order x ys) ≡ put_by trial_order (shape x) (map shape ys)
        → map shape (if b then x ∷ y ∷ ys else y ∷ put_by trial_order x ys)
        ≡ (if b then shape x ∷ shape y ∷ map shape ys else shape y ∷ put_by trial_order (shape x) (map shape ys))
    go true rest = refl
    go false rest = ap (λ (zs : List Node). shape y ∷ zs) rest

map_sorted : (xs : List Node) → map shape (sorted_by trial_order xs) ≡ sorted_by trial_order (map shape xs)
map_sorted [] = refl
map_sorted (x ∷ xs) = map_put x (sorted_by trial_order xs) ∙ ap (put_by trial_order (shape x)) (map_sorted xs)

ids_shapes : (xs : List Node) → ids_of (map shape xs) ≡ ids_of xs
ids_shapes [] = refl
ids_shapes (x ∷ xs) = ap (λ (rs : List RegionId). x.id ∷ rs) (ids_shapes xs)

ascending_shapes : (xs : List Node) → IsAscending xs → IsAscending (map shape xs)
ascending_shapes [] h = tt
ascending_shapes (x ∷ xs) h = (go xs h.0, ascending_shapes xs h.1)
  where
    go : (ys : List Node) → Every (λ m. x.id.0 < m.id.0) ys → Every (λ m. x.id.0 < m.id.0) (map shape ys)
    go [] k = tt
    go (y ∷ ys) k = (k.0, go ys k.1)

pub ascending_filter : (test : Node → Bool) (xs : List Node) → IsAscending xs → IsAscending (filter test xs)
ascending_filter test [] h = tt
ascending_filter test (x ∷ xs) h = go (test x) (ascending_filter test xs h.1)
  where
    go : (b : Bool) → IsAscending (filter test xs) → IsAscending (if b then x ∷ filter test xs else filter test xs)
    go true rest = (each_in (λ m. x.id.0 < m.id.0) (filter test xs) (λ z m. every_in (λ m. x.id.0 < m.id.0) z xs h.0 (filter_in test z xs m).0), rest)
    go false rest = rest

-- ascending regions that are the same by their elements are the same
pub unique : (xs ys : List Node) → IsAscending xs → IsAscending ys → ((z : Node) → In z xs → In z ys) → ((z : Node) → In z ys → In z xs) → xs ≡ ys
unique [] [] h k f g = refl
unique [] (y ∷ ys) h k f g = absurd (g y (inl refl))
unique (x ∷ xs) [] h k f g = absurd (f x (inl refl))
unique (x ∷ xs) (y ∷ ys) h k f g =
    let same : x ≡ y = head (f x (inl refl)) (g y (inl refl)) in
    let rest : xs ≡ ys = unique xs ys h.1 k.1
    (λ z m. tail y ys (f z (inr m)) (λ e. later x xs h.0 z m (e ∙ sym same)))
    (λ z m. tail x xs (g z (inr m)) (λ e. later y ys k.0 z m (e ∙ same))) in
    λ i. same i ∷ rest i
  where
    head : In x (y ∷ ys) → In y (x ∷ xs) → x ≡ y
    head (inl e) m = e
    head (inr l) (inl e) = sym e
    head (inr l) (inr m) =
        let p = every_in (λ z. x.id.0 < z.id.0) y xs h.0 m in let q = every_in (λ z. y.id.0 < z.id.0) x ys k.0 l in absurd (omega arith)

    tail : {z : Node} (w : Node) (ws : List Node) → In z (w ∷ ws) → (z ≡ w → ⊥) → In z ws
    tail w ws (inl e) ne = absurd (ne e)
    tail w ws (inr m) ne = m

    later : (w : Node) (ws : List Node) → Every (λ z. w.id.0 < z.id.0) ws → (z : Node) → In z ws → z ≡ w → ⊥
    later w ws h z m e =
        let l = every_in (λ z. w.id.0 < z.id.0) z ws h m in let s = ap (λ (n : Node). n.id.0) e in absurd (omega arith)

-- a region that is found is one of the list
pub found_in_list : (nodes : List Node) (q : RegionId) (n : Node) → node_of nodes q ≡ Some n → In n nodes
found_in_list [] q n e = none_is_not_some n e
found_in_list (x ∷ xs) q n e = go (has_id q x) e (found_in_list xs q n)
  where
    go : (b : Bool) → (if b then Some x else node_of xs q) ≡ Some n → (node_of xs q ≡ Some n → In n xs) → In n (x ∷ xs)
    go true e rest = inl (sym (same_Some x n e))
    go false e rest = inr (rest e)

-- which regions a step leads to

steps_plain : (nodes : List Node) (k : Kind) (n : Node) → is_alias k ≡ false → steps_at nodes k n ≡ ids_of (children_of nodes n.id)
steps_plain nodes (Alias target offset) n h = absurd (grind arith)
steps_plain nodes k n h = refl

reaches_itself : (steps : Steps) (m : ℕ) (r : RegionId) → reaches_by steps (suc m) r r ≡ true
unfolding reaches_by
reaches_itself steps m r = rw (eq-eqb r.0 r.0 refl) refl

reaches_on : (steps : Steps) (m : ℕ) (r q x : RegionId) → In q (steps r) → reaches_by steps m q x ≡ true → reaches_by steps (suc m) r x ≡ true
unfolding reaches_by
reaches_on steps m r q x l h = or_right (r.0 == x.0) _ (any_in (λ (q : RegionId). reaches_by steps m q x) q (steps r) l h)

-- a longer path may be looked for
reaches_longer : (steps : Steps) (m k : ℕ) (r x : RegionId) → m ≤ k → reaches_by steps m r x ≡ true → reaches_by steps k r x ≡ true
unfolding reaches_by
reaches_longer steps zero k r x l h = absurd (grind arith)
reaches_longer steps (suc m) zero r x l h = absurd (omega arith)
reaches_longer steps (suc m) (suc k) r x l h = go (r.0 == x.0) h (λ q. reaches_longer steps m k q x (omega arith))
  where
    every : (qs : List RegionId) → ((q : RegionId) → reaches_by steps m q x ≡ true → reaches_by steps k q x ≡ true)
        → list_any (λ q. reaches_by steps m q x) qs ≡ true → list_any (λ q. reaches_by steps k q x) qs ≡ true
    every [] f h = absurd (grind arith)
    every (q ∷ qs) f h = at (reaches_by steps m q x) refl h (every qs f)
      where
        at : (b : Bool) → reaches_by steps m q x ≡ b → (b || list_any (λ q. reaches_by steps m q x) qs) ≡ true
            → (list_any (λ q. reaches_by steps m q x) qs ≡ true → list_any (λ q. reaches_by steps k q x) qs ≡ true)
            → (reaches_by steps k q x || list_any (λ q. reaches_by steps k q x) qs) ≡ true
        at true e h rest = or_left (reaches_by steps k q x) _ (f q e)
        at false e h rest = or_right (reaches_by steps k q x) _ (rest h)

    go : (b : Bool) → (b || list_any (λ q. reaches_by steps m q x) (steps r)) ≡ true
        → ((q : RegionId) → reaches_by steps m q x ≡ true → reaches_by steps k q x ≡ true) → (b || list_any (λ q. reaches_by steps k q x) (steps r)) ≡ true
    go true h f = refl
    go false h f = every (steps r) f h

-- two forests of which what is reached looks alike

module _ (f g : Forest) (up : IsAscending f.nodes) (vp : IsAscending g.nodes) (global : f.global ≡ g.global) where
  abbrev alike : RegionId → Bool
  alike q = stays_alike (node_of f.nodes q) (node_of g.nodes q)

  -- what is reached from a region in either forest, over paths of at most `m` regions, looks alike in both
  record Checked (m : ℕ) (r : RegionId) : Type 0 where
    there : (q : RegionId) → reaches_by (steps_of f.nodes) m r q ≡ true → is_some (node_of f.nodes q) ≡ true → alike q ≡ true
    here : (q : RegionId) → reaches_by (steps_of g.nodes) m r q ≡ true → is_some (node_of g.nodes q) ≡ true → alike q ≡ true

  alike_at : (m : ℕ) (r : RegionId) → Checked (suc m) r → alike r ≡ true
  alike_at m r k = go (node_of f.nodes r) (node_of g.nodes r) refl refl
    where
      go : (x y : Option Node) → node_of f.nodes r ≡ x → node_of g.nodes r ≡ y → alike r ≡ true
      go (Some n) y d e = k.there r (reaches_itself (steps_of f.nodes) m r) (ap (λ (o : Option Node). is_some o) d)
      go None (Some n) d e = k.here r (reaches_itself (steps_of g.nodes) m r) (ap (λ (o : Option Node). is_some o) e)
      go None None d e = rw (d, e) refl

  -- a child of a region that is no alias is reached
  child_step : (nodes : List Node) (r : RegionId) (n c : Node) → node_of nodes r ≡ Some n → n.id ≡ r → is_alias n.kind ≡ false → In c nodes
      → is_child_of r c ≡ true → In c.id (steps_of nodes r)
  child_step nodes r n c e s plain m child =
      let kids : In c (children_of nodes r) = sorted_out trial_order c (filter (is_child_of r) nodes) (filter_out (is_child_of r) c nodes m child) in
      let steps : steps_of nodes r ≡ ids_of (children_of nodes r) =
      rw e (steps_plain nodes n.kind n plain ∙ ap (λ (q : RegionId). ids_of (children_of nodes q)) s) in
      subst (λ (rs : List RegionId). In c.id rs) (sym steps) (map_out (λ (n : Node). n.id) c (children_of nodes r) kids)

  -- what is reached from below is reached
  checked_on : (m : ℕ) (r q : RegionId) → Checked (suc m) r → In q (steps_of f.nodes r) → In q (steps_of g.nodes r) → Checked m q
  checked_on m r q k l n = record {
    there = λ x h e. k.there x (reaches_on (steps_of f.nodes) m r q x l h) e;
    here = λ x h e. k.here x (reaches_on (steps_of g.nodes) m r q x n h) e;
  }

  abbrev kids : List Node → RegionId → List Node
  kids nodes r = map shape (filter (is_child_of r) nodes)

  kids_ascend : (nodes : List Node) (r : RegionId) → IsAscending nodes → IsAscending (kids nodes r)
  kids_ascend nodes r h = ascending_shapes (filter (is_child_of r) nodes) (ascending_filter (is_child_of r) nodes h)

  -- a child in one forest is a child in the other, with the same shape
  module _ (m : ℕ) (r : RegionId) (k : Checked (suc (suc m)) r) where
    there_here : (n : Node) → node_of f.nodes r ≡ Some n → is_alias n.kind ≡ false → (z : Node) → In z (kids f.nodes r) → In z (kids g.nodes r)
    there_here n e plain z l =
        let t = map_in shape z (filter (is_child_of r) f.nodes) l in
        let p = filter_in (is_child_of r) t.item f.nodes t.there in
        let itself : node_of f.nodes t.item.id ≡ Some t.item = every_in (λ (c : Node). node_of f.nodes c.id ≡ Some c) t.item f.nodes
        (node_of-itself f.nodes up) p.0 in
        let step = child_step f.nodes r n t.item e (id_of f.nodes r n e) plain p.0 p.1 in
        let ok : alike t.item.id ≡ true =
        k.there t.item.id (reaches_on (steps_of f.nodes) (suc m) r t.item.id t.item.id step (reaches_itself (steps_of f.nodes) m t.item.id))
        (ap (λ (o : Option Node). is_some o) itself) in
        subst (λ (y : Node). In y (kids g.nodes r)) (sym t.is)
        (go t.item p.1 (node_of g.nodes t.item.id) refl (subst (λ (o : Option Node). stays_alike o (node_of g.nodes t.item.id) ≡ true) itself ok))
      where
        go : (c : Node) → is_child_of r c ≡ true → (o : Option Node) → node_of g.nodes c.id ≡ o → stays_alike (Some c) o ≡ true → In (shape c) (kids g.nodes r)
        go c child None e h = absurd (grind arith)
        go c child (Some y) e h =
            let same : shape c ≡ shape y = alike_shape c y (sym (id_of g.nodes c.id y e)) h in
            subst (λ (w : Node). In w (kids g.nodes r)) (sym same)
            (map_out shape y (filter (is_child_of r) g.nodes)
            (filter_out (is_child_of r) y g.nodes (found_in_list g.nodes c.id y e) (subst (λ (w : Node). is_in r w.parent ≡ true) same child)))

    here_there : (n : Node) → node_of g.nodes r ≡ Some n → is_alias n.kind ≡ false → (z : Node) → In z (kids g.nodes r) → In z (kids f.nodes r)
    here_there n e plain z l =
        let t = map_in shape z (filter (is_child_of r) g.nodes) l in
        let p = filter_in (is_child_of r) t.item g.nodes t.there in
        let itself : node_of g.nodes t.item.id ≡ Some t.item = every_in (λ (c : Node). node_of g.nodes c.id ≡ Some c) t.item g.nodes
        (node_of-itself g.nodes vp) p.0 in
        let step = child_step g.nodes r n t.item e (id_of g.nodes r n e) plain p.0 p.1 in
        let ok : alike t.item.id ≡ true =
        k.here t.item.id (reaches_on (steps_of g.nodes) (suc m) r t.item.id t.item.id step (reaches_itself (steps_of g.nodes) m t.item.id))
        (ap (λ (o : Option Node). is_some o) itself) in
        subst (λ (y : Node). In y (kids f.nodes r)) (sym t.is)
        (go t.item p.1 (node_of f.nodes t.item.id) refl (subst (λ (o : Option Node). stays_alike (node_of f.nodes t.item.id) o ≡ true) itself ok))
      where
        go : (c : Node) → is_child_of r c ≡ true → (o : Option Node) → node_of f.nodes c.id ≡ o → stays_alike o (Some c) ≡ true → In (shape c) (kids f.nodes r)
        go c child None e h = absurd (grind arith)
        go c child (Some y) e h =
            let same : shape y ≡ shape c = alike_shape y c (id_of f.nodes c.id y e) h in
            subst (λ (w : Node). In w (kids f.nodes r)) same
            (map_out shape y (filter (is_child_of r) f.nodes)
            (filter_out (is_child_of r) y f.nodes (found_in_list f.nodes c.id y e) (subst (λ (w : Node). is_in r w.parent ≡ true) (sym same) child)))

    same_children : (n o : Node) → node_of f.nodes r ≡ Some n → node_of g.nodes r ≡ Some o → is_alias n.kind ≡ false → is_alias o.kind ≡ false
        → map shape (children_of f.nodes r) ≡ map shape (children_of g.nodes r)
    same_children n o e h plain bare =
        map_sorted (filter (is_child_of r) f.nodes)
        ∙ ap (sorted_by trial_order) (unique (kids f.nodes r) (kids g.nodes r) (kids_ascend f.nodes r up) (kids_ascend g.nodes r vp)
        (there_here n e plain) (here_there o h bare))
        ∙ sym (map_sorted (filter (is_child_of r) g.nodes))

  -- the same is found
  same_found : (d : ℕ) (r : RegionId) → Checked (suc d) r → (a : ℕ) → found_in f d r a ≡ found_in g d r a
  unfolding found_in
  same_found zero r k a = refl
  same_found (suc d) r k a = go (node_of f.nodes r) (node_of g.nodes r) refl refl (alike_at (suc d) r k) (same_found d)
    where
      plain_or : (n o : Node) → shape n ≡ shape o → node_of f.nodes r ≡ Some n → node_of g.nodes r ≡ Some o
          → ((q : RegionId) → Checked (suc d) q → (x : ℕ) → found_in f d q x ≡ found_in g d q x) → (b : Bool) → is_alias n.kind ≡ b
          → at_node f (found_in f d) n a ≡ at_node g (found_in g d) o a
      plain_or n o same e h rec true is =
          let kind : n.kind ≡ o.kind = ap (λ (w : Node). w.kind) same in
          step_is f (found_in f d) n a
          ∙ step_below f.global (map shape (children_of f.nodes n.id)) (found_in f d) (found_in g d) (shape n) a (agree n.kind refl is)
          ∙ step_alias f.global (map shape (children_of f.nodes n.id)) (map shape (children_of g.nodes o.id)) (found_in g d) (shape n) a is
          ∙ (λ i. step (global i) (map shape (children_of g.nodes o.id)) (found_in g d) (same i) a)
          ∙ sym (step_is g (found_in g d) o a)
        where
          agree : (w : Kind) → n.kind ≡ w → is_alias w ≡ true → Agrees (found_in f d) (found_in g d) w (map shape (children_of f.nodes n.id))
          agree (Alias target offset) s l = λ x. rec target (checked_on (suc d) r target k
              (rw (e, s) (inl refl)) (rw (h, sym (ap (λ (v : Node). v.kind) same) ∙ s) (inl refl))) x
          agree w s l = absurd (grind arith)
      plain_or n o same e h rec false is =
          let kind : n.kind ≡ o.kind = ap (λ (w : Node). w.kind) same in
          let bare : is_alias o.kind ≡ false = ap (λ (w : Kind). is_alias w) (sym kind) ∙ is in
          let id_n = id_of f.nodes r n e in let id_o = id_of g.nodes r o h in
          let kids_same : map shape (children_of f.nodes n.id) ≡ map shape (children_of g.nodes o.id) =
          ap (λ (q : RegionId). map shape (children_of f.nodes q)) id_n ∙ same_children d r k n o e h is bare
          ∙ ap (λ (q : RegionId). map shape (children_of g.nodes q)) (sym id_o) in
          let steps_f : steps_of f.nodes r ≡ ids_of (children_of f.nodes n.id) = rw e (steps_plain f.nodes n.kind n is) in
          let steps_g : steps_of g.nodes r ≡ ids_of (children_of g.nodes o.id) = rw h (steps_plain g.nodes o.kind o bare) in
          let steps_same : steps_of f.nodes r ≡ steps_of g.nodes r =
          steps_f ∙ sym (ids_shapes (children_of f.nodes n.id)) ∙ ap ids_of kids_same ∙ ids_shapes (children_of g.nodes o.id) ∙ sym steps_g in
          let each : Every (λ c. (x : ℕ) → found_in f d c.id x ≡ found_in g d c.id x) (map shape (children_of f.nodes n.id)) =
          each_in (λ c. (x : ℕ) → found_in f d c.id x ≡ found_in g d c.id x) (map shape (children_of f.nodes n.id)) (λ z m.
          let on : In z.id (steps_of f.nodes r) = subst (λ (rs : List RegionId). In z.id rs) (ids_shapes (children_of f.nodes n.id) ∙ sym steps_f)
          (map_out (λ (c : Node). c.id) z (map shape (children_of f.nodes n.id)) m) in
          rec z.id (checked_on (suc d) r z.id k on (subst (λ (rs : List RegionId). In z.id rs) steps_same on))) in
          step_is f (found_in f d) n a
          ∙ step_below f.global (map shape (children_of f.nodes n.id)) (found_in f d) (found_in g d) (shape n) a (agree n.kind is each)
          ∙ (λ i. step (global i) (kids_same i) (found_in g d) (same i) a)
          ∙ sym (step_is g (found_in g d) o a)
        where
          agree : (w : Kind) → is_alias w ≡ false → Every (λ c. (x : ℕ) → found_in f d c.id x ≡ found_in g d c.id x)
              (map shape (children_of f.nodes n.id)) → Agrees (found_in f d) (found_in g d) w (map shape (children_of f.nodes n.id))
          agree (Alias target offset) l each = absurd (grind arith)
          agree w l each = each

      go : (x y : Option Node) → node_of f.nodes r ≡ x → node_of g.nodes r ≡ y → alike r ≡ true
          → ((q : RegionId) → Checked (suc d) q → (x : ℕ) → found_in f d q x ≡ found_in g d q x)
          → option_and_then (λ n. at_node f (found_in f d) n a) x ≡ option_and_then (λ n. at_node g (found_in g d) n a) y
      go None None e h l rec = refl
      go None (Some o) e h l rec = true_is_not_false (alike r) l (rw (e, h) refl)
      go (Some n) None e h l rec = true_is_not_false (alike r) l (rw (e, h) refl)
      go (Some n) (Some o) e h l rec =
          let looks : looks_alike n o ≡ true = subst (λ (w : Option Node × Option Node). stays_alike w.0 w.1 ≡ true) (λ i. (e i, h i)) l in
          plain_or n o (alike_shape n o (id_of f.nodes r n e ∙ sym (id_of g.nodes r o h)) looks) e h rec (is_alias n.kind) refl

-- of a space

any_both : (test : RegionId → Bool) (xs ys : List RegionId) → list_any test (xs ++ ys) ≡ false → (list_any test xs ≡ false) × (list_any test ys ≡ false)
any_both test [] ys h = (refl, h)
any_both test (x ∷ xs) ys h = go (test x) h (any_both test xs ys)
  where
    go : (b : Bool) → (b || list_any test (xs ++ ys)) ≡ false → (list_any test (xs ++ ys) ≡ false → (list_any test xs ≡ false) × (list_any test ys ≡ false))
        → ((b || list_any test xs) ≡ false) × (list_any test ys ≡ false)
    go true h rest = absurd (grind arith)
    go false h rest = rest h

-- a region that is reached passes the test that all reached ones pass
none_of_reached : (test : RegionId → Bool) (p : Node → Bool) (nodes : List Node) (q : RegionId) (n : Node) → list_any test (ids_of (filter p nodes)) ≡ false
    → node_of nodes q ≡ Some n → p n ≡ true → test n.id ≡ false
none_of_reached test p [] q n h e k = none_is_not_some n e
none_of_reached test p (x ∷ xs) q n h e k = go (has_id q x) (p x) refl h e (λ w. none_of_reached test p xs q n w)
  where
    rest_of : (b : Bool) → list_any test (ids_of (if b then x ∷ filter p xs else filter p xs)) ≡ false → list_any test (ids_of (filter p xs)) ≡ false
    rest_of true h = (or_parts (test x.id) _ h).1
    rest_of false h = h

    go : (b c : Bool) → p x ≡ c → list_any test (ids_of (if c then x ∷ filter p xs else filter p xs)) ≡ false → (if b then Some x else node_of xs q) ≡ Some n
        → (list_any test (ids_of (filter p xs)) ≡ false → node_of xs q ≡ Some n → p n ≡ true → test n.id ≡ false) → test n.id ≡ false
    go true true s h e rest = subst (λ (y : Node). test y.id ≡ false) (same_Some x n e) (or_parts (test x.id) _ h).0
    go true false s h e rest = true_is_not_false (p n) k (subst (λ (y : Node). p y ≡ false) (same_Some x n e) s)
    go false c s h e rest = rest (rest_of c h) e k

module _ (f g : Forest) (s : SpaceId) (up : IsAscending f.nodes) (vp : IsAscending g.nodes) (calm : is_touched f g s ≡ false) where
  abbrev changed : RegionId → Bool
  changed r = not (stays_alike (node_of f.nodes r) (node_of g.nodes r))

  parts : ((not (is_same_region (root_of f s) (root_of g s)) || not (bool_eq f.global g.global)) ≡ false) ×
      (list_any changed (reached f s ++ reached g s) ≡ false)
  parts = or_parts _ _ calm

  same_root : root_of f s ≡ root_of g s
  same_root = region_same (root_of f s) (root_of g s) (not-false _ (or_parts _ _ parts.0).0)

  same_global : f.global ≡ g.global
  same_global = bool_same f.global g.global (not-false _ (or_parts _ _ parts.0).1)

  lists : (list_any changed (reached f s) ≡ false) × (list_any changed (reached g s) ≡ false)
  lists = any_both changed (reached f s) (reached g s) parts.1

  -- what a root reaches looks alike
  checked : (r : RegionId) → root_of f s ≡ Some r → root_of g s ≡ Some r → Checked f g up vp same_global (suc most_depth) r
  checked r a b = record {
    there = λ q h e. there q h (node_of f.nodes q) refl e;
    here = λ q h e. here q h (node_of g.nodes q) refl e;
  }
    where
      there : (q : RegionId) → reaches_by (steps_of f.nodes) (suc most_depth) r q ≡ true → (o : Option Node) → node_of f.nodes q ≡ o
          → is_some o ≡ true → alike f g up vp same_global q ≡ true
      there q h None e k = absurd (grind arith)
      there q h (Some n) e k =
          let id : n.id ≡ q = id_of f.nodes q n e in
          let long : reaches_by (steps_of f.nodes) longest r q ≡ true = reaches_longer (steps_of f.nodes) (suc most_depth) longest r q (omega arith) h in
          let comes : is_reached f s n.id ≡ true =
          subst (λ (x : RegionId). is_reached f s x ≡ true) (sym id) (subst (λ (o : Option RegionId). is_reached_from f.nodes o q ≡ true) (sym a) long) in
          subst (λ (x : RegionId). alike f g up vp same_global x ≡ true) id
          (not-false _ (none_of_reached changed (λ n. is_reached f s n.id) f.nodes q n lists.0 e comes))

      here : (q : RegionId) → reaches_by (steps_of g.nodes) (suc most_depth) r q ≡ true → (o : Option Node) → node_of g.nodes q ≡ o → is_some o ≡ true
          → alike f g up vp same_global q ≡ true
      here q h None e k = absurd (grind arith)
      here q h (Some n) e k =
          let id : n.id ≡ q = id_of g.nodes q n e in
          let long : reaches_by (steps_of g.nodes) longest r q ≡ true = reaches_longer (steps_of g.nodes) (suc most_depth) longest r q (omega arith) h in
          let comes : is_reached g s n.id ≡ true =
          subst (λ (x : RegionId). is_reached g s x ≡ true) (sym id) (subst (λ (o : Option RegionId). is_reached_from g.nodes o q ≡ true) (sym b) long) in
          subst (λ (x : RegionId). alike f g up vp same_global x ≡ true) id
          (not-false _ (none_of_reached changed (λ n. is_reached g s n.id) g.nodes q n lists.1 e comes))

  pub untouched_found : (a : ℕ) → found_at f s a ≡ found_at g s a
  untouched_found a = go (root_of f s) refl (sym same_root)
    where
      go : (o : Option RegionId) → root_of f s ≡ o → root_of g s ≡ root_of f s → found_at f s a ≡ found_at g s a
      go None e h = rw (e, h ∙ e) refl
      go (Some r) e h = rw (e, h ∙ e) (same_found f g up vp same_global most_depth r (checked r e (h ∙ e)) a)

  pub untouched_view : view_of f s ≡ view_of g s
  unfolding view_of
  untouched_view = λ i. ranges_from (λ a. spot_of (untouched_found a i)) (λ a. path_of (untouched_found a i)) 0 (2 ^ 64)
