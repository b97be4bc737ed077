-- A space near which no region is noted is not touched, and the same regions are reached in it.
use Rattle.std.proofs.Common.{◌≡◌, ◌||◌, if◌then◌else◌, Bool, true, false, eqb, eq-eqb, List, [], ◌∷◌, Option, Some, None}
use Rattle.std.proofs.Common.{refl, sym, ap, subst, ◌∙◌, inl, inr, arith}
use Rattle.std.specs.Prelude.{find, not, filter, option_map, IsSome}
use Rattle.std.specs.List.{list_any}
use Rattle.std.proofs.lemmas.Bool.Decides.{nat_tests}
use Rattle.mem_base.specs.declared.map.ids.RegionId.{RegionId}
use Rattle.mem_base.specs.declared.map.ids.SpaceId.{SpaceId}
use Rattle.mem_base.specs.declared.map.forests.Node.{Node}
use Rattle.mem_base.specs.declared.map.forests.Forest.{Forest}
use Rattle.mem_base.specs.declared.map.kinds.Kind.{Kind}
use Rattle.mem_base.specs.declared.map.kinds.Kind.TheVariants.{Alias}
use Rattle.mem_base.specs.lists.Booleans.{bool_eq}
use Rattle.mem_base.specs.lists.Every.{Every, HasElement}
use Rattle.mem_base.specs.map.Region.{node_of, is_in, is_child_of}
use Rattle.mem_base.specs.map.Kinds.{target_of}
use Rattle.mem_base.specs.map.Order.{trial_order, children_of, ids_of}
use Rattle.mem_base.specs.map.Search.{is_space, root_of}
use Rattle.mem_base.specs.map.Steps.{Steps, steps_of, steps_from, steps_at, reaches}
use Rattle.mem_base.specs.map.Depths.{Leads, stays, onward}
use Rattle.mem_base.specs.map.Forest.{IsMade, IsRegion, HasTarget}
use Rattle.mem_base.specs.map.Touched.{is_reached, is_reached_from, reached, is_same_region, stays_alike, is_touched}
use Rattle.mem_base.proofs.ForestLaws.{id_of, node_of-itself, every_node_of}
use Rattle.map_laws.proofs.DepthLaws.{reaches_is}
use Rattle.view_laws.proofs.Tests.{none_is_not_some, same_region}
use Rattle.view_laws.proofs.LiveLaws.{In, every_in}
use Rattle.view_laws.proofs.TouchedLaws.{found_in_list, ascending_filter, unique, region_same}
use Rattle.change_laws.proofs.AlikeLaws.{stays_itself}
use Rattle.view_laws.proofs.SortedLaws.{any_in, any_found, filter_in, filter_out, map_in, map_out, sorted_in, sorted_out}
use Rattle.change_laws.specs.Meeting.{is_among, OthersStay}
use Rattle.touched_spaces.specs.Noted.{is_parent_among, is_placed_among, stay_away}
use Rattle.map_laws.proofs.MadeForests.{ordered_made, closed_made}
use Rattle.touched_spaces.proofs.TouchedLaws.{is_other, touched_by}
use Rattle.std.proofs.lemmas.Bool.{or_right, or_left}
use Rattle.std.proofs.lemmas.Option.{same_Some}

-- regions of lists

element_in : {A : Type 0} (xs : List A) (x : A) → HasElement xs x → In x xs
element_in [] x h = h
element_in (y ∷ ys) x (inl e) = inl (sym e)
element_in (y ∷ ys) x (inr h) = inr (element_in ys x h)

in_element : {A : Type 0} (xs : List A) (x : A) → In x xs → HasElement xs x
in_element [] x h = h
in_element (y ∷ ys) x (inl e) = inl (sym e)
in_element (y ∷ ys) x (inr h) = inr (in_element ys x h)

none_any : {A : Type 0} (test : A → Bool) (xs : List A) → ((x : A) → In x xs → test x ≡ false) → list_any test xs ≡ false
none_any test [] h = refl
none_any test (x ∷ xs) h = let a = h x (inl refl) in let b = none_any test xs (λ y m. h y (inr m)) in rw (a, b) refl

leads_on : {steps : Steps} {r x : RegionId} (y : RegionId) → Leads steps r x → HasElement (steps x) y → Leads steps r y
leads_on y stays e = onward y e stays
leads_on y (onward q among l) e = onward q among (leads_on y l e)

among_it : (rs : List RegionId) (r : RegionId) → In r rs → is_among rs r ≡ true
among_it rs r m = any_in (λ (q : RegionId). eqb q.0 r.0) r rs m (eq-eqb r.0 r.0 refl)

it_among : (rs : List RegionId) (r : RegionId) → is_among rs r ≡ true → In r rs
it_among rs r h =
    let t = any_found (λ (q : RegionId). eqb q.0 r.0) rs h in
    let same : t.0 ≡ r = same_region t.0 r (let e = t.2 in grind (arith, nat_tests, e)) in
    subst (λ q. In q rs) same t.1

not_both : (b : Bool) → b ≡ true → not b ≡ true → ⊥
not_both true h k = absurd (grind arith)
not_both false h k = absurd (grind arith)

is_some_node : (o : Option Node) → IsSome o → (n : Node) × (o ≡ Some n)
is_some_node None h = absurd (grind arith)
is_some_node (Some n) h = (n, refl)

-- the root of a space is there
found_space : (P : RegionId → Type 0) (s : SpaceId) (spaces : List (SpaceId × RegionId)) (r : RegionId) → Every (λ p. P p.1) spaces
    → option_map (λ (p : SpaceId × RegionId). p.1) (find (is_space s) spaces) ≡ Some r → P r
found_space P s [] r h e = none_is_not_some r e
found_space P s (p ∷ ps) r h e = go (is_space s p) e (found_space P s ps r h.1)
  where
    go : (b : Bool) → option_map (λ (p : SpaceId × RegionId). p.1) (if b then Some p else find (is_space s) ps) ≡ Some r
        → (option_map (λ (p : SpaceId × RegionId). p.1) (find (is_space s) ps) ≡ Some r → P r) → P r
    go true e rest = subst P (same_Some p.1 r e) h.0
    go false e rest = rest e

module _ (f g : Forest) (s : SpaceId) (noted : List RegionId) (made_f : IsMade f) (made_g : IsMade g) (others : OthersStay f g noted)
    (roots : is_same_region (root_of f s) (root_of g s) ≡ true) (away : stay_away noted g.nodes (reached f s) ≡ true) where
  abbrev kept : RegionId → Bool
  kept x = is_among (reached f s) x

  itself_f : (n : Node) → In n f.nodes → node_of f.nodes n.id ≡ Some n
  itself_f n m = every_in (λ (c : Node). node_of f.nodes c.id ≡ Some c) n f.nodes (node_of-itself f.nodes (ordered_made f made_f).ascending) m

  itself_g : (n : Node) → In n g.nodes → node_of g.nodes n.id ≡ Some n
  itself_g n m = every_in (λ (c : Node). node_of g.nodes c.id ≡ Some c) n g.nodes (node_of-itself g.nodes (ordered_made g made_g).ascending) m

  -- a region of the forest that is reached
  is_kept : (x : RegionId) (n : Node) → node_of f.nodes x ≡ Some n → is_reached f s x ≡ true → kept x ≡ true
  is_kept x n e h =
      let id : n.id ≡ x = id_of f.nodes x n e in
      among_it (reached f s) x (subst (λ q. In q (reached f s)) id
      (map_out (λ (c : Node). c.id) n (filter (λ c. is_reached f s c.id) f.nodes)
      (filter_out (λ c. is_reached f s c.id) n f.nodes (found_in_list f.nodes x n e) (subst (λ q. is_reached f s q ≡ true) (sym id) h))))

  record Kept (x : RegionId) : Type 0 where
    node : Node
    found : node_of f.nodes x ≡ Some node
    comes : is_reached f s x ≡ true

  of_kept : (x : RegionId) → kept x ≡ true → Kept x
  of_kept x h =
      let t = map_in (λ (c : Node). c.id) x (filter (λ c. is_reached f s c.id) f.nodes) (it_among (reached f s) x h) in
      let p = filter_in (λ c. is_reached f s c.id) t.item f.nodes t.there in
      record { node = t.item; found = ap (node_of f.nodes) t.is ∙ itself_f t.item p.0; comes = subst (λ q. is_reached f s q ≡ true) (sym t.is) p.1 }

  -- no noted region is kept, and none is in a container that is
  abbrev near : RegionId → Bool
  near r = is_among (reached f s) r || is_placed_among (reached f s) (node_of g.nodes r)

  not_near : (x : RegionId) → is_among noted x ≡ true → near x ≡ true → ⊥
  not_near x h n = not_both (list_any near noted) (any_in near x noted (it_among noted x h) n) away

  unnoted : (x : RegionId) → (is_among noted x ≡ true → ⊥) → node_of f.nodes x ≡ node_of g.nodes x
  unnoted x out = go (is_among noted x) refl
    where
      go : (b : Bool) → is_among noted x ≡ b → node_of f.nodes x ≡ node_of g.nodes x
      go true e = absurd (out e)
      go false e = others x e

  kept_same : (x : RegionId) → kept x ≡ true → node_of f.nodes x ≡ node_of g.nodes x
  kept_same x k = unnoted x (λ h. not_near x h (or_left (kept x) (is_placed_among (reached f s) (node_of g.nodes x)) k))

  -- a region that is now in a kept container was there before
  child_same : (q : RegionId) (c : Node) → node_of g.nodes c.id ≡ Some c → is_child_of q c ≡ true → kept q ≡ true → node_of f.nodes c.id ≡ node_of g.nodes c.id
  child_same q c e child k = unnoted c.id (λ h. not_near c.id h
      (or_right (kept c.id) (is_placed_among (reached f s) (node_of g.nodes c.id))
      (subst (λ o. is_placed_among (reached f s) o ≡ true) (sym e) (go c.parent child))))
    where
      go : (o : Option RegionId) → is_in q o ≡ true → is_parent_among (reached f s) o ≡ true
      go None h = absurd (grind arith)
      go (Some p) h = subst (λ r. kept r ≡ true) (sym (same_region p q (grind (arith, nat_tests, h)))) k

  kid_there : (q : RegionId) (y : RegionId) → ((c : Node) → In c f.nodes → is_child_of q c ≡ true → kept c.id ≡ true)
      → In y (ids_of (children_of f.nodes q)) → In y (ids_of (children_of g.nodes q))
  kid_there q y keeps m =
      let t = map_in (λ (c : Node). c.id) y (children_of f.nodes q) m in
      let p = filter_in (is_child_of q) t.item f.nodes (sorted_in trial_order t.item (filter (is_child_of q) f.nodes) t.there) in
      let e : node_of g.nodes t.item.id ≡ Some t.item = sym (kept_same t.item.id (keeps t.item p.0 p.1)) ∙ itself_f t.item p.0 in
      subst (λ x. In x (ids_of (children_of g.nodes q))) (sym t.is)
      (map_out (λ (c : Node). c.id) t.item (children_of g.nodes q)
      (sorted_out trial_order t.item (filter (is_child_of q) g.nodes)
      (filter_out (is_child_of q) t.item g.nodes (found_in_list g.nodes t.item.id t.item e) p.1)))

  kid_back : (q : RegionId) (y : RegionId) → kept q ≡ true → In y (ids_of (children_of g.nodes q)) → In y (ids_of (children_of f.nodes q))
  kid_back q y k m =
      let t = map_in (λ (c : Node). c.id) y (children_of g.nodes q) m in
      let p = filter_in (is_child_of q) t.item g.nodes (sorted_in trial_order t.item (filter (is_child_of q) g.nodes) t.there) in
      let e : node_of f.nodes t.item.id ≡ Some t.item =
      child_same q t.item (itself_g t.item p.0) p.1 k ∙ itself_g t.item p.0 in
      subst (λ x. In x (ids_of (children_of f.nodes q))) (sym t.is)
      (map_out (λ (c : Node). c.id) t.item (children_of f.nodes q)
      (sorted_out trial_order t.item (filter (is_child_of q) f.nodes)
      (filter_out (is_child_of q) t.item f.nodes (found_in_list f.nodes t.item.id t.item e) p.1)))

  -- what is reached leads to what is reached
  module _ (r : RegionId) (at : root_of f s ≡ Some r) where
    comes_on : (x y : RegionId) → is_reached f s x ≡ true → HasElement (steps_of f.nodes x) y → is_reached f s y ≡ true
    comes_on x y h e =
        let law = reaches_is f (ordered_made f made_f) r in
        let there : reaches f.nodes r x ≡ true = subst (λ (o : Option RegionId). is_reached_from f.nodes o x ≡ true) at h in
        subst (λ (o : Option RegionId). is_reached_from f.nodes o y ≡ true) (sym at) ((law y).1 (leads_on y ((law x).0 there) e))

    -- a step of the old forest
    module _ (x : RegionId) (k : kept x ≡ true) where
      abbrev at_x : Kept x
      at_x = of_kept x k

      abbrev id_x : at_x.node.id ≡ x
      id_x = id_of f.nodes x at_x.node at_x.found

      step_f : (y : RegionId) → HasElement (steps_at f.nodes at_x.node.kind at_x.node) y → is_reached f s y ≡ true
      step_f y e = comes_on x y at_x.comes (subst (λ (o : Option Node). HasElement (steps_from f.nodes o) y) (sym at_x.found) e)

      -- it leads to regions of the forest
      step_kept : (y : RegionId) → HasElement (steps_at f.nodes at_x.node.kind at_x.node) y → kept y ≡ true
      step_kept y e = go at_x.node.kind refl e
        where
          go : (w : Kind) → at_x.node.kind ≡ w → HasElement (steps_at f.nodes w at_x.node) y → kept y ≡ true
          go (Alias target offset) kind (inl same) =
              let region = (every_node_of (IsRegion f.nodes) f.nodes x at_x.node at_x.found (closed_made f made_f).regions).0 in
              let there : IsSome (node_of f.nodes target) = subst (λ (v : Kind). HasTarget f.nodes (target_of v)) kind region.target in
              let n = is_some_node (node_of f.nodes target) there in
              subst (λ q. kept q ≡ true) same (is_kept target n.0 n.1 (subst (λ q. is_reached f s q ≡ true) (sym same) (step_f y e)))
          go (Alias target offset) kind (inr never) = absurd never
          go w kind m =
              let t = map_in (λ (c : Node). c.id) y (children_of f.nodes at_x.node.id) (element_in _ y m) in
              let p = filter_in (is_child_of at_x.node.id) t.item f.nodes (sorted_in trial_order t.item (filter (is_child_of at_x.node.id) f.nodes) t.there) in
              is_kept y t.item (ap (node_of f.nodes) t.is ∙ itself_f t.item p.0) (step_f y e)

      child_kept : (w : Kind) → at_x.node.kind ≡ w → steps_at f.nodes w at_x.node ≡ ids_of (children_of f.nodes at_x.node.id)
          → (c : Node) → In c f.nodes → is_child_of at_x.node.id c ≡ true → kept c.id ≡ true
      child_kept w kind plain c m child =
          let kids : In c (children_of f.nodes at_x.node.id) =
          sorted_out trial_order c (filter (is_child_of at_x.node.id) f.nodes) (filter_out (is_child_of at_x.node.id) c f.nodes m child) in
          step_kept c.id (subst (λ (v : Kind). HasElement (steps_at f.nodes v at_x.node) c.id) (sym kind)
          (subst (λ rs. HasElement rs c.id) (sym plain) (in_element _ c.id (map_out (λ (n : Node). n.id) c (children_of f.nodes at_x.node.id) kids))))

      steps_there : (y : RegionId) → HasElement (steps_at f.nodes at_x.node.kind at_x.node) y → HasElement (steps_at g.nodes at_x.node.kind at_x.node) y
      steps_there y e = go at_x.node.kind refl e
        where
          go : (w : Kind) → at_x.node.kind ≡ w → HasElement (steps_at f.nodes w at_x.node) y → HasElement (steps_at g.nodes w at_x.node) y
          go (Alias target offset) kind h = h
          go w kind h = in_element _ y (kid_there at_x.node.id y (child_kept w kind refl) (element_in _ y h))

      steps_back : (y : RegionId) → HasElement (steps_at g.nodes at_x.node.kind at_x.node) y → HasElement (steps_at f.nodes at_x.node.kind at_x.node) y
      steps_back y e = go at_x.node.kind e
        where
          go : (w : Kind) → HasElement (steps_at g.nodes w at_x.node) y → HasElement (steps_at f.nodes w at_x.node) y
          go (Alias target offset) h = h
          go w h = in_element _ y (kid_back at_x.node.id y (subst (λ q. kept q ≡ true) (sym id_x) k) (element_in _ y h))

      to_f : (y : RegionId) → HasElement (steps_of f.nodes x) y → HasElement (steps_at f.nodes at_x.node.kind at_x.node) y
      to_f y e = subst (λ (o : Option Node). HasElement (steps_from f.nodes o) y) at_x.found e

      of_f : (y : RegionId) → HasElement (steps_at f.nodes at_x.node.kind at_x.node) y → HasElement (steps_of f.nodes x) y
      of_f y e = subst (λ (o : Option Node). HasElement (steps_from f.nodes o) y) (sym at_x.found) e

      to_g : (y : RegionId) → HasElement (steps_of g.nodes x) y → HasElement (steps_at g.nodes at_x.node.kind at_x.node) y
      to_g y e = subst (λ (o : Option Node). HasElement (steps_from g.nodes o) y) (sym (kept_same x k) ∙ at_x.found) e

      of_g : (y : RegionId) → HasElement (steps_at g.nodes at_x.node.kind at_x.node) y → HasElement (steps_of g.nodes x) y
      of_g y e = subst (λ (o : Option Node). HasElement (steps_from g.nodes o) y) (sym at_x.found ∙ kept_same x k) e

    there_leads : (a x : RegionId) → kept a ≡ true → Leads (steps_of f.nodes) a x → Leads (steps_of g.nodes) a x
    there_leads a x k stays = stays
    there_leads a x k (onward q among l) =
        let e = to_f a k q among in onward q (of_g a k q (steps_there a k q e)) (there_leads q x (step_kept a k q e) l)

    here_leads : (a x : RegionId) → kept a ≡ true → Leads (steps_of g.nodes) a x → Leads (steps_of f.nodes) a x × (kept x ≡ true)
    here_leads a x k stays = (stays, k)
    here_leads a x k (onward q among l) =
        let e = steps_back a k q (to_g a k q among) in
        let rest = here_leads q x (step_kept a k q e) l in (onward q (of_f a k q e) rest.0, rest.1)

    root_kept : kept r ≡ true
    root_kept =
        let n = is_some_node (node_of f.nodes r) (found_space (λ q. IsSome (node_of f.nodes q)) s f.spaces r (closed_made f made_f).roots at) in
        is_kept r n.0 n.1 (subst (λ (o : Option RegionId). is_reached_from f.nodes o r ≡ true) (sym at)
        ((reaches_is f (ordered_made f made_f) r r).1 stays))

    there_reaches : (x : RegionId) → reaches f.nodes r x ≡ true → reaches g.nodes r x ≡ true
    there_reaches x h =
        (reaches_is g (ordered_made g made_g) r x).1 (there_leads r x root_kept ((reaches_is f (ordered_made f made_f) r x).0 h))

    here_reaches : (x : RegionId) → reaches g.nodes r x ≡ true → (reaches f.nodes r x ≡ true) × (kept x ≡ true)
    here_reaches x h =
        let t = here_leads r x root_kept ((reaches_is g (ordered_made g made_g) r x).0 h) in
        ((reaches_is f (ordered_made f made_f) r x).1 t.0, t.1)

  one_root : root_of f s ≡ root_of g s
  one_root = region_same (root_of f s) (root_of g s) roots

  comes_too : (x : RegionId) → is_reached f s x ≡ true → is_reached g s x ≡ true
  comes_too x = go (root_of f s) refl
    where
      go : (o : Option RegionId) → root_of f s ≡ o → is_reached_from f.nodes o x ≡ true → is_reached g s x ≡ true
      go None e h = absurd (grind arith)
      go (Some r) e h = subst (λ (o : Option RegionId). is_reached_from g.nodes o x ≡ true) (sym e ∙ one_root) (there_reaches r e x h)

  came_too : (x : RegionId) → is_reached g s x ≡ true → (is_reached f s x ≡ true) × (kept x ≡ true)
  came_too x h = go (root_of f s) refl (subst (λ (o : Option RegionId). is_reached_from g.nodes o x ≡ true) (sym one_root) h)
    where
      go : (o : Option RegionId) → root_of f s ≡ o → is_reached_from g.nodes o x ≡ true → (is_reached f s x ≡ true) × (kept x ≡ true)
      go None e h = absurd (grind arith)
      go (Some r) e h =
          let t = here_reaches r e x h in (subst (λ (o : Option RegionId). is_reached_from f.nodes o x ≡ true) (sym e) t.0, t.1)

  there_node : (z : Node) → In z (filter (λ c. is_reached f s c.id) f.nodes) → In z (filter (λ c. is_reached g s c.id) g.nodes)
  there_node z m =
      let p = filter_in (λ c. is_reached f s c.id) z f.nodes m in
      let e : node_of g.nodes z.id ≡ Some z = sym (kept_same z.id (is_kept z.id z (itself_f z p.0) p.1)) ∙ itself_f z p.0 in
      filter_out (λ c. is_reached g s c.id) z g.nodes (found_in_list g.nodes z.id z e) (comes_too z.id p.1)

  here_node : (z : Node) → In z (filter (λ c. is_reached g s c.id) g.nodes) → In z (filter (λ c. is_reached f s c.id) f.nodes)
  here_node z m =
      let p = filter_in (λ c. is_reached g s c.id) z g.nodes m in
      let t = came_too z.id p.1 in
      let e : node_of f.nodes z.id ≡ Some z = kept_same z.id t.1 ∙ itself_g z p.0 in
      filter_out (λ c. is_reached f s c.id) z f.nodes (found_in_list f.nodes z.id z e) t.0

  pub reach_stays : reached f s ≡ reached g s
  reach_stays = ap ids_of (unique (filter (λ c. is_reached f s c.id) f.nodes) (filter (λ c. is_reached g s c.id) g.nodes)
      (ascending_filter (λ c. is_reached f s c.id) f.nodes (ordered_made f made_f).ascending)
      (ascending_filter (λ c. is_reached g s c.id) g.nodes (ordered_made g made_g).ascending) there_node here_node)

  none_other : list_any (is_other f g) (reached f s) ≡ false
  none_other = none_any (is_other f g) (reached f s) (λ x m.
      let same = kept_same x (among_it (reached f s) x m) in
      let alike : stays_alike (node_of f.nodes x) (node_of g.nodes x) ≡ true =
      subst (λ o. stays_alike (node_of f.nodes x) o ≡ true) same (stays_itself (node_of f.nodes x)) in
      ap (λ b. not b) alike)

  pub not_touched : bool_eq f.global g.global ≡ true → is_touched f g s ≡ false
  not_touched global =
      let again : list_any (is_other f g) (reached g s) ≡ false = subst (λ rs. list_any (is_other f g) rs ≡ false) reach_stays none_other in
      touched_by f g s roots global ∙ (λ i. none_other i || again i)
