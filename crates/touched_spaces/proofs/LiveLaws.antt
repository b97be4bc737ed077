-- Live ioeventfds where no leaf is noted.
use Rattle.std.proofs.Common.{◌≡◌, ◌++◌, ◌||◌, if◌then◌else◌, Bool, true, false, eqb, List, [], ◌∷◌, map, refl, sym, ap, inl, inr, ◌∙◌, arith}
use Rattle.std.specs.Prelude.{filter, flat_map, not, unwrap_or, option_map}
use Rattle.std.specs.List.{list_any}
use Rattle.std.proofs.lemmas.Bool.Decides.{nat_tests}
use Rattle.mem_base.specs.declared.map.ids.RegionId.{RegionId}
use Rattle.mem_base.specs.declared.map.ids.SpaceId.{SpaceId}
use Rattle.mem_base.specs.declared.map.forests.Forest.{Forest}
use Rattle.mem_base.specs.declared.map.ioevents.Live.{Live}
use Rattle.mem_base.specs.declared.views.flat.FlatRange.{FlatRange}
use Rattle.mem_base.specs.declared.views.listening.Change.{Change}
use Rattle.mem_base.specs.declared.views.listening.RangeEvent.{RangeEvent}
use Rattle.mem_base.specs.map.Order.{ids_of}
use Rattle.mem_base.specs.map.Region.{node_of}
use Rattle.mem_base.specs.map.Forest.{IsMade}
use Rattle.mem_base.specs.views.Flattened.{view_of}
use Rattle.mem_base.specs.views.LiveEvents.{is_same_live, lives_in_order, moved_to, meets, lives_of_range, lives_in, lives_of, without}
use Rattle.mem_base.specs.views.Listening.{change_of}
use Rattle.mem_base.specs.views.Walk.{walk}
use Rattle.mem_base.specs.views.Naming.{has_leaf}
use Rattle.mem_base.specs.declared.map.forests.Node.{Node}
use Rattle.view_laws.proofs.LiveLaws.{In, order_itself}
use Rattle.view_laws.proofs.SortedLaws.{any_in, any_found}
use Rattle.change_laws.specs.Meeting.{is_among, OthersStay}
use Rattle.touched_spaces.proofs.ViewedLaws.{lives_are}
use Rattle.mem_base.proofs.BoolLaws.{true_is_not_false}

abbrev change : SpaceId → List RangeEvent → List Live → List Live → Change
change s steps gone come = record { space = s; walk = steps; lost = gone; gained = come }

none_passes : {A : Type 0} (test : A → Bool) (xs : List A) → ((x : A) → In x xs → test x ≡ false) → filter test xs ≡ []
none_passes test [] h = refl
none_passes test (x ∷ xs) h = let a = h x (inl refl) in let b = none_passes test xs (λ y m. h y (inr m)) in rw a b

-- nothing is lost or gained where both are the same
pub none_differ : (xs : List Live) → without xs xs ≡ []
none_differ xs = none_passes (λ x. not (list_any (is_same_live x) xs)) xs (λ x m.
    let itself : is_same_live x x ≡ true = let e = order_itself x in rw e refl in
    ap (λ b. not b) (any_in (is_same_live x) x xs m itself))

module _ (f g : Forest) (noted : List RegionId) (others : OthersStay f g noted) where
  -- a leaf that is not noted
  leaf_same : (rs : List FlatRange) (r : FlatRange) → In r rs → list_any (λ q. has_leaf q rs) noted ≡ false → node_of f.nodes r.leaf ≡ node_of g.nodes r.leaf
  leaf_same rs r m none = go (is_among noted r.leaf) refl
    where
      go : (b : Bool) → is_among noted r.leaf ≡ b → node_of f.nodes r.leaf ≡ node_of g.nodes r.leaf
      go false e = others r.leaf e
      go true e =
          let t = any_found (λ (q : RegionId). eqb q.0 r.leaf.0) noted e in
          let leaf : has_leaf t.0 rs ≡ true = any_in (λ (p : FlatRange). eqb p.leaf.0 t.0.0) r rs m (let s = t.2 in grind (arith, nat_tests, s)) in
          true_is_not_false (list_any (λ q. has_leaf q rs) noted) (any_in (λ q. has_leaf q rs) t.0 noted t.1 leaf) none

  each_same : (rs : List FlatRange) → ((r : FlatRange) → In r rs → node_of f.nodes r.leaf ≡ node_of g.nodes r.leaf)
      → flat_map (lives_of_range f) rs ≡ flat_map (lives_of_range g) rs
  each_same [] h = refl
  each_same (r ∷ rs) h =
      let here : lives_of_range f r ≡ lives_of_range g r = ap (λ o. filter (meets r.start r.last) (map (moved_to r.start r.offset) (unwrap_or (option_map (λ (m : Node). m.events) o) []))) (h r (inl refl)) in
      let rest = each_same rs (λ q m. h q (inr m)) in λ i. here i ++ rest i

  -- a view of which no leaf is noted shows the same ioeventfds
  pub lives_stay : (s : SpaceId) → IsMade f → IsMade g → view_of f s ≡ view_of g s → list_any (λ q. has_leaf q (view_of g s)) noted ≡ false
      → lives_of f s ≡ lives_of g s
  lives_stay s m n same none =
      let rs = view_of g s in
      let both : lives_in f rs ≡ lives_in g rs = ap lives_in_order (each_same rs (λ r k. leaf_same rs r k none)) in
      sym (lives_are f s rs (lives_in f rs) m (sym same) refl) ∙ both ∙ lives_are g s rs (lives_in g rs) n refl refl

-- what is told of a space that shows the same ranges and ioeventfds
pub still_change : (f g : Forest) (s : SpaceId) (steps : List RangeEvent) (gone come : List Live) → steps ≡ walk (view_of g s) (view_of g s) → gone ≡ [] → come ≡ []
    → view_of f s ≡ view_of g s → lives_of f s ≡ lives_of g s → change s steps gone come ≡ change_of f g s
still_change f g s steps gone come told none neither same lives =
    let w : steps ≡ walk (view_of f s) (view_of g s) = told ∙ ap (λ rs. walk rs (view_of g s)) (sym same) in
    let l : gone ≡ without (lives_of f s) (lives_of g s) = none ∙ sym (none_differ (lives_of g s)) ∙ ap (λ ls. without ls (lives_of g s)) (sym lives) in
    let h : come ≡ without (lives_of g s) (lives_of f s) = neither ∙ sym (none_differ (lives_of g s)) ∙ ap (λ ls. without (lives_of g s) ls) (sym lives) in
    λ i. change s (w i) (l i) (h i)

-- no region is listed where none passes the test
pub none_listed : (p : Node → Bool) (nodes : List Node) → list_any p nodes ≡ false → ids_of (filter p nodes) ≡ []
none_listed p [] h = refl
none_listed p (n ∷ ns) h = go (p n) h (none_listed p ns)
  where
    go : (b : Bool) → (b || list_any p ns) ≡ false → (list_any p ns ≡ false → ids_of (filter p ns) ≡ [])
        → ids_of (if b then n ∷ filter p ns else filter p ns) ≡ []
    go true h rest = absurd (grind arith)
    go false h rest = rest h
