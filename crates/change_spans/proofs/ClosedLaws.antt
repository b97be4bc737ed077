-- Spans that keep what leads to each changed region, and into each of them, are closed upward in both forests: so a change is seen within
-- them alone.
use Rattle.std.proofs.Common.{◌≡◌, ℕ, ◌+◌, ◌-◌, ◌^◌, ◌<◌, ◌≤◌, Bool, true, false, eqb, eq-eqb, List, Option, Some, None, refl, sym, ap, subst, ◌∙◌, arith}
use Rattle.std.specs.Prelude.{nat_lt, IfSome, IsSome, filter}
use Rattle.std.proofs.lemmas.Bool.{eqb-true, and_parts}
use Rattle.std.proofs.lemmas.Bool.Decides.{nat_tests}
use Rattle.mem_base.specs.declared.map.ids.RegionId.{RegionId}
use Rattle.mem_base.specs.declared.map.kinds.Kind.{Kind}
use Rattle.mem_base.specs.declared.map.kinds.Kind.TheVariants.{Alias}
use Rattle.mem_base.specs.declared.map.forests.Node.{Node}
use Rattle.mem_base.specs.declared.map.forests.Forest.{Forest}
use Rattle.mem_base.specs.lists.Every.{Every}
use Rattle.mem_base.specs.map.Kinds.{target_of}
use Rattle.mem_base.specs.map.Order.{ids_of}
use Rattle.mem_base.specs.map.Refusals.{targets}
use Rattle.mem_base.specs.map.Region.{IsAscending, node_of, is_in, is_child_of}
use Rattle.mem_base.specs.map.Search.{found_at}
use Rattle.mem_base.specs.map.Forest.{IsClosedForest, IsRegion, HasTarget}
use Rattle.view_laws.proofs.Tests.{same_region, none_is_not_some}
use Rattle.view_laws.proofs.LiveLaws.{In, every_in}
use Rattle.view_laws.proofs.SortedLaws.{any_found, filter_out, map_out}
use Rattle.view_laws.proofs.TouchedLaws.{found_in_list}
use Rattle.change_laws.specs.Meeting.{is_among, meets, OthersStay, ChangesOnly}
use Rattle.change_laws.specs.Upward.{is_open, IsClosedUpward}
use Rattle.change_laws.specs.Placing.{meets_placed, ChangesPlaces}
use Rattle.change_laws.specs.PlacedUpward.{IsClosedPlaced}
use Rattle.change_laws.proofs.MeetingLaws.{stays_where_none_is_met}
use Rattle.change_laws.proofs.PlacingLaws.{stays_where_none_is_placed}
use Rattle.change_laws.proofs.UpwardLaws.{closed_have_all}
use Rattle.change_laws.proofs.PlacedUpwardLaws.{placed_have_all}
use Rattle.change_spans.specs.declared.reaches.Reach.{Reach}
use Rattle.change_spans.specs.Alike.{moves_alone}
use Rattle.change_spans.specs.Reaches.{has_in, HasThrough, HasAbove, Keeps, KeepsIn, KeepsSpan, ShowsWithin}
use Rattle.change_spans.proofs.AlikeLaws.{differs_in_place}
use Rattle.change_spans.proofs.ReachLaws.{has_one}
use Rattle.mem_base.proofs.BoolLaws.{true_is_not_false}

in_container : (r : RegionId) (o : Option RegionId) → is_in r o ≡ true → o ≡ Some r
in_container r None h = absurd (grind arith)
in_container r (Some p) h = ap (λ (q : RegionId). Some q) (same_region p r (eqb-true p.0 r.0 h))

-- an offset of a region of the forest is below 2^64
small : (f : Forest) → IsClosedForest f → (n : Node) (a : ℕ) → node_of f.nodes n.id ≡ Some n → is_open n a ≡ true → a < 2 ^ 64
small f sound n a e o =
    let size : n.size ≤ 2 ^ 64 = (every_in (IsRegion f.nodes) n f.nodes sound.regions (found_in_list f.nodes n.id n e)).size in
    let inside : nat_lt a n.size ≡ true = (and_parts n.enabled (nat_lt a n.size) o).1 in
    grind (arith, nat_tests, inside, size)

-- what holds of each of some regions holds of one that is among them
pub each_among : (P : RegionId → Type 0) (rs : List RegionId) (r : RegionId) → Every P rs → is_among rs r ≡ true → P r
each_among P rs r h m =
    let t = any_found (λ (q : RegionId). eqb q.0 r.0) rs m in subst P (same_region t.0 r (eqb-true t.0.0 r.0 t.2)) (every_in P t.0 rs h t.1)

-- of a forest h that differs in the changed regions alone from the forest g, by which the spans were followed
module _ (g h : Forest) (rs : List RegionId) (xs : List Reach) (placed : Bool) (sound : IsClosedForest h) (others : OthersStay h g rs)
    (changed : Every (KeepsIn h.nodes placed xs) rs) (spans : Every (λ (x : Reach). KeepsSpan g.nodes xs x.region) xs) where
  kept : (n : Node) → node_of h.nodes n.id ≡ Some n → is_among rs n.id ≡ true → Keeps placed xs n
  kept n e m = subst (λ o. IfSome o (Keeps placed xs)) e (each_among (KeepsIn h.nodes placed xs) rs n.id changed m)

  through : (n : Node) (target : RegionId) (offset a : ℕ) → node_of h.nodes n.id ≡ Some n → n.kind ≡ Alias target offset → is_open n a ≡ true →
      has_in xs target (a + offset) ≡ true → has_in xs n.id a ≡ true
  through n target offset a e k o l = go (is_among rs n.id) refl
    where
      go : (b : Bool) → is_among rs n.id ≡ b → has_in xs n.id a ≡ true
      go true m = (kept n e m).through target offset k a o l
      go false m =
          let x = has_one xs target (a + offset) l in
          let leads : targets target n.kind ≡ true = ap (targets target) k ∙ eq-eqb target.0 target.0 refl in
          let span : KeepsSpan g.nodes xs target =
          subst (KeepsSpan g.nodes xs) x.2 (every_in (λ (y : Reach). KeepsSpan g.nodes xs y.region) x.0 xs spans x.1) in
          span.through n (sym (others n.id m) ∙ e) leads target offset k a o l

  above : (n c : Node) (a : ℕ) → node_of h.nodes n.id ≡ Some n → node_of h.nodes c.id ≡ Some c → is_child_of n.id c ≡ true → is_open n a ≡ true →
      c.offset ≤ a → has_in xs c.id (a - c.offset) ≡ true → has_in xs n.id a ≡ true
  above n c a e e' child o m l = go (is_among rs c.id) refl
    where
      in_it : c.parent ≡ Some n.id
      in_it = in_container n.id c.parent child

      go : (b : Bool) → is_among rs c.id ≡ b → has_in xs n.id a ≡ true
      go true k = (kept c e' k).above n.id in_it a (small h sound n a e o) m l
      go false k =
          let x = has_one xs c.id (a - c.offset) l in
          let span : KeepsSpan g.nodes xs c.id = subst (KeepsSpan g.nodes xs) x.2 (every_in (λ (y : Reach). KeepsSpan g.nodes xs y.region) x.0 xs spans x.1) in
          let up = subst (λ p. IfSome p (HasAbove xs)) (sym (others c.id k) ∙ e') span.above in
          up n.id in_it a (small h sound n a e o) m l

  pub closed_upward : placed ≡ false → IsClosedUpward h rs (has_in xs)
  closed_upward all = record {
    own = λ n a e m o. (kept n e m).own all a o;
    through = through;
    above = above;
  }

  pub closed_placed : placed ≡ true → IsClosedPlaced h rs (has_in xs)
  closed_placed all = record {
    placed = λ n c a e e' child m o l q. (kept c e' m).place all n.id (in_container n.id c.parent child) a (small h sound n a e o) l q;
    through = through;
    above = above;
  }

unmet : (b c : Bool) → (b ≡ true → c ≡ true) → c ≡ false → b ≡ false
unmet true c h n = true_is_not_false c (h refl) n
unmet false c h n = refl

pub shows_within : (f g : Forest) (rs : List RegionId) (xs : List Reach) (placed : Bool) → IsAscending f.nodes → IsAscending g.nodes →
    IsClosedForest f → IsClosedForest g → OthersStay f g rs →
    (placed ≡ true → Every (λ r. moves_alone (node_of f.nodes r) (node_of g.nodes r) ≡ true) rs) → Every (KeepsIn f.nodes placed xs) rs →
    Every (KeepsIn g.nodes placed xs) rs → Every (λ (x : Reach). KeepsSpan g.nodes xs x.region) xs → ShowsWithin f g xs
shows_within f g rs xs placed up vp sound sound' others moved before after spans s root is is' global a out = go placed refl
  where
    go : (b : Bool) → placed ≡ b → found_at f s a ≡ found_at g s a
    go true e =
        let only : ChangesPlaces rs f g s = record {
          root = is ∙ sym is';
          global = global;
          others = others;
          places = λ r m. differs_in_place f.nodes g.nodes r
              (each_among (λ r. moves_alone (node_of f.nodes r) (node_of g.nodes r) ≡ true) rs r (moved e) m);
        } in
        let old = placed_have_all f rs (has_in xs) s root up (closed_placed g f rs xs placed sound others before spans e) is a in
        let new = placed_have_all g rs (has_in xs) s root vp (closed_placed g g rs xs placed sound' (λ r m. refl) after spans e) is' a in
        stays_where_none_is_placed rs f g s up vp only a (unmet (meets_placed f rs s a) (has_in xs root a) old out)
        (unmet (meets_placed g rs s a) (has_in xs root a) new out)
    go false e =
        let only : ChangesOnly rs f g s = record { root = is ∙ sym is'; global = global; others = others } in
        let old = closed_have_all f rs (has_in xs) s root up (closed_upward g f rs xs placed sound others before spans e) is a in
        let new = closed_have_all g rs (has_in xs) s root vp (closed_upward g g rs xs placed sound' (λ r m. refl) after spans e) is' a in
        stays_where_none_is_met rs f g s up vp only a (unmet (meets f rs s a) (has_in xs root a) old out) (unmet (meets g rs s a) (has_in xs root a) new out)

-- what leads into a span of a region that is there: its aliases are listed
pub listed_aliases : (nodes : List Node) (xs : List Reach) (r : RegionId) (aliases : List RegionId) → aliases ≡ ids_of (filter (λ n. targets r n.kind) nodes) →
    Every (λ q. IfSome (node_of nodes q) (HasThrough xs)) aliases → (n : Node) → node_of nodes n.id ≡ Some n → targets r n.kind ≡ true → HasThrough xs n
listed_aliases nodes xs r aliases is all n e t =
    let there : In n.id (ids_of (filter (λ m. targets r m.kind) nodes)) =
    map_out (λ (m : Node). m.id) n (filter (λ m. targets r m.kind) nodes) (filter_out (λ m. targets r m.kind) n nodes (found_in_list nodes n.id n e) t) in
    let one = every_in (λ q. IfSome (node_of nodes q) (HasThrough xs)) n.id aliases all (subst (In n.id) (sym is) there) in
    subst (λ o. IfSome o (HasThrough xs)) e one

targets_it : (r : RegionId) (k : Kind) → targets r k ≡ true → target_of k ≡ Some r
targets_it r (Alias t offset) h = ap (λ (q : RegionId). Some q) (same_region t r (eqb-true t.0 r.0 h))
targets_it r _ h = absurd (grind arith)

-- a region that is not there has no aliases
pub no_aliases : (f : Forest) (xs : List Reach) (r : RegionId) → IsClosedForest f → node_of f.nodes r ≡ None → (n : Node) → node_of f.nodes n.id ≡ Some n →
    targets r n.kind ≡ true → HasThrough xs n
no_aliases f xs r sound gone n e t =
    let region = every_in (IsRegion f.nodes) n f.nodes sound.regions (found_in_list f.nodes n.id n e) in
    let there : IsSome (node_of f.nodes r) = subst (HasTarget f.nodes) (targets_it r n.kind t) region.target in
    absurd (missing (node_of f.nodes r) gone there)
  where
    missing : (o : Option Node) → o ≡ None → IsSome o → ⊥
    missing None h k = absurd (grind arith)
    missing (Some m) h k = none_is_not_some m (sym h)
