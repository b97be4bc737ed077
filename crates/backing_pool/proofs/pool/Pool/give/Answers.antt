use Rattle.std.proofs.Common.{◌≡◌, ◌<◌, ◌==◌, not, List, length, None, sym, refl, ap, subst, ◌∙◌, arith}
use Rattle.mem_base.specs.declared.access.cells.Place.{Place}
use Rattle.mem_base.specs.access.PlacesByRegion.{place_in}
use Rattle.mem_base.specs.access.Places.{is_free}
use Rattle.backing_pool.specs.Holes.{AreHoles}
use Rattle.backing_pool.specs.Backing.{Backing, AreBacked, RegionsAscend}
use Rattle.backing_pool.proofs.HoleLaws.{holes_ascend}
use Rattle.backing_pool.proofs.PlaceLaws.{without, all_stay, not_found}
use Rattle.backing_pool.proofs.PoolLaws.{backing, place_found, place_left, ends_fit, given_holes, given_backed, place_end}
use Rattle.backing_pool.proofs.pool.Pool.give.Goals as goal
use Rattle.mem_base.proofs.SortingLaws.{pairs_filter}

pub returns-in_err-at-clause-given : goal.returns-in_err-at-clause-given
returns-in_err-at-clause-given c =
    let none : place_in c.args.self.now.places c.args.region ≡ None =
    ap (λ (b : Backing). place_in b.places c.args.region) (sym c.self.view_is)
    ∙ ap (λ ps. place_in ps c.args.region) (sym c.as_slice.ensures.value) ∙ sym c.in_err-at.ensures.place in
    let stay = all_stay c.args.region c.args.self.now.places (not_found c.args.region c.args.self.now.places none) in
    λ i. record { pool_words = c.args.self.now.pool_words; places = sym stay i }

pub give_to-requires-clause-ascends : goal.give_to-requires-clause-ascends
give_to-requires-clause-ascends c = holes_ascend _ _ _ _ c.self.invariant.holes

pub give_to-requires-clause-fits : goal.give_to-requires-clause-fits
give_to-requires-clause-fits c = ends_fit _ _ _ (omega (arith, c.self.invariant.fits)) c.self.invariant.holes

pub give_to-requires-clause-end : goal.give_to-requires-clause-end
give_to-requires-clause-end c =
    let found = place_found c.self.inside.places.items c.as_slice.result.now c.in_ok-at.at _ c.remove-place.result c.args.region c.as_slice.ensures.value
    c.in_ok-at.ensures.place refl (subst (λ (ps : List Place). c.in_ok-at.at < length ps) c.as_slice.ensures.value c.in_ok-at.ensures.bound)
    c.remove-place.ensures.value in
    omega (arith, c.self.invariant.fits, place_end _ _ _ c.self.invariant.backed c.self.invariant.holes c.args.region c.remove-place.result found)

pub invariant_of-self : goal.invariant_of-self
invariant_of-self c =
    let places = c.self.inside.places.items in
    let within = subst (λ (ps : List Place). c.in_ok-at.at < length ps) c.as_slice.ensures.value c.in_ok-at.ensures.bound in
    let found = place_found places c.as_slice.result.now c.in_ok-at.at _ c.remove-place.result c.args.region c.as_slice.ensures.value
    c.in_ok-at.ensures.place refl within c.remove-place.ensures.value in
    let left : c.remove-place.new.self.items ≡ without c.args.region places = c.remove-place.ensures.items
    ∙ place_left places c.as_slice.result.now c.in_ok-at.at _ c.remove-place.result c.args.region c.as_slice.ensures.value
    c.in_ok-at.ensures.place refl within c.remove-place.ensures.value c.self.invariant.backed.apart in
    record {
      fits = c.self.invariant.fits;
      ascends = λ e. subst RegionsAscend (sym left) (pairs_filter (λ (p q : Place). p.region.0 < q.region.0)
          (λ (p : Place). not (p.region.0 == c.args.region.0)) places
          (c.self.invariant.ascends e));
      backed = subst (λ ps. AreBacked (backing c.self.inside.words ps)) (sym left)
          (given_backed _ _ _ c.self.invariant.backed c.self.invariant.holes c.args.region c.remove-place.result found);
      holes = subst (λ ps. AreHoles (is_free ps) 0 c.self.inside.words c.give_to.new.holes.items) (sym left)
          (given_holes _ _ _ c.self.invariant.backed c.self.invariant.holes c.args.region c.remove-place.result found _ c.give_to.ensures.items);
      room = omega (arith, c.self.invariant.room, c.give_to.ensures.len, c.give_to.ensures.capacity, c.remove-place.ensures.len);
    }

pub returns-clause-value : goal.returns-clause-value
returns-clause-value c =
    let within = subst (λ (ps : List Place). c.in_ok-at.at < length ps) c.as_slice.ensures.value c.in_ok-at.ensures.bound in
    sym (place_found c.self.inside.places.items c.as_slice.result.now c.in_ok-at.at _ c.remove-place.result c.args.region c.as_slice.ensures.value
    c.in_ok-at.ensures.place refl within c.remove-place.ensures.value) ∙ ap (λ (b : Backing). place_in b.places c.args.region) c.self.view_is

pub returns-clause-given : goal.returns-clause-given
returns-clause-given c =
    let within = subst (λ (ps : List Place). c.in_ok-at.at < length ps) c.as_slice.ensures.value c.in_ok-at.ensures.bound in
    let left : c.remove-place.new.self.items ≡ without c.args.region c.self.inside.places.items = c.remove-place.ensures.items
    ∙ place_left c.self.inside.places.items c.as_slice.result.now c.in_ok-at.at _ c.remove-place.result c.args.region c.as_slice.ensures.value
    c.in_ok-at.ensures.place refl within c.remove-place.ensures.value c.self.invariant.backed.apart in
    (λ i. backing c.self.inside.words (left i)) ∙ ap (λ (b : Backing). backing b.pool_words (without c.args.region b.places)) c.self.view_is

pub returns-clause-backed : goal.returns-clause-backed
returns-clause-backed c =
    let within = subst (λ (ps : List Place). c.in_ok-at.at < length ps) c.as_slice.ensures.value c.in_ok-at.ensures.bound in
    let found = place_found c.self.inside.places.items c.as_slice.result.now c.in_ok-at.at _ c.remove-place.result c.args.region c.as_slice.ensures.value
    c.in_ok-at.ensures.place refl within c.remove-place.ensures.value in
    let left : c.remove-place.new.self.items ≡ without c.args.region c.self.inside.places.items = c.remove-place.ensures.items
    ∙ place_left c.self.inside.places.items c.as_slice.result.now c.in_ok-at.at _ c.remove-place.result c.args.region c.as_slice.ensures.value
    c.in_ok-at.ensures.place refl within c.remove-place.ensures.value c.self.invariant.backed.apart in
    subst (λ ps. AreBacked (backing c.self.inside.words ps)) (sym left)
    (given_backed _ _ _ c.self.invariant.backed c.self.invariant.holes c.args.region c.remove-place.result found)
