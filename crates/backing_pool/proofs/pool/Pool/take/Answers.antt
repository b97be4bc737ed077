use Rattle.std.proofs.Common.{◌≡◌, ◌<◌, ◌≤◌, List, Some, None, Err, rules, sym, refl, ap, subst, ◌∙◌, arith}
use Rattle.mem_base.specs.declared.access.cells.Place.{Place}
use Rattle.mem_base.specs.declared.map.refusals.Refusal.TheVariants.{NoBacking}
use Rattle.mem_base.specs.lists.Every.{Every}
use Rattle.mem_base.specs.access.PlacesByRegion.{place_in}
use Rattle.mem_base.specs.access.Places.{is_free, extent, words_of, first_fit}
use Rattle.backing_pool.specs.Holes.{AreHoles}
use Rattle.backing_pool.specs.Backing.{Backing, AreBacked, RegionsAscend}
use Rattle.backing_pool.proofs.PlaceLaws.{pair_push}
use Rattle.backing_pool.proofs.PoolLaws.{backing, fit_seen, fit_enough, got_seen, no_backing, ok_is_not_err, hole_within, taken_holes, taken_backed, some_words}
use Rattle.backing_pool.proofs.pool.Pool.take.Goals as goal

pub take_from-requires-clause-fits : goal.take_from-requires-clause-fits
take_from-requires-clause-fits c = fit_enough c.words_for-words.result c.as_slice.result.now c.in-Some.hole c.in-Some.ensures.first

pub take_from-requires-clause-end : goal.take_from-requires-clause-end
take_from-requires-clause-end c =
    omega (
      arith,
      c.self.invariant.fits,
      hole_within _ _ _ c.self.inside.holes.items c.in-Some.at c.in-Some.hole c.self.invariant.holes
          (got_seen _ _ _ _ c.as_slice.ensures.value c.in-Some.ensures.at),
    )

pub returns-in_default-clause-refused : goal.returns-in_default-clause-refused
returns-in_default-clause-refused c =
    let none : first_fit c.args.self.now.pool_words c.args.self.now.places (words_of (extent c.args.bytes c.args.regs)) ≡ None =
    fit_seen c.self.inside.words _ _ c.self.inside.places.items _ _ _ c.args.self.now c.self.invariant.holes c.as_slice.ensures.value
    c.in_default.ensures.first c.words_for-words.ensures.value c.self.view_is in
    let words = c.words_for-words.ensures.value in
    λ why other. (λ e. (no_backing _ _ _ words e, none), λ h. ap Err (ap NoBacking words ∙ sym h.0))

pub returns-in_err-reserve-clause-refused : goal.returns-in_err-reserve-clause-refused
returns-in_err-reserve-clause-refused c =
    let fit : first_fit c.args.self.now.pool_words c.args.self.now.places (words_of (extent c.args.bytes c.args.regs)) ≡ Some c.in-Some.hole.0 =
    fit_seen c.self.inside.words _ _ c.self.inside.places.items _ _ _ c.args.self.now c.self.invariant.holes c.as_slice.ensures.value
    c.in-Some.ensures.first c.words_for-words.ensures.value c.self.view_is in
    λ why other. (λ e. search rules, λ h. absurd (let no : Some c.in-Some.hole.0 ≡ None = sym fit ∙ h.1 in cc))

pub returns-in_err-push-clause-refused : goal.returns-in_err-push-clause-refused
returns-in_err-push-clause-refused c =
    let fit : first_fit c.args.self.now.pool_words c.args.self.now.places (words_of (extent c.args.bytes c.args.regs)) ≡ Some c.in-Some.hole.0 =
    fit_seen c.self.inside.words _ _ c.self.inside.places.items _ _ _ c.args.self.now c.self.invariant.holes c.as_slice.ensures.value
    c.in-Some.ensures.first c.words_for-words.ensures.value c.self.view_is in
    λ why other. (λ e. search rules, λ h. absurd (let no : Some c.in-Some.hole.0 ≡ None = sym fit ∙ h.1 in cc))

pub invariant_of-self-2 : goal.invariant_of-self-2
invariant_of-self-2 c =
    let got = got_seen c.self.inside.holes.items _ _ _ c.as_slice.ensures.value c.in-Some.ensures.at in
    let enough : c.words_for-words.result ≤ c.in-Some.hole.1 = fit_enough _ _ _ c.in-Some.ensures.first in
    let words = c.words_for-words.ensures.value in
    let none : place_in c.self.inside.places.items c.args.region ≡ None =
    ap (λ (b : Backing). place_in b.places c.args.region) c.self.view_is ∙ c.requires.none in
    let items = c.in_ok-push.ensures.items in
    let old = c.in_ok-reserve.ensures.items in
    record {
      fits = c.self.invariant.fits;
      ascends = λ e.
          let before = subst (λ (ps : List Place). RegionsAscend ps × Every (λ p. p.region.0 < c.args.region.0) ps) c.as_slice-2.ensures.value
          (c.still_ascends-ascends.ensures e) in
          subst RegionsAscend (sym items) (pair_push (λ (p q : Place). p.region.0 < q.region.0) c.self.inside.places.items _ before.0 before.1);
      backed = subst (λ ps. AreBacked (backing c.self.inside.words ps)) (sym items)
          (taken_backed _ _ _ c.self.invariant.holes _ _ got _ refl enough c.self.invariant.backed none
          (λ i. record { region = c.args.region; start = c.in-Some.hole.0; words = words i; bytes = c.args.bytes; regs = c.args.regs })
          (rw words (some_words _ _ c.requires.pages c.requires.some)));
      holes = subst (λ ps. AreHoles (is_free ps) 0 c.self.inside.words c.take_from.new.holes.items) (sym items)
          (taken_holes _ _ _ c.self.invariant.holes _ _ got _ refl enough _ (rw old at c.take_from.ensures.items));
      room = omega (arith, c.in_ok-reserve.ensures.ok, c.take_from.ensures.len, c.take_from.ensures.capacity, c.in_ok-push.ensures.len, c.len.ensures);
    }

pub returns-clause-place : goal.returns-clause-place
returns-clause-place c = (
  (λ i. record { region = c.args.region; start = c.in-Some.hole.0; words = c.words_for-words.ensures.value i; bytes = c.args.bytes; regs = c.args.regs }),
  fit_seen c.self.inside.words _ _ c.self.inside.places.items _ _ _ c.args.self.now c.self.invariant.holes c.as_slice.ensures.value
      c.in-Some.ensures.first c.words_for-words.ensures.value c.self.view_is,
)

pub returns-clause-refused : goal.returns-clause-refused
returns-clause-refused c =
    let fit : first_fit c.args.self.now.pool_words c.args.self.now.places (words_of (extent c.args.bytes c.args.regs)) ≡ Some c.in-Some.hole.0 =
    fit_seen c.self.inside.words _ _ c.self.inside.places.items _ _ _ c.args.self.now c.self.invariant.holes c.as_slice.ensures.value
    c.in-Some.ensures.first c.words_for-words.ensures.value c.self.view_is in
    λ why other. (λ e. absurd (ok_is_not_err _ _ e), λ h. absurd (let no : Some c.in-Some.hole.0 ≡ None = sym fit ∙ h.1 in cc))

pub returns-clause-backed : goal.returns-clause-backed
returns-clause-backed c =
    let got = got_seen c.self.inside.holes.items _ _ _ c.as_slice.ensures.value c.in-Some.ensures.at in
    let enough : c.words_for-words.result ≤ c.in-Some.hole.1 = fit_enough _ _ _ c.in-Some.ensures.first in
    let words = c.words_for-words.ensures.value in
    let none : place_in c.self.inside.places.items c.args.region ≡ None =
    ap (λ (b : Backing). place_in b.places c.args.region) c.self.view_is ∙ c.requires.none in
    subst (λ ps. AreBacked (backing c.self.inside.words ps)) (sym c.in_ok-push.ensures.items)
    (taken_backed _ _ _ c.self.invariant.holes _ _ got _ refl enough c.self.invariant.backed none
    (λ i. record { region = c.args.region; start = c.in-Some.hole.0; words = words i; bytes = c.args.bytes; regs = c.args.regs })
    (rw words (some_words _ _ c.requires.pages c.requires.some)))
