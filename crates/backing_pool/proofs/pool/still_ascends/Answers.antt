use Rattle.std.proofs.Common.{◌≡◌, ◌-◌, ◌<◌, Some, length, get_or, sym, arith, subst}
use Rattle.std.specs.List.{slice_get}
use Rattle.std.proofs.lemmas.Bool.Decides.{nat_tests}
use Rattle.std.proofs.lemmas.Option.{slice_get_within, get_or_from_slice_get}
use Rattle.mem_base.specs.declared.access.cells.Place.{Place}
use Rattle.backing_pool.proofs.RegionLaws.{all_below}
use Rattle.backing_pool.proofs.pool.still_ascends.Goals as goal

pub returns-in-Some : goal.returns-in-Some
returns-in-Some c = λ e.
    let places = c.args.places.now in
    let place = c.in-Some.place.now in
    let at : slice_get places (length places - 1) ≡ Some place = sym c.in-Some.ensures.value in
    let within : length places - 1 < length places = slice_get_within places (length places - 1) place at in
    let below : place.region.0 < c.args.region.0 = grind (arith, nat_tests) in
    let last : (get_or places (length places - 1) place).region.0 < c.args.region.0 =
    subst (λ (p : Place). p.region.0 < c.args.region.0) (sym (get_or_from_slice_get places (length places - 1) place place at)) below in
    let up = c.requires c.if-not-ascends.false in
    (up, all_below places (length places - 1) place c.args.region.0 up (omega (arith, within)) last)
