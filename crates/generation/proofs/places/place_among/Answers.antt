use Rattle.std.proofs.Common.{rules, sym}
use Rattle.std.proofs.lemmas.List.Sorted.{answers_always}
use Rattle.mem_base.specs.declared.access.cells.Place.{Place}
use Rattle.generation.proofs.PlacedLaws.{place_found, place_missing}
use Rattle.generation.proofs.places.place_among.Goals as goal

abbrev no_place : Place
no_place = record { region = record { 0 = 0 }; start = 0; words = 0; bytes = 0; regs = 0 }

pub returns-in-Ok : goal.returns-in-Ok
returns-in-Ok c =
    let by_region = c.in-Ok.ensures.position (λ (p : Place). p.region.0) (answers_always _ _ _ (λ f a r g called. search rules)) in
    sym (place_found c.args.places.now c.requires c.args.region c.in-Ok.i no_place c.in-Ok.ensures.bound by_region)

pub returns-in-Err : goal.returns-in-Err
returns-in-Err c =
    let by_region = c.in-Err.ensures.position (λ (p : Place). p.region.0) (answers_always _ _ _ (λ f a r g called. search rules)) in
    sym (place_missing c.args.places.now c.requires c.args.region c.in-Err.field-0 c.in-Err.ensures.bound by_region)
