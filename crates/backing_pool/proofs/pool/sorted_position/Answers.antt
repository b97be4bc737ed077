use Rattle.std.proofs.Common.{rules, sym}
use Rattle.std.proofs.lemmas.List.Sorted.{answers_always}
use Rattle.mem_base.specs.declared.access.cells.Place.{Place}
use Rattle.backing_pool.proofs.RegionLaws.{place_there, place_missing, some_place}
use Rattle.backing_pool.proofs.pool.sorted_position.Goals as goal

pub returns-in-Ok-clause-place : goal.returns-in-Ok-clause-place
returns-in-Ok-clause-place c =
    let by_region = c.in-Ok.ensures.position (λ (p : Place). p.region.0) (answers_always _ _ _ (λ f a r g called. search rules)) in
    place_there c.args.places.now c.requires c.args.region c.in-Ok.at (some_place c.args.region) c.in-Ok.ensures.bound by_region

pub returns-in-Err-clause-place : goal.returns-in-Err-clause-place
returns-in-Err-clause-place c =
    let by_region = c.in-Err.ensures.position (λ (p : Place). p.region.0) (answers_always _ _ _ (λ f a r g called. search rules)) in
    sym (place_missing c.args.places.now c.requires c.args.region c.in-Err.field-0 c.in-Err.ensures.bound by_region)
