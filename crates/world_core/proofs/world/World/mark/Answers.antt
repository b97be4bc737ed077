use Rattle.std.proofs.Common.{rules, ◌≡◌, ◌<◌, true, Some, sym, ap, subst, ◌∙◌}
use Rattle.mem_base.specs.declared.map.ids.RegionId.{RegionId}
use Rattle.mem_base.specs.declared.machine.events.Event.TheVariants as events
use Rattle.mem_base.specs.access.Places.{pages_in}
use Rattle.mem_base.specs.machine.World.{World, possible, world_after, place_in_world}
use Rattle.world_core.proofs.CellEventLaws.{page_in, mark_in}
use Rattle.world_core.proofs.PlaceLaws.{own_region}
use Rattle.world_core.proofs.world.World.mark.Goals as goal

pub mark_page-requires-clause-may : goal.mark_page-requires-clause-may
mark_page-requires-clause-may c =
    let w : World = c.args.self.now in
    let here : place_in_world w c.args.region ≡ Some c.in-Some.place = search rules in
    subst (λ (r : RegionId). possible w (events.Mark c.args.pass r c.args.client c.args.page) ≡ true) (sym (own_region w c.args.region c.in-Some.place here))
    c.requires

pub mark_page-requires-clause-placed : goal.mark_page-requires-clause-placed
mark_page-requires-clause-placed c =
    let w : World = c.args.self.now in
    let here : place_in_world w c.args.region ≡ Some c.in-Some.place = search rules in
    subst (λ (r : RegionId). place_in_world w r ≡ Some c.in-Some.place) (sym (own_region w c.args.region c.in-Some.place here)) here

pub mark_page-requires-clause-page : goal.mark_page-requires-clause-page
mark_page-requires-clause-page c =
    let w : World = c.args.self.now in
    let here : place_in_world w c.args.region ≡ Some c.in-Some.place = search rules in
    page_in w c.is_reached.ensures c.args.pass c.args.region c.args.client c.args.page c.in-Some.place here c.requires

pub mark_page-requires-clause-within : goal.mark_page-requires-clause-within
mark_page-requires-clause-within c =
    let w : World = c.args.self.now in
    let here : place_in_world w c.args.region ≡ Some c.in-Some.place = search rules in
    let near : c.args.page < pages_in c.in-Some.place =
    page_in w c.is_reached.ensures c.args.pass c.args.region c.args.client c.args.page c.in-Some.place here c.requires in
    mark_in w c.is_reached.ensures c.args.region c.args.client c.args.page c.in-Some.place here near

pub returns : goal.returns
returns c =
    let w : World = c.args.self.now in
    let here : place_in_world w c.args.region ≡ Some c.in-Some.place = search rules in
    c.mark_page.ensures
    ∙ ap (λ (r : RegionId). world_after w (events.Mark c.args.pass r c.args.client c.args.page)) (own_region w c.args.region c.in-Some.place here)
