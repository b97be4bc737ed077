use Rattle.std.proofs.Common.{rules, ◌≡◌, true, Some, sym, ap, subst, ◌∙◌}
use Rattle.mem_base.specs.declared.map.ids.RegionId.{RegionId}
use Rattle.mem_base.specs.declared.machine.events.Event.TheVariants as events
use Rattle.mem_base.specs.access.Cells.{cell}
use Rattle.mem_base.specs.machine.World.{World, possible, reply, number_in, world_after, place_in_world}
use Rattle.world_core.proofs.CellEventLaws.{word_in}
use Rattle.world_core.proofs.PlaceLaws.{own_region}
use Rattle.world_core.proofs.world.World.step_cell.Goals as goal

pub step_word-requires-clause-may : goal.step_word-requires-clause-may
step_word-requires-clause-may c =
    let w : World = c.args.self.now in
    let x = c.args.cell.now in
    let here : place_in_world w x.region ≡ Some c.in-Some.place = search rules in
    subst (λ (r : RegionId). possible w (events.Word c.args.hand (cell r x.word) c.args.step) ≡ true) (sym (own_region w x.region c.in-Some.place here))
    c.requires

pub step_word-requires-clause-placed : goal.step_word-requires-clause-placed
step_word-requires-clause-placed c =
    let w : World = c.args.self.now in
    let x = c.args.cell.now in
    let here : place_in_world w x.region ≡ Some c.in-Some.place = search rules in
    subst (λ (r : RegionId). place_in_world w r ≡ Some c.in-Some.place) (sym (own_region w x.region c.in-Some.place here)) here

pub step_word-requires-clause-within : goal.step_word-requires-clause-within
step_word-requires-clause-within c =
    let w : World = c.args.self.now in
    let x = c.args.cell.now in
    let here : place_in_world w x.region ≡ Some c.in-Some.place = search rules in
    word_in w c.is_reached.ensures c.args.hand x c.args.step c.in-Some.place here c.requires

pub returns-clause-old : goal.returns-clause-old
returns-clause-old c =
    let w : World = c.args.self.now in
    let x = c.args.cell.now in
    let here : place_in_world w x.region ≡ Some c.in-Some.place = search rules in
    c.step_word.ensures.old
    ∙ ap (λ (r : RegionId). number_in (reply w (events.Word c.args.hand (cell r x.word) c.args.step))) (own_region w x.region c.in-Some.place here)

pub returns-clause-world : goal.returns-clause-world
returns-clause-world c =
    let w : World = c.args.self.now in
    let x = c.args.cell.now in
    let here : place_in_world w x.region ≡ Some c.in-Some.place = search rules in
    c.step_word.ensures.world
    ∙ ap (λ (r : RegionId). world_after w (events.Word c.args.hand (cell r x.word) c.args.step)) (own_region w x.region c.in-Some.place here)
