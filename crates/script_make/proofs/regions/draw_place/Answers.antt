use Rattle.rand_pcg.specs.Pcg.{pcg32}
use Rattle.std.proofs.Common.{rules, w32}
use mir.Val.{SFits}
use Rattle.std.proofs.lemmas.Int.{to_z-of_z}
use Rattle.script_make.proofs.Steps.{place_drawn}
use Rattle.script_make.proofs.regions.draw_place.Goals as goal

pub returns : goal.returns
returns c =
    let fits : SFits w32 c.draw_priority-priority.result = search rules in
    place_drawn pcg32 c.args.i c.args.latest c.draw_page-offset.result c.draw-chosen.result c.draw_priority-priority.result _ c.in_ok-command.command
    c.args.rng.now c.draw_page-offset.new.rng c.draw-chosen.new.rng c.draw_priority-priority.new.rng
    c.in_ok-command.ensures (to_z-of_z w32 c.draw_priority-priority.result fits)
    c.draw_page-offset.ensures.value c.draw-chosen.ensures.value c.draw_priority-priority.ensures
