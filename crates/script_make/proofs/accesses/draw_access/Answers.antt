use Rattle.rand_pcg.specs.Pcg.{pcg32}
use Rattle.script_make.proofs.Steps.{access_drawn}
use Rattle.std.proofs.Common.{rules}
use Rattle.script_make.proofs.accesses.draw_access.Goals as goal

pub returns : goal.returns
returns c =
    access_drawn pcg32 c.draw_pass-pass.result.0 c.draw-way.result c.draw_page-page.result c.draw-offset.result c.from.result c.draw_len-len.result c.in_ok-command.command
    c.args.rng.now c.draw_pass-pass.new.rng c.draw-way.new.rng c.draw_page-page.new.rng c.draw-offset.new.rng c.draw_len-len.new.rng c.draw_way.new.rng (search rules)
    c.draw_pass-pass.ensures c.draw-way.ensures.value c.draw_page-page.ensures.value c.draw-offset.ensures.value c.draw_len-len.ensures.value
    c.in_ok-command.ensures
