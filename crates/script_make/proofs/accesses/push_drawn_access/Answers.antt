use Rattle.rand_pcg.specs.Pcg.{pcg32}
use Rattle.script_make.proofs.Steps.{access_line}
use Rattle.script_make.proofs.accesses.push_drawn_access.Goals as goal

pub returns : goal.returns
returns c =
    access_line pcg32 _ c.push.new.self.items c.in_ok-command.command c.args.rng.now c.draw_access.new.rng c.in_ok-push.ensures.items c.in_ok-command.ensures
