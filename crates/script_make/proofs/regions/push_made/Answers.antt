use Rattle.script_make.proofs.Steps.{command_pushed}
use Rattle.script_make.proofs.regions.push_made.Goals as goal

pub returns : goal.returns
returns c =
    command_pushed _ c.push.new.self.items c.in_ok-command.command c.draw_region.new.rng _ c.in_ok-push.ensures.items c.in_ok-command.ensures
