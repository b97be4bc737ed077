use Rattle.script_make.proofs.Steps.{move_pushed}
use Rattle.script_make.proofs.accesses.push_drawn_move.Goals as goal

pub returns : goal.returns
returns c =
    move_pushed _ c.push.new.self.items c.in_ok-command.command c.draw_move.new.rng _ c.in_ok-push.ensures.items c.in_ok-command.ensures
