use Rattle.rand_pcg.specs.Pcg.{pcg32}
use Rattle.script_make.proofs.Steps.{access_and_move}
use Rattle.script_make.proofs.accesses.push_access.Goals as goal

pub returns : goal.returns
returns c =
    access_and_move pcg32 c.args.t _ c.push_move.new.commands.items _ c.args.rng.now c.push_move.new.rng c.push_drawn_access.new.rng
    c.in_ok-push_move.ensures c.in_ok-push_drawn_access.ensures
