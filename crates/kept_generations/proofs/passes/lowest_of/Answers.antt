use Rattle.std.proofs.Common.{◌≤◌, arith}
use Rattle.mem_base.specs.machine.Generations.{least_lowest}
use Rattle.kept_generations.proofs.passes.lowest_of.Goals as goal
use Rattle.mem_base.proofs.PassTurnLaws.{least_within}

pub loop-track-init : goal.loop-track-init
loop-track-init c =
    let within : least_lowest c.args.current c.args.tracks.now ≤ c.args.current = least_within c.args.current c.args.tracks.now in
    record { most = omega arith; rest = omega arith }
