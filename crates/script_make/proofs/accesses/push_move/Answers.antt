use Rattle.rand_pcg.specs.Pcg.{pcg32}
use Rattle.script_make.proofs.Steps.{no_move}
use Rattle.std.proofs.Common.{ne_eqb, ◌%◌}
use Rattle.script_make.proofs.accesses.push_move.Goals as goal

pub returns-then-t-ne99 : goal.returns-then-t-ne99
returns-then-t-ne99 c = no_move pcg32 c.args.t _ c.args.rng.now (ne_eqb (c.args.t % 100) 99 c.if-t-ne99.true)
