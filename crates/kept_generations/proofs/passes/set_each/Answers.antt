use Rattle.std.proofs.Common.{false, refl, arith}
use Rattle.kept_generations.proofs.ListLaws.{mapped_step, mapped_done}
use Rattle.kept_generations.proofs.passes.set_each.Goals as goal

pub loop-flag-preserved : goal.loop-flag-preserved
loop-flag-preserved c = mapped_step (λ flag. c.args.value) c.loop-flag.flag-index c.args.flags.now c.loop-flag.flags
    false c.args.value c.loop-flag.invariant (omega arith) refl

pub returns : goal.returns
returns c = mapped_done (λ flag. c.args.value) c.loop-flag.flag-index c.args.flags.now c.loop-flag.flags c.loop-flag.invariant (omega arith)
