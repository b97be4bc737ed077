use Rattle.bounded_write.proofs.RunLaws.{other_stopped}
use Rattle.bounded_write.proofs.chunks.write_other.Goals as goal

pub returns-then-came-clause-stopped : goal.returns-then-came-clause-stopped
returns-then-came-clause-stopped c =
    λ less. other_stopped c.args.pass.now c.write_until-came.new.pass c.args.space c.args.addr c.args.bytes.now c.write_until-came.result.begun c.args.tries
    (c.write_until-came.ensures.come.part c.if-came.true)
