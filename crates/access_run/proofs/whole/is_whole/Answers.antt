use Rattle.std.proofs.Common.{Bool, not, ap, ◌∙◌}
use Rattle.mem_base.specs.machine.Passes.{pass_id}
use Rattle.mem_base.specs.access.AccessSteps.{writing}
use Rattle.mem_base.specs.access.Access.{access}
use Rattle.access_run.proofs.PartialLaws.{partial_events}
use Rattle.access_run.proofs.whole.is_whole.Goals as goal

pub returns : goal.returns
returns c =
    ap (λ (b : Bool). not b)
    (c.write.ensures.done.made.1 ∙ partial_events (pass_id 0) (access c.args.g.now.forest c.args.space c.args.addr (writing c.args.bytes.now)))
