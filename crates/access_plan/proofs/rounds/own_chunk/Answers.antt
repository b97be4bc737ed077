use Rattle.std.proofs.Common.{sym, subst}
use Rattle.access_base.specs.Leaves.{IsTargetRun}
use Rattle.access_plan.specs.HostPlans.{IsNearEnd}
use Rattle.access_plan.proofs.RoundLaws.{near_own, run_own}
use Rattle.access_plan.proofs.rounds.own_chunk.Goals as goal

pub returns-clause-near : goal.returns-clause-near
returns-clause-near c h = let at = c.first_chunk-route in
    subst IsNearEnd at.ensures.target (near_own c.args.g.now.forest at.result.0 (subst IsNearEnd c.own_target.ensures h))

pub returns-clause-run : goal.returns-clause-run
returns-clause-run c = let at = c.first_chunk-route in
    subst (λ x. IsTargetRun c.args.g.now.forest x at.result.1) (sym c.own_target.ensures)
    (run_own c.args.g.now.forest at.result.0 at.result.1 at.ensures.run)
