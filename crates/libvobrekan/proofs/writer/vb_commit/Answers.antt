use Rattle.std.proofs.Common.{subst, Some}
use Rattle.mem_base.specs.declared.map.calls.Config.TheVariants as configs
use Rattle.mem_base.specs.machine.Orders.{configure}
use Rattle.libvobrekan.specs.Answers.{commit_told}
use Rattle.libvobrekan.specs.Asked.{Asked}
use Rattle.libvobrekan.proofs.AskedLaws.{asked_commit, on_handle}
use Rattle.libvobrekan.proofs.writer.vb_commit.Goals as goal

pub returns : goal.returns
returns c =
    let w = c.in-Some.machine.value in
    let v = c.commit-answer.new.self in
    let k = configure configs.Commit in
    let r = c.commit-answer.result in
    on_handle c.args.handle.now.machine w v k
    (commit_told r) c.of_commit.result c.put.new.self.machine c.in-Some.ensures.taken c.of_commit.ensures c.put.ensures
    (subst (λ u. Asked u k (commit_told r) (Some v)) c.deref_mut.ensures.value
    (asked_commit c.deref_mut.result.now v k r c.commit-answer.ensures.completed c.commit-answer.ensures.legal c.commit-answer.ensures.unchanged
    c.commit-answer.ensures.passes))
