use Rattle.std.proofs.Common.{length, ap, ◌∙◌}
use Rattle.std.specs.Prelude.{is_some}
use Rattle.mem_base.specs.access.AccessSteps.{reading}
use Rattle.vcpu_pass.proofs.CallLaws.{accessed}
use Rattle.vcpu_pass.proofs.accesses.read.Goals as goal

pub leave_unless-number-requires-clause-own : goal.leave_unless-number-requires-clause-own
leave_unless-number-requires-clause-own c =
    c.read_entered-result.ensures.done.made.cabinet ∙ (c.enter_unless-entered.ensures.cabinet ∙ c.requires.own)

pub leave_unless-number-requires-clause-entered : goal.leave_unless-number-requires-clause-entered
leave_unless-number-requires-clause-entered c =
    ap (λ o. is_some o) c.read_entered-result.ensures.done.made.edition ∙ c.enter_unless-entered.ensures.inside

pub returns : goal.returns
returns c =
    accessed c.enter_unless-entered.result c.args.pass.now c.enter_unless-entered.new.pass c.read_entered-result.new.pass c.leave_unless-number.new.pass
    c.args.space c.args.addr (reading (length c.args.out.now)) c.leave_unless-number.result c.read_entered-result.result c.read_entered-result.new.out
    c.enter_unless-entered.ensures c.read_entered-result.ensures.result c.read_entered-result.ensures.done c.leave_unless-number.ensures
