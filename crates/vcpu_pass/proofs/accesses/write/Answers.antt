use Rattle.std.proofs.Common.{[], ap, ◌∙◌}
use Rattle.std.specs.Prelude.{is_some}
use Rattle.mem_base.specs.access.AccessSteps.{writing}
use Rattle.vcpu_pass.proofs.CallLaws.{accessed}
use Rattle.vcpu_pass.proofs.accesses.write.Goals as goal

pub leave_unless-number-requires-clause-own : goal.leave_unless-number-requires-clause-own
leave_unless-number-requires-clause-own g c =
    c.write_entered-result.ensures.done.made.cabinet ∙ (c.enter_unless-entered.ensures.cabinet ∙ c.requires.own)

pub leave_unless-number-requires-clause-entered : goal.leave_unless-number-requires-clause-entered
leave_unless-number-requires-clause-entered g c =
    ap (λ o. is_some o) c.write_entered-result.ensures.done.made.edition ∙ c.enter_unless-entered.ensures.inside

pub returns : goal.returns
returns g c =
    accessed c.enter_unless-entered.result c.args.pass.now c.enter_unless-entered.new.pass c.write_entered-result.new.pass c.leave_unless-number.new.pass
    c.args.space c.args.addr (writing c.args.bytes.now) c.leave_unless-number.result c.write_entered-result.result []
    c.enter_unless-entered.ensures c.write_entered-result.ensures.result c.write_entered-result.ensures.done c.leave_unless-number.ensures
