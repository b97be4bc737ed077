use Rattle.std.proofs.Common.{ap, ◌∙◌}
use Rattle.std.specs.Prelude.{is_some}
use Rattle.bounded_write.proofs.EndLaws.{written}
use Rattle.bounded_write.proofs.accesses.write_bounded.Goals as goal
use Rattle.io_window.proofs.CallLaws.{ended_cabinet}

pub returns-clause-written : goal.returns-clause-written
returns-clause-written c =
    written c.enter_unless-entered.result c.args.pass.now c.enter_unless-entered.new.pass c.write_entered-part.new.pass c.leave_unless-number.new.pass
    c.args.space c.args.addr c.args.bytes.now c.args.tries c.leave_unless-number.result c.write_entered-part.result.count
    c.write_entered-part.result.result c.write_entered-part.result.begun c.enter_unless-entered.ensures c.leave_unless-number.ensures
    c.write_entered-part.ensures.most c.write_entered-part.ensures.whole c.write_entered-part.ensures.done c.write_entered-part.ensures.stopped

pub leave_unless-number-requires-clause-own : goal.leave_unless-number-requires-clause-own
leave_unless-number-requires-clause-own c = c.write_entered-part.ensures.stays.0 ∙ (c.enter_unless-entered.ensures.cabinet ∙ c.requires.own)

pub leave_unless-number-requires-clause-entered : goal.leave_unless-number-requires-clause-entered
leave_unless-number-requires-clause-entered c = ap (λ o. is_some o) c.write_entered-part.ensures.stays.1 ∙ c.enter_unless-entered.ensures.inside

pub returns-clause-own : goal.returns-clause-own
returns-clause-own c =
    ended_cabinet c.enter_unless-entered.result c.write_entered-part.new.pass c.leave_unless-number.new.pass c.leave_unless-number.result
    c.leave_unless-number.ensures
    ∙ c.write_entered-part.ensures.stays.0 ∙ c.enter_unless-entered.ensures.cabinet
