use Rattle.std.proofs.Common.{sym, subst}
use Rattle.mem_base.specs.declared.machine.records.DeskOrder.{DeskOrder}
use Rattle.mem_base.specs.declared.machine.records.DeskOrder.TheVariants as orders
use Rattle.mem_base.specs.machine.Answers.{call_answer}
use Rattle.desk_lock.specs.Turned.{IsAsked}
use Rattle.desk_lock.proofs.ReceiptLaws.{asked_as}
use Rattle.desk_lock.proofs.asking.ask.Goals as goal

pub returns-in_ok-answer-in-Call-clause-asked : goal.returns-in_ok-answer-in-Call-clause-asked
returns-in_ok-answer-in-Call-clause-asked g c =
    let P : DeskOrder → Type 0 = λ o. IsAsked c.args.config.now o c.in_ok-answer-in-Call.answer c.call.new.self in
    subst P (sym c.in-Call.is) (asked_as c.args.config.now c.call.new.self (orders.Call c.in-Call.call) (call_answer c.call.result)
    c.in_ok-answer-in-Call.answer (c.call.ensures.turn c.in_ok-answer-in-Call.ensures.done) c.in_ok-answer-in-Call.ensures.told)
