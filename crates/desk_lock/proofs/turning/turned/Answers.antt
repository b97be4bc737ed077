use Rattle.desk_lock.proofs.ReceiptLaws.{is_receipt}
use Rattle.desk_lock.proofs.turning.turned.Goals as goal

pub returns-clause-receipt : goal.returns-clause-receipt
returns-clause-receipt g c =
    is_receipt c.args.config.now c.ask.new.config c.has_seen_shared.ensures c.goes_by_turns.ensures c.args.order.now _ c.in_ok-answer.ensures.asked
    c.in_ok-answer.ensures.other c.in_ok-answer.ensures.number c.in_ok-current.ensures c.note-note.ensures.note.0 c.note-note.ensures.note.1
