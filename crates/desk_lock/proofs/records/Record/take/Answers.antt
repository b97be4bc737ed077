use Rattle.std.proofs.Common.{List, ap, subst, ◌∙◌}
use Rattle.mem_base.specs.declared.machine.records.DeskEntry.{DeskEntry}
use Rattle.desk_orders.specs.Records.{RecordState, IsLater}
use Rattle.desk_lock.specs.Records.{record_state}
use Rattle.desk_lock.proofs.ReceiptLaws.{has_room}
use Rattle.desk_orders.proofs.RecordLaws.{later_unmoved, still_record}
use Rattle.desk_lock.proofs.RecordLaws.{later_one, takes_by}
use Rattle.desk_lock.proofs.records.Record.take.Goals as goal

pub returns-in_err-reserve-clause-later : goal.returns-in_err-reserve-clause-later
returns-in_err-reserve-clause-later g c =
    let i = c.self.inside in
    later_unmoved c.args.self.now (record_state i.config c.reserve.new.self.items)
    (ap (λ (es : List DeskEntry). record_state i.config es) c.reserve.ensures.items ∙ c.self.view_is)

pub returns-in_err-receipt-clause-later : goal.returns-in_err-receipt-clause-later
returns-in_err-receipt-clause-later g c =
    let i = c.self.inside in
    later_unmoved c.args.self.now (record_state c.turned.new.config c.reserve.new.self.items)
    ((λ j. record_state (c.in_err-receipt.ensures.err j) (c.reserve.ensures.items j)) ∙ c.self.view_is)

pub written-requires : goal.written-requires
written-requires g c = record {
  room = has_room c.self.inside.config c.turned.new.config c.args.order.now c.in_ok-receipt.receipt.answer c.in_ok-mine.mine
      c.in_ok-receipt.ensures.turn.asked c.in_ok-mine.ensures;
}

pub written-entry-requires : goal.written-entry-requires
written-entry-requires g c = record {
  room = has_room c.self.inside.config c.turned.new.config c.args.order.now c.in_ok-receipt.receipt.answer c.in_ok-theirs.theirs
      c.in_ok-receipt.ensures.turn.asked c.in_ok-theirs.ensures;
}

pub invariant_of-self-2 : goal.invariant_of-self-2
invariant_of-self-2 g c =
    let i = c.self.inside in
    let r = c.in_ok-receipt.receipt in
    let takes = takes_by i.config c.turned.new.config i.entries.items c.reserve.new.self.items c.push_reserved.new.self.items c.written.result c.args.who
    c.args.order.now c.in_ok-mine.mine.order r c.in_ok-receipt.ensures.turn c.push_reserved.ensures.items c.reserve.ensures.items c.written.ensures
    c.in_ok-mine.ensures.order_is in
    still_record (record_state i.config i.entries.items) (record_state c.turned.new.config c.push_reserved.new.self.items) c.self.invariant
    (later_one (record_state i.config i.entries.items) (record_state c.turned.new.config c.push_reserved.new.self.items) c.args.who c.args.order.now r takes
    c.knows_fits.ensures)

pub returns-clause-later : goal.returns-clause-later
returns-clause-later g c =
    let i = c.self.inside in
    let r = c.in_ok-receipt.receipt in
    let takes = takes_by i.config c.turned.new.config i.entries.items c.reserve.new.self.items c.push_reserved.new.self.items c.written.result c.args.who
    c.args.order.now c.in_ok-mine.mine.order r c.in_ok-receipt.ensures.turn c.push_reserved.ensures.items c.reserve.ensures.items c.written.ensures
    c.in_ok-mine.ensures.order_is in
    let w : RecordState = record_state c.turned.new.config c.push_reserved.new.self.items in
    let P : RecordState → Type 0 = λ z. IsLater z w in
    subst P c.self.view_is (later_one (record_state i.config i.entries.items) w c.args.who c.args.order.now r takes c.knows_fits.ensures)
