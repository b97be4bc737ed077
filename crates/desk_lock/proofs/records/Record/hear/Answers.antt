use Rattle.std.proofs.Common.{subst}
use Rattle.desk_orders.specs.Records.{RecordState, IsLater}
use Rattle.desk_lock.specs.Records.{record_state}
use Rattle.desk_lock.proofs.RecordLaws.{heard_later}
use Rattle.desk_lock.proofs.records.Record.hear.Goals as goal

pub returns-clause-later : goal.returns-clause-later
returns-clause-later c =
    let i = c.self.inside in
    let w : RecordState = record_state c.hear.new.self i.entries.items in
    let P : RecordState → Type 0 = λ v. IsLater v w in
    subst P c.self.view_is (heard_later i.config c.hear.new.self i.entries.items c.hear.ensures.same.0 c.hear.ensures.same.1 c.hear.ensures.same.2
    c.hear.ensures.home c.hear.ensures.wrote c.hear.ensures.part)
