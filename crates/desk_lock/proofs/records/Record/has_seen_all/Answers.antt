use Rattle.std.proofs.Common.{ap, subst}
use Rattle.config_desk.specs.SeenLaws.{HasSeenAll}
use Rattle.desk_orders.specs.Records.{RecordState}
use Rattle.desk_lock.proofs.records.Record.has_seen_all.Goals as goal

pub returns : goal.returns
returns c = subst HasSeenAll (ap (λ (x : RecordState). x.seat) c.self.view_is) c.has_seen_all.ensures
