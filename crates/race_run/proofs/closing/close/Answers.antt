use Rattle.std.proofs.Common.{ap}
use Rattle.race_inside.proofs.HandedOn.{RecordState}
use Rattle.race_run.proofs.ClosingLaws.{closed}
use Rattle.race_run.proofs.closing.close.Goals as goal

pub returns : goal.returns
returns c =
    let e = c.take_all_in.ensures in
    closed c.args.desk c.take_all_in.new.desk c.into_config.result c.args.cpus.items
    (ap (λ (r : RecordState). r.seat) c.into_config.ensures.same) (ap (λ (r : RecordState). r.part) c.into_config.ensures.same) c.requires.ready
    e.same.0 e.same.1 e.part e.count c.requires.count c.has_seen_legal.ensures e.begins e.writer e.came e.in_now
