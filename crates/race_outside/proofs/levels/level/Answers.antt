use Rattle.std.proofs.Common.{◌<◌, List, length, sym, subst}
use Rattle.std.specs.Prelude.{[], slice_index_or}
use Rattle.generation.specs.Published.{Published}
use Rattle.epoch_rule.specs.Values.{PassValue}
use Rattle.desk_orders.specs.Records.{GrewBy, RecordState}
use Rattle.race_levels.specs.Levels.{IsHeard}
use Rattle.race_levels.proofs.LevelLists.{heard_all}
use Rattle.race_levels.proofs.ReadyLaws.{quiet}
use Rattle.race_outside.proofs.levels.level.Goals as goal

pub meet_all-requires-clause-heard : goal.meet_all-requires-clause-heard
meet_all-requires-clause-heard c k d near =
    let same = c.hear_at.ensures.same in
    subst (λ (xs : List (PassValue Published)). IsHeard c.hear_at.new.desk.seat.seen (slice_index_or xs k d)) (sym same)
    (heard_all c.args.desk.now.seat.seen c.hear_at.new.desk.seat.seen c.args.cpus.now c.args.at c.hear_at.ensures.later.grew.seen c.hear_at.ensures.heard
    c.requires.others k d (subst (λ (xs : List (PassValue Published)). k < length xs) same near))

pub returns-clause-grew : goal.returns-clause-grew
returns-clause-grew c = subst (λ (r : RecordState). GrewBy [] c.args.desk.now r) (sym c.meet_all.ensures.same)
    (quiet c.args.desk.now c.hear_at.new.desk c.hear_at.ensures.later c.hear_at.ensures.entries)

pub returns-clause-heard : goal.returns-clause-heard
returns-clause-heard c k d near =
    subst (λ (r : RecordState). IsHeard r.seat.seen (slice_index_or c.args.cpus.now k d)) (sym c.meet_all.ensures.same)
    (heard_all c.args.desk.now.seat.seen c.hear_at.new.desk.seat.seen c.args.cpus.now c.args.at c.hear_at.ensures.later.grew.seen c.hear_at.ensures.heard
    c.requires.others k d near)
