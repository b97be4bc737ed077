use Rattle.desk_orders.proofs.RecordLaws.{later_joins}
use Rattle.race_join.proofs.joining.+hear_notes.Goals as goal

pub returns-in-Some-clause-later : goal.returns-in-Some-clause-later
returns-in-Some-clause-later t c =
    later_joins c.args.desk.now c.hear.new.self c.hear_notes.new.desk c.hear.ensures.later c.hear_notes.ensures.later
