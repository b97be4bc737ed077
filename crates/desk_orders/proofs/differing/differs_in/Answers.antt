use Rattle.std.proofs.Common.{sym}
use Rattle.desk_orders.proofs.DifferLaws.{stray_differs}
use Rattle.desk_orders.proofs.differing.differs_in.Goals as goal

pub returns : goal.returns
returns c =
    stray_differs c.args.entries.now c.args.clerks.now c.args.clerks.now c.in-Some-first_stray.who c.in_default.ensures (sym c.in-Some-first_stray.ensures)
