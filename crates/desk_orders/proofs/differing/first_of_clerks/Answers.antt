use Rattle.desk_orders.proofs.DifferLaws.{differing_read}
use Rattle.desk_orders.proofs.differing.first_of_clerks.Goals as goal

pub returns-in-Some : goal.returns-in-Some
returns-in-Some c =
    differing_read c.args.entries.now c.args.clerks.now c.args.clerks.now c.loop-i.i c.index-clerks-i.result c.who-who.result c.in-Some.at c.got.result.now
    c.loop-i-test.true c.index-clerks-i.is c.who-who.ensures c.got.ensures c.loop-i.invariant c.in-Some.ensures
