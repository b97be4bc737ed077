use Rattle.desk_orders.proofs.DifferLaws.{goes_on, differs_here, differs_last}
use Rattle.desk_orders.proofs.differing.first_difference.Goals as goal

pub loop-i-preserved : goal.loop-i-preserved
loop-i-preserved c =
    goes_on c.args.who c.args.mine.now c.args.entries.now c.loop-i.at c.loop-i.i c.in-Some.next c.index-entries-i.result c.loop-i.invariant.0
    c.loop-i.invariant.1
    c.loop-i-test.true c.index-entries-i.is c.in-Some.ensures

pub returns-in_default : goal.returns-in_default
returns-in_default c =
    differs_here c.args.who c.args.mine.now c.args.entries.now c.loop-i.at c.loop-i.i c.index-entries-i.result c.loop-i.invariant.0 c.loop-i.invariant.1
    c.loop-i-test.true c.index-entries-i.is c.in_default.ensures.0 c.in_default.ensures.1

pub returns-then-at-mine : goal.returns-then-at-mine
returns-then-at-mine c =
    differs_last c.args.who c.args.mine.now c.args.entries.now c.loop-i.at c.loop-i.i c.if-at-mine.true c.loop-i-test.false c.loop-i.invariant.1
