use Rattle.touched_spaces.proofs.NotedLaws.{noted_call}
use Rattle.touched_spaces.proofs.noted.noting.Goals as goal

pub returns-in-Some-Some-clause-after : goal.returns-in-Some-Some-clause-after
returns-in-Some-Some-clause-after c = λ f g h answers after before.
    noted_call f g h c.args.call.now c.in-Some-Some.noted c.in-Some-Some.region c.changed_by.result c.args.noted c.with.result c.in-Some-Some.is-0
    c.in-Some-Some.is-1 (c.changed_by.ensures g answers) after c.with.ensures before
