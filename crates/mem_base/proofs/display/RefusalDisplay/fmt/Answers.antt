use Rattle.mem_base.proofs.display.RefusalDisplay.fmt.Goals as goal

pub returns-in-LimitReached-clause-writes : goal.returns-in-LimitReached-clause-writes
returns-in-LimitReached-clause-writes g c = rw c.in-LimitReached.is c.write-in-LimitReached.ensures.writes

pub returns-in-Held-clause-writes : goal.returns-in-Held-clause-writes
returns-in-Held-clause-writes g c = rw c.in-Held.is c.write-in-Held.ensures.writes
