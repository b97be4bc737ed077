use Rattle.std.proofs.Common.{arith}
use Rattle.reclaim.proofs.ledger.Ledger.reserve.Goals as goal

pub overflow_add-len : goal.overflow_add-len
overflow_add-len c = let few = c.len.ensures.bound in omega arith
