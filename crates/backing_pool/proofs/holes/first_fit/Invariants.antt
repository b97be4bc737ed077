use Rattle.std.proofs.Common.{◌≡◌, drop, find, nat_le}
use Rattle.backing_pool.proofs.holes.first_fit.Given as goal

abbrev pub invariant-loop-at : goal.invariant-loop-at
invariant-loop-at l = find (λ hole. nat_le l.words hole.1) (drop l.at l.holes) ≡ find (λ hole. nat_le l.words hole.1) l.holes
