use Rattle.std.proofs.Common.{◌≡◌, ◌+◌}
use Rattle.bounded_write.proofs.WordLaws.{TriedSoFar}
use Rattle.bounded_write.proofs.tries.exchange.Given as goal

-- nothing was shown yet, and the word was found changed at each try
abbrev pub invariant-loop-left : goal.invariant-loop-left
invariant-loop-left g l = (g.H.Hand.seen l.hand ≡ g.H.Hand.seen l.fn.hand) × g.H.Hand.stays l.fn.hand l.hand
    × TriedSoFar (g.H.Hand.sizes l.fn.hand) (g.H.Hand.seen l.fn.hand) (l.place.start + l.word) l.old l.left l.tries

abbrev pub decreases-loop-left : goal.decreases-loop-left
decreases-loop-left g l = l.left
