use Rattle.std.proofs.Common.{◌∙◌, sym}
use Rattle.backing_pool.proofs.PlaceLaws.{found_at}
use Rattle.backing_pool.proofs.pool.listed_position.Goals as goal

pub returns-then-eq-clause-place : goal.returns-then-eq-clause-place
returns-then-eq-clause-place c =
    found_at c.args.places.now c.loop-at.at c.args.region _ c.loop-at-test.true (sym c.eq.ensures ∙ c.if-eq.true) c.loop-at.invariant
