use Rattle.std.proofs.Common.{◌≡◌, ◌≤◌, length, subst, false}
use Rattle.region_extents.specs.Kept.{listed}
use Rattle.region_extents.proofs.RaiseLaws.{listed_insert}
use Rattle.region_extents.proofs.raising.await_one.Goals as goal

pub returns : goal.returns
returns c v h =
    listed_insert v c.args.region c.args.waiting.now c.rank_for-rank.result
    (subst (λ xs. c.rank_for-rank.result ≤ length xs) c.as_slice.ensures c.rank_for-rank.ensures)
    (subst (λ xs. listed v xs ≡ false) c.in_ok-insert.ensures.ok h)
