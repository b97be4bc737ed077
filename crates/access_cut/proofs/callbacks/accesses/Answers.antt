use Rattle.access_cut.proofs.Rows.{begins_of, row_is_places}
use Rattle.access_cut.proofs.callbacks.accesses.Goals as goal

pub invariant_of-result : goal.invariant_of-result
invariant_of-result c =
    rw (c.callback_size.ensures.value, c.callback_count.ensures) (begins_of c.args.ops.now c.args.piece.now c.requires.good c.requires.cut)

pub returns : goal.returns
returns c = rw (c.callback_size.ensures.value, c.callback_count.ensures) (row_is_places c.args.ops.now c.args.piece.now)
