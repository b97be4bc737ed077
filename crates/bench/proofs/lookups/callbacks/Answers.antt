use Rattle.std.proofs.Common.{[], sym, ◌∙◌}
use Rattle.access_cut.proofs.PieceLaws.{given_is_cut}
use Rattle.bench.proofs.lookups.callbacks.Goals as goal

pub accesses-places-requires-clause-cut : goal.accesses-places-requires-clause-cut
accesses-places-requires-clause-cut c =
    given_is_cut c.args.ops.now c.args.offset c.args.len [] c.next.new.self c.in-Some.piece c.requires.within (sym c.cut-cuts.ensures ∙ c.in-Some.ensures)
