use Rattle.map_laws.proofs.PathLaws.{Finds-found_at}
use Rattle.tree_find.proofs.find.Goals as goal

pub returns-clause-manual : goal.returns-clause-manual
returns-clause-manual c r e = Finds-found_at c.args.tree.now c.args.space r c.args.addr c.find_from.ensures.forest e
