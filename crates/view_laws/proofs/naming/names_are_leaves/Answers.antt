use Rattle.view_laws.proofs.NamingLaws.{names_leaves}
use Rattle.view_laws.proofs.naming.names_are_leaves.Goals as goal

pub returns : goal.returns
returns c = names_leaves
