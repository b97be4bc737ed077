use Rattle.std.proofs.Common.{rules}
use Rattle.mem_base.proofs.WordLaws.{lowest_by_shift}
use Rattle.mem_base.proofs.access.cells.lowest.Goals as goal

pub returns-else-bytes-eq8 : goal.returns-else-bytes-eq8
returns-else-bytes-eq8 c = lowest_by_shift c.args.number c.args.bytes (search rules)
