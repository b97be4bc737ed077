use Rattle.std.proofs.Common.{rules}
use Rattle.access_cut.proofs.Powers.{lowest_by_shift}
use Rattle.access_cut.proofs.numbers.lowest.Goals as goal

pub returns-else-bytes-eq8 : goal.returns-else-bytes-eq8
returns-else-bytes-eq8 c = lowest_by_shift c.args.number c.args.bytes c.from.result (search rules) c.from.ensures
