use Rattle.std.proofs.Common.{sym}
use Rattle.flat_lookup.proofs.LeafLaws.{number_found, number_missing}
use Rattle.flat_lookup.proofs.leaves.is_among.Goals as goal

pub returns-in-Ok : goal.returns-in-Ok
returns-in-Ok c = sym (number_found c.args.numbers.now c.args.region.0 c.in-Ok.field-0 c.in-Ok.ensures.bound c.in-Ok.ensures.position)

pub returns-in-Err : goal.returns-in-Err
returns-in-Err c = sym (number_missing c.args.numbers.now c.args.region.0 c.in-Err.field-0 c.requires c.in-Err.ensures.bound c.in-Err.ensures.position)
