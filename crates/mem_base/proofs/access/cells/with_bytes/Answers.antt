use Rattle.std.proofs.Common.{arith}
use Rattle.mem_base.proofs.WordLaws.{is_replaced, lower_part, whole}
use Rattle.mem_base.proofs.access.cells.with_bytes.Goals as goal

pub overflow_add-result : goal.overflow_add-result
overflow_add-result c =
    let f = c.ranges.old.fits in
    let l = lower_part c.args.old c.args.value c.args.first c.args.bytes c.requires.within (omega arith) in
    rw (c.lowest-below.ensures, c.lowest.ensures) (omega arith)

pub overflow_add-result-2 : goal.overflow_add-result-2
overflow_add-result-2 c =
    let f = c.ranges.old.fits in
    let l = whole c.args.old c.args.value c.args.first c.args.bytes c.requires.within (omega arith) in
    rw (c.lowest-below.ensures, c.lowest.ensures, c.lowest-2.ensures) (omega arith)

pub returns : goal.returns
returns c =
    let f = c.ranges.old.fits in
    rw (c.lowest-below.ensures, c.lowest.ensures, c.lowest-2.ensures)
    (is_replaced c.args.old c.args.value c.args.first c.args.bytes c.requires.within (omega arith))
