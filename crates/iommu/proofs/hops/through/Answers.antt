use Rattle.std.proofs.Common.{◌+◌, sym, ap, arith}
use Rattle.iommu.proofs.HopLaws.{is_used, open_for}
use Rattle.iommu.proofs.hops.through.Goals as goal

pub overflow_sub-offset : goal.overflow_sub-offset
overflow_sub-offset c =
    let u = is_used c.args.entries.now c.args.write c.args.offset c.in-Some.entry c.requires.pages (sym c.in-Some.ensures) in u.low

pub overflow_sub-entry : goal.overflow_sub-entry
overflow_sub-entry c =
    let u = is_used c.args.entries.now c.args.write c.args.offset c.in-Some.entry c.requires.pages (sym c.in-Some.ensures) in
    let low = u.low in
    let high = u.high in
    omega arith

pub returns-in-Some : goal.returns-in-Some
returns-in-Some c =
    open_for c.args.entries.now c.args.write c.args.offset c.args.run c.translated.result _ c.in-Some.entry c.requires.sorted c.requires.pages c.requires.some
    (sym c.in-Some.ensures) (omega arith) (omega arith) c.translated.ensures (ap (λ x. x + 1) c.min.ensures)
