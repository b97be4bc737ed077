use Rattle.std.proofs.Common.{sym, arith}
use Rattle.iommu.proofs.PageLaws.{are_pages}
use Rattle.iommu.proofs.TableLaws.{shut_until}
use Rattle.iommu.proofs.HopLaws.{shut_none, shut_some}
use Rattle.iommu.proofs.hops.shut_for.Goals as goal

pub overflow_sub-entry : goal.overflow_sub-entry
overflow_sub-entry c =
    let pages = are_pages c.args.entries.now c.requires.pages in
    let k = shut_until c.args.write c.args.entries.now c.args.offset c.requires.sorted pages c.requires.shut in
    let ahead = (k.then_used c.in-Some.entry (sym c.in-Some.ensures)).0 in
    omega arith

pub returns-in-Some : goal.returns-in-Some
returns-in-Some c =
    shut_some c.args.entries.now c.args.write c.args.offset c.args.run c.min.result c.in-Some.entry c.requires.sorted c.requires.pages c.requires.some
    c.requires.shut (sym c.in-Some.ensures) c.min.ensures

pub returns-in-None : goal.returns-in-None
returns-in-None c =
    shut_none c.args.entries.now c.args.write c.args.offset c.args.run c.requires.sorted c.requires.pages c.requires.some c.requires.shut
    (sym c.in-None.ensures)
