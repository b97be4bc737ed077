use Rattle.std.proofs.Common.{sym, subst, arith}
use Rattle.iommu_notify.specs.PartLists.{AreParts}
use Rattle.iommu_notify.proofs.PartLaws.{all_found, parts_are}
use Rattle.iommu_notify.proofs.parts.parts_of.Goals as goal

pub returns-clause-parts : goal.returns-clause-parts
returns-clause-parts c =
    let at_end = c.loop-entry-test.false in
    let last = c.loop-entry.auto.entry-index-end in
    let found = all_found c.loop-entry.parts.items c.loop-entry.entry-index c.args.entries.now c.args.first c.args.last
    (omega (arith, at_end, last))
    c.loop-entry.invariant.0 in
    subst AreParts (sym found) (parts_are c.args.first c.args.last c.args.entries.now c.requires.order c.requires.entries)
