use Rattle.std.proofs.Common.{◌≡◌, ◌++◌, drop}
use Rattle.mem_base.specs.map.Entries.{AreEntries}
use Rattle.mem_base.specs.access.Parts.{parts_of}
use Rattle.iommu_notify.proofs.parts.parts_of.Given as goal

abbrev pub invariant-loop-entry : goal.invariant-loop-entry
invariant-loop-entry l =
    (l.parts.items ++ parts_of (drop l.entry-index l.entries) l.first l.last ≡ parts_of l.entries l.first l.last)
    × AreEntries (drop l.entry-index l.entries)
