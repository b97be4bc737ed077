use Rattle.std.proofs.Common.{◌≡◌, drop}
use Rattle.iommu.specs.Pages.{next_ahead}
use Rattle.iommu.proofs.tables.next.Given as goal

-- the translation that is sought is the first one of those that are left
abbrev pub invariant-loop-entry : goal.invariant-loop-entry
invariant-loop-entry l = next_ahead l.write l.offset (drop l.entry-index l.entries) ≡ next_ahead l.write l.offset l.entries
