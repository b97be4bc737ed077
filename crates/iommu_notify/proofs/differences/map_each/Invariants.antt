use Rattle.std.proofs.Common.{◌≡◌, ◌++◌, map, drop}
use Rattle.mem_base.specs.declared.access.notices.Notice.TheVariants.{Map}
use Rattle.mem_base.specs.access.Parts.{parts_without}
use Rattle.iommu_notify.specs.PartLists.{noticed}
use Rattle.iommu_notify.proofs.differences.map_each.Given as goal

abbrev pub invariant-loop-part : goal.invariant-loop-part
invariant-loop-part l =
    l.notices.items ++ noticed l.id (map (λ p. Map p) (parts_without (drop l.part-index l.parts) l.others))
    ≡ l.initial.notices.items ++ noticed l.id (map (λ p. Map p) (parts_without l.parts l.others))
