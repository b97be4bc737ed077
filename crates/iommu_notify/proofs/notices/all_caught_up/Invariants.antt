use Rattle.std.proofs.Common.{◌≡◌, ◌++◌, drop, map, flat_map}
use Rattle.mem_base.specs.lists.Every.{Every}
use Rattle.iommu_notify.specs.PartLists.{AreParts}
use Rattle.iommu_notify.specs.Watchers.{caught, told}
use Rattle.iommu_notify.proofs.notices.all_caught_up.Given as goal

abbrev pub invariant-loop-watcher : goal.invariant-loop-watcher
invariant-loop-watcher l =
    (l.caught_up.items ++ map (caught l.generation.forest) (drop l.watcher-index l.watchers)
    ≡ map (caught l.generation.forest) l.watchers)
    × (l.notices.items ++ flat_map (told l.generation.forest) (drop l.watcher-index l.watchers)
    ≡ l.initial.notices.items ++ flat_map (told l.generation.forest) l.watchers)
    × Every (λ j. AreParts j.watcher.parts) l.caught_up.items
