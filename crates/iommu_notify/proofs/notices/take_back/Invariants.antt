use Rattle.std.proofs.Common.{◌≡◌, ◌++◌, drop}
use Rattle.iommu_notify.specs.Watchers.{leaving}
use Rattle.iommu_notify.proofs.notices.take_back.Given as goal

abbrev pub invariant-loop-watcher : goal.invariant-loop-watcher
invariant-loop-watcher l =
    l.notices.items ++ leaving l.id (drop l.watcher-index l.watchers) ≡ l.initial.notices.items ++ leaving l.id l.watchers
