use Rattle.std.proofs.Common.{◌++◌, ap, ◌∙◌}
use Rattle.mem_base.specs.access.Parts.{notices_between}
use Rattle.mem_base.specs.script.Watching.{parts_shown}
use Rattle.iommu_notify.specs.PartLists.{noticed}
use Rattle.iommu_notify.proofs.watchers.Watcher.caught_up.Goals as goal

pub returns-clause-told : goal.returns-clause-told
returns-clause-told c =
    let old = c.deref.ensures.value in
    let new = c.deref-2.ensures.value ∙ c.in_ok-parts.ensures.value in
    c.in_ok-tell.ensures
    ∙ (λ i. c.args.notices.now.items ++ noticed c.self.inside.id (notices_between (old i) (new i)))
    ∙ ap (λ j. c.args.notices.now.items ++ noticed j.watcher.id
    (notices_between j.watcher.parts (parts_shown c.args.generation.now.forest j.watcher))) c.self.view_is
