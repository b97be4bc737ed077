use Rattle.std.proofs.Common.{◌≡◌, ap, refl, ◌∙◌, Some, ℕ}
use Rattle.mem_base.specs.declared.map.ids.WatcherId.{WatcherId}
use Rattle.mem_base.specs.script.Tasks.{Known, watcher_named}
use Rattle.script_names.specs.Tables.{number_of}
use Rattle.iommu_notify.specs.Watchers.{watchers_of}
use Rattle.race_lines.proofs.Keeping.{some_named}
use Rattle.race_lines.proofs.WatchingLaws.{watcher_left}
use Rattle.race_lines.proofs.known.KnownNames.remove_watcher.Goals as goal

abbrev id : ℕ → WatcherId
id n = record { 0 = n }

pub invariant_of-self-2 : goal.invariant_of-self-2
invariant_of-self-2 c =
    let x = c.self.inside in
    let name = c.as_bytes.result.now in
    let named : number_of x.names.notifiers.bound name ≡ Some c.args.watcher.0 = c.self.invariant.notifiers.finds name
    ∙ some_named id (λ (y : WatcherId). y.0) (λ n. refl) _ c.args.watcher
    (ap (λ (k : Known). watcher_named k name) c.self.view_is ∙ ap (watcher_named c.args.self.now) c.as_bytes.ensures ∙ c.requires) in
    let left = c.drop_watcher.ensures in
    watcher_left x.names c.drop_watcher.new.self x.dropped.items x.gone.items (watchers_of x.notices) c.self.invariant
    (watchers_of c.unwatch.new.self) c.args.watcher.0 name c.in-Ok.ensures.watchers named left.bound left.same left.others
