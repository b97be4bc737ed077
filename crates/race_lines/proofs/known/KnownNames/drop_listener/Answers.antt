use Rattle.std.proofs.Common.{◌≡◌, ap, subst, sym, refl, ◌∙◌, Some, List, ℕ}
use Rattle.mem_base.specs.declared.map.ids.ListenerId.{ListenerId}
use Rattle.mem_base.specs.script.Tasks.{Known, listener_named}
use Rattle.script_names.specs.Tables.{number_of}
use Rattle.iommu_notify.specs.Watchers.{watchers_of}
use Rattle.race_lines.specs.KnownNames.{HoldsNames}
use Rattle.race_lines.proofs.Keeping.{listener_left, some_named}
use Rattle.race_lines.proofs.known.KnownNames.drop_listener.Goals as goal

abbrev id : ℕ → ListenerId
id n = record { 0 = n }

pub invariant_of-self-2 : goal.invariant_of-self-2
invariant_of-self-2 c =
    let x = c.self.inside in
    let name = c.as_bytes.result.now in
    let named : number_of x.names.listeners.bound name ≡ Some c.args.listener.0 = c.self.invariant.listeners.finds name
    ∙ some_named id (λ (y : ListenerId). y.0) (λ n. refl) _ c.args.listener
    (ap (λ (k : Known). listener_named k name) c.self.view_is ∙ ap (listener_named c.args.self.now) c.as_bytes.ensures ∙ c.requires) in
    let left = c.drop_listener.ensures in
    subst (λ (ys : List ListenerId). HoldsNames c.drop_listener.new.self x.dropped.items ys (watchers_of x.notices)) (sym c.in_ok-push.ensures.items)
    (listener_left x.names c.drop_listener.new.self x.dropped.items x.gone.items (watchers_of x.notices) c.self.invariant name c.args.listener named left.bound left.same
    left.others)
