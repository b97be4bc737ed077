use Rattle.std.proofs.Common.{◌≡◌, ◌++◌, [], ◌∷◌, ap, length, subst, sym, refl, ◌∙◌, None, List, ℕ}
use Rattle.mem_base.specs.declared.map.ids.WatcherId.{WatcherId}
use Rattle.mem_base.specs.script.Tasks.{Known, watcher_named}
use Rattle.script_names.specs.Tables.{Rebinds, Table, number_of, table}
use Rattle.iommu_notify.specs.Watchers.{NoticesState, new_watcher, watchers_of}
use Rattle.race_lines.specs.KnownNames.{HoldsNames}
use Rattle.race_lines.proofs.Keeping.{none_named}
use Rattle.race_lines.proofs.WatchingLaws.{name_back, watcher_made}
use Rattle.race_lines.proofs.known.KnownNames.add_watcher.Goals as goal

abbrev id : ℕ → WatcherId
id n = record { 0 = n }

pub invariant_of-self-in_default-watch : goal.invariant_of-self-in_default-watch
invariant_of-self-in_default-watch c =
    let x = c.self.inside in
    let name = c.as_bytes.result.now in
    let free : number_of x.names.notifiers.bound name ≡ None = c.self.invariant.notifiers.finds name ∙ none_named id _
    (ap (λ (k : Known). watcher_named k name) c.self.view_is ∙ ap (watcher_named c.args.self.now) c.as_bytes.ensures ∙ c.requires) in
    let made = c.in_ok-add_watcher.ensures in
    let notifiers : c.add_watcher.new.self.notifiers ≡ table (x.names.notifiers.bound ++ (name, length x.names.notifiers.made) ∷ [])
    (x.names.notifiers.made ++ name ∷ []) =
    made.notifiers ∙ (λ i. table (x.names.notifiers.bound ++ (name, made.id i) ∷ []) (x.names.notifiers.made ++ name ∷ [])) in
    let back = c.drop_watcher.ensures in
    let binds = subst (λ (t : List ℕ). Rebinds c.add_watcher.new.self.notifiers.bound c.drop_watcher.new.self.notifiers.bound t None)
    (c.as_bytes-in_default-watch.ensures ∙ sym c.as_bytes.ensures) back.bound in
    subst (HoldsNames c.drop_watcher.new.self x.dropped.items x.gone.items)
    (sym (ap (λ (n : NoticesState). watchers_of n) c.in_default-watch.ensures.unchanged))
    (name_back x.names c.add_watcher.new.self c.drop_watcher.new.self x.dropped.items x.gone.items (watchers_of x.notices) c.self.invariant
    (new_watcher (id (length x.names.notifiers.made)) c.args.region c.args.first c.args.last) name refl free notifiers made.others binds back.same
    back.others)

pub invariant_of-self-2 : goal.invariant_of-self-2
invariant_of-self-2 c =
    let x = c.self.inside in
    let name = c.as_bytes.result.now in
    let free : number_of x.names.notifiers.bound name ≡ None = c.self.invariant.notifiers.finds name ∙ none_named id _
    (ap (λ (k : Known). watcher_named k name) c.self.view_is ∙ ap (watcher_named c.args.self.now) c.as_bytes.ensures ∙ c.requires) in
    let made = c.in_ok-add_watcher.ensures in
    let number : c.in-Some.number ≡ length x.names.notifiers.made = c.in-Some.ensures.0
    ∙ ap (λ (t : Table). length t.made) c.notifiers.ensures in
    let notifiers : c.add_watcher.new.self.notifiers ≡ table (x.names.notifiers.bound ++ (name, length x.names.notifiers.made) ∷ [])
    (x.names.notifiers.made ++ name ∷ []) =
    made.notifiers ∙ (λ i. table (x.names.notifiers.bound ++ (name, made.id i) ∷ []) (x.names.notifiers.made ++ name ∷ [])) in
    watcher_made x.names c.add_watcher.new.self x.dropped.items x.gone.items (watchers_of x.notices) c.self.invariant
    (watchers_of c.watch.new.self) _ name number c.in-Ok.ensures.watchers free notifiers made.others
