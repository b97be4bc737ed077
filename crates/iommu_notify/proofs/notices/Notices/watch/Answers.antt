use Rattle.std.proofs.Common.{◌≡◌, ◌++◌, [], ◌∷◌, length, false, None, refl, rules, subst, sym, ap, ◌∙◌}
use Rattle.std.specs.List.{list_any}
use Rattle.mem_base.specs.declared.map.refusals.What.TheVariants as what
use Rattle.mem_base.specs.declared.map.refusals.Refusal.TheVariants.{NameTaken}
use Rattle.mem_base.specs.script.Watching.{notices_of, parts_shown, watch_refusal, with_parts}
use Rattle.iommu_notify.specs.PartLists.{AreParts}
use Rattle.iommu_notify.specs.Watchers.{AreReplayed, has_watcher, is_joined, join_refusal, joined, new_watcher, notices_state}
use Rattle.iommu_notify.specs.Watchers.{watchers_of}
use Rattle.iommu_notify.proofs.JournalLaws.{free_id, one_joined}
use Rattle.iommu_notify.proofs.notices.Notices.watch.Goals as goal

pub invariant_of-self-2 : goal.invariant_of-self-2
invariant_of-self-2 c =
    let w = new_watcher c.args.id c.args.region c.args.first c.args.last in
    let new = parts_shown c.args.generation.now.forest w in
    let old = c.self.inside.watchers.items in
    let before = c.self.inside.journal.items in
    let begun = c.new-watcher.ensures in
    let one : c.in_ok-watcher.watcher ≡ joined (with_parts new w) (length before) = c.in_ok-watcher.ensures.watcher
    ∙ ap (λ j. joined (with_parts (parts_shown c.args.generation.now.forest j.watcher) j.watcher) j.since) begun
    ∙ ap (λ xs. joined (with_parts new w) (length xs)) c.as_slice-since.ensures.value in
    let parts : AreParts new = subst (λ j. AreParts j.watcher.parts) one c.in_ok-watcher.ensures.parts in
    let watchers : c.push.new.self.items ≡ old ++ c.in_ok-watcher.watcher ∷ [] = search rules in
    let journal : c.append.new.self.items ≡ before ++ notices_of new w = search rules in
    let none : join_refusal c.args.self.now c.args.id c.args.first c.args.last ≡ None = search rules in
    let free : list_any (is_joined c.args.id) old ≡ false = ap (λ s. has_watcher s c.args.id) c.self.view_is
    ∙ free_id (has_watcher c.args.self.now c.args.id) (NameTaken (what.Watcher c.args.id))
    (watch_refusal (watchers_of c.args.self.now) c.args.first c.args.last) none in
    let all = one_joined old before w new c.self.invariant free refl parts in
    subst AreReplayed (λ i. notices_state (sym (watchers ∙ ap (λ j. old ++ j ∷ []) one) i) (sym journal i)) all

pub returns-clause-replayed : goal.returns-clause-replayed
returns-clause-replayed c = invariant_of-self-2 c

pub returns-clause-since : goal.returns-clause-since
returns-clause-since c =
    let w = new_watcher c.args.id c.args.region c.args.first c.args.last in
    let new = parts_shown c.args.generation.now.forest w in
    let one : c.in_ok-watcher.watcher ≡ joined (with_parts new w) (length c.self.inside.journal.items) = c.in_ok-watcher.ensures.watcher
    ∙ ap (λ j. joined (with_parts (parts_shown c.args.generation.now.forest j.watcher) j.watcher) j.since) c.new-watcher.ensures
    ∙ ap (λ xs. joined (with_parts new w) (length xs)) c.as_slice-since.ensures.value in
    let watchers : c.push.new.self.items ≡ c.self.inside.watchers.items ++ c.in_ok-watcher.watcher ∷ [] = search rules in
    watchers ∙ ap (λ j. c.self.inside.watchers.items ++ j ∷ []) one
    ∙ ap (λ s. s.joined ++ joined (with_parts new w) (length s.journal) ∷ []) c.self.view_is
