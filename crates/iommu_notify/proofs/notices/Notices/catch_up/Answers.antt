use Rattle.std.proofs.Common.{◌≡◌, ◌++◌, map, flat_map, subst, sym, ap, ◌∙◌}
use Rattle.mem_base.specs.lists.Every.{Every}
use Rattle.mem_base.specs.script.Watching.{caught_up, notices_all}
use Rattle.iommu_notify.specs.PartLists.{AreParts}
use Rattle.iommu_notify.specs.Watchers.{caught, told, AreReplayed, notices_state, watchers_of}
use Rattle.iommu_notify.proofs.JournalLaws.{all_caught, notices_told, watchers_caught}
use Rattle.iommu_notify.proofs.notices.Notices.catch_up.Goals as goal

pub invariant_of-self-2 : goal.invariant_of-self-2
invariant_of-self-2 c =
    let f = c.args.generation.now.forest in
    let old = c.self.inside.watchers.items in
    let before = c.self.inside.journal.items in
    let slice = c.as_slice.ensures.value in
    let watchers : c.in_ok-watchers.watchers.items ≡ map (caught f) old = c.in_ok-watchers.ensures.watchers
    ∙ ap (map (caught f)) slice in
    let notices : c.all_caught_up.new.notices.items ≡ flat_map (told f) old = c.in_ok-watchers.ensures.told
    ∙ (λ i. c.new-notices.ensures.items i ++ flat_map (told f) (slice i)) in
    let journal : c.append.new.self.items ≡ before ++ flat_map (told f) old = c.in_ok-append.ensures.items
    ∙ ap (λ xs. before ++ xs) notices in
    let parts = subst (Every (λ j. AreParts j.watcher.parts)) watchers c.in_ok-watchers.ensures.parts in
    let all = all_caught f old before c.self.invariant parts in
    subst AreReplayed (λ i. notices_state (sym watchers i) (sym journal i)) all

pub returns-clause-watchers : goal.returns-clause-watchers
returns-clause-watchers c =
    let f = c.args.generation.now.forest in
    let watchers = c.in_ok-watchers.ensures.watchers ∙ ap (map (caught f)) c.as_slice.ensures.value in
    ap (map (λ j. j.watcher)) watchers ∙ watchers_caught f c.self.inside.watchers.items
    ∙ ap (λ s. caught_up f (watchers_of s)) c.self.view_is

pub returns-clause-journal : goal.returns-clause-journal
returns-clause-journal c =
    let f = c.args.generation.now.forest in
    let old = c.self.inside.watchers.items in
    let slice = c.as_slice.ensures.value in
    let notices : c.all_caught_up.new.notices.items ≡ flat_map (told f) old = c.in_ok-watchers.ensures.told
    ∙ (λ i. c.new-notices.ensures.items i ++ flat_map (told f) (slice i)) in
    c.in_ok-append.ensures.items ∙ ap (λ xs. c.self.inside.journal.items ++ xs) (notices ∙ notices_told f old)
    ∙ ap (λ s. s.journal ++ notices_all f (watchers_of s)) c.self.view_is

pub returns-clause-replayed : goal.returns-clause-replayed
returns-clause-replayed c = invariant_of-self-2 c

pub returns-clause-since : goal.returns-clause-since
returns-clause-since c =
    let f = c.args.generation.now.forest in
    c.in_ok-watchers.ensures.watchers ∙ ap (map (caught f)) c.as_slice.ensures.value ∙ ap (λ s. map (caught f) s.joined) c.self.view_is
