use Rattle.std.proofs.Common.{◌≡◌, ◌++◌, [], rules, subst, sym, ap, ◌∙◌, flat_map}
use Rattle.std.specs.Prelude.{not}
use Rattle.std.proofs.lemmas.Fn.{filter_same}
use Rattle.mem_base.specs.script.Watching.{notices_of, with_number, without_number}
use Rattle.iommu_notify.specs.Watchers.{AreReplayed, Joined, is_joined, leaving, notices_state, others, watchers_of}
use Rattle.iommu_notify.proofs.JournalLaws.{notices_leaving, one_left, watchers_others}
use Rattle.iommu_notify.proofs.notices.Notices.unwatch.Goals as goal

pub invariant_of-self-2 : goal.invariant_of-self-2
invariant_of-self-2 c =
    let id = c.args.id in
    let old = c.self.inside.watchers.items in
    let before = c.self.inside.journal.items in
    let watchers = filter_same _ (λ (j : Joined). not (is_joined id j)) _ (λ x b f k. search rules) _ _
    c.retain.ensures.filtered in
    let notices : c.take_back.new.notices.items ≡ leaving id old = c.in_ok-take_back.ensures
    ∙ (λ i. c.new-notices.ensures.items i ++ leaving id (c.as_slice.ensures.value i)) in
    let journal : c.append.new.self.items ≡ before ++ leaving id old = c.in_ok-append.ensures.items
    ∙ ap (λ xs. before ++ xs) notices in
    subst AreReplayed (λ i. notices_state (sym watchers i) (sym journal i)) (one_left id old before c.self.invariant)

pub returns-clause-watchers : goal.returns-clause-watchers
returns-clause-watchers c =
    let id = c.args.id in
    let watchers = filter_same _ (λ (j : Joined). not (is_joined id j)) _ (λ x b f k. search rules) _ _
    c.retain.ensures.filtered in
    ap (λ js. watchers_of (notices_state js [])) watchers ∙ watchers_others id c.self.inside.watchers.items
    ∙ ap (λ s. without_number id.0 (watchers_of s)) c.self.view_is

pub returns-clause-journal : goal.returns-clause-journal
returns-clause-journal c =
    let id = c.args.id in
    let old = c.self.inside.watchers.items in
    let notices : c.take_back.new.notices.items ≡ leaving id old = c.in_ok-take_back.ensures
    ∙ (λ i. c.new-notices.ensures.items i ++ leaving id (c.as_slice.ensures.value i)) in
    c.in_ok-append.ensures.items ∙ ap (λ xs. c.self.inside.journal.items ++ xs) (notices ∙ notices_leaving id old)
    ∙ ap (λ s. s.journal ++ flat_map (notices_of []) (with_number id.0 (watchers_of s))) c.self.view_is

pub returns-clause-replayed : goal.returns-clause-replayed
returns-clause-replayed c = invariant_of-self-2 c

pub returns-clause-since : goal.returns-clause-since
returns-clause-since c =
    let id = c.args.id in
    filter_same _ (λ (j : Joined). not (is_joined id j)) _ (λ x b f k. search rules) _ _ c.retain.ensures.filtered
    ∙ ap (λ s. others id s.joined) c.self.view_is
