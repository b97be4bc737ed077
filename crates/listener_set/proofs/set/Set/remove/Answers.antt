use Rattle.std.proofs.Common.{rules, ◌∙◌, ap, sym, ◌++◌}
use Rattle.std.specs.Prelude.{not, filter}
use Rattle.std.proofs.lemmas.Fn.{filter_same}
use Rattle.mem_base.specs.declared.views.listening.Listener.{Listener}
use Rattle.mem_base.specs.views.Listening.{is_listener, ascending, deliveries_to, leaving}
use Rattle.view_laws.proofs.PriorityLaws.{ascending_filter}
use Rattle.listener_set.proofs.set.Set.remove.Goals as goal

pub invariant_of-self-2 : goal.invariant_of-self-2
invariant_of-self-2 c =
    let listeners = filter_same _ (λ (l : Listener). not (is_listener c.args.listener l)) _ (λ x b f k. search rules) _ _ c.retain.ensures.filtered in
    let order = filter_same _ (λ (l : Listener). not (is_listener c.args.listener l)) _ (λ x b f k. search rules) _ _ c.retain-2.ensures.filtered in
    order ∙ ap (filter (λ (l : Listener). not (is_listener c.args.listener l))) c.self.invariant
    ∙ ascending_filter (λ (l : Listener). not (is_listener c.args.listener l)) c.self.inside.listeners.items ∙ ap ascending (sym listeners)

pub returns-clause-left : goal.returns-clause-left
returns-clause-left c =
    let listeners = filter_same _ (λ (l : Listener). not (is_listener c.args.listener l)) _ (λ x b f k. search rules) _ _ c.retain.ensures.filtered
    ∙ ap (λ s. filter (λ (l : Listener). not (is_listener c.args.listener l)) s.listening.listeners) c.self.view_is in
    let told = c.as_slice-3.ensures.value ∙ c.in_ok-calls.ensures
    ∙ ap (λ ranges. deliveries_to c.args.listener (leaving ranges c.args.events.now)) c.as_slice-2.ensures.value in
    let before = c.in_ok-reserve.ensures.items ∙ ap (λ s. s.listening.journal) c.self.view_is in
    let journal = c.tell_all.ensures ∙ (λ i. before i ++ told i) in
    λ i. record { listeners = listeners i; journal = journal i }
