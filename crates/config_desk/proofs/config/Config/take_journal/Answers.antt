use Rattle.std.proofs.Common.{append-nil, [], refl, sym, ap, ◌∙◌}
use Rattle.config_desk.specs.Configs.{ConfigState, with_calls}
use Rattle.config_desk.proofs.ConfigLaws.{rest_is_config, state_of_rest}
use Rattle.config_desk.proofs.config.Config.take_journal.Goals as goal

pub invariant_of-self : goal.invariant_of-self
invariant_of-self c =
    let i = c.self.inside in
    let e = c.take_journal.ensures in
    let calls = i.desk.listened.set.listening.journal in
    rest_is_config i.desk (record i.desk { listened = c.take_journal.new.self }) i.hand.seat [] refl e.backed e.left calls (sym (append-nil calls))
    c.self.invariant

pub returns-clause-left : goal.returns-clause-left
returns-clause-left c =
    let i = c.self.inside in
    let e = c.take_journal.ensures in
    state_of_rest i.desk (record i.desk { listened = c.take_journal.new.self }) i.hand.seat [] refl e.backed e.left
    ∙ ap (λ (x : ConfigState). with_calls [] x) c.self.view_is
