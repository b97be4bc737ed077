use Rattle.std.proofs.Common.{take, drop, take-append-drop, refl, sym, ap, ◌∙◌}
use Rattle.config_desk.specs.Configs.{ConfigState, with_calls}
use Rattle.config_desk.proofs.ConfigLaws.{rest_is_config, state_of_rest}
use Rattle.config_desk.proofs.config.Config.forget.Goals as goal

pub invariant_of-self : goal.invariant_of-self
invariant_of-self c =
    let i = c.self.inside in
    let e = c.forget.ensures in
    let calls = i.desk.listened.set.listening.journal in
    rest_is_config i.desk (record i.desk { listened = c.forget.new.self }) i.hand.seat (drop c.args.count calls) refl e.backed e.left
    (take c.args.count calls) (sym (take-append-drop c.args.count calls)) c.self.invariant

pub returns : goal.returns
returns c =
    let i = c.self.inside in
    let e = c.forget.ensures in
    let calls = i.desk.listened.set.listening.journal in
    state_of_rest i.desk (record i.desk { listened = c.forget.new.self }) i.hand.seat (drop c.args.count calls) refl e.backed e.left
    ∙ ap (λ (x : ConfigState). with_calls (drop c.args.count x.part.desk.listening.journal) x) c.self.view_is
