use Rattle.std.proofs.Common.{subst, ap}
use Rattle.epoch_rule.specs.Rule.{IsLegal}
use Rattle.epoch_rule.specs.Values.{WriterValue}
use Rattle.config_desk.proofs.LawfulLaws.{lawful}
use Rattle.config_desk.proofs.config.Config.is_lawful.Goals as goal

pub returns : goal.returns
returns c = lawful c.args.self.now
    (subst (λ (v : WriterValue). IsLegal v.sizes v.seen) (ap (λ x. x.seat) c.self.view_is) c.has_seen_legal.ensures) c.goes_by_turns.ensures
    c.turns_join.ensures c.turns_reuse_released.ensures c.turns_keep_marks.ensures
