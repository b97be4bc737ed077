use Rattle.std.proofs.Common.{subst, ap}
use Rattle.epoch_rule.specs.Rule.{IsLegal}
use Rattle.epoch_rule.specs.Values.{WriterValue}
use Rattle.config_desk.proofs.ConfigLaws.{replays}
use Rattle.config_desk.proofs.config.Config.replays_to_listeners.Goals as goal

pub returns : goal.returns
returns c = replays c.args.self.now
    (subst (λ (v : WriterValue). IsLegal v.sizes v.seen) (ap (λ x. x.seat) c.self.view_is) c.has_seen_legal.ensures) c.turns_replay.ensures
