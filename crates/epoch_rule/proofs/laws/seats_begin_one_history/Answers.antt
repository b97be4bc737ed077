use Rattle.epoch_rule.proofs.Common.{IsCopy}
use Rattle.epoch_rule.proofs.SeatSteps.{sees_whole}
use Rattle.epoch_rule.proofs.laws.seats_begin_one_history.Goals as goal

pub returns : goal.returns
returns g _ z s k = (
  k.log,
  record {
    lawful = k.lawful;
    begins = λ seat v at. (k.seats seat v at).begins;
    whole = λ seat v at role home. sees_whole (IsCopy g.E.Edition.counted g.E.Edition.forest g.E.Edition.places) z s k seat v at role home;
  },
)
