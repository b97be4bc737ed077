use Rattle.epoch_rule.proofs.Common.{ap, ◌∙◌, number_seen}
use Rattle.epoch_rule.proofs.SweepLaws.{writing_number}
use Rattle.epoch_rule.proofs.writers.WriterSeat.current.Goals as goal

pub returns : goal.returns
returns g c = writing_number c.self.invariant ∙ ap (λ w. number_seen w.seen) c.self.view_is
