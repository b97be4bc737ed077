use Rattle.std.specs.Prelude.{slice_index_or}
use Rattle.epoch_rule.proofs.Common.{ap, sym, ◌∙◌, false, List, Bool, IsCopy}
use Rattle.epoch_rule.proofs.SeatSteps.{sees_whole}
use Rattle.epoch_rule.proofs.writers.WriterSeat.sees_whole.Goals as goal

pub returns : goal.returns
returns g c home s k seat v at role seen out =
    sym seen ∙ sees_whole (IsCopy g.E.Edition.counted g.E.Edition.forest g.E.Edition.places) _ s k seat v at role
    (λ p. ap (λ (o : List Bool). slice_index_or o p false) out ∙ home p)
