use Rattle.mem_base.specs.machine.Reaps.{Writer}
use Rattle.history_laws.proofs.ShownLaws.{generations_show_places}
use Rattle.history_laws.proofs.DroppedLaws.{regions_are_dropped_once}
use Rattle.turn_laws.specs.Shown.{HoldsTogether}
use Rattle.turn_laws.proofs.TurnsLaw.{turns_inherit}
use Rattle.turn_laws.proofs.turns.turns_hold_together.Goals as goal

pub returns : goal.returns
returns c = λ pool_words passes os xs legal same.
    turns_inherit (λ (h : Writer). HoldsTogether pool_words h) pool_words passes
    (λ ys l. record { places = generations_show_places pool_words passes ys l; dropped = regions_are_dropped_once pool_words passes ys l }) os xs legal same
