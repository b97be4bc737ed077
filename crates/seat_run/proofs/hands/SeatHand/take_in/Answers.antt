use Rattle.std.proofs.Common.{sym, ◌∙◌}
use Rattle.seat_run.proofs.KeptLaws.{nothing_written}
use Rattle.seat_run.proofs.hands.SeatHand.take_in.Goals as goal

pub invariant_of-self-clause-keeps : goal.invariant_of-self-clause-keeps
invariant_of-self-clause-keeps c =
    c.args.self.now.keeps ∙ sym (nothing_written c.args.self.now.seat c.take_in.new.writer c.take_in.ensures.same.1 c.take_in.ensures.wrote)
