use Rattle.std.proofs.Common.{List, sym, ap, ◌∙◌}
use Rattle.mem_base.specs.declared.machine.events.HistoryEntry.{HistoryEntry}
use Rattle.mem_base.specs.machine.Actors.{own_entries}
use Rattle.seat_run.proofs.KeptLaws.{still_kept}
use Rattle.seat_run.proofs.hands.SeatHand.pass.Goals as goal

pub invariant_of-self-clause-keeps : goal.invariant_of-self-clause-keeps
invariant_of-self-clause-keeps c =
    let same = c.pass.ensures.same in
    c.args.self.now.keeps ∙ sym (still_kept c.args.self.now.seat c.pass.new.writer same.1 (ap (λ (xs : List HistoryEntry). own_entries 0 xs) same.2))
