use Rattle.std.proofs.Common.{sym, subst, arith}
use Rattle.reclaim.specs.Ledgers.{AreApart}
use Rattle.reclaim.proofs.LedgerLaws.{apart_released}
use Rattle.reclaim.proofs.ledger.Ledger.next_released.Goals as goal

pub invariant_of-self : goal.invariant_of-self
invariant_of-self c =
    let present = c.self.inside.present in
    let dropped = c.self.inside.dropped in
    record {
      apart = subst (AreApart present.notes) (sym c.take.ensures.notes)
          (apart_released c.in_ok-region.region present.notes dropped.notes c.self.invariant.apart);
      room = let few = c.self.invariant.room in let more = c.take.ensures.room in omega arith;
    }
