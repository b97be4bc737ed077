use Rattle.std.proofs.Common.{◌≡◌, ◌<◌, ◌≤◌, ◌+◌, ◌-◌, false, None, sym, subst, ap, ◌∙◌, length}
use Rattle.std.specs.Prelude.{min}
use Rattle.reclaim.specs.Notes.{note, is_noted}
use Rattle.reclaim.specs.Ledgers.{LedgerState, AreApart}
use Rattle.reclaim.proofs.LedgerLaws.{room_below, room_less, length-put, apart_made}
use Rattle.reclaim.proofs.ledger.Ledger.made.Goals as goal

-- one more is there
more : (c : goal.After-put) → length c.put.new.self.notes ≡ length c.self.inside.present.notes + 1
more c = ap (λ l. length l) c.put.ensures.notes ∙ length-put (note c.args.region None) c.self.inside.present.notes

pub invariant_of-self : goal.invariant_of-self
invariant_of-self c =
    let present = c.self.inside.present in
    let dropped = c.self.inside.dropped in
    let free : is_noted c.args.region dropped.notes ≡ false =
    ap (λ (s : LedgerState). is_noted c.args.region s.dropped) c.self.view_is ∙ c.requires.undropped in
    let some : 0 < min present.room (dropped.room - length present.notes) =
    subst (λ n. 0 < n) (sym (ap (λ (s : LedgerState). s.room) c.self.view_is)) c.requires.room in
    let below : length present.notes + 1 ≤ dropped.room = room_below present.room dropped.room (length present.notes) some in
    record {
      apart = subst (λ l. AreApart l dropped.notes) (sym c.put.ensures.notes)
          (apart_made c.args.region present.notes dropped.notes free c.self.invariant.apart);
      room = subst (λ n. n ≤ dropped.room) (sym (more c)) below;
    }

pub returns-clause-kept : goal.returns-clause-kept
returns-clause-kept c =
    let present = c.self.inside.present in
    let dropped = c.self.inside.dropped in
    subst (λ r. r ≤ min c.put.new.self.room (dropped.room - length c.put.new.self.notes) + 1) (ap (λ (s : LedgerState). s.room) c.self.view_is)
    (subst (λ n. min present.room (dropped.room - length present.notes) ≤ min c.put.new.self.room (dropped.room - n) + 1) (sym (more c))
    (room_less present.room dropped.room (length present.notes) c.put.new.self.room c.put.ensures.room))
