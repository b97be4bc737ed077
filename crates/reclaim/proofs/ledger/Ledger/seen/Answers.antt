use Rattle.std.proofs.Common.{◌≡◌, ◌≤◌, sym, subst, ap, ◌∙◌, length, map}
use Rattle.std.proofs.lemmas.List.{length-map}
use Rattle.reclaim.specs.Notes.{seen_in}
use Rattle.reclaim.specs.Ledgers.{AreApart}
use Rattle.reclaim.proofs.LedgerLaws.{apart_seen}
use Rattle.reclaim.proofs.ledger.Ledger.seen.Goals as goal

pub invariant_of-self : goal.invariant_of-self
invariant_of-self c =
    let present = c.self.inside.present in
    let dropped = c.self.inside.dropped in
    let f = seen_in c.args.g.now in
    let count : length c.see.new.self.notes ≡ length present.notes = ap (λ l. length l) c.see.ensures.notes ∙ length-map present.notes f in
    record {
      apart = subst (λ l. AreApart l c.see-2.new.self.notes) (sym c.see.ensures.notes)
          (subst (AreApart (map f present.notes)) (sym c.see-2.ensures.notes) (apart_seen c.args.g.now present.notes dropped.notes c.self.invariant.apart));
      room = subst (λ n. n ≤ c.see-2.new.self.room) (sym count) (subst (λ n. length present.notes ≤ n) (sym c.see-2.ensures.room) c.self.invariant.room);
    }
