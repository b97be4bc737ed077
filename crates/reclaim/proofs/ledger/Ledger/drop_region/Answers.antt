use Rattle.std.proofs.Common.{◌≡◌, ◌≤◌, ◌+◌, ◌-◌, true, false, List, None, Some, sym, subst, ap, ◌∙◌, length, arith}
use Rattle.std.specs.Prelude.{min, find}
use Rattle.mem_base.specs.lists.Sorting.{put_by}
use Rattle.reclaim.specs.declared.notes.Note.{Note}
use Rattle.reclaim.specs.Notes.{note, note_order, is_of, is_noted, others}
use Rattle.reclaim.specs.Ledgers.{LedgerState, AreApart, noted_last}
use Rattle.reclaim.proofs.LedgerLaws.{room_kept, one_fewer, found_every, found_note, noted_found, apart_dropped}
use Rattle.reclaim.proofs.ledger.Ledger.drop_region.Goals as goal

pub put-requires-clause-free : goal.put-requires-clause-free
put-requires-clause-free c =
    let found : find (is_of c.args.region) c.self.inside.present.notes ≡ Some c.in-Some.note = sym c.in-Some.ensures.note in
    found_every (λ n. is_noted n.region c.self.inside.dropped.notes ≡ false) (is_of c.args.region) c.self.inside.present.notes c.in-Some.note found
    c.self.invariant.apart

found : (c : goal.After-put) → find (is_of c.args.region) c.self.inside.present.notes ≡ Some c.in-Some.note
found c = sym c.in-Some.ensures.note

-- it has one region fewer
fewer : (c : goal.After-put) → length c.take.new.self.notes + 1 ≤ length c.self.inside.present.notes
fewer c =
    subst (λ n. n + 1 ≤ length c.self.inside.present.notes) (sym (ap (λ (l : List Note). length l) c.take.ensures.notes))
    (one_fewer c.args.region c.self.inside.present.notes c.in-Some.note (found c))

pub invariant_of-self : goal.invariant_of-self
invariant_of-self c =
    let present = c.self.inside.present in
    let dropped = c.self.inside.dropped in
    let same : c.in-Some.note.region ≡ c.args.region = ap (λ (n : Note). n.region) (found_note c.args.region present.notes c.in-Some.note (found c)) in
    record {
      apart = subst (λ l. AreApart l c.put.new.self.notes) (sym c.take.ensures.notes)
          (subst (AreApart (others c.args.region present.notes)) (sym c.put.ensures.notes)
          (apart_dropped c.args.region c.in-Some.note present.notes dropped.notes same c.self.invariant.apart));
      room = let few = fewer c in let all = c.self.invariant.room in let put = c.put.ensures.room in omega arith;
    }

pub returns-in-Some-clause-dropped : goal.returns-in-Some-clause-dropped
returns-in-Some-clause-dropped c =
    c.put.ensures.notes
    ∙ ap (λ n. put_by note_order n c.self.inside.dropped.notes) (found_note c.args.region c.self.inside.present.notes c.in-Some.note (found c))
    ∙ ap (λ (s : LedgerState). put_by note_order (note c.args.region (noted_last c.args.region s.present)) s.dropped) c.self.view_is

pub returns-in-Some-clause-room : goal.returns-in-Some-clause-room
returns-in-Some-clause-room c =
    let present = c.self.inside.present in
    let dropped = c.self.inside.dropped in
    let kept : dropped.room - length present.notes ≤ c.put.new.self.room - length c.take.new.self.notes =
    let few = fewer c in let put = c.put.ensures.room in omega arith in
    subst (λ r. r ≤ min c.take.new.self.room (c.put.new.self.room - length c.take.new.self.notes)) (ap (λ (s : LedgerState). s.room) c.self.view_is)
    (room_kept present.room dropped.room (length present.notes) c.take.new.self.room c.put.new.self.room (length c.take.new.self.notes)
    c.take.ensures.room kept)

-- the region is there, so its note is taken out
never : (c : goal.In_default) → ⊥
never c =
    let there : is_noted c.args.region c.self.inside.present.notes ≡ true =
    ap (λ (s : LedgerState). is_noted c.args.region s.present) c.self.view_is ∙ c.requires in
    let none : find (is_of c.args.region) c.self.inside.present.notes ≡ None = sym c.in_default.ensures.note in
    noted_found c.args.region c.self.inside.present.notes there none

pub invariant_of-self-in_default : goal.invariant_of-self-in_default
invariant_of-self-in_default c = absurd (never c)

pub returns-in_default-clause-dropped : goal.returns-in_default-clause-dropped
returns-in_default-clause-dropped c = absurd (never c)

pub returns-in_default-clause-room : goal.returns-in_default-clause-room
returns-in_default-clause-room c = absurd (never c)
