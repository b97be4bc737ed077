use Rattle.epoch_rule.proofs.Common.{ℕ, ◌+◌, length, replicate, sym, refl, ap, ◌∙◌, subst, false, length-replicate, opening, generation, nothing_known}
use Rattle.epoch_rule.proofs.Common.{Sizes, IsRuled, first_view, IsCopy, shown_by, IsWriting, stored, Some}
use Rattle.epoch_rule.proofs.OpeningLaws.{opens, replicate_at, map_replicate}
use Rattle.epoch_rule.proofs.cabinet.Cabinet.new.Goals as goal
use Rattle.epoch_rule.specs.Layout.{words_before_pool}

pub new-requires : goal.new-requires
new-requires g c =
    let z : Sizes = record { passes = c.args.passes; words = c.args.words } in
    let n : ℕ = words_before_pool c.args.passes + c.args.words in
    let s = c.in_ok-slots.ensures in
    let first = c.requires.first in
    subst (λ ws. IsRuled (IsCopy g.E.Edition.counted g.E.Edition.forest g.E.Edition.places) z (opening ws c.in_ok-slots.slots.items (first_view z)))
    (sym (c.as_slice.ensures.value ∙ c.in_ok-blank.ensures))
    (opens (IsCopy g.E.Edition.counted g.E.Edition.forest g.E.Edition.places) z (replicate n 0) c.in_ok-slots.slots.items (length-replicate n 0)
    (λ i. replicate_at n i 0) s.long
    (λ v l. let t = s.each v l in (
      Some t.0,
      t.1,
      (
        t.0,
        refl,
        ap g.E.Edition.counted t.2 ∙ first.0,
        ap (shown_by g.E.Edition.forest g.E.Edition.places) t.2
            ∙ (λ i. generation (first.1 i) (first.2 i)),
      ),
    )))

pub invariant_of-writer : goal.invariant_of-writer
invariant_of-writer g c =
    let k = c.in-Ok.ensures.ok in
    let n : ℕ = words_before_pool c.args.passes + c.args.words in
    let s = c.in_ok-slots.ensures in
    let words = ap (λ t. t.words) k.2 ∙ (k.0 ∙ (ap length (c.as_slice.ensures.value ∙ c.in_ok-blank.ensures) ∙ length-replicate n 0)) in
    let slots = ap (λ t. t.slots) k.2 ∙ (k.1 ∙ s.long) in
    subst (λ m. IsWriting c.in-Ok.seat.table_id m 0 c.in_ok-known.known.items c.in_ok-out.out.items) (sym k.4) record {
      role = refl;
      free = refl;
      bare = refl;
      suits = (words, slots);
      is_current = refl;
      is_known = c.in_ok-known.ensures ∙ sym (map_replicate stored c.args.passes nothing_known);
      many = length-replicate c.args.passes nothing_known;
      unplaced = λ v. ap (λ k. k.placed) (replicate_at c.args.passes v nothing_known);
      is_out = c.in_ok-out.ensures;
      outs = ap length c.in_ok-out.ensures ∙ length-replicate c.args.passes false;
      lawful = tt;
    }
