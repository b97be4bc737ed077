use Rattle.epoch_rule.proofs.Common.{arith, ◌≡◌, ℕ, ◌+◌, ◌≤◌, [], ◌∷◌, ◌++◌, length, sym, refl, ap, ◌∙◌, subst, Some, None, false, get_or, arc_value}
use Rattle.epoch_rule.proofs.Common.{length-map, Writer, number_seen, own_entries, held_up, history_entry, Sizes, Picked, PlacesFit, carried_pick}
use Rattle.epoch_rule.proofs.Common.{generation_of_pick, generations_seen, picked, Wrote, IsWriting, stored, generations_in_seen, refusal_of, sweeps_of}
use Rattle.epoch_rule.proofs.Common.{places_of, held_in, HasPlaced, HasSwept, HasWritten, weaker, option_map}
use Rattle.mem_base.specs.declared.machine.events.Event.TheVariants as events
use Rattle.mem_base.specs.map.Limits.{most_passes}
use Rattle.epoch_rule.proofs.SweepLaws.{sweeping_current, all_near, writes_more, writes_generations, wrote_of, writes_both, swept_writing, placed_all}
use Rattle.epoch_rule.proofs.SweepLaws.{placed_current, published_writing, held_found, writing_number}
use Rattle.epoch_rule.proofs.PassLaws.{ends_added, same_sizes}
use Rattle.epoch_rule.proofs.cabinet.Cabinet.publish.Given.{Over}
use Rattle.epoch_rule.proofs.cabinet.Cabinet.publish.Goals.{After-place_all, After-publish, After-sweep_all, In_default}
use Rattle.epoch_rule.proofs.cabinet.Cabinet.publish.Goals as goal

-- the seat has the cabinet's sizes, so there are as many passes as the writer knows of
sizes : (g : Over) (c : After-sweep_all g) → (c.writer.inside.seat.me.0.sizes.passes ≡ c.self.inside.table.shared.key.passes)
    × (c.writer.inside.seat.me.0.sizes.words ≡ c.self.inside.table.shared.key.words)
sizes g c = same_sizes _ _ _ _ (ap (λ x. x.cabinet) c.writer.view_is ∙ (c.requires.own ∙ sym (ap (λ w. w.id) c.self.view_is))) c.writer.invariant.suits
    c.self.invariant.suits

passes : (g : Over) (c : After-sweep_all g) → c.self.inside.passes ≡ length (generations_seen c.writer.inside.seat.me.0).passes
passes g c = c.self.invariant.counts ∙ (sym (sizes g c).0 ∙ sym c.writer.invariant.many)

-- what is stored after the sweeps
swept : (g : Over) (c : After-sweep_all g) → IsWriting c.sweep_all.new.seat.table_id c.sweep_all.new.seat.me c.writer.inside.current
    c.sweep_all.new.known.items c.writer.inside.out.items
swept g c = swept_writing _ _ _ _ _ _ _ _ _ c.sweep_all.ensures.seat.0 c.sweep_all.ensures.seat.1 c.sweep_all.ensures.swept c.writer.invariant

passes_now : (g : Over) (c : After-sweep_all g) → c.self.inside.passes ≡ length (generations_seen c.sweep_all.new.seat.me.0).passes
passes_now g c = passes g c ∙ sym (sweeping_current _ _ _ _ c.sweep_all.ensures.swept).1

-- no pass holds it up
free : (g : Over) (c : In_default g) → held_in c.writer.inside.current 0 c.sweep_all.new.known.items ≡ None
free g c = ap (held_in c.writer.inside.current 0) (sym c.as_slice.ensures.value) ∙ (sym c.held.ensures ∙ c.in_default.is)

pub overflow_add-number : goal.overflow_add-number
overflow_add-number g c =
    let same = writing_number c.writer.invariant in
    let seen = ap (λ y. number_seen y.seen) c.writer.view_is in
    let next = c.requires.next in let small = c.requires.small in omega arith

pub held-requires : goal.held-requires
held-requires g c =
    let all = passes_now g (goal.at.held-requires g c).After-sweep_all in
    let few = c.self.invariant.few in
    let counts = c.self.invariant.counts in
    let stored_is = ap length c.sweep_all.ensures.swept.is_known ∙ length-map (generations_seen c.sweep_all.new.seat.me.0).passes stored in
    subst (λ l. length l ≤ most_passes) (sym c.as_slice.ensures.value) (omega arith)

pub invariant_of-writer : goal.invariant_of-writer
invariant_of-writer g c = swept g (goal.at.invariant_of-writer g c).After-sweep_all

pub returns-in-Some-clause-current : goal.returns-in-Some-clause-current
returns-in-Some-clause-current g c = rw (sym c.writer.view_is)
    (sym (writing_number (swept g (goal.at.returns-in-Some-clause-current g c).After-sweep_all)) ∙ writing_number c.writer.invariant)

pub returns-in-Some-clause-done : goal.returns-in-Some-clause-done
returns-in-Some-clause-done g c =
    let s = c.sweep_all.ensures.swept in
    let found : held_in c.writer.inside.current 0 c.sweep_all.new.known.items ≡ Some c.in-Some.held =
    ap (held_in c.writer.inside.current 0) (sym c.as_slice.ensures.value) ∙ (sym c.held.ensures ∙ c.in-Some.is) in
    rw (sym c.writer.view_is) (
      refl,
      (
        s.rs,
        s.many ∙ (passes g (goal.at.returns-in-Some-clause-done g c).After-sweep_all ∙ c.writer.invariant.many),
        wrote_of _ _ _ s.writes s.ends,
        subst (λ (z : Sizes). held_up (generations_in_seen z c.sweep_all.new.seat.me.0.seen) ≡ Some (refusal_of c.in-Some.held)) s.writes.sizes
            (held_found _ _ _ _ _ s c.writer.invariant.is_current ∙ ap (option_map refusal_of) found),
      ),
    )

pub returns-in-Some-clause-same : goal.returns-in-Some-clause-same
returns-in-Some-clause-same g c = rw (sym c.writer.view_is) (c.sweep_all.ensures.seat.0, c.sweep_all.ensures.swept.writes.sizes, refl)

pub place_all-requires-clause-next : goal.place_all-requires-clause-next
place_all-requires-clause-next g c = ap (λ (y : ℕ). y + 1) (swept g (goal.at.place_all-requires-clause-next g c).After-sweep_all).is_current

pub place_all-requires-clause-near : goal.place_all-requires-clause-near
place_all-requires-clause-near g c =
    let at = goal.at.place_all-requires-clause-near g c in
    let all = passes g at.After-sweep_all in
    λ q l. all_near _ _ _ _ (subst (HasSwept c.writer.inside.seat.me.0 c.sweep_all.new.seat.me.0 c.sweep_all.new.known.items) all c.sweep_all.ensures.swept)
    c.writer.invariant.is_current (free g at.In_default) q (omega arith)

pub place_all-requires-clause-free : goal.place_all-requires-clause-free
place_all-requires-clause-free g c = (swept g (goal.at.place_all-requires-clause-free g c).After-sweep_all).unplaced

pub place_all-requires-clause-copies : goal.place_all-requires-clause-copies
place_all-requires-clause-copies g c =
    let next = ap (λ y. g.E.Edition.counted y.edition) c.next.view_is ∙ (c.requires.next
    ∙ ap (λ (y : ℕ). y + 1) (ap (λ y. number_seen y.seen) (sym c.writer.view_is) ∙ sym (writing_number c.writer.invariant))) in (
      picked g.E.Edition.forest g.E.Edition.places (arc_value c.next.inside.edition),
      weaker _ _ (λ a same. (ap g.E.Edition.counted same ∙ next, ap (picked g.E.Edition.forest g.E.Edition.places) same)) _ c.next.invariant,
    )

-- all have their copies of the edition, whose number is the one after the current
abbrev edition : (g : Over) → After-place_all g → Picked
edition g c = picked g.E.Edition.forest g.E.Edition.places (arc_value c.next.inside.edition)

next : (g : Over) (c : After-place_all g) → g.E.Edition.counted (arc_value c.next.inside.edition) ≡ c.writer.inside.current + 1
next g c = ap (λ y. g.E.Edition.counted y.edition) c.next.view_is ∙ (c.requires.next
    ∙ ap (λ (y : ℕ). y + 1) (ap (λ y. number_seen y.seen) (sym c.writer.view_is) ∙ sym (writing_number c.writer.invariant)))

placed : (g : Over) (c : After-place_all g) → HasPlaced c.sweep_all.new.seat.me.0 c.place_all.new.seat.me.0 (edition g c) c.self.inside.passes
placed g c = c.place_all.ensures.placed (edition g c)
    (weaker _ _ (λ a same. (ap g.E.Edition.counted same ∙ next g c, ap (picked g.E.Edition.forest g.E.Edition.places) same)) _ c.next.invariant)

is_next : (g : Over) (c : After-place_all g) (x : Picked) → HasPlaced c.sweep_all.new.seat.me.0 c.place_all.new.seat.me.0 x c.self.inside.passes
    → c.place_all.new.seat.me.0.next ≡ x
is_next g c x p = let some = c.self.invariant.some in let counts = c.self.invariant.counts in p.is_next (omega arith)

pub publish-requires-clause-writer : goal.publish-requires-clause-writer
publish-requires-clause-writer g c =
    let at = goal.at.publish-requires-clause-writer g c in
    (placed g at.After-place_all).writes.role ∙ (swept g at.After-sweep_all).role

pub publish-requires-clause-next : goal.publish-requires-clause-next
publish-requires-clause-next g c =
    let at = goal.at.publish-requires-clause-next g c in
    let number = next g at.After-place_all in
    let small = c.requires.small in
    let same = ap (λ y. g.E.Edition.counted y.edition) c.next.view_is in
    (ap (λ (y : ℕ). y + 1) ((swept g at.After-sweep_all).is_current ∙ sym (placed_current _ _ _ _ (placed g at.After-place_all))), omega arith)

pub publish-requires-clause-placed : goal.publish-requires-clause-placed
publish-requires-clause-placed g c =
    let at = goal.at.publish-requires-clause-placed g c in
    placed_all _ _ _ _ (placed g at.After-place_all) (passes_now g at.After-sweep_all)

pub publish-requires-clause-roomy : goal.publish-requires-clause-roomy
publish-requires-clause-roomy g c =
    let at = goal.at.publish-requires-clause-roomy g c in
    let x : Picked = edition g at.After-place_all in
    subst (λ (q : Picked). PlacesFit c.self.inside.table.shared.key.words (generation_of_pick q))
    (sym (is_next g at.After-place_all x (placed g at.After-place_all)))
    (subst (λ (m : ℕ). PlacesFit m (generation_of_pick x)) (sizes g at.After-sweep_all).1
    (subst (λ y. PlacesFit y.sizes.words (generation_of_pick x)) (sym c.writer.view_is)
    (subst (λ y. PlacesFit c.args.writer.now.sizes.words (generation_of_pick (picked g.E.Edition.forest g.E.Edition.places y.edition))) (sym c.next.view_is)
    c.requires.roomy)))

-- what is stored after the publish, and what was written
done : (g : Over) (c : After-publish g) (x : Picked) → HasPlaced c.sweep_all.new.seat.me.0 c.place_all.new.seat.me.0 x c.self.inside.passes
    → IsWriting c.sweep_all.new.seat.table_id c.sweep_all.new.seat.me c.writer.inside.current c.sweep_all.new.known.items c.writer.inside.out.items
    → IsWriting c.publish.new.seat.table_id c.publish.new.seat.me (c.writer.inside.current + 1) c.sweep_all.new.known.items c.writer.inside.out.items
done g c x p w = published_writing _ _ _ _ _ _ _ _ _ _ (c.publish.ensures.seat.0 ∙ c.place_all.ensures.seat.0)
    (c.publish.ensures.seat.1 ∙ c.place_all.ensures.seat.1) p c.publish.ensures.seat.2 c.publish.ensures.adds w

written : (g : Over) (c : After-publish g) (x : Picked) → HasPlaced c.sweep_all.new.seat.me.0 c.place_all.new.seat.me.0 x c.self.inside.passes
    → HasWritten c.writer.inside.seat.me.0 ((sweeps_of 0 c.sweep_all.ensures.swept.rs ++ places_of c.self.inside.passes)
    ++ history_entry events.Publish (carried_pick c.place_all.new.seat.me.0.next) (c.writer.inside.current + 1) ∷ []) c.publish.new.seat.me.0
written g c x p = writes_more _ _ _ _ _ _ _ refl (writes_both _ _ _ _ _ c.sweep_all.ensures.swept.writes p.writes) c.publish.ensures.adds

pub invariant_of-writer-2 : goal.invariant_of-writer-2
invariant_of-writer-2 g c =
    let at = goal.at.invariant_of-writer-2 g c in
    done g at.After-publish _ (placed g at.After-place_all) (swept g at.After-sweep_all)

pub returns-clause-current : goal.returns-clause-current
returns-clause-current g c =
    let at = goal.at.returns-clause-current g c in
    sym (writing_number (done g at.After-publish _ (placed g at.After-place_all)
    (swept g at.After-sweep_all)))

pub returns-clause-done : goal.returns-clause-done
returns-clause-done g c =
    let at = goal.at.returns-clause-done g c in
    let s = c.sweep_all.ensures.swept in
    let p = placed g at.After-place_all in
    let all : c.self.inside.passes ≡ c.writer.inside.seat.me.0.sizes.passes = passes g at.After-sweep_all ∙ c.writer.invariant.many in
    rw (sym c.writer.view_is, sym c.next.view_is) (
      sym (next g at.After-place_all),
      (
        s.rs,
        s.many ∙ all,
        subst (λ (q : Picked × ℕ). Wrote Writer c.writer.inside.seat.me.0.sizes c.writer.inside.seat.me.0.seen
            (sweeps_of 0 s.rs ++ places_of q.1 ++ history_entry events.Publish (carried_pick q.0) (c.writer.inside.current + 1) ∷ [])
            c.publish.new.seat.me.0.seen) (λ i. (is_next g at.After-place_all _ p i, all i)) (wrote_of _ _ _ (written g at.After-publish _ p)
            (ends_added 0 _ _ _ _ _ c.publish.ensures.adds (sweeps_of 0 s.rs ++ places_of c.self.inside.passes))),
        ap held_up (sym (writes_generations _ _ _ s.writes)) ∙ (held_found _ _ _ _ _ s c.writer.invariant.is_current
            ∙ ap (option_map refusal_of) (free g at.In_default)),
      ),
    )

pub returns-clause-same : goal.returns-clause-same
returns-clause-same g c =
    let at = goal.at.returns-clause-same g c in
    rw (sym c.writer.view_is) (
      c.publish.ensures.seat.0 ∙ (c.place_all.ensures.seat.0 ∙ c.sweep_all.ensures.seat.0),
      c.publish.ensures.adds.sizes
          ∙ ((placed g at.After-place_all).writes.sizes ∙ c.sweep_all.ensures.swept.writes.sizes),
      refl,
    )

-- a pass that is not out
pub returns-in-Some-clause-home : goal.returns-in-Some-clause-home
returns-in-Some-clause-home g c q out =
    let free = ap (λ l. get_or l q false) (sym (c.writer.invariant.is_out)) ∙ (ap (λ w. get_or w.out q false) c.writer.view_is ∙ out) in
    c.sweep_all.ensures.swept.writes.home q free ∙ ap (λ w. own_entries (q + 1) w.seen) c.writer.view_is

pub returns-clause-home : goal.returns-clause-home
returns-clause-home g c q out =
    let at = goal.at.returns-clause-home g c in
    let free = ap (λ l. get_or l q false) (sym (c.writer.invariant.is_out)) ∙ (ap (λ w. get_or w.out q false) c.writer.view_is ∙ out) in
    (written g at.After-publish _ (placed g at.After-place_all)).home q free
    ∙ ap (λ w. own_entries (q + 1) w.seen) c.writer.view_is
