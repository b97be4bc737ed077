-- Laws of the steps of an entered pass: what it may touch in its generation, and what a step adds.
use Rattle.std.proofs.Common.{◌≡◌, ℕ, zero, suc, ◌+◌, ◌/◌, ◌%◌, ◌^◌, ◌≤◌, ◌==◌, ◌||◌, Bool, true, false, if◌then◌else◌, List, [], ◌∷◌}
use Rattle.std.proofs.Common.{refl, sym, ap, subst, ◌∙◌, arith, eq-eqb, Option, Some, None}
use Rattle.std.specs.Prelude.{is_some, nat_lt, not}
use Rattle.std.proofs.lemmas.Bool.Decides.{nat_tests}
use Rattle.std.specs.List.{list_any}
use Rattle.std.specs.Int.{bytes_low_first, byte_at}
use Rattle.mem_base.specs.declared.map.kinds.Client.{Client}
use Rattle.mem_base.specs.declared.access.cells.Place.{Place}
use Rattle.mem_base.specs.declared.access.cells.WordStep.{WordStep}
use Rattle.mem_base.specs.declared.access.cells.WordStep.TheVariants.{Load, Replace, AddOne, Or, Take}
use Rattle.mem_base.specs.declared.map.ids.SpaceId.{SpaceId}
use Rattle.mem_base.specs.map.Limits.{word_size}
use Rattle.mem_base.specs.access.AccessSteps.{AccessStep, blank, steps, marks, has_partial, writing}
use Rattle.mem_base.specs.access.Access.{access}
use Rattle.mem_base.specs.declared.machine.events.Event.TheVariants as events
use Rattle.mem_base.specs.declared.machine.events.Carried.TheVariants.{At}
use Rattle.mem_base.specs.declared.machine.events.Hand.TheVariants as hands
use Rattle.mem_base.specs.access.Words.{bytes_of}
use Rattle.mem_base.specs.access.PlacesByRegion.{place_in}
use Rattle.mem_base.specs.machine.Desk.{at_place}
use Rattle.mem_base.specs.machine.Passes.{pass_id}
use Rattle.mem_base.specs.machine.SharedHistory.{is_same_place}
use Rattle.mem_base.specs.machine.Turns.{history_entry}
use Rattle.view_laws.proofs.Tests.{none_is_not_some}
use Rattle.generation.specs.Published.{Published}
use Rattle.epoch_rule.specs.declared.touches.Touch.{Touch}
use Rattle.epoch_rule.specs.Shown.{IsReach, PassMay}
use Rattle.epoch_rule.specs.Values.{PassValue}
use Rattle.epoch_rule.specs.Wrote.{Made, WroteStep}
use Rattle.access_run.specs.Hands.{IsPlaceOf, IsWriteStep, word_event}
use Rattle.access_run.specs.Runs.{TakesAll}
use Rattle.vcpu_pass.specs.Steps.{generation_shown, generation_in, Adds, HasMade, IsNotPart, IsWhole}
use Rattle.vcpu_pass.specs.StepLaws.{adds_some}
use Rattle.std.proofs.lemmas.Bool.{or_parts, or_right, and_from}
use Rattle.std.proofs.lemmas.Option.{same_Some}
use Rattle.mem_base.proofs.BoolLaws.{true_is_not_false}

-- a place among places

pub same_place : (p : Place) → is_same_place p p ≡ true
same_place p =
    let r : (n : ℕ) → (n == n) ≡ true = λ n. eq-eqb n n refl in
    and_from _ _ (and_from _ _ (and_from _ _ (and_from _ _ (r p.region.0) (r p.start)) (r p.words)) (r p.bytes)) (r p.regs)

pub place_at : (q : Place) (qs : List Place) (p : Place) (b : Bool) → (if b then Some q else place_in qs p.region) ≡ Some p
    → (place_in qs p.region ≡ Some p → list_any (is_same_place p) qs ≡ true) → (is_same_place p q || list_any (is_same_place p) qs) ≡ true
place_at q qs p true e rest = subst (λ z. (is_same_place p z || list_any (is_same_place p) qs) ≡ true) (sym (same_Some q p e))
    (ap (λ b. b || list_any (is_same_place p) qs) (same_place p))
place_at q qs p false e rest = or_right (is_same_place p q) (list_any (is_same_place p) qs) (rest e)

pub has_place : (ps : List Place) (p : Place) → place_in ps p.region ≡ Some p → list_any (is_same_place p) ps ≡ true
has_place [] p h = none_is_not_some p h
has_place (q ∷ qs) p h = place_at q qs p (q.region.0 == p.region.0) h (has_place qs p)

pub may_in : (o : Option Published) (p : Place) (word : ℕ) (touch : Touch) → is_some o ≡ true → place_in (generation_shown o).places p.region ≡ Some p
    → IsReach p word touch → (e : Published) × (o ≡ Some e) × PassMay e.places p word touch
may_in None p word touch is placed reach = true_is_not_false (is_some {T = Published} None) is refl
may_in (Some g) p word touch is placed reach = (g, refl, (has_place g.places p placed, reach))

-- a pass may touch what its generation has
pub may_word : (v : PassValue Published) (p : Place) (word : ℕ) (touch : Touch) → is_some v.edition ≡ true → IsPlaceOf (generation_in v) p
    → IsReach p word touch → (e : Published) × (v.edition ≡ Some e) × PassMay e.places p word touch
may_word v p word touch is placed reach = may_in v.edition p word touch is placed reach

pub carries_in : (o : Option Published) (p : Place) → is_some o ≡ true → place_in (generation_shown o).places p.region ≡ Some p
    → (e : Published) × (o ≡ Some e) × (list_any (is_same_place p) e.places ≡ true)
carries_in None p is placed = true_is_not_false (is_some {T = Published} None) is refl
carries_in (Some g) p is placed = (g, refl, has_place g.places p placed)

pub carries_place : (v : PassValue Published) (p : Place) → is_some v.edition ≡ true → IsPlaceOf (generation_in v) p
    → (e : Published) × (v.edition ≡ Some e) × (list_any (is_same_place p) e.places ≡ true)
carries_place v p is placed = carries_in v.edition p is placed

-- what stays of a pass over a step on a word
abbrev pub Stays : PassValue Published → PassValue Published → Type 0
Stays v w = (w.cabinet ≡ v.cabinet) × (w.number ≡ v.number) × (w.sizes ≡ v.sizes) × (w.edition ≡ v.edition)

pub made_word : (v w : PassValue Published) (p : Place) (word : ℕ) (step : WordStep) (r : ℕ) → IsPlaceOf (generation_in v) p → Stays v w
    → WroteStep (hands.Pass (pass_id v.number)) v.sizes p word step r v.seen w.seen
    → HasMade v (word_event (pass_id v.number) p word step ∷ []) (r ∷ []) w
made_word v w p word step r placed s h = record {
  cabinet = s.0;
  number = s.1;
  sizes = s.2;
  edition = s.3;
  adds = subst (λ x. Adds v.sizes (v.number + 1) v.seen (history_entry (word_event (pass_id v.number) p word step) x r ∷ []) w.seen)
      (sym (ap at_place placed)) (adds_some v.sizes v.number v.seen w.seen _ _ h);
}

pub made_mark : (v w : PassValue Published) (p : Place) (client : Client) (page : ℕ) → IsPlaceOf (generation_in v) p → w.edition ≡ v.edition
    → Made v (history_entry (events.Mark (pass_id v.number) p.region client page) (At p) 0 ∷ []) w
    → HasMade v (events.Mark (pass_id v.number) p.region client page ∷ []) (0 ∷ []) w
made_mark v w p client page placed edition h = record {
  cabinet = h.cabinet;
  number = h.number;
  sizes = h.sizes;
  edition = edition;
  adds = subst (λ x. Adds v.sizes (v.number + 1) v.seen (history_entry (events.Mark (pass_id v.number) p.region client page) x 0 ∷ []) w.seen)
      (sym (ap at_place placed)) (adds_some v.sizes v.number v.seen w.seen _ _ h.wrote);
}

-- bytes of numbers

byte_is : (i v : ℕ) → byte_at i v ≡ v / 256 ^ i % 256
byte_is zero v = omega arith
byte_is (suc i) v = refl

-- the eight bytes of a word, in either form
pub eight : (v : ℕ) → bytes_low_first 0 8 v ≡ bytes_of v 8 false
eight v = ap (λ b. b ∷ bytes_low_first 1 7 v) (byte_is 0 v)

-- steps that replace no part of a word

pub whole_step : (step : WordStep) → IsWriteStep step → IsNotPart step → IsWhole step
whole_step (Replace first bytes value) k t = omega (arith, k.1, t)
whole_step _ k t = tt

at_least : (n : ℕ) → nat_lt n word_size ≡ false → 8 ≤ n
at_least n h = grind (arith, nat_tests)

pub takes_whole : (ds : List AccessStep) → has_partial ds ≡ false → TakesAll IsNotPart ds
takes_whole [] h = tt
takes_whole (blank n result ∷ ds) h = (tt, takes_whole ds h)
takes_whole (steps cell (Replace first bytes value) x ∷ ds) h =
    let both : (nat_lt bytes word_size ≡ false) × (has_partial ds ≡ false) = or_parts (nat_lt bytes word_size) (has_partial ds) h in
    (at_least bytes both.0, takes_whole ds both.1)
takes_whole (steps cell Load x ∷ ds) h = (tt, takes_whole ds h)
takes_whole (steps cell AddOne x ∷ ds) h = (tt, takes_whole ds h)
takes_whole (steps cell (Or bits) x ∷ ds) h = (tt, takes_whole ds h)
takes_whole (steps cell Take x ∷ ds) h = (tt, takes_whole ds h)
takes_whole (marks region client page ∷ ds) h = (tt, takes_whole ds h)

flipped : (h b : Bool) → not h ≡ b → h ≡ not b
flipped true b e = ap (λ x. not x) e
flipped false b e = ap (λ x. not x) e

-- what `is_whole` tells, of the generation of a pass
pub partial_is : (g : Published) (v : PassValue Published) (space : SpaceId) (addr : ℕ) (bytes : List ℕ) (r b : Bool) → v.edition ≡ Some g
    → r ≡ not (has_partial (access g.forest space addr (writing bytes))) → r ≡ b
    → has_partial (access (generation_in v).forest space addr (writing bytes)) ≡ not b
partial_is g v space addr bytes r b e h is =
    ap (λ x. has_partial (access x.forest space addr (writing bytes))) (ap generation_shown e)
    ∙ flipped (has_partial (access g.forest space addr (writing bytes))) b (sym h ∙ is)
