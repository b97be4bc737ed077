-- The rule holds of a new table.
use Rattle.epoch_rule.proofs.Common.{◌≡◌, ◌≢◌, ℕ, zero, suc, ◌+◌, ◌<◌, false, List, [], ◌∷◌, length, map, replicate, get_or, sym, refl, ap, ◌∙◌}
use Rattle.epoch_rule.proofs.Common.{subst, arith, Option, Some, None, some, some-ne-none, get_elem?, get_or-replicate, length-map, opening, arc_value}
use Rattle.epoch_rule.proofs.Common.{Arc, ◌++◌, length-append, dite, ℕ_discrete, AreFirstSlots, PassState, idle, Generation, PassTrack, nothing_known}
use Rattle.epoch_rule.proofs.Common.{pin_word, Sizes, View, first_generation, HasAt, PassSlots, SeatKnows, IsRuled, first_view, same_number, AddsSlots, at_map}
use Rattle.epoch_rule.proofs.Common.{at_last, at_longer, some_there}
use mathlib.Core.Option as maybe
use Rattle.mem_base.specs.map.Calls.{empty}
use Rattle.epoch_rule.proofs.EntrySteps.{seats_set}
use Rattle.epoch_rule.specs.Layout.{word_of_pass, words_before_pool, slots_before, slot_of}
use Rattle.mem_base.specs.map.Limits.{most_generations}

module _ {S : Type 0} (Copy : ℕ → Generation → S → Type 0) (z : Sizes) where
  first_pass_slots : (homes : List (maybe.Option S)) (v : ℕ) → HasAt homes (slots_before v) (Copy 0 first_generation)
      → ((j : ℕ) → j < most_generations → HasAt homes (slots_before v + j) (λ y. Unit {0}))
      → PassSlots Copy 0 (first_generation ∷ []) nothing_known None 0 first_generation homes v
  first_pass_slots homes v copy all = record {
    kept = λ g low high out. let none : 0 ≡ g = omega arith in
        subst (λ (x : ℕ). HasAt homes (slot_of v x) (Copy x (get_or (first_generation ∷ []) x first_generation))) none
        (subst (λ (i : ℕ). HasAt homes i (Copy 0 first_generation)) {x = slots_before v} {y = slots_before v + 0} (omega arith) copy);
    placed = λ e. absurd (grind arith);
    home = λ j l a b. all j l;
    clear = λ e. absurd (omega arith);
  }

  alone : (j : ℕ) (v : View) → j ≢ 0 → get_elem? (first_view z ∷ []) j ≡ some v → ⊥
  alone zero v other e = other refl
  alone (suc j) v other e = some-ne-none v (sym e)

  pub opens : (words : List ℕ) (slots : List S) → length words ≡ words_before_pool z.passes + z.words
      → ((i : ℕ) → get_or words i 0 ≡ 0) → length slots ≡ slots_before z.passes
      → ((v : ℕ) → v < z.passes → (y : S) × (get_elem? slots (slots_before v) ≡ some y) × Copy 0 first_generation y)
      → IsRuled Copy z (opening words slots (first_view z))
  opens words slots wide blank deep copies = record {
    log = [];
    lawful = tt;
    shown = record {
      wide = wide;
      current = blank 0;
      small = omega arith;
      pins = λ v l. blank (word_of_pass v) ∙ ap (λ (h : PassState). pin_word h.announced) (sym (get_or-replicate z.passes v idle idle l));
      pool = λ i l. blank (words_before_pool z.passes + i) ∙ sym (get_or-replicate z.words i 0 0 l);
    };
    roomy = (tt, tt);
    owner = λ _. 0;
    out = replicate z.passes false;
    rest = λ p l. refl;
    held = 0;
    next = record { forest = empty; places = [] };
    slots = record {
      deep = length-map slots some ∙ deep;
      each = λ v l. subst (λ (x : PassTrack × PassState). PassSlots Copy 0 (first_generation ∷ []) x.0 x.1.entered 0 first_generation (map some slots) v)
          (λ i. (sym (get_or-replicate z.passes v nothing_known nothing_known l) i, sym (get_or-replicate z.passes v idle idle l) i))
          (first_pass_slots (map some slots) v (let c = copies v l in
          (c.0, at_map some slots (slots_before v) c.0 c.1, c.2)) (λ j s. let h = some_there slots (slots_before v + j) (omega arith) in (h.0, h.1, tt)));
    };
    seats = seats_set (SeatKnows z [] (λ _. 0) (replicate z.passes false) 0 (record { forest = empty; places = [] })) (first_view z ∷ [])
        0 (first_view z) record {
          knows = λ a is. refl;
          begins = ([], refl);
          was = ([], refl);
          told = ([], refl);
          quiet = λ a is. refl;
          fresh = λ new p is. absurd (grind arith);
          sits = λ a is. refl;
          all = λ a is. refl;
          goes = λ p is. absurd (let q = same_number 0 (p + 1) is in omega arith);
          counts = λ is. (refl, refl, refl);
          stay = λ is q l ne. refl;
          brought = λ is q l e. refl;
          home = λ is p l. refl;
        } (λ j v other e. absurd (alone j v other e));
  }

-- the slots as they are made
module _ {E Z : Type 0} (e : E) where
  pub no_slots : AreFirstSlots {E = E} {Z = Z} e 0 []
  no_slots = record { long = refl; each = λ v l. absurd (omega arith) }

  pub more_slots : (n : ℕ) (old new : List (Option (Arc E Z))) → AreFirstSlots e n old → AddsSlots e old new → AreFirstSlots e (n + 1) new
  more_slots n old new s h = record {
    long = ap length h.2.2 ∙ (length-append (old ++ Some h.0 ∷ []) h.2.0
        ∙ (let a = length-append old (Some h.0 ∷ []) in let b = s.long in let c = h.2.1 in omega arith));
    each = λ v l. dite (ℕ_discrete v n)
        (λ same. subst (λ (x : ℕ). (a : Arc E Z) × (get_elem? new (slots_before x) ≡ some (Some a)) × (arc_value a ≡ e)) (sym same) (
          h.0,
          ap (λ l. get_elem? l (slots_before n)) h.2.2 ∙ at_longer (old ++ Some h.0 ∷ []) h.2.0 (slots_before n) (Some h.0)
              (at_last old (Some h.0) (slots_before n) s.long),
          h.1,
        ))
        (λ other. let t = s.each v (omega arith) in (
          t.0,
          ap (λ l. get_elem? l (slots_before v)) h.2.2
              ∙ at_longer (old ++ Some h.0 ∷ []) h.2.0 (slots_before v) (Some t.0) (at_longer old (Some h.0 ∷ []) (slots_before v) (Some t.0) t.1),
          t.2,
        ));
  }

pub replicate_at : {A : Type 0} (n i : ℕ) (x : A) → get_or (replicate n x) i x ≡ x
replicate_at zero i x = refl
replicate_at (suc n) zero x = refl
replicate_at (suc n) (suc i) x = replicate_at n i x

pub map_replicate : {A B : Type 0} (f : A → B) (n : ℕ) (x : A) → map f (replicate n x) ≡ replicate n (f x)
map_replicate f zero x = refl
map_replicate f (suc n) x = ap (λ l. f x ∷ l) (map_replicate f n x)
