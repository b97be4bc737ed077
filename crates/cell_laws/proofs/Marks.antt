-- What keeps a mark, and what tells it.
use Rattle.std.proofs.Common.{◌≡◌, ℕ, zero, suc, ◌+◌, ◌<◌, Bool, true, false, refl, sym, ap, subst, ◌∙◌, arith, eq-eqb, if◌then◌else◌, Option, Some, None}
use Rattle.std.specs.Prelude.{◌==◌, ◌&&◌, ◌||◌, ◌/◌, ◌%◌, ◌^◌, bit_or, option_and_then}
use Rattle.std.proofs.lemmas.Bool.{eqb-true, ltb-true, and_parts}
use Rattle.std.proofs.lemmas.Nat.{or_shr, or_mod, mod_below}
use Rattle.mem_base.specs.declared.map.ids.RegionId.{RegionId}
use Rattle.mem_base.specs.map.PassIds.{PassId}
use Rattle.mem_base.specs.declared.map.kinds.Client.{Client}
use Rattle.mem_base.specs.declared.access.cells.Place.{Place}
use Rattle.mem_base.specs.declared.access.cells.Cell.{Cell}
use Rattle.mem_base.specs.declared.access.cells.WordStep.{WordStep}
use Rattle.mem_base.specs.declared.access.cells.WordStep.TheVariants.{Or, Take}
use Rattle.mem_base.specs.declared.machine.events.Event.{Event}
use Rattle.mem_base.specs.declared.machine.events.Event.TheVariants as events
use Rattle.mem_base.specs.declared.machine.events.Hand.TheVariants as hands
use Rattle.mem_base.specs.map.Limits.{pages_per_word}
use Rattle.mem_base.specs.access.Marks.{is_marked}
use Rattle.mem_base.specs.access.Places.{is_data_or_register, data_words, mark_word, word_of_page, bit_of_page}
use Rattle.mem_base.specs.access.Cells.{Touch, touch, touch_of, cell}
use Rattle.mem_base.specs.machine.Generations.{Generation, entered_generation}
use Rattle.mem_base.specs.machine.Guards.{is_notifier, may_reach}
use Rattle.mem_base.specs.machine.Desk.{is_unfilled}
use Rattle.mem_base.specs.machine.World.{World, old_at, possible, reply, number_in, touch_at, place_in_world, if_placed}
use Rattle.mem_base.specs.views.Naming.{names}
use Rattle.view_laws.proofs.Tests.{same_place, same_region}
use Rattle.mem_base.specs.machine.CellHistories.{HasMark, step_by, step_on, stepped, takes_mark, cell_value}
use Rattle.cell_laws.specs.CellHistory.{IsFilled, IsOnData}
use Rattle.mem_base.proofs.BoolLaws.{true_is_not_false}

-- bits of a word

or_bit : (x y : ℕ) → x < 2 → y < 2 → (x == 1) ≡ true → (bit_or x y == 1) ≡ true
or_bit zero y l m h = absurd (grind arith)
or_bit (suc zero) zero l m h = refl
or_bit (suc zero) (suc zero) l m h = refl
or_bit (suc zero) (suc (suc y)) l m h = absurd (omega arith)
or_bit (suc (suc x)) y l m h = absurd (omega arith)

bit_or_of : (x y : ℕ) → x < 2 → y < 2 → (y == 1) ≡ true → (bit_or x y == 1) ≡ true
bit_or_of x zero l m h = absurd (grind arith)
bit_or_of zero (suc zero) l m h = refl
bit_or_of (suc zero) (suc zero) l m h = refl
bit_or_of (suc (suc x)) (suc zero) l m h = absurd (omega arith)
bit_or_of x (suc (suc y)) l m h = absurd (omega arith)

split_or : (n bits k : ℕ) → bit_or n bits / (2 ^ k) % 2 ≡ bit_or (n / (2 ^ k) % 2) (bits / (2 ^ k) % 2)
split_or n bits k = ap (λ m. m % 2) (or_shr n bits k) ∙ or_mod (n / 2 ^ k) (bits / 2 ^ k) 1

below_two : (n : ℕ) → n % 2 < 2
below_two n = mod_below n 2 (omega arith)

-- a bit that stands is not lost
or_keeps : (n bits k : ℕ) → is_marked n k ≡ true → is_marked (bit_or n bits) k ≡ true
or_keeps n bits k h = ap (λ m. m == 1) (split_or n bits k) ∙ or_bit (n / (2 ^ k) % 2) (bits / (2 ^ k) % 2) (below_two (n / (2 ^ k))) (below_two (bits / (2 ^ k))) h

-- and one that is set stands
pub or_sets : (n bits k : ℕ) → is_marked bits k ≡ true → is_marked (bit_or n bits) k ≡ true
or_sets n bits k h = ap (λ m. m == 1) (split_or n bits k) ∙ bit_or_of (n / (2 ^ k) % 2) (bits / (2 ^ k) % 2) (below_two (n / (2 ^ k))) (below_two (bits / (2 ^ k))) h

-- a mark word is no data and no register
past_data : (p : Place) (client : Client) (page word : ℕ) → is_data_or_register p word ≡ true → word ≡ word_of_page p client page → ⊥
past_data p client page word h e =
    let l : word < data_words p.bytes + p.regs = ltb-true word (data_words p.bytes + p.regs) h in
    low (data_words p.bytes + p.regs) _ (page / pages_per_word) word e l
  where
    low : (a b c word : ℕ) → word ≡ a + b + c → word < a → ⊥
    low a b c word e l = absurd (omega (arith, e, l))

-- the steps that keep a bit: none, and those that set bits
pub data Gentle : Option WordStep → Type 0 where
  nothing : Gentle None
  sets : (bits : ℕ) → Gentle (Some (Or bits))

pub gentle_keeps : (o : Option WordStep) (n k : ℕ) → Gentle o → is_marked n k ≡ true → is_marked (stepped o n) k ≡ true
gentle_keeps o n k nothing h = h
gentle_keeps o n k (sets bits) h = or_keeps n bits k h

-- the cell of a mark, and every event that does not take it

module _ (w : World) (p : Place) (client : Client) (page : ℕ) (here : place_in_world w p.region ≡ Some p) (plain : p.region.0 ≡ 4294967295 → ⊥)
    (filled : IsFilled w.writer.desk p.region) where
  abbrev r : RegionId
  r = p.region

  abbrev i : ℕ
  i = word_of_page p client page

  -- a step on a word of a region: gentle where it is no step on the mark word
  apart : (s : RegionId) (t : Touch) → ((s.0 ≡ r.0) → (t.word ≡ i) → Gentle (Some t.step)) → Gentle (step_by r i (Some s) (Some t))
  apart s t h = go (s.0 == r.0) (t.word == i) refl refl
    where
      go : (a b : Bool) → (s.0 == r.0) ≡ a → (t.word == i) ≡ b → Gentle (if a && b then Some t.step else None)
      go true true e f = h (eqb-true s.0 r.0 e) (eqb-true t.word i f)
      go true false e f = nothing
      go false b e f = nothing

  -- the place of a region with the same number
  its_place : (s : RegionId) (q : Place) → s.0 ≡ r.0 → place_in_world w s ≡ Some q → q ≡ p
  its_place s q e is = same_place q p (sym is ∙ ap (place_in_world w) (same_region s r e) ∙ here)

  no_data : (c : Cell) (q : Place) → c.region.0 ≡ r.0 → place_in_world w c.region ≡ Some q → is_data_or_register q c.word ≡ true → c.word ≡ i → ⊥
  no_data c q e is h f = past_data p client page c.word (subst (λ (z : Place). is_data_or_register z c.word ≡ true) (its_place c.region q e is) h) f

  reached : (o : Option Generation) (c : Cell) (q : Place) → c.region.0 ≡ r.0 → may_reach o q c ≡ true → is_data_or_register q c.word ≡ true
  reached None c q e h = absurd (grind arith)
  reached (Some x) c q e h = go (names x.forest c.region && is_data_or_register q c.word) refl h
    where
      go : (b : Bool) → (names x.forest c.region && is_data_or_register q c.word) ≡ b → (b || is_notifier c) ≡ true → is_data_or_register q c.word ≡ true
      go true f h = (and_parts _ _ f).1
      go false f h = absurd (plain (sym e ∙ eqb-true c.region.0 4294967295 (and_parts _ _ h).0))

  by_pass : (v : PassId) (c : Cell) (step : WordStep) (o : Option Place) → place_in_world w c.region ≡ o
      → if_placed o (λ q. may_reach (entered_generation w.writer.generations w.passes v) q c) ≡ true
      → Gentle (step_by r i (Some c.region) (touch_at w (events.Word (hands.Pass v) c step) (Some c.region)))
  by_pass v c step None is may = absurd (grind arith)
  by_pass v c step (Some q) is may = subst (λ (o : Option Place). Gentle (step_by r i (Some c.region)
      (elim o as (λ _. Option Touch) [ None ↦ None | Some z ↦ Some (touch c.word step true) ]))) (sym is)
      (apart c.region (touch c.word step true)
      (λ e f. absurd (no_data c q e is (reached (entered_generation w.writer.generations w.passes v) c q e may) f)))

  by_writer : (c : Cell) (step : WordStep) (o : Option Place) → place_in_world w c.region ≡ o
      → ((q : Place) → place_in_world w c.region ≡ Some q → is_data_or_register q c.word ≡ true)
      → Gentle (step_by r i (Some c.region) (touch_at w (events.Word hands.Writer c step) (Some c.region)))
  by_writer c step None is on = subst (λ (o : Option Place). Gentle (step_by r i (Some c.region)
      (elim o as (λ _. Option Touch) [ None ↦ None | Some z ↦ Some (touch c.word step true) ]))) (sym is) nothing
  by_writer c step (Some q) is on = subst (λ (o : Option Place). Gentle (step_by r i (Some c.region)
      (elim o as (λ _. Option Touch) [ None ↦ None | Some z ↦ Some (touch c.word step true) ]))) (sym is)
      (apart c.region (touch c.word step true) (λ e f. absurd (no_data c q e is (on q is) f)))

  by_mark : (v : PassId) (s : RegionId) (other : Client) (leaf : ℕ) (o : Option Place) → place_in_world w s ≡ o
      → Gentle (step_by r i (Some s) (touch_at w (events.Mark v s other leaf) (Some s)))
  by_mark v s other leaf None is = subst (λ (o : Option Place). Gentle (step_by r i (Some s)
      (elim o as (λ _. Option Touch) [ None ↦ None | Some z ↦ Some (touch (word_of_page z other leaf) (Or (bit_of_page leaf)) false) ]))) (sym is) nothing
  by_mark v s other leaf (Some q) is = subst (λ (o : Option Place). Gentle (step_by r i (Some s)
      (elim o as (λ _. Option Touch) [ None ↦ None | Some z ↦ Some (touch (word_of_page z other leaf) (Or (bit_of_page leaf)) false) ]))) (sym is)
      (apart s (touch (word_of_page q other leaf) (Or (bit_of_page leaf)) false) (λ e f. sets (bit_of_page leaf)))

  by_harvest : (s : RegionId) (other : Client) (index : ℕ) (o : Option Place) → place_in_world w s ≡ o
      → takes_mark p client page (events.Harvest s other index) ≡ false
      → Gentle (step_by r i (Some s) (touch_at w (events.Harvest s other index) (Some s)))
  by_harvest s other index None is spared = subst (λ (o : Option Place). Gentle (step_by r i (Some s)
      (elim o as (λ _. Option Touch) [ None ↦ None | Some z ↦ Some (touch (mark_word z other index) Take true) ]))) (sym is) nothing
  by_harvest s other index (Some q) is spared = subst (λ (o : Option Place). Gentle (step_by r i (Some s)
      (elim o as (λ _. Option Touch) [ None ↦ None | Some z ↦ Some (touch (mark_word z other index) Take true) ]))) (sym is)
      (apart s (touch (mark_word q other index) Take true) (λ e f. absurd (taken e
      (subst (λ (z : Place). mark_word z other index ≡ i) (its_place s q e is) f))))
    where
      taken : s.0 ≡ r.0 → mark_word p other index ≡ i → ⊥
      taken e f = absurd (true_is_not_false ((s.0 == r.0) && (mark_word p other index == i))
          ((λ j. eq-eqb s.0 r.0 e j && (mark_word p other index == i)) ∙ eq-eqb (mark_word p other index) i f) spared)

  by_fill : (c : Cell) (o : Option Place) → place_in_world w c.region ≡ o → is_unfilled w.writer.desk c ≡ true
      → Gentle (step_by r i (Some c.region) (touch_at w (events.Fill c) (Some c.region)))
  by_fill c None is may = subst (λ (o : Option Place). Gentle (step_by r i (Some c.region)
      (elim o as (λ _. Option Touch) [ None ↦ None | Some z ↦ Some (touch c.word Take false) ]))) (sym is) nothing
  by_fill c (Some q) is may = subst (λ (o : Option Place). Gentle (step_by r i (Some c.region)
      (elim o as (λ _. Option Touch) [ None ↦ None | Some z ↦ Some (touch c.word Take false) ]))) (sym is)
      (apart c.region (touch c.word Take false) (λ e f. absurd (true_is_not_false (is_unfilled w.writer.desk c) may
      (ap (λ (x : Cell). is_unfilled w.writer.desk x) (same_cell e f) ∙ filled i))))
    where
      same_cell : c.region.0 ≡ r.0 → c.word ≡ i → c ≡ cell r i
      same_cell e f = λ j. record { region = same_region c.region r e j; word = f j }

  pub mark_gentle : (e : Event) → possible w e ≡ true → takes_mark p client page e ≡ false → IsOnData w e → Gentle (step_on w e r i)
  mark_gentle (events.Word (hands.Pass v) c step) may spared on = by_pass v c step (place_in_world w c.region) refl may
  mark_gentle (events.Word hands.Writer c step) may spared on = by_writer c step (place_in_world w c.region) refl on
  mark_gentle (events.Mark v s other leaf) may spared on = by_mark v s other leaf (place_in_world w s) refl
  mark_gentle (events.Harvest s other index) may spared on = by_harvest s other index (place_in_world w s) refl spared
  mark_gentle (events.Fill c) may spared on = by_fill c (place_in_world w c.region) refl may
  mark_gentle _ may spared on = nothing

  -- what takes the word tells the mark
  harvest_tells : (s : RegionId) (other : Client) (index : ℕ) → takes_mark p client page (events.Harvest s other index) ≡ true
      → number_in (reply w (events.Harvest s other index)) ≡ cell_value w r i
  harvest_tells s other index taking =
      let t = and_parts (s.0 == r.0) (mark_word p other index == i) taking in
      let e : s ≡ r = same_region s r (eqb-true s.0 r.0 t.0) in
      let f : mark_word p other index ≡ i = eqb-true (mark_word p other index) i t.1 in
      ap (λ (z : RegionId). number_in (reply w (events.Harvest z other index))) e
      ∙ ap (λ (o : Option Place). old_at w (Some r) (option_and_then (λ q. touch_of q (events.Harvest r other index)) o)) here
      ∙ ap (λ (n : ℕ). cell_value w r n) f

  pub mark_told : (e : Event) → takes_mark p client page e ≡ true → HasMark w p client page
      → is_marked (number_in (reply w e)) (page % pages_per_word) ≡ true
  mark_told (events.Harvest s other index) taking h = ap (λ (n : ℕ). is_marked n (page % pages_per_word)) (harvest_tells s other index taking) ∙ h
  mark_told e taking h = absurd (grind arith)
