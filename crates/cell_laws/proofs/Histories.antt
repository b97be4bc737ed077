-- What cells hold in whole histories.
use Rattle.std.proofs.Common.{◌≡◌, ◌⊎◌, inl, inr, ⊎_elim, ℕ, zero, suc, ◌+◌, ◌<◌, ◌≤◌, Bool, true, false, List, [], ◌∷◌, ◌++◌}
use Rattle.std.proofs.Common.{refl, sym, ap, subst, ◌∙◌, arith, eq-eqb, if◌then◌else◌, Option, Some, None}
use Rattle.std.specs.Prelude.{◌==◌, ◌&&◌, ◌||◌, ◌%◌, ◌^◌, ◌/◌, nat_lt, Ok, option_and_then, replicate, slice_index}
use Rattle.std.proofs.lemmas.Bool.{ltb-true, and_parts}
use Rattle.mem_base.specs.declared.map.ids.RegionId.{RegionId}
use Rattle.mem_base.specs.map.PassIds.{PassId}
use Rattle.mem_base.specs.declared.map.kinds.Client.{Client}
use Rattle.mem_base.specs.declared.access.cells.Place.{Place}
use Rattle.mem_base.specs.declared.access.cells.Cell.{Cell}
use Rattle.mem_base.specs.declared.access.cells.WordStep.{WordStep}
use Rattle.mem_base.specs.declared.access.cells.WordStep.TheVariants.{Or}
use Rattle.mem_base.specs.declared.machine.events.Event.{Event}
use Rattle.mem_base.specs.declared.machine.events.Event.TheVariants as events
use Rattle.mem_base.specs.declared.machine.events.Hand.{Hand}
use Rattle.mem_base.specs.declared.machine.events.Hand.TheVariants as hands
use Rattle.mem_base.specs.declared.machine.events.Reply.TheVariants.{Old}
use Rattle.mem_base.specs.map.Limits.{notifier_count, pages_per_word}
use Rattle.mem_base.specs.access.Marks.{is_marked}
use Rattle.mem_base.specs.access.Places.{is_data_or_register, is_notifiers, data_words, pages_in, word_of_page, bit_of_page}
use Rattle.mem_base.specs.access.Cells.{touch_of}
use Rattle.mem_base.specs.machine.Generations.{Generation, entered_generation}
use Rattle.mem_base.specs.machine.Guards.{is_notifier, may_reach, may_mark}
use Rattle.mem_base.specs.machine.Desk.{places_of}
use Rattle.mem_base.specs.machine.World.{World, opening, possible, world_after, after_telling, reply, number_in, place_in_world, if_placed, old_value, old_at}
use Rattle.mem_base.specs.machine.History.{PureEntry, after_entry, after_entries, IsLegal, IsLegalFrom}
use Rattle.mem_base.specs.views.Naming.{names}
use Rattle.view_laws.proofs.Tests.{none_is_not_some, same_region}
use Rattle.turn_laws.proofs.Coupled.{IsWhole}
use Rattle.turn_laws.proofs.Replaced.{its_region}
use Rattle.world_laws.proofs.Keeping.{holds_at_first}
use Rattle.mem_base.specs.machine.CellHistories.{HasMark, IsMarkKept, step_by, IsReleasedIn, KeptBy, Meet, left_on, releases, step_on, stepped, takes_mark}
use Rattle.cell_laws.specs.CellHistory.{AreOnData, IsFilled, IsOnData}
use Rattle.mem_base.specs.machine.CellHistories.{cell_value}
use Rattle.cell_laws.proofs.EachEvent.{Sure, filled_stays, found_before, made_on, no_step, paged, place_stays, released_made, sure_after, value_after}
use Rattle.cell_laws.proofs.Marks.{gentle_keeps, mark_gentle, mark_told, or_sets}
use Rattle.history_laws.proofs.PureAppends.{after_both, legal_parts}
use Rattle.mem_base.proofs.PlaceLaws.{found_has}

sure_first : (pool_words passes : ℕ) → Sure (opening pool_words passes)
sure_first pool_words passes = record { holds = holds_at_first pool_words passes; gone = record { rising = tt; gone = tt } }

-- an entry that is legal leads where its event does
led : (w : World) (x : PureEntry) → x.reply ≡ reply w x.event → after_entry w x ≡ world_after w x.event
led w x e = ap (λ r. after_telling w x.event (number_in r)) e

sure_entry : (w : World) (x : PureEntry) → Sure w → possible w x.event ≡ true → x.reply ≡ reply w x.event → Sure (after_entry w x)
sure_entry w x k may told = subst Sure (sym (led w x told)) (sure_after w k x.event may)

sure_from : (xs : List PureEntry) (w : World) → Sure w → IsLegalFrom w xs → Sure (after_entries w xs)
sure_from [] w k l = k
sure_from (x ∷ xs) w k l = sure_from xs (after_entry w x) (sure_entry w x k l.0 l.1) l.2

-- the value of a cell

module _ (r : RegionId) (i : ℕ) where
  record Holding (w : World) (n : ℕ) : Type 0 where
    value : (p : Place) → place_in_world w r ≡ Some p → i < p.words → cell_value w r i ≡ n
    unmade : place_in_world w r ≡ None → w.writer.desk.forest.made ≤ r.0 → n ≡ 0

  holding_after : (w : World) (n : ℕ) (e : Event) → Sure w → possible w e ≡ true → Holding w n → Holding (world_after w e) (stepped (step_on w e r i) n)
  holding_after w n e k may h = record {
    value = λ p there l. ⊎_elim
        (λ before. value_after w k e r p i before there l ∙ ap (stepped (step_on w e r i)) (h.value p before l))
        (λ new. new.zeros i ∙ sym (same new.none ∙ h.unmade new.none (let q = new.last in omega (arith, q))))
        (found_before w k e r p there);
    unmade = λ none far. go none far (place_in_world w r) refl;
  }
    where
      same : place_in_world w r ≡ None → stepped (step_on w e r i) n ≡ n
      same none = ap (λ o. stepped o n) (no_step w k e r i none)

      gone : (q : Place) → place_in_world w r ≡ Some q → place_in_world (world_after w e) r ≡ None
          → (world_after w e).writer.desk.forest.made ≤ r.0 → (b : Bool) → releases w.writer e r ≡ b → stepped (step_on w e r i) n ≡ 0
      gone q here none far true is =
          let l = released_made w k e r is in let m = made_on w k e in absurd (omega (arith, l, m, far))
      gone q here none far false is = none_is_not_some q (sym none ∙ place_stays w k e r q here is)

      go : place_in_world (world_after w e) r ≡ None → (world_after w e).writer.desk.forest.made ≤ r.0 → (o : Option Place) → place_in_world w r ≡ o
          → stepped (step_on w e r i) n ≡ 0
      go none far None before = let m = made_on w k e in same before ∙ h.unmade before (omega (arith, m, far))
      go none far (Some q) before = gone q before none far (releases w.writer e r) refl

  holding_from : (xs : List PureEntry) (w : World) (n : ℕ) → Sure w → Holding w n → IsLegalFrom w xs → Holding (after_entries w xs) (left_on r i n w xs)
  holding_from [] w n k h l = h
  holding_from (x ∷ xs) w n k h l =
      holding_from xs (after_entry w x) (stepped (step_on w x.event r i) n) (sure_entry w x k l.0 l.1)
      (subst (λ (v : World). Holding v (stepped (step_on w x.event r i) n)) (sym (led w x l.1)) (holding_after w n x.event k l.0 h)) l.2

  holding_first : (pool_words passes : ℕ) → Holding (opening pool_words passes) 0
  holding_first pool_words passes = record { value = λ p here l. first_zero p (4294967295 == r.0); unmade = λ none far. refl }
    where
      zero_at : (n j : ℕ) → slice_index (replicate n 0) j ≡ 0
      zero_at zero j = refl
      zero_at (suc n) zero = refl
      zero_at (suc n) (suc j) = zero_at n j

      first_zero : (p : Place) (b : Bool) → slice_index (if b then replicate notifier_count 0 else []) i ≡ 0
      first_zero p true = zero_at notifier_count i
      first_zero p false = refl

pub cells_hold_last : (pool_words passes : ℕ) (xs : List PureEntry) → IsLegal pool_words passes xs
    → let w = after_entries (opening pool_words passes) xs in
    (r : RegionId) (p : Place) (i : ℕ) → place_in_world w r ≡ Some p → i < p.words → cell_value w r i ≡ left_on r i 0 (opening pool_words passes) xs
cells_hold_last pool_words passes xs l r p i =
    (holding_from r i xs (opening pool_words passes) 0 (sure_first pool_words passes) (holding_first r i pool_words passes) l).value p

-- what a step tells

module _ (w : World) (k : Sure w) (c : Cell) (step : WordStep) where
  reached : (o : Option Generation) (p : Place) → p.region.0 ≡ c.region.0 → IsWhole (places_of w.writer.desk) p → may_reach o p c ≡ true → c.word < p.words
  reached None p same s h = absurd (grind arith)
  reached (Some x) p same s h = go (names x.forest c.region && is_data_or_register p c.word) refl h
    where
      go : (b : Bool) → (names x.forest c.region && is_data_or_register p c.word) ≡ b → (b || is_notifier c) ≡ true → c.word < p.words
      go true e h = let t = and_parts (names x.forest c.region) (is_data_or_register p c.word) e in
          let l : c.word < data_words p.bytes + p.regs = ltb-true c.word (data_words p.bytes + p.regs) t.1 in
          let m = s.wide in omega (arith, l, m)
      go false e h = let t = and_parts _ _ h in let l : c.word < notifier_count = ltb-true c.word notifier_count t.1 in
          let m : p.words ≡ notifier_count =
          s.notifiers (subst (λ (z : RegionId). is_notifiers z ≡ true) (sym (same_region p.region c.region same)) t.0) in omega (arith, l, m)

  record Stepping (hand : Hand) : Type 0 where
    place : Place
    here : place_in_world w c.region ≡ Some place
    inside : c.word < place.words

  placed : (hand : Hand) → possible w (events.Word hand c step) ≡ true → Stepping hand
  placed (hands.Pass v) may = go (place_in_world w c.region) refl may
    where
      go : (o : Option Place) → place_in_world w c.region ≡ o
          → if_placed o (λ p. may_reach (entered_generation w.writer.generations w.passes v) p c) ≡ true → Stepping (hands.Pass v)
      go None is may = absurd (grind arith)
      go (Some p) is may = record {
        place = p;
        here = is;
        inside = reached (entered_generation w.writer.generations w.passes v) p (its_region (places_of w.writer.desk) c.region p is)
            (found_has (IsWhole (places_of w.writer.desk)) (places_of w.writer.desk) c.region p k.holds.kept.coupled.whole is) may;
      }
  placed hands.Writer may = go (place_in_world w c.region) refl may
    where
      go : (o : Option Place) → place_in_world w c.region ≡ o → if_placed o (λ p. nat_lt c.word p.words) ≡ true → Stepping hands.Writer
      go None is may = absurd (grind arith)
      go (Some p) is may = record { place = p; here = is; inside = ltb-true c.word p.words may }

  told_old : (hand : Hand) (p : Place) → place_in_world w c.region ≡ Some p → old_value w (events.Word hand c step) ≡ cell_value w c.region c.word
  told_old hand p is = ap (λ (o : Option Place). old_at w (Some c.region) (option_and_then (λ q. touch_of q (events.Word hand c step)) o)) is

pub steps_tell_last : (pool_words passes : ℕ) (xs : List PureEntry) (x : PureEntry) (hand : Hand) (c : Cell) (step : WordStep)
    → IsLegal pool_words passes (xs ++ x ∷ []) → x.event ≡ events.Word hand c step
    → x.reply ≡ Ok (Old (left_on c.region c.word 0 (opening pool_words passes) xs))
steps_tell_last pool_words passes xs x hand c step l is =
    let w = after_entries (opening pool_words passes) xs in
    let t = legal_parts (opening pool_words passes) xs (x ∷ []) l in
    let k = sure_from xs (opening pool_words passes) (sure_first pool_words passes) t.0 in
    let may : possible w (events.Word hand c step) ≡ true = subst (λ (e : Event). possible w e ≡ true) is t.1.0 in
    let s = placed w k c step hand may in
    t.1.1 ∙ ap (reply w) is
    ∙ ap (λ (n : ℕ). Ok (Old n)) (told_old w k c step hand s.place s.here
    ∙ cells_hold_last pool_words passes xs t.0 c.region s.place c.word s.here s.inside)

-- words that come to another region

stays_or : (r : RegionId) (p : Place) (ys : List PureEntry) (w : World) → Sure w → IsLegalFrom w ys → place_in_world w r ≡ Some p
    → IsReleasedIn w ys r ⊎ (place_in_world (after_entries w ys) r ≡ Some p)
stays_or r p [] w k l here = inr here
stays_or r p (x ∷ ys) w k l here = go (releases w.writer x.event r) refl
    (λ stay. stays_or r p ys (after_entry w x) (sure_entry w x k l.0 l.1) l.2
    (ap (λ (v : World). place_in_world v r) (led w x l.1) ∙ place_stays w k x.event r p here stay))
  where
    go : (b : Bool) → releases w.writer x.event r ≡ b
        → (releases w.writer x.event r ≡ false → IsReleasedIn (after_entry w x) ys r ⊎ (place_in_world (after_entries (after_entry w x) ys) r ≡ Some p))
        → IsReleasedIn w (x ∷ ys) r ⊎ (place_in_world (after_entries w (x ∷ ys)) r ≡ Some p)
    go true gone on = inl (inl gone)
    go false stay on = ⊎_elim (λ a. inl (inr a)) (λ b. inr b) (on stay)

pub words_are_released : (pool_words passes : ℕ) (xs ys : List PureEntry) → IsLegal pool_words passes (xs ++ ys)
    → let w = after_entries (opening pool_words passes) xs in
    (r s : RegionId) (p q : Place) → place_in_world w r ≡ Some p
    → place_in_world (after_entries (opening pool_words passes) (xs ++ ys)) s ≡ Some q → (r.0 ≡ s.0 → ⊥) → Meet p q → IsReleasedIn w ys r
words_are_released pool_words passes xs ys l r s p q here there ne meet =
    let w = after_entries (opening pool_words passes) xs in
    let t = legal_parts (opening pool_words passes) xs ys l in
    let k = sure_from xs (opening pool_words passes) (sure_first pool_words passes) t.0 in
    let last = sure_from ys w k t.1 in
    let there' : place_in_world (after_entries w ys) s ≡ Some q =
    sym (ap (λ (v : World). place_in_world v s) (after_both (opening pool_words passes) xs ys)) ∙ there in
    ⊎_elim (λ a. a) (λ still. absurd (⊎_elim (λ a. let m = meet in let x = m.1 in let y = m.2 in let z = m.3 in let u = m.4 in absurd (omega (arith, a, x, y, z, u)))
    (λ b. let m = meet in let x = m.1 in let y = m.2 in let z = m.3 in let u = m.4 in absurd (omega (arith, b, x, y, z, u)))
    (last.holds.kept.coupled.backed.apart r s p q still there' ne)))
    (stays_or r p ys w k t.1 here)

-- marks

module _ (p : Place) (client : Client) (page : ℕ) (few : word_of_page p client page < p.words) (plain : p.region.0 ≡ 4294967295 → ⊥) where
  record Marked (w : World) : Type 0 where
    here : place_in_world w p.region ≡ Some p
    mark : HasMark w p client page
    filled : IsFilled w.writer.desk p.region

  marked_after : (w : World) (e : Event) → Sure w → possible w e ≡ true → Marked w → takes_mark p client page e ≡ false
      → releases w.writer e p.region ≡ false → IsOnData w e → Marked (world_after w e)
  marked_after w e k may m spared stays on =
      let there = place_stays w k e p.region p m.here stays in record {
        here = there;
        mark = ap (λ (n : ℕ). is_marked n (page % pages_per_word)) (value_after w k e p.region p (word_of_page p client page) m.here there few)
            ∙ gentle_keeps (step_on w e p.region (word_of_page p client page)) (cell_value w p.region (word_of_page p client page)) (page % pages_per_word)
            (mark_gentle w p client page m.here plain m.filled e may spared on) m.mark;
        filled = filled_stays w k e p.region p m.here m.filled;
      }

  kept_from : (xs : List PureEntry) (w : World) → Sure w → Marked w → IsLegalFrom w xs → AreOnData w xs → IsMarkKept p client page w xs
  kept_from [] w k m l on = m.mark
  kept_from (x ∷ xs) w k m l on = go (takes_mark p client page x.event) refl (releases w.writer x.event p.region) refl
      (λ spared stays. kept_from xs (after_entry w x) (sure_entry w x k l.0 l.1)
      (subst Marked (sym (led w x l.1)) (marked_after w x.event k l.0 m spared stays on.0)) l.2 on.1)
    where
      go : (a : Bool) → takes_mark p client page x.event ≡ a → (b : Bool) → releases w.writer x.event p.region ≡ b
          → (takes_mark p client page x.event ≡ false → releases w.writer x.event p.region ≡ false → IsMarkKept p client page (after_entry w x) xs)
          → KeptBy a b (is_marked (number_in x.reply) (page % pages_per_word) ≡ true) (IsMarkKept p client page (after_entry w x) xs)
      go true taking b q rest = ap (λ r. is_marked (number_in r) (page % pages_per_word)) l.1
          ∙ mark_told w p client page m.here plain m.filled x.event taking m.mark
      go false spared true q rest = tt
      go false spared false q rest = rest spared q

-- a mark that is made stands

one_bit : (k : ℕ) → is_marked (2 ^ k) k ≡ true
one_bit k = ap (λ (n : ℕ). n % 2 == 1) (self (2 ^ k) (power k))
  where
    power : (k : ℕ) → 0 < 2 ^ k
    power zero = omega arith
    power (suc k) = let l = power k in omega (arith, l)

    self : (n : ℕ) → 0 < n → n / n ≡ 1
    self n l = grind (arith, l)

in_pages : (w : World) (pass : PassId) (r : RegionId) (client : Client) (page : ℕ) (p : Place) → place_in_world w r ≡ Some p
    → possible w (events.Mark pass r client page) ≡ true → page < pages_in p
in_pages w pass r client page p here may = by (entered_generation w.writer.generations w.passes pass)
    (sym (ap (λ (o : Option Place). if_placed o (λ q. may_mark (entered_generation w.writer.generations w.passes pass) q r page)) here) ∙ may)
  where
    by : (o : Option Generation) → may_mark o p r page ≡ true → page < pages_in p
    by None h = absurd (grind arith)
    by (Some x) h = ltb-true page (pages_in p) (and_parts _ _ h).1

mark_step : (w : World) (pass : PassId) (r : RegionId) (client : Client) (page : ℕ) (p : Place) → place_in_world w r ≡ Some p → p.region ≡ r
    → step_on w (events.Mark pass r client page) p.region (word_of_page p client page) ≡ Some (Or (bit_of_page page))
mark_step w pass r client page p here its =
    ap (λ (o : Option Place). step_by p.region (word_of_page p client page) (Some r)
    (option_and_then (λ q. touch_of q (events.Mark pass r client page)) o)) here
    ∙ (λ j. if eq-eqb r.0 p.region.0 (ap (λ (z : RegionId). z.0) (sym its)) j
    && eq-eqb (word_of_page p client page) (word_of_page p client page) refl j then Some (Or (bit_of_page page)) else None)

pub marks_are_kept : (pool_words passes : ℕ) (xs ys : List PureEntry) (x : PureEntry) (pass : PassId) (r : RegionId) (client : Client) (page : ℕ)
    → IsLegal pool_words passes (xs ++ x ∷ ys) → x.event ≡ events.Mark pass r client page
    → let w = after_entries (opening pool_words passes) xs in
    (p : Place) → place_in_world w r ≡ Some p → IsFilled w.writer.desk r → AreOnData (after_entry w x) ys
    → IsMarkKept p client page (after_entry w x) ys
marks_are_kept pool_words passes xs ys x pass r client page l is p here filled on =
    let w = after_entries (opening pool_words passes) xs in
    let t = legal_parts (opening pool_words passes) xs (x ∷ ys) l in
    let k = sure_from xs (opening pool_words passes) (sure_first pool_words passes) t.0 in
    let may : possible w (events.Mark pass r client page) ≡ true = subst (λ (e : Event). possible w e ≡ true) is t.1.0 in
    let its : p.region ≡ r = same_region p.region r (its_region (places_of w.writer.desk) r p here) in
    let whole = found_has (IsWhole (places_of w.writer.desk)) (places_of w.writer.desk) r p k.holds.kept.coupled.whole here in
    let near : page < pages_in p = in_pages w pass r client page p here may in
    let few : word_of_page p client page < p.words = whole.marks client page near in
    let here' : place_in_world w p.region ≡ Some p = ap (place_in_world w) its ∙ here in
    let plain : p.region.0 ≡ 4294967295 → ⊥ =
    (λ e. paged w.writer.desk.pool_words w.writer.desk.forest.made w.writer.desk.places p.region p k.holds.sound.few k.holds.sound.places here'
    (let n = near in omega (arith, n)) e) in
    let v = world_after w x.event in
    let there : place_in_world v p.region ≡ Some p = place_stays w k x.event p.region p here' (ap (λ (e : Event). releases w.writer e p.region) is) in
    let marked : Marked p client page few plain v = record {
      here = there;
      mark = ap (λ (n : ℕ). is_marked n (page % pages_per_word))
          (value_after w k x.event p.region p (word_of_page p client page) here' there few
          ∙ ap (λ o. stepped o (cell_value w p.region (word_of_page p client page)))
          (ap (λ (e : Event). step_on w e p.region (word_of_page p client page)) is ∙ mark_step w pass r client page p here its))
          ∙ or_sets (cell_value w p.region (word_of_page p client page)) (bit_of_page page) (page % pages_per_word) (one_bit (page % pages_per_word));
      filled = filled_stays w k x.event p.region p here'
          (subst (λ (z : RegionId). IsFilled w.writer.desk z) (sym its) filled);
    } in
    kept_from p client page few plain ys (after_entry w x) (sure_entry w x k t.1.0 t.1.1)
    (subst (Marked p client page few plain) (sym (led w x t.1.1)) marked) t.1.2 on
