-- The generation in which a pass is entered is held, so each step on its places is possible.
use Rattle.std.proofs.Common.{◌≡◌, ℕ, zero, suc, ◌+◌, ◌-◌, ◌<◌, ◌≤◌, Bool, true, false, ◌&&◌, ◌||◌, List, [], ◌∷◌, ◌++◌, length, take, get_or}
use Rattle.std.proofs.Common.{sym, refl, ap, ◌∙◌, subst, inl, inr, arith, ⊎_elim, if◌then◌else◌, Option, Some, None}
use Rattle.std.specs.Prelude.{slice_get, nat_le, nat_lt, ◌==◌, ◌^◌}
use Rattle.std.specs.List.{list_any}
use Rattle.std.proofs.lemmas.Bool.{cases_lt, eqb-true, ltb-true, lt-ltb, le-leb, and_from, or_left, or_right}
use Rattle.mem_base.specs.map.PassIds.{PassId}
use Rattle.mem_base.specs.declared.map.ids.RegionId.{RegionId}
use Rattle.mem_base.specs.declared.access.cells.Place.{Place}
use Rattle.mem_base.specs.map.Limits.{notifier_count}
use Rattle.mem_base.specs.lists.Every.{Every, HasElement}
use Rattle.mem_base.specs.views.Naming.{names}
use Rattle.mem_base.specs.access.PlacesByRegion.{place_in}
use Rattle.mem_base.specs.access.Places.{is_notifiers, notifiers_place, is_data_or_register, data_words, pages_in}
use Rattle.mem_base.specs.access.Cells.{cell}
use Rattle.mem_base.specs.machine.Passes.{PassState, idle, pass_of, is_pass}
use Rattle.mem_base.specs.machine.Generations.{Generation, Generations, PassTrack, nothing_known, least_lowest, is_held, held_generations}
use Rattle.mem_base.specs.machine.Generations.{generation_of, generation_at, entered_generation}
use Rattle.mem_base.specs.machine.Guards.{is_notifier, may_reach, may_mark}
use Rattle.mem_base.specs.machine.Desk.{Desk, places_of}
use Rattle.mem_base.specs.machine.World.{World, opening, if_placed}
use Rattle.mem_base.specs.machine.History.{PureEntry, after_entries, IsLegal, IsOrderly}
use Rattle.mem_base.proofs.EveryLaws.{weaker, every_element}
use Rattle.view_laws.proofs.Tests.{none_is_not_some}
use Rattle.history_laws.proofs.HeldLaws.{keeps_held}
use Rattle.history_laws.proofs.Idles.{IsSoundDesk}
use Rattle.history_laws.proofs.OrderLaws.{order}
use Rattle.history_laws.proofs.PlaceLaws.{some_is}
use Rattle.turn_laws.proofs.Coupled.{Stands, AllStand}
use Rattle.world_laws.specs.Entered.{IsEnteredIn, IsHeldAt, EntersHeld, MayStep}
use Rattle.world_laws.proofs.Keeping.{Holds, holds}
use Rattle.turn_laws.proofs.PassSteps.{least_low}
use Rattle.std.proofs.lemmas.Option.{same_Some}

-- lists

taken : {A : Type 0} (xs : List A) (i m : ℕ) (x : A) → i < m → slice_get xs i ≡ Some x → HasElement (take m xs) x
taken [] i m x l e = none_is_not_some x e
taken (y ∷ ys) i zero x l e = absurd (omega arith)
taken (y ∷ ys) zero (suc m) x l e = inl (same_Some y x e)
taken (y ∷ ys) (suc i) (suc m) x l e = inr (taken ys i m x (omega arith) e)

any_at : (n : ℕ) (ks : List PassTrack) (v : ℕ) → v < length ks → (get_or ks v nothing_known).lowest ≤ n → list_any (λ k. nat_le k.lowest n) ks ≡ true
any_at n [] v l m = absurd (omega arith)
any_at n (k ∷ ks) zero l m = or_left (nat_le k.lowest n) (list_any (λ k. nat_le k.lowest n) ks) (le-leb k.lowest n m)
any_at n (k ∷ ks) (suc v) l m = or_right (nat_le k.lowest n) (list_any (λ k. nat_le k.lowest n) ks) (any_at n ks v (omega arith) m)

idle_past : (ps : List PassState) (v : ℕ) → length ps ≤ v → get_or ps v idle ≡ idle
idle_past [] v l = refl
idle_past (p ∷ ps) zero l = absurd (omega arith)
idle_past (p ∷ ps) (suc v) l = idle_past ps v (omega arith)

module _ (w : World) (k : IsOrderly w) (v : PassId) where
  abbrev g : Generations
  g = w.writer.generations

  -- only a pass of the world enters a number
  near : (number : ℕ) → (pass_of w.passes v).entered ≡ Some number → v.0 < length w.passes
  near number e = ⊎_elim (λ l. l)
      (λ l. none_is_not_some number (sym (ap (λ (p : PassState). p.entered) (idle_past w.passes v.0 l)) ∙ e)) (cases_lt v.0 (length w.passes))

  entered_is : (number : ℕ) → (pass_of w.passes v).entered ≡ Some number → entered_generation g w.passes v ≡ generation_of g number
  entered_is number e = (λ i. if lt-ltb v.0 (length w.passes) (near number e) i then generation_at g (e i) else None)

  held_number : (number : ℕ) → (pass_of w.passes v).entered ≡ Some number → is_held g number ≡ true
  held_number number e = let l = near number e in let t = (k.each v l).entered number e in
      or_right (number == g.current) _ (and_from (nat_le number g.current) _ (le-leb number g.current t.4)
      (any_at number g.passes v.0 (subst (λ (m : ℕ). v.0 < m) (sym k.all_known) l) t.3))

  held_at : (number : ℕ) (x : Generation) → (pass_of w.passes v).entered ≡ Some number → generation_of g number ≡ Some x → IsHeldAt w number x
  held_at number x e is = let l = near number e in let t = (k.each v l).entered number e in
      let low = least_low g.current g.passes v.0 (subst (λ (m : ℕ). v.0 < m) (sym k.all_known) l) in
      let a = t.3 in let b = t.4 in record {
        kept = is;
        held = held_number number e;
        among = taken g.kept (g.current - number) (g.current + 1 - least_lowest g.current g.passes) x (omega arith)
            (sym (λ i. if le-leb number g.current t.4 i then slice_get g.kept (g.current - number) else None) ∙ is);
      }

  pub enters_held : EntersHeld w v
  enters_held = record {
    there = λ number e. let x = some_is (generation_of g number) ((keeps_held w k).kept number (held_number number e)) in
        (x.0, entered_is number e ∙ x.1, held_at number x.0 e x.1);
    numbered = λ x is. go x (is_pass w.passes v) (pass_of w.passes v).entered refl is;
  }
    where
      go : (x : Generation) (b : Bool) (o : Option ℕ) → (pass_of w.passes v).entered ≡ o → (if b then generation_at g o else None) ≡ Some x
          → (number : ℕ) × ((pass_of w.passes v).entered ≡ Some number) × IsHeldAt w number x
      go x false o e is = none_is_not_some x is
      go x true None e is = none_is_not_some x is
      go x true (Some number) e is = (number, e, held_at number x e is)

pub entered_generations_are_held : (pool_words passes : ℕ) (xs : List PureEntry) → IsLegal pool_words passes xs → (pass : PassId)
    → EntersHeld (after_entries (opening pool_words passes) xs) pass
entered_generations_are_held pool_words passes xs l pass = enters_held (after_entries (opening pool_words passes) xs) (order pool_words passes xs l) pass

-- the notifiers' place is the last one

notifiers_found : (made : ℕ) (ps : List Place) (np q : Place) (r : RegionId) → made ≤ 4294967294 → Every (λ p. p.region.0 < made) ps → is_notifiers r ≡ true
    → place_in (ps ++ np ∷ []) r ≡ Some q → q ≡ np
notifiers_found made [] np q r few k n e = go (np.region.0 == r.0) e
  where
    go : (b : Bool) → (if b then Some np else None) ≡ Some q → q ≡ np
    go true e = sym (same_Some np q e)
    go false e = none_is_not_some q e
notifiers_found made (p ∷ ps) np q r few k n e = go (p.region.0 == r.0) refl e (notifiers_found made ps np q r few k.1 n)
  where
    go : (b : Bool) → (p.region.0 == r.0) ≡ b → (if b then Some p else place_in (ps ++ np ∷ []) r) ≡ Some q
        → (place_in (ps ++ np ∷ []) r ≡ Some q → q ≡ np) → q ≡ np
    go true t e rest = let a : p.region.0 ≡ r.0 = eqb-true p.region.0 r.0 t in let b : r.0 ≡ 2 ^ 32 - 1 = eqb-true r.0 (2 ^ 32 - 1) n in
        let l : p.region.0 < made = k.0 in absurd (omega arith)
    go false t e rest = rest e

-- so it has no pages
no_pages : (d : Desk) → IsSoundDesk d → (p : Place) → place_in (places_of d) p.region ≡ Some p → is_notifiers p.region ≡ true → pages_in p ≡ 0
no_pages d s p e n = ap (λ (q : Place). pages_in q) (notifiers_found d.forest.made d.places (notifiers_place d.pool_words) p p.region s.few s.places n e)

module _ (w : World) (k : Holds w) (v : PassId) (x : Generation) (is : IsEnteredIn w v x) (p : Place)
    (s : Stands (places_of w.writer.desk) w.writer.desk.unfilled x p) where
  reach : (word : ℕ) → is_data_or_register p word ≡ true → may_reach (Some x) p (cell p.region word) ≡ true
  reach word h = go (is_notifiers p.region) refl s.named
    where
      go : (b : Bool) → is_notifiers p.region ≡ b → (b || names x.forest p.region) ≡ true → may_reach (Some x) p (cell p.region word) ≡ true
      go true n named = let l : word < data_words p.bytes + p.regs = ltb-true word (data_words p.bytes + p.regs) h in
          let a : data_words p.bytes + p.regs ≤ p.words = s.whole.wide in
          let b : p.words ≡ notifier_count = s.whole.notifiers n in
          or_right (names x.forest p.region && is_data_or_register p word) (is_notifier (cell p.region word))
          (and_from (is_notifiers p.region) (nat_lt word notifier_count) n (lt-ltb word notifier_count (omega (arith, l, a, b))))
      go false n named = or_left (names x.forest p.region && is_data_or_register p word) (is_notifier (cell p.region word))
          (and_from (names x.forest p.region) (is_data_or_register p word) named h)

  mark : (page : ℕ) → page < pages_in p → may_mark (Some x) p p.region page ≡ true
  mark page l = go (is_notifiers p.region) refl s.named
    where
      go : (b : Bool) → is_notifiers p.region ≡ b → (b || names x.forest p.region) ≡ true → may_mark (Some x) p p.region page ≡ true
      go true n named = let none : pages_in p ≡ 0 = no_pages w.writer.desk k.sound p s.whole.stands n in absurd (omega (arith, l, none))
      go false n named = and_from (names x.forest p.region) (nat_lt page (pages_in p)) named (lt-ltb page (pages_in p) l)

  may_step : MayStep w v x p
  may_step = record {
    words = λ word step h. record {
      may = (λ i. if_placed (s.whole.stands i) (λ q. may_reach (is i) q (cell p.region word))) ∙ reach word h;
      stays = is;
    };
    marks = λ client page l. record {
      may = (λ i. if_placed (s.whole.stands i) (λ q. may_mark (is i) q p.region page)) ∙ mark page l;
      stays = is;
    };
  }

pub steps_possible : (w : World) → Holds w → (v : PassId) (x : Generation) → IsEnteredIn w v x → Every (MayStep w v x) x.places
steps_possible w k v x is = let d = w.writer.desk in let t = (enters_held w k.kept.coupled.order v).numbered x is in
    weaker (Stands (places_of d) d.unfilled x) (MayStep w v x) (λ p s. may_step w k v x is p s) x.places
    (every_element (AllStand (places_of d) d.unfilled) (held_generations w.writer.generations) x k.kept.coupled.held t.2.among)

pub steps_are_possible : (pool_words passes : ℕ) (xs : List PureEntry) → IsLegal pool_words passes xs
    → let w = after_entries (opening pool_words passes) xs in (pass : PassId) (x : Generation) → IsEnteredIn w pass x → Every (MayStep w pass x) x.places
steps_are_possible pool_words passes xs l pass x is =
    steps_possible (after_entries (opening pool_words passes) xs) (holds pool_words passes xs l) pass x is
