-- What a pass does on the running machine it does on the pure one.
use Rattle.std.proofs.Common.{◌≡◌, ℕ, zero, suc, ◌+◌, ◌-◌, ◌<◌, ◌≤◌, Bool, true, false, ◌&&◌, ◌||◌, List, [], ◌∷◌, length, take, get_or}
use Rattle.std.proofs.Common.{sym, refl, ap, ◌∙◌, subst, arith, if◌then◌else◌, Option, Some, None}
use Rattle.std.specs.Prelude.{slice_index, slice_get, nat_le}
use Rattle.std.proofs.lemmas.Bool.{eqb-true, ltb-true, leb-true, and_parts}
use Rattle.mem_base.specs.declared.map.ids.RegionId.{RegionId}
use Rattle.mem_base.specs.map.PassIds.{PassId}
use Rattle.mem_base.specs.declared.map.kinds.Client.{Client}
use Rattle.mem_base.specs.declared.access.cells.Place.{Place}
use Rattle.mem_base.specs.declared.access.cells.Cell.{Cell}
use Rattle.mem_base.specs.declared.access.cells.WordStep.{WordStep}
use Rattle.mem_base.specs.declared.machine.events.Hand.TheVariants as hands
use Rattle.mem_base.specs.declared.machine.events.Carried.{Carried}
use Rattle.mem_base.specs.declared.machine.events.Carried.TheVariants.{Nothing, At}
use Rattle.mem_base.specs.declared.machine.events.Event.{Event}
use Rattle.mem_base.specs.declared.machine.events.Event.TheVariants as events
use Rattle.mem_base.specs.declared.machine.events.Reply.TheVariants as replies
use Rattle.std.specs.Prelude.{Ok, option_and_then}
use Rattle.mem_base.specs.machine.History.{IsOrderly}
use Rattle.mem_base.specs.lists.Every.{Every}
use Rattle.mem_base.specs.access.PlacesByRegion.{place_in}
use Rattle.mem_base.specs.views.Naming.{names}
use Rattle.mem_base.specs.map.Limits.{notifier_count}
use Rattle.mem_base.specs.access.Places.{is_notifiers, is_data_or_register, data_words, pages_in}
use Rattle.mem_base.specs.access.Cells.{Touch, touch_of, has_block, words_after}
use Rattle.mem_base.specs.machine.Passes.{pass_of, is_pass}
use Rattle.mem_base.specs.machine.Generations.{Generation, Generations, PassTrack, nothing_known, least_lowest, generation_at, entered_generation}
use Rattle.mem_base.specs.machine.Guards.{is_notifier, may_reach, may_mark}
use Rattle.mem_base.specs.machine.Desk.{places_of}
use Rattle.mem_base.specs.machine.World.{World, possible, world_after, if_placed, touch_at, old_at, touched_blocks}
use Rattle.mem_base.specs.machine.SharedHistory.{carries}
use Rattle.mem_base.specs.machine.SharedHistory as running
use Rattle.mem_base.specs.machine.Turns.{is_writers}
use Rattle.view_laws.proofs.Tests.{none_is_not_some, same_region}
use Rattle.history_laws.proofs.OrderLaws.{order_after}
use Rattle.turn_laws.proofs.Backed.{IsBacked, waits, steps_both, same_blocks}
use Rattle.turn_laws.proofs.Coupled.{Stands, AllStand, IsWhole, Coupled, Follows, seen}
use Rattle.std.proofs.lemmas.Option.{same_Some}
use Rattle.mem_base.proofs.PlaceLaws.{one_of}

pub least_low : (c : ℕ) (ks : List PassTrack) (v : ℕ) → v < length ks → least_lowest c ks ≤ (get_or ks v nothing_known).lowest
least_low c [] v l = absurd (omega arith)
least_low c (k ∷ ks) zero l = omega arith
least_low c (k ∷ ks) (suc v) l = let x = least_low c ks v (omega arith) in omega arith

every_get : {A : Type 0} (P : A → Type 0) (xs : List A) (i m : ℕ) (x : A) → Every P (take m xs) → i < m → slice_get xs i ≡ Some x → P x
every_get P [] i m x k l e = none_is_not_some x e
every_get P (y ∷ ys) i zero x k l e = absurd (omega arith)
every_get P (y ∷ ys) zero (suc m) x k l e = subst P (same_Some y x e) k.0
every_get P (y ∷ ys) (suc i) (suc m) x k l e = every_get P ys i m x k.1 (omega arith) e

-- a place that the generation carries in which a pass is entered, still stands
pub record Entered (w : World) (v : PassId) (p : Place) : Type 0 where
  pub generation : Generation
  pub is : entered_generation w.writer.generations w.passes v ≡ Some generation
  pub place : Stands (places_of w.writer.desk) w.writer.desk.unfilled generation p

module _ (w : World) (words : List ℕ) (k : Coupled w words) (v : PassId) (p : Place) where
  abbrev g : Generations
  g = w.writer.generations

  abbrev TransactionState : Option Generation → Type 0
  TransactionState o = (x : Generation) × (o ≡ Some x) × Stands (places_of w.writer.desk) w.writer.desk.unfilled x p

  kept_stands : (n : ℕ) → least_lowest g.current g.passes ≤ n → n ≤ g.current → (o : Option Generation) → slice_get g.kept (g.current - n) ≡ o
      → carries o p ≡ true → TransactionState o
  kept_stands n low high None e h = absurd (grind arith)
  kept_stands n low high (Some x) e h = (
    x,
    refl,
    one_of (Stands (places_of w.writer.desk) w.writer.desk.unfilled x) p x.places
        (every_get (AllStand (places_of w.writer.desk) w.writer.desk.unfilled) g.kept (g.current - n)
        (g.current + 1 - least_lowest g.current g.passes) x k.held (omega arith) e) h,
  )

  number_stands : (n : ℕ) → least_lowest g.current g.passes ≤ n → (b : Bool) → nat_le n g.current ≡ b
      → carries (if b then slice_get g.kept (g.current - n) else None) p ≡ true
      → TransactionState (if b then slice_get g.kept (g.current - n) else None)
  number_stands n low true e h = kept_stands n low (leb-true _ _ e) (slice_get g.kept (g.current - n)) refl h
  number_stands n low false e h = absurd (grind arith)

  entered_stands : (o : Option ℕ) → (pass_of w.passes v).entered ≡ o → v.0 < length w.passes → carries (generation_at g o) p ≡ true
      → TransactionState (generation_at g o)
  entered_stands None e near h = absurd (grind arith)
  entered_stands (Some n) e near h = let t = (k.order.each v near).entered n e in
      let low = least_low g.current g.passes v.0 (subst (λ (z : ℕ). v.0 < z) (sym k.order.all_known) near) in let a = t.3 in
      number_stands n (omega arith) (nat_le n g.current) refl h

  pass_stands : (b : Bool) → is_pass w.passes v ≡ b → carries (if b then generation_at g (pass_of w.passes v).entered else None) p ≡ true
      → TransactionState (if b then generation_at g (pass_of w.passes v).entered else None)
  pass_stands true e h = entered_stands (pass_of w.passes v).entered refl (ltb-true _ _ e) h
  pass_stands false e h = absurd (grind arith)

  pub transaction : carries (entered_generation w.writer.generations w.passes v) p ≡ true → Entered w v p
  transaction h = let t = pass_stands (is_pass w.passes v) refl h in record { generation = t.0; is = t.1; place = t.2 }

-- the place of a region, which a generation carries
placed_there : (w : World) (r : RegionId) (p : Place) → p.region.0 ≡ r.0 → IsWhole (places_of w.writer.desk) p → place_in (places_of w.writer.desk) r ≡ Some p
placed_there w r p same s = subst (λ (z : RegionId). place_in (places_of w.writer.desk) z ≡ Some p) (same_region p.region r same) s.stands

-- a word that a pass may reach is one of its place
reached_word : (w : World) (o : Option Generation) (p : Place) (c : Cell) → p.region.0 ≡ c.region.0 → IsWhole (places_of w.writer.desk) p
    → may_reach o p c ≡ true → c.word < p.words
reached_word w None p c same s h = absurd (grind arith)
reached_word w (Some x) p c same s h = go (names x.forest c.region && is_data_or_register p c.word) refl h
  where
    go : (b : Bool) → (names x.forest c.region && is_data_or_register p c.word) ≡ b → (b || is_notifier c) ≡ true → c.word < p.words
    go true e h = let t = and_parts _ _ e in let l : c.word < data_words p.bytes + p.regs = ltb-true _ _ t.1 in let m = s.wide in omega arith
    go false e h = let t = and_parts _ _ h in let l : c.word < notifier_count = ltb-true _ _ t.1 in
        let m : p.words ≡ notifier_count =
        s.notifiers (subst (λ (z : RegionId). is_notifiers z ≡ true) (sym (same_region p.region c.region same)) t.0) in omega arith

marked_page : (o : Option Generation) (p : Place) (r : RegionId) (page : ℕ) → may_mark o p r page ≡ true → page < pages_in p
marked_page None p r page h = absurd (grind arith)
marked_page (Some x) p r page h = ltb-true _ _ (and_parts _ _ h).1

-- a touch of a word of a place that stands

pub touch_there : (w : World) (e : Event) (r : RegionId) (p : Place) (t : Touch) → place_in (places_of w.writer.desk) r ≡ Some p
    → touch_of p e ≡ Some t → touch_at w e (Some r) ≡ Some t
touch_there w e r p t here is = ap (option_and_then (λ q. touch_of q e)) here ∙ is

pub backed_touch : (w : World) (words : List ℕ) → Coupled w words → (e : Event) (r : RegionId) (p : Place) (t : Touch)
    → place_in (places_of w.writer.desk) r ≡ Some p → touch_of p e ≡ Some t → t.word < p.words
    → IsBacked (places_of w.writer.desk) w.writer.desk.unfilled (touched_blocks w.blocks (Some r) (touch_at w e (Some r)))
    (words_after words (p.start + t.word) t.step)
backed_touch w words k e r p t here is near =
    subst (λ (o : Option Touch). IsBacked (places_of w.writer.desk) w.writer.desk.unfilled (touched_blocks w.blocks (Some r) o)
    (words_after words (p.start + t.word) t.step)) (sym (touch_there w e r p t here is))
    (steps_both (places_of w.writer.desk) w.writer.desk.unfilled w.blocks words k.backed r p t.word t.step here near)

pub bare_touch : (w : World) (words : List ℕ) → Coupled w words → (e : Event) (r : RegionId) (p : Place) (t : Touch)
    → place_in (places_of w.writer.desk) r ≡ Some p → touch_of p e ≡ Some t
    → (s : RegionId) → place_in (places_of w.writer.desk) s ≡ None → has_block (touched_blocks w.blocks (Some r) (touch_at w e (Some r))) s ≡ false
bare_touch w words k e r p t here is s none =
    ap (λ (o : Option Touch). has_block (touched_blocks w.blocks (Some r) o) s) (touch_there w e r p t here is)
    ∙ same_blocks w.blocks r s t.word t.step ∙ k.bare s none

pub old_touch : (w : World) (words : List ℕ) → Coupled w words → (e : Event) (r : RegionId) (p : Place) (t : Touch)
    → place_in (places_of w.writer.desk) r ≡ Some p → touch_of p e ≡ Some t → t.word < p.words → waits w.writer.desk.unfilled r t.word ≡ false
    → slice_index words (p.start + t.word) ≡ old_at w (Some r) (touch_at w e (Some r))
old_touch w words k e r p t here is near filled =
    sym (ap (λ (o : Option Touch). old_at w (Some r) o) (touch_there w e r p t here is) ∙ k.backed.same r p t.word here near filled)

pub steps_word : (w : World) (words : List ℕ) → Coupled w words → (v : PassId) (c : Cell) (step : WordStep) (p : Place)
    → running.shared_possible (seen w words) (events.Word (hands.Pass v) c step) (At p) ≡ true → Follows w words (events.Word (hands.Pass v) c step) (At p)
steps_word w words k v c step p h =
    let a = and_parts _ _ h in let b = and_parts _ _ a.0 in
    let same = eqb-true p.region.0 c.region.0 b.0 in
    let t = transaction w words k v p a.1 in
    let here = placed_there w c.region p same t.place.whole in
    let near = reached_word w (entered_generation w.writer.generations w.passes v) p c same t.place.whole b.1 in
    let filled : waits w.writer.desk.unfilled c.region c.word ≡ false = subst (λ (z : RegionId). waits w.writer.desk.unfilled z c.word ≡ false)
    (same_region p.region c.region same) (t.place.filled c.word) in
    let may : possible w (events.Word (hands.Pass v) c step) ≡ true =
    subst (λ (o : Option Place). if_placed o (λ q. may_reach (entered_generation w.writer.generations w.passes v) q c) ≡ true) (sym here) b.1 in
    record {
      may = may;
      tells = ap (λ (n : ℕ). Ok (replies.Old n)) (old_touch w words k (events.Word (hands.Pass v) c step) c.region p _ here refl near filled);
      leads = refl;
      coupled = record {
        backed = backed_touch w words k (events.Word (hands.Pass v) c step) c.region p _ here refl near;
        held = k.held;
        whole = k.whole;
        low = k.low;
        still = k.still;
        bare = bare_touch w words k (events.Word (hands.Pass v) c step) c.region p _ here refl;
        order = order_after w k.order (events.Word (hands.Pass v) c step) _ may refl;
      };
    }

pub steps_mark : (w : World) (words : List ℕ) → Coupled w words → (v : PassId) (r : RegionId) (client : Client) (page : ℕ) (p : Place)
    → running.shared_possible (seen w words) (events.Mark v r client page) (At p) ≡ true → Follows w words (events.Mark v r client page) (At p)
steps_mark w words k v r client page p h =
    let a = and_parts _ _ h in let b = and_parts _ _ a.0 in
    let same = eqb-true p.region.0 r.0 b.0 in
    let t = transaction w words k v p a.1 in
    let here = placed_there w r p same t.place.whole in
    let near = t.place.whole.marks client page (marked_page (entered_generation w.writer.generations w.passes v) p r page b.1) in
    let may : possible w (events.Mark v r client page) ≡ true =
    subst (λ (o : Option Place). if_placed o (λ q. may_mark (entered_generation w.writer.generations w.passes v) q r page) ≡ true) (sym here) b.1 in
    record {
      may = may;
      tells = refl;
      leads = refl;
      coupled = record {
        backed = backed_touch w words k (events.Mark v r client page) r p _ here refl near;
        held = k.held;
        whole = k.whole;
        low = k.low;
        still = k.still;
        bare = bare_touch w words k (events.Mark v r client page) r p _ here refl;
        order = order_after w k.order (events.Mark v r client page) _ may refl;
      };
    }

-- an event on numbers of a pass
quiet_step : (w : World) (words : List ℕ) → Coupled w words → (e : Event) → possible w e ≡ true → IsOrderly (world_after w e)
quiet_step w words k e may = order_after w k.order e _ may refl

pub looks : (w : World) (words : List ℕ) → Coupled w words → (v : PassId) → running.shared_possible (seen w words) (events.Look v) Nothing ≡ true
    → Follows w words (events.Look v) Nothing
looks w words k v h = record {
  may = h;
  tells = refl;
  leads = refl;
  coupled = record {
    backed = k.backed;
    held = k.held;
    whole = k.whole;
    low = k.low;
    still = k.still;
    bare = k.bare;
    order = quiet_step w words k (events.Look v) h;
  };
}

pub announces : (w : World) (words : List ℕ) → Coupled w words → (v : PassId) → running.shared_possible (seen w words) (events.Announce v) Nothing
    ≡ true → Follows w words (events.Announce v) Nothing
announces w words k v h = record {
  may = h;
  tells = refl;
  leads = refl;
  coupled = record {
    backed = k.backed;
    held = k.held;
    whole = k.whole;
    low = k.low;
    still = k.still;
    bare = k.bare;
    order = quiet_step w words k (events.Announce v) h;
  };
}

pub enters : (w : World) (words : List ℕ) → Coupled w words → (v : PassId) → running.shared_possible (seen w words) (events.Enter v) Nothing ≡ true
    → Follows w words (events.Enter v) Nothing
enters w words k v h = record {
  may = h;
  tells = refl;
  leads = refl;
  coupled = record {
    backed = k.backed;
    held = k.held;
    whole = k.whole;
    low = k.low;
    still = k.still;
    bare = k.bare;
    order = quiet_step w words k (events.Enter v) h;
  };
}

pub leaves : (w : World) (words : List ℕ) → Coupled w words → (v : PassId) → running.shared_possible (seen w words) (events.Leave v) Nothing ≡ true
    → Follows w words (events.Leave v) Nothing
leaves w words k v h = record {
  may = h;
  tells = refl;
  leads = refl;
  coupled = record {
    backed = k.backed;
    held = k.held;
    whole = k.whole;
    low = k.low;
    still = k.still;
    bare = k.bare;
    order = quiet_step w words k (events.Leave v) h;
  };
}

-- each event of a pass, with what it carries
pub passes_follow : (w : World) (words : List ℕ) → Coupled w words → (e : Event) (x : Carried) → is_writers e ≡ false → running.shared_possible
    (seen w words) e x ≡ true → Follows w words e x
passes_follow w words k (events.Look v) Nothing is h = looks w words k v h
passes_follow w words k (events.Announce v) Nothing is h = announces w words k v h
passes_follow w words k (events.Enter v) Nothing is h = enters w words k v h
passes_follow w words k (events.Leave v) Nothing is h = leaves w words k v h
passes_follow w words k (events.Word (hands.Pass v) c step) (At p) is h = steps_word w words k v c step p h
passes_follow w words k (events.Mark v r client page) (At p) is h = steps_mark w words k v r client page p h
passes_follow w words k e x is h = absurd (grind arith)
