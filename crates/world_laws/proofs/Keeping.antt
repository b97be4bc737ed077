-- Each possible event keeps the pure machine beside some words, so the places of held generations stand.
use Rattle.std.proofs.Common.{◌≡◌, ℕ, zero, suc, ◌+◌, ◌<◌, ◌≤◌, Bool, true, false, ◌&&◌, ◌||◌, List, [], ◌∷◌, length}
use Rattle.std.proofs.Common.{sym, refl, ap, ◌∙◌, subst, arith, ⊎_elim, if◌then◌else◌, Option, Some, None}
use Rattle.std.specs.Prelude.{slice_set, option_and_then, ◌-◌, ◌*◌, ◌/◌, nat_lt, ◌==◌}
use Rattle.std.proofs.lemmas.Bool.{cases_lt, ltb-true, le-leb, and_parts, and_from}
use mathlib.Core.Logic.{dite}
use native.Mathlib.Decide.{ℕ_discrete}
use Rattle.mem_base.specs.declared.map.ids.RegionId.{RegionId}
use Rattle.mem_base.specs.map.PassIds.{PassId}
use Rattle.mem_base.specs.declared.map.kinds.Client.{Client}
use Rattle.mem_base.specs.declared.access.cells.Place.{Place}
use Rattle.mem_base.specs.declared.access.cells.Cell.{Cell}
use Rattle.mem_base.specs.declared.access.cells.WordStep.{WordStep}
use Rattle.mem_base.specs.declared.access.cells.WordStep.TheVariants.{Take}
use Rattle.mem_base.specs.declared.machine.events.Event.{Event}
use Rattle.mem_base.specs.declared.machine.events.Event.TheVariants as events
use Rattle.mem_base.specs.declared.machine.events.Hand.TheVariants as hands
use Rattle.mem_base.specs.map.Limits.{notifier_count, pages_per_word}
use Rattle.mem_base.specs.lists.Every.{Every}
use Rattle.mem_base.specs.access.PlacesByRegion.{place_in}
use Rattle.mem_base.specs.access.Places.{is_notifiers, is_data_or_register, data_words, mark_words, mark_word, pages_in}
use Rattle.mem_base.specs.access.Cells.{Touch, touch, Block, has_block, touch_of, cells_in, blocks_after, words_after}
use Rattle.mem_base.specs.views.Naming.{names}
use Rattle.mem_base.specs.machine.Generations.{Generation, held_generations, entered_generation}
use Rattle.mem_base.specs.machine.Guards.{is_notifier, may_reach, may_mark}
use Rattle.mem_base.specs.machine.Desk.{places_of}
use Rattle.mem_base.specs.machine.World.{World, possible, world_after, reply, number_in, after_telling, if_placed, opening, touched_blocks, touch_at}
use Rattle.mem_base.specs.machine.History.{PureEntry, after_entry, after_entries, IsLegalFrom, IsLegal}
use Rattle.mem_base.proofs.EveryLaws.{weaker}
use Rattle.view_laws.proofs.Tests.{same_place, none_is_not_some, same_region}
use Rattle.history_laws.proofs.OrderLaws.{order_after}
use Rattle.history_laws.proofs.Idles.{IsSoundDesk, opens_idle, fresh}
use Rattle.history_laws.proofs.PublishedLaws.{sound_after}
use Rattle.turn_laws.proofs.Backed.{IsBacked, waits}
use Rattle.turn_laws.proofs.Coupled.{Stands, AllStand, IsWhole, Coupled}
use Rattle.turn_laws.proofs.PassSteps.{looks, announces, enters, leaves, backed_touch, bare_touch}
use Rattle.turn_laws.proofs.WriterSteps as steps
use Rattle.turn_laws.proofs.FillSteps.{less_cell, others_wait, fills, fewer_wait}
use Rattle.turn_laws.proofs.Replaced.{its_region}
use Rattle.turn_laws.proofs.ReapSteps.{reaps}
use Rattle.turn_laws.proofs.PrivateSteps.{configures}
use Rattle.turn_laws.proofs.Openings.{opens}
use Rattle.world_laws.specs.Standing.{StandsIn}
use Rattle.mem_base.proofs.PlaceLaws.{found_has}

-- a world, and words beside which it is coupled
pub record Kept (w : World) : Type 0 where
  pub words : List ℕ
  pub coupled : Coupled w words

-- a step on a word of a place

module _ (w : World) (words : List ℕ) (k : Coupled w words) where
  stepped : (e : Event) (r : RegionId) (p : Place) (t : Touch) → place_in (places_of w.writer.desk) r ≡ Some p → touch_of p e ≡ Some t
      → t.word < p.words → (v : World) → v.writer ≡ w.writer → v.passes ≡ w.passes
      → v.blocks ≡ touched_blocks w.blocks (Some r) (touch_at w e (Some r)) → Kept v
  stepped e r p t here is near v a b c =
      subst Kept (λ i. record { writer = sym a i; passes = sym b i; blocks = sym c i }) record {
        words = words_after words (p.start + t.word) t.step;
        coupled = record {
          backed = backed_touch w words k e r p t here is near;
          held = k.held;
          whole = k.whole;
          low = k.low;
          still = k.still;
          bare = bare_touch w words k e r p t here is;
          order = k.order;
        };
      }

  -- a word that a pass may reach is one of its place
  reached : (o : Option Generation) (p : Place) (c : Cell) → p.region.0 ≡ c.region.0 → IsWhole (places_of w.writer.desk) p → may_reach o p c ≡ true
      → c.word < p.words
  reached None p c same s h = absurd (grind arith)
  reached (Some x) p c same s h = go (names x.forest c.region && is_data_or_register p c.word) refl h
    where
      go : (b : Bool) → (names x.forest c.region && is_data_or_register p c.word) ≡ b → (b || is_notifier c) ≡ true → c.word < p.words
      go true e h = let t = and_parts (names x.forest c.region) (is_data_or_register p c.word) e in
          let l : c.word < data_words p.bytes + p.regs = ltb-true c.word (data_words p.bytes + p.regs) t.1 in
          let m = s.wide in omega arith
      go false e h = let t = and_parts _ _ h in let l : c.word < notifier_count = ltb-true c.word notifier_count t.1 in
          let m : p.words ≡ notifier_count =
          s.notifiers (subst (λ (z : RegionId). is_notifiers z ≡ true) (sym (same_region p.region c.region same)) t.0) in omega arith

  by_pass : (v : PassId) (c : Cell) (step : WordStep) (o : Option Place) → place_in (places_of w.writer.desk) c.region ≡ o
      → if_placed o (λ p. may_reach (entered_generation w.writer.generations w.passes v) p c) ≡ true → Kept (world_after w (events.Word (hands.Pass v) c step))
  by_pass v c step None here may = absurd (grind arith)
  by_pass v c step (Some p) here may =
      let whole = found_has (IsWhole (places_of w.writer.desk)) (places_of w.writer.desk) c.region p k.whole here in
      stepped (events.Word (hands.Pass v) c step) c.region p (touch c.word step true) here refl
      (reached (entered_generation w.writer.generations w.passes v) p c (its_region (places_of w.writer.desk) c.region p here) whole may)
      (world_after w (events.Word (hands.Pass v) c step)) refl refl refl

  by_writer : (c : Cell) (step : WordStep) (o : Option Place) → place_in (places_of w.writer.desk) c.region ≡ o
      → if_placed o (λ p. nat_lt c.word p.words) ≡ true → Kept (world_after w (events.Word hands.Writer c step))
  by_writer c step None here may = absurd (grind arith)
  by_writer c step (Some p) here may =
      stepped (events.Word hands.Writer c step) c.region p (touch c.word step true) here refl (ltb-true _ _ may)
      (world_after w (events.Word hands.Writer c step)) refl refl refl

  marked_page : (o : Option Generation) (p : Place) (r : RegionId) (page : ℕ) → may_mark o p r page ≡ true → page < pages_in p
  marked_page None p r page h = absurd (grind arith)
  marked_page (Some x) p r page h = ltb-true _ _ (and_parts _ _ h).1

  by_mark : (v : PassId) (r : RegionId) (client : Client) (page : ℕ) (o : Option Place) → place_in (places_of w.writer.desk) r ≡ o
      → if_placed o (λ p. may_mark (entered_generation w.writer.generations w.passes v) p r page) ≡ true
      → Kept (world_after w (events.Mark v r client page))
  by_mark v r client page None here may = absurd (grind arith)
  by_mark v r client page (Some p) here may =
      let whole = found_has (IsWhole (places_of w.writer.desk)) (places_of w.writer.desk) r p k.whole here in
      stepped (events.Mark v r client page) r p _ here refl
      (whole.marks client page (marked_page (entered_generation w.writer.generations w.passes v) p r page may))
      (world_after w (events.Mark v r client page)) refl refl refl

  -- a mark word that may be taken is one of a page
  first_page : (index n : ℕ) → index < (n + (pages_per_word - 1)) / pages_per_word →
      (pages_per_word * index < n) × (pages_per_word * index / pages_per_word ≡ index)
  first_page index n l = (omega arith, omega arith)

  by_harvest : (r : RegionId) (client : Client) (index : ℕ) (o : Option Place) → place_in (places_of w.writer.desk) r ≡ o
      → if_placed o (λ p. nat_lt index (mark_words p.bytes)) ≡ true → Kept (world_after w (events.Harvest r client index))
  by_harvest r client index None here may = absurd (grind arith)
  by_harvest r client index (Some p) here may =
      let whole = found_has (IsWhole (places_of w.writer.desk)) (places_of w.writer.desk) r p k.whole here in
      let page = first_page index (pages_in p) (ltb-true _ _ may) in
      stepped (events.Harvest r client index) r p _ here refl
      (subst (λ (z : ℕ). mark_word p client z < p.words) page.1 (whole.marks client (pages_per_word * index) page.0))
      (world_after w (events.Harvest r client index)) refl refl refl

-- a cell is cleared

-- a step past the cells of a region changes none

pub set_past : (ws : List ℕ) (i x : ℕ) → length ws ≤ i → slice_set ws i x ≡ ws
set_past [] i x l = refl
set_past (w ∷ ws) zero x l = absurd (omega arith)
set_past (w ∷ ws) (suc i) x l = ap (λ (zs : List ℕ). w ∷ zs) (set_past ws i x (omega arith))

pub step_past : (blocks : List Block) (r : RegionId) (i : ℕ) (step : WordStep) → length (cells_in blocks r) ≤ i → blocks_after blocks r i step ≡ blocks
step_past [] r i step l = refl
step_past (b ∷ bs) r i step l = go (b.region.0 == r.0) (step_past bs r i step) l
  where
    go : (t : Bool) → (length (cells_in bs r) ≤ i → blocks_after bs r i step ≡ bs) → length (if t then b.words else cells_in bs r) ≤ i
        → (if t then (record b { words = words_after b.words i step }) ∷ bs else b ∷ blocks_after bs r i step) ≡ b ∷ bs
    go true rest l = let e = set_past b.words i _ l in λ j. record { region = b.region; words = e j } ∷ bs
    go false rest l = ap (λ (zs : List Block). b ∷ zs) (rest l)

module _ (w : World) (words : List ℕ) (k : Coupled w words) (c : Cell) where
  -- a cell of no place waits no more
  unbacked : ((q : Place) → place_in (places_of w.writer.desk) c.region ≡ Some q → q.words ≤ c.word) → waits w.writer.desk.unfilled c.region c.word ≡ true
      → w.blocks ≡ (world_after w (events.Fill c)).blocks → Kept (world_after w (events.Fill c))
  unbacked past waiting same = let d = w.writer.desk in record {
    words = words;
    coupled = record {
      backed = subst (λ (bs : List Block). IsBacked (places_of d) (less_cell c d.unfilled) bs words) same record {
        same = λ r q i is l filled. dite (ℕ_discrete r.0 c.region.0)
            (λ e. dite (ℕ_discrete i c.word)
            (λ f. let m = past q (subst (λ (z : RegionId). place_in (places_of d) z ≡ Some q) (same_region r c.region e) is) in absurd (omega arith))
            (λ ne. k.backed.same r q i is l (sym (others_wait c r i (λ x y. ne y) d.unfilled) ∙ filled)))
            (λ ne. k.backed.same r q i is l (sym (others_wait c r i (λ x y. ne x) d.unfilled) ∙ filled));
        long = k.backed.long;
        inside = k.backed.inside;
        apart = k.backed.apart;
      };
      held = weaker (AllStand (places_of d) d.unfilled) (AllStand (places_of d) (less_cell c d.unfilled))
          (λ e t. weaker (Stands (places_of d) d.unfilled e) (Stands (places_of d) (less_cell c d.unfilled) e)
          (λ q s. record { whole = s.whole; named = s.named; filled = λ i. fewer_wait c q.region i d.unfilled (s.filled i) }) e.places t)
          (held_generations w.writer.generations) k.held;
      whole = k.whole;
      low = k.low;
      still = λ on. ap (less_cell c) (k.still on);
      bare = λ r none. subst (λ (bs : List Block). has_block bs r ≡ false) same (k.bare r none);
      order = order_after w k.order (events.Fill c) _ waiting refl;
    };
  }

  by_fill : (o : Option Place) → place_in (places_of w.writer.desk) c.region ≡ o → waits w.writer.desk.unfilled c.region c.word ≡ true
      → Kept (world_after w (events.Fill c))
  by_fill None here waiting = unbacked (λ q e. none_is_not_some q (sym here ∙ e)) waiting
      (λ i. touched_blocks w.blocks (Some c.region) (option_and_then (λ p. touch_of p (events.Fill c)) (sym here i)))
  by_fill (Some p) here waiting = ⊎_elim
      (λ near. record { words = _; coupled = (fills w words k c p waiting here near).coupled })
      (λ past. unbacked (λ q e. let same = same_place p q (sym here ∙ e) in subst (λ (z : Place). z.words ≤ c.word) same past) waiting
      (let l = k.backed.long c.region p here in
      sym (step_past w.blocks c.region c.word Take (omega arith))
      ∙ (λ i. touched_blocks w.blocks (Some c.region) (option_and_then (λ p. touch_of p (events.Fill c)) (sym here i)))))
      (cases_lt c.word p.words)

-- every event that is possible

pub kept_after : (w : World) → Kept w → IsSoundDesk w.writer.desk → (e : Event) → possible w e ≡ true → Kept (world_after w e)
kept_after w k s (events.Look v) may = record { words = k.words; coupled = (looks w k.words k.coupled v may).coupled }
kept_after w k s (events.Announce v) may = record { words = k.words; coupled = (announces w k.words k.coupled v may).coupled }
kept_after w k s (events.Enter v) may = record { words = k.words; coupled = (enters w k.words k.coupled v may).coupled }
kept_after w k s (events.Leave v) may = record { words = k.words; coupled = (leaves w k.words k.coupled v may).coupled }
kept_after w k s (events.Sweep v) may = record { words = k.words; coupled = (steps.sweeps w k.words k.coupled v may).coupled }
kept_after w k s (events.Place v) may = let t = and_parts _ _ may in let near = k.coupled.order.each v (ltb-true _ _ (and_parts _ _ t.1).0) in
    record { words = k.words; coupled = (steps.places w k.words k.coupled t.0 v (and_from _ _ (le-leb _ _ (near.due_near t.0)) t.1)).coupled }
kept_after w k s events.Publish may = let t = and_parts _ _ may in
    record { words = k.words; coupled = (steps.publishes w k.words k.coupled t.0 t.1).coupled }
kept_after w k s (events.Word (hands.Pass v) c step) may = by_pass w k.words k.coupled v c step (place_in (places_of w.writer.desk) c.region) refl may
kept_after w k s (events.Word hands.Writer c step) may = by_writer w k.words k.coupled c step (place_in (places_of w.writer.desk) c.region) refl may
kept_after w k s (events.Mark v r client page) may = by_mark w k.words k.coupled v r client page (place_in (places_of w.writer.desk) r) refl may
kept_after w k s (events.Harvest r client index) may = by_harvest w k.words k.coupled r client index (place_in (places_of w.writer.desk) r) refl may
kept_after w k s (events.Fill c) may = by_fill w k.words k.coupled c (place_in (places_of w.writer.desk) c.region) refl may
kept_after w k s (events.Config x) may = record { words = k.words; coupled = configures w k.words x k.coupled may (fresh w.writer.desk s x) }
kept_after w k s events.Reap may = record { words = k.words; coupled = reaps w k.words k.coupled may }

-- what holds in every legal history: the world is coupled to some words, and its desk is sound
pub record Holds (w : World) : Type 0 where
  pub kept : Kept w
  pub sound : IsSoundDesk w.writer.desk

pub holds_after : (w : World) → Holds w → (e : Event) → possible w e ≡ true → Holds (world_after w e)
holds_after w k e may = record { kept = kept_after w k.kept k.sound e may; sound = sound_after w e (number_in (reply w e)) may k.sound }

pub holds_from : (w : World) (xs : List PureEntry) → Holds w → IsLegalFrom w xs → Holds (after_entries w xs)
holds_from w [] k l = k
holds_from w (x ∷ xs) k l = holds_from (after_entry w x) xs
    (subst (λ r. Holds (after_telling w x.event (number_in r))) (sym l.1) (holds_after w k x.event l.0)) l.2

pub holds_at_first : (pool_words passes : ℕ) → Holds (opening pool_words passes)
holds_at_first pool_words passes = record {
  kept = record { words = _; coupled = opens pool_words passes };
  sound = (opens_idle pool_words passes).sound;
}

pub holds : (pool_words passes : ℕ) (xs : List PureEntry) → IsLegal pool_words passes xs → Holds (after_entries (opening pool_words passes) xs)
holds pool_words passes xs l = holds_from (opening pool_words passes) xs (holds_at_first pool_words passes) l

-- the places of held generations

pub all_stand : (w : World) → Kept w → Every (λ x. Every (StandsIn w.writer.desk x) x.places) (held_generations w.writer.generations)
all_stand w k = let d = w.writer.desk in
    weaker (AllStand (places_of d) d.unfilled) (λ x. Every (StandsIn d x) x.places)
    (λ x t. weaker (Stands (places_of d) d.unfilled x) (StandsIn d x)
    (λ p s. record {
      stands = s.whole.stands;
      named = s.named;
      some = s.whole.some;
      wide = s.whole.wide;
      marks = s.whole.marks;
      notifiers = s.whole.notifiers;
      filled = s.filled;
    }) x.places t) (held_generations w.writer.generations) k.coupled.held

pub held_places_stand : (pool_words passes : ℕ) (xs : List PureEntry) → IsLegal pool_words passes xs
    → let h = (after_entries (opening pool_words passes) xs).writer in Every (λ x. Every (StandsIn h.desk x) x.places) (held_generations h.generations)
held_places_stand pool_words passes xs l = all_stand (after_entries (opening pool_words passes) xs) (holds pool_words passes xs l).kept
