-- Steps on words are steps on cells, and passes that are entered may make them.
use Rattle.std.proofs.Common.{◌≡◌, ℕ, ◌+◌, ◌<◌, ◌≤◌, true, false, List, Option, Some, None, refl, sym, ap, subst, ◌∙◌}
use Rattle.std.proofs.Common.{arith, length, ltb-true}
use Rattle.std.specs.Prelude.{is_some, slice_index, unwrap_or}
use Rattle.mem_base.specs.declared.map.ids.RegionId.{RegionId}
use Rattle.mem_base.specs.map.PassIds.{PassId}
use Rattle.mem_base.specs.declared.map.kinds.Client.{Client}
use Rattle.mem_base.specs.declared.access.cells.Place.{Place}
use Rattle.mem_base.specs.declared.access.cells.WordStep.{WordStep}
use Rattle.mem_base.specs.declared.access.cells.WordStep.TheVariants.{Or}
use Rattle.mem_base.specs.declared.machine.events.Hand.{Hand}
use Rattle.mem_base.specs.declared.machine.events.Event.{Event}
use Rattle.mem_base.specs.declared.machine.events.Event.TheVariants as events
use Rattle.mem_base.specs.lists.Every.{Every, EveryPair}
use Rattle.mem_base.specs.map.Limits.{notifier_count}
use Rattle.mem_base.specs.access.Places.{past, is_data_or_register, data_words, word_of_page, bit_of_page}
use Rattle.mem_base.specs.access.PlacesByRegion.{place_in}
use Rattle.mem_base.specs.access.EditionPlaces.{ArePlacesApart}
use Rattle.mem_base.specs.access.Cells.{cell, Touch, touch, touch_of, Block, words_after}
use Rattle.mem_base.proofs.EveryLaws.{every_element}
use Rattle.mem_base.specs.machine.Passes.{pass_of}
use Rattle.mem_base.specs.machine.Generations.{Generation, entered_generation}
use Rattle.mem_base.specs.machine.World.{World, world, possible, reply, number_in, world_after, touched_blocks, touch_at, old_at}
use Rattle.history_laws.specs.BackedForests.{BacksForest}
use Rattle.turn_laws.proofs.PassSteps.{touch_there}
use Rattle.world_laws.specs.Standing.{StandsIn}
use Rattle.world_laws.specs.Entered.{EntersHeld, MayStep}
use Rattle.world_laws.proofs.Keeping.{all_stand}
use Rattle.world_laws.proofs.Entering.{entered_generations_are_held, steps_possible}
use Rattle.access_run.specs.Hands.{IsPlaceOf}
use Rattle.kept_generations.specs.KeptState.{KeptState}
use Rattle.mem_base.specs.access.PlaceCells.{blocks_at}
use Rattle.place_words.proofs.CellLaws.{steps_on_cells}
use Rattle.transact.specs.Backed.{all_places}
use Rattle.writer_desk.specs.Writers.{WriterState}
use Rattle.world_core.specs.Hands.{published_as, shown_to, IsInside}
use Rattle.world_core.specs.Worlds.{Aside, world_of, IsWorld}
use Rattle.world_hand.specs.Reached.{IsReached}
use Rattle.world_hand.proofs.WithoutLaws.{enters_without}
use Rattle.world_hand.proofs.Completing.{all_apart, all_within, backs, reached_holds}
use Rattle.world_core.proofs.ReachedLaws.{reached_after}
use Rattle.mem_base.proofs.BoolLaws.{true_is_not_false}
use Rattle.mem_base.proofs.PlaceLaws.{found_has}

-- steps on the words of places

module _ (d : WriterState) (k : KeptState) (ws : List ℕ) (x : Aside) (h : IsWorld d k ws x) where
  abbrev here : World
  here = world_of d k ws x

  abbrev places : List Place
  places = all_places d.backed.backing

  pub backing : BacksForest d.backed.backing.pool_words here.writer.desk.forest d.backed.backing.places
  backing = backs here h.reached

  pub apart : EveryPair ArePlacesApart places
  apart = all_apart d.backed.backing.pool_words d.backed.backing.places backing.inside backing.apart

  -- a word of a place is one of the words
  pub far : (r : RegionId) (p : Place) (word : ℕ) → place_in places r ≡ Some p → word < p.words → p.start + word < length ws
  far r p word is near =
      let l : past p ≤ d.backed.backing.pool_words + notifier_count = found_has (λ q. past q ≤ d.backed.backing.pool_words + notifier_count) places r p
      (all_within d.backed.backing.pool_words d.backed.backing.places backing.inside) is in
      let wide : length ws ≡ d.backed.backing.pool_words + notifier_count = h.wide in
      omega (arith, near, l, wide)

  module _ (r : RegionId) (p : Place) (is : place_in places r ≡ Some p) (e : Event) (t : Touch) (touches : touch_of p e ≡ Some t)
      (near : t.word < p.words) where
    -- the cells after a touch are the words after the step
    pub cells_change : blocks_at (words_after ws (p.start + t.word) t.step) places ≡ touched_blocks (blocks_at ws places) (Some r) (touch_at here e (Some r))
    cells_change = (steps_on_cells ws places r p t.word t.step apart is near).1
        ∙ ap (λ (o : Option Touch). touched_blocks (blocks_at ws places) (Some r) o) (sym (touch_there here e r p t is touches))

    -- and the cell before it is the word before it
    pub word_before : slice_index ws (p.start + t.word) ≡ old_at here (Some r) (touch_at here e (Some r))
    word_before = sym (steps_on_cells ws places r p t.word t.step apart is near).0
        ∙ ap (λ (o : Option Touch). old_at here (Some r) o) (sym (touch_there here e r p t is touches))

  -- a step on a word
  pub step_is : (hand : Hand) (p : Place) (word : ℕ) (step : WordStep) → place_in places p.region ≡ Some p → word < p.words
      → world_of d k (words_after ws (p.start + word) step) x ≡ world_after here (events.Word hand (cell p.region word) step)
  step_is hand p word step is near =
      ap (λ (bs : List Block). world here.writer k.states bs)
      (cells_change p.region p is (events.Word hand (cell p.region word) step) (touch word step true) refl near)

  pub step_tells : (hand : Hand) (p : Place) (word : ℕ) (step : WordStep) → place_in places p.region ≡ Some p → word < p.words
      → slice_index ws (p.start + word) ≡ number_in (reply here (events.Word hand (cell p.region word) step))
  step_tells hand p word step is near = word_before p.region p is (events.Word hand (cell p.region word) step) (touch word step true) refl near

  -- a mark
  pub mark_is : (pass : PassId) (p : Place) (client : Client) (page : ℕ) → place_in places p.region ≡ Some p → word_of_page p client page < p.words
      → world_of d k (words_after ws (p.start + word_of_page p client page) (Or (bit_of_page page))) x
      ≡ world_after here (events.Mark pass p.region client page)
  mark_is pass p client page is near = ap (λ (bs : List Block). world here.writer k.states bs)
      (cells_change p.region p is (events.Mark pass p.region client page) (touch (word_of_page p client page) (Or (bit_of_page page)) false) refl near)

  -- what holds of a world holds after a possible event that changes words alone
  pub words_change : (vs : List ℕ) (e : Event) → length vs ≡ length ws → possible here e ≡ true → world_of d k vs x ≡ world_after here e → IsWorld d k vs x
  words_change vs e long may goes = record {
    reached = subst IsReached (sym goes) (reached_after here e h.reached may);
    current = h.current;
    number = h.number;
    ready = h.ready;
    wide = long ∙ h.wide;
  }

-- what a pass that is entered may do with a place of its generation

pub record MayReach (w : World) (pass : PassId) (p : Place) : Type 0 where
  pub generation : Generation
  pub steps : MayStep w pass generation p
  pub stands : StandsIn w.writer.desk generation p

pub may_reach : (w : World) (pass : PassId) (p : Place) → IsReached w → IsInside w pass → IsPlaceOf (shown_to w pass) p → MayReach w pass p
may_reach w pass p r inside placed = go (entered_generation w.writer.generations w.passes pass) refl inside placed
  where
    held : EntersHeld w pass
    held = enters_without r.taken w pass
        (subst (λ (v : World). EntersHeld v pass) r.leads (entered_generations_are_held r.pool_words r.passes r.entries r.legal pass))

    go : (o : Option Generation) → entered_generation w.writer.generations w.passes pass ≡ o → is_some o ≡ true
        → place_in (published_as (unwrap_or (pass_of w.passes pass).entered 0) o).places p.region ≡ Some p → MayReach w pass p
    go None e some at = true_is_not_false false some refl
    go (Some y) e some at = let t = held.numbered y e in let k = reached_holds w r in record {
      generation = y;
      steps = found_has (MayStep w pass y) y.places p.region p (steps_possible w k pass y e) at;
      stands = found_has (StandsIn w.writer.desk y) y.places p.region p
          (every_element (λ z. Every (StandsIn w.writer.desk z) z.places) _ y (all_stand w k.kept) t.2.among) at;
    }

-- a word of its data or registers is one of its words
pub reach_within : (w : World) (pass : PassId) (p : Place) (word : ℕ) → MayReach w pass p → is_data_or_register p word ≡ true → word < p.words
reach_within w pass p word k h =
    let l : word < data_words p.bytes + p.regs = ltb-true word (data_words p.bytes + p.regs) h in
    let wide : data_words p.bytes + p.regs ≤ p.words = k.stands.wide in
    omega (arith, l, wide)
