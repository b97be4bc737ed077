-- Events on cells: the place of a cell that may be stepped on, and a cell of a new region that is cleared.
use Rattle.std.proofs.Common.{◌≡◌, ℕ, ◌+◌, ◌<◌, ◌≤◌, Bool, true, false, List, length, filter, refl, sym, ap, subst, ◌∙◌}
use Rattle.std.proofs.Common.{arith, if◌then◌else◌, ltb-true, ltb-false, Option, Some, None}
use Rattle.std.specs.Prelude.{not, ◌&&◌, ◌||◌, nat_lt, option_and_then, IfSome}
use Rattle.mem_base.specs.declared.map.ids.RegionId.{RegionId}
use Rattle.mem_base.specs.map.PassIds.{PassId}
use Rattle.mem_base.specs.declared.map.kinds.Client.{Client}
use Rattle.mem_base.specs.declared.access.cells.Place.{Place}
use Rattle.mem_base.specs.declared.access.cells.Cell.{Cell}
use Rattle.mem_base.specs.declared.access.cells.WordStep.{WordStep}
use Rattle.mem_base.specs.declared.access.cells.WordStep.TheVariants.{Take}
use Rattle.mem_base.specs.declared.machine.events.Hand.{Hand}
use Rattle.mem_base.specs.declared.machine.events.Hand.TheVariants as hands
use Rattle.mem_base.specs.declared.machine.events.Event.TheVariants as events
use Rattle.mem_base.specs.map.Limits.{notifier_count}
use Rattle.mem_base.specs.access.Places.{is_notifiers, is_data_or_register, data_words, pages_in, word_of_page}
use Rattle.mem_base.specs.access.Cells.{is_same_cell, touch, touch_of, Block, cells_in, blocks_after, words_after}
use Rattle.mem_base.specs.views.Naming.{names}
use Rattle.mem_base.specs.machine.Desk.{places_of}
use Rattle.mem_base.specs.machine.Generations.{Generation, entered_generation}
use Rattle.mem_base.specs.machine.Guards.{is_notifier, may_reach, may_mark}
use Rattle.mem_base.specs.machine.Reaps.{writer}
use Rattle.mem_base.specs.machine.World.{World, world, possible, world_after, place_in_world, if_placed, touched_blocks}
use Rattle.turn_laws.proofs.Coupled.{IsWhole}
use Rattle.kept_generations.specs.KeptState.{KeptState, generations_of}
use Rattle.mem_base.specs.access.PlaceCells.{blocks_at}
use Rattle.transact.specs.Backed.{all_places}
use Rattle.writer_desk.specs.Writers.{WriterState, desk_of}
use Rattle.world_core.specs.Worlds.{Aside, aside, beside, world_of, IsWorld}
use Rattle.world_hand.specs.Reached.{IsReached}
use Rattle.world_hand.proofs.Completing.{reached_holds}
use Rattle.world_core.specs.Cleared.{word_cleared}
use Rattle.world_core.proofs.PlaceLaws.{own_region}
use Rattle.world_core.proofs.ReachedLaws.{reached_after}
use Rattle.world_core.proofs.WordLaws.{cells_change, far}
use Rattle.world_laws.proofs.Keeping.{step_past}
use Rattle.std.proofs.lemmas.Bool.{and_parts}
use Rattle.mem_base.proofs.BoolLaws.{true_is_not_false}
use Rattle.mem_base.proofs.PlaceLaws.{found_has}

-- a place that is found is whole
whole_of : (w : World) → IsReached w → (r : RegionId) (p : Place) → place_in_world w r ≡ Some p → IsWhole (places_of w.writer.desk) p
whole_of w h r p here = found_has (IsWhole (places_of w.writer.desk)) (places_of w.writer.desk) r p (reached_holds w h).kept.coupled.whole here

-- a word that a pass may reach is one of its place
reached_in : (ps : List Place) (o : Option Generation) (p : Place) (c : Cell) → p.region ≡ c.region → IsWhole ps p → may_reach o p c ≡ true → c.word < p.words
reached_in ps None p c same s h = true_is_not_false false h refl
reached_in ps (Some x) p c same s h = go (names x.forest c.region && is_data_or_register p c.word) refl h
  where
    go : (b : Bool) → (names x.forest c.region && is_data_or_register p c.word) ≡ b → (b || is_notifier c) ≡ true → c.word < p.words
    go true e h = let t = and_parts (names x.forest c.region) (is_data_or_register p c.word) e in
        let l : c.word < data_words p.bytes + p.regs = ltb-true c.word (data_words p.bytes + p.regs) t.1 in
        let wide : data_words p.bytes + p.regs ≤ p.words = s.wide in
        omega (arith, l, wide)
    go false e h = let t = and_parts _ _ h in
        let l : c.word < notifier_count = ltb-true c.word notifier_count t.1 in
        let m : p.words ≡ notifier_count = s.notifiers (subst (λ (z : RegionId). is_notifiers z ≡ true) (sym same) t.0) in
        omega (arith, l, m)

module _ (w : World) (h : IsReached w) where
  -- the place of a cell that may be stepped on, and the place's word
  pub word_in : (hand : Hand) (c : Cell) (step : WordStep) (p : Place) → place_in_world w c.region ≡ Some p → possible w (events.Word hand c step) ≡ true
      → c.word < p.words
  word_in (hands.Pass pass) c step p here may =
      reached_in (places_of w.writer.desk) (entered_generation w.writer.generations w.passes pass) p c (own_region w c.region p here)
      (whole_of w h c.region p here)
      (ap (λ (o : Option Place). if_placed o (λ q. may_reach (entered_generation w.writer.generations w.passes pass) q c)) (sym here) ∙ may)
  word_in hands.Writer c step p here may =
      ltb-true c.word p.words (ap (λ (o : Option Place). if_placed o (λ q. nat_lt c.word q.words)) (sym here) ∙ may)

  pub word_placed : (hand : Hand) (c : Cell) (step : WordStep) → place_in_world w c.region ≡ None → possible w (events.Word hand c step) ≡ true → ⊥
  word_placed (hands.Pass pass) c step none may =
      true_is_not_false false
      (ap (λ (o : Option Place). if_placed o (λ q. may_reach (entered_generation w.writer.generations w.passes pass) q c)) (sym none) ∙ may) refl
  word_placed hands.Writer c step none may =
      true_is_not_false false (ap (λ (o : Option Place). if_placed o (λ q. nat_lt c.word q.words)) (sym none) ∙ may) refl

  marked : (o : Option Generation) (p : Place) (r : RegionId) (page : ℕ) → may_mark o p r page ≡ true → page < pages_in p
  marked None p r page e = true_is_not_false false e refl
  marked (Some x) p r page e = ltb-true page (pages_in p) (and_parts _ _ e).1

  -- the page of a mark that may be made
  pub page_in : (pass : PassId) (r : RegionId) (client : Client) (page : ℕ) (p : Place) → place_in_world w r ≡ Some p
      → possible w (events.Mark pass r client page) ≡ true → page < pages_in p
  page_in pass r client page p here may = marked (entered_generation w.writer.generations w.passes pass) p r page
      (ap (λ (o : Option Place). if_placed o (λ q. may_mark (entered_generation w.writer.generations w.passes pass) q r page)) (sym here) ∙ may)

  pub mark_in : (r : RegionId) (client : Client) (page : ℕ) (p : Place) → place_in_world w r ≡ Some p → page < pages_in p → word_of_page p client page < p.words
  mark_in r client page p here l = (whole_of w h r p here).marks client page l

  pub mark_placed : (pass : PassId) (r : RegionId) (client : Client) (page : ℕ) → place_in_world w r ≡ None
      → possible w (events.Mark pass r client page) ≡ true → ⊥
  mark_placed pass r client page none may =
      true_is_not_false false
      (ap (λ (o : Option Place). if_placed o (λ q. may_mark (entered_generation w.writer.generations w.passes pass) q r page)) (sym none) ∙ may) refl

-- a step past the cells of a region changes none

-- a cell of a new region is cleared

past_words : (i n : ℕ) → nat_lt i n ≡ false → n ≤ i
past_words i n e = ltb-false i n e

module _ (d : WriterState) (k : KeptState) (ws : List ℕ) (x : Aside) (h : IsWorld d k ws x) (c : Cell) where
  abbrev here : World
  here = world_of d k ws x

  abbrev places : List Place
  places = all_places d.backed.backing

  abbrev fewer : Aside
  fewer = aside x.dropped (filter (λ y. not (is_same_cell c y)) x.unfilled)

  abbrev touched : Option Place → List Block
  touched o = touched_blocks (blocks_at ws places) (Some c.region) (option_and_then (λ p. touch_of p (events.Fill c)) o)

  -- the word of its place is one of the words
  pub word_there : IfSome (place_in_world here c.region) (λ p. c.word < p.words → p.start + c.word < length ws)
  word_there = go (place_in_world here c.region) refl
    where
      go : (o : Option Place) → place_in_world here c.region ≡ o → IfSome o (λ p. c.word < p.words → p.start + c.word < length ws)
      go None e = tt
      go (Some p) e = λ near. far d k ws x h c.region p c.word e near

  words_are : (o : Option Place) → place_in_world here c.region ≡ o → blocks_at (word_cleared ws o c.word) places ≡ touched o
  words_are None e = refl
  words_are (Some p) e = go (nat_lt c.word p.words) refl
    where
      go : (b : Bool) → nat_lt c.word p.words ≡ b
          → blocks_at (if b then words_after ws (p.start + c.word) Take else ws) places ≡ blocks_after (blocks_at ws places) c.region c.word Take
      go true l =
          cells_change d k ws x h c.region p e (events.Fill c) (touch c.word Take false) refl (ltb-true c.word p.words l)
          ∙ ap (λ (o : Option Place). touched o) e
      go false l =
          let long : length (cells_in (blocks_at ws places) c.region) ≡ p.words = (reached_holds here h.reached).kept.coupled.backed.long c.region p e in
          let far_off : p.words ≤ c.word = past_words c.word p.words l in
          sym (step_past (blocks_at ws places) c.region c.word Take (omega (arith, long, far_off)))

  pub fill_is : world_of d k (word_cleared ws (place_in_world here c.region) c.word) fewer ≡ world_after here (events.Fill c)
  fill_is = ap (λ (bs : List Block). world (writer (desk_of d (beside fewer k.swept)) (generations_of k)) k.states bs)
      (words_are (place_in_world here c.region) refl)

  -- what holds of a world holds then
  pub filled_world : (vs : List ℕ) → vs ≡ word_cleared ws (place_in_world here c.region) c.word → length vs ≡ length ws
      → possible here (events.Fill c) ≡ true → (cells : List Cell) → cells ≡ filter (λ y. not (is_same_cell c y)) x.unfilled
      → IsWorld d k vs (aside x.dropped cells)
  filled_world vs is long may cells less =
      subst (λ (z : List ℕ × List Cell). IsWorld d k z.0 (aside x.dropped z.1)) (λ i. (sym is i, sym less i)) record {
        reached = subst IsReached (sym fill_is) (reached_after here (events.Fill c) h.reached may);
        current = h.current;
        number = h.number;
        ready = h.ready;
        wide = ap (λ (zs : List ℕ). length zs) (sym is) ∙ long ∙ h.wide;
      }
