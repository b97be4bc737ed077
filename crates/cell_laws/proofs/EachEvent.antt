-- One event: what it makes of the places, and of the value of a cell.
use Rattle.std.proofs.Common.{◌≡◌, ◌⊎◌, inl, inr, ⊎_elim, ℕ, zero, suc, ◌<◌, ◌≤◌, Bool, true, false, List, [], ◌∷◌, ◌++◌, length, filter}
use Rattle.std.proofs.Common.{refl, sym, ap, subst, ◌∙◌, arith, ne_eqb, eq-eqb, if◌then◌else◌, Option, Some, None, get_or-set_same, get_or-set_other}
use Rattle.std.specs.Prelude.{◌==◌, ◌&&◌, ◌||◌, not, slice_index, option_and_then, replicate}
use Rattle.std.specs.List.{list_any}
use Rattle.std.proofs.lemmas.Bool.{eqb-true, not_from_false}
use mathlib.Core.Logic.{dite}
use native.Mathlib.Decide.{ℕ_discrete}
use Rattle.mem_base.specs.declared.map.ids.RegionId.{RegionId}
use Rattle.mem_base.specs.declared.map.calls.Config.{Config}
use Rattle.mem_base.specs.declared.access.cells.Place.{Place}
use Rattle.mem_base.specs.declared.access.cells.Cell.{Cell}
use Rattle.mem_base.specs.declared.access.cells.WordStep.{WordStep}
use Rattle.mem_base.specs.declared.machine.events.Event.{Event}
use Rattle.mem_base.specs.declared.machine.events.Event.TheVariants as events
use Rattle.mem_base.specs.lists.Every.{Every}
use Rattle.mem_base.specs.map.Limits.{most_made}
use Rattle.mem_base.specs.access.PlacesByRegion.{place_in}
use Rattle.mem_base.specs.access.Places.{notifiers_place, pages_in}
use Rattle.mem_base.specs.access.Words.{word_after}
use Rattle.mem_base.specs.access.Cells.{Block, Touch, touch_of, region_of, cells_in, has_block, blocks_after, words_after, cell, is_same_cell}
use Rattle.mem_base.specs.machine.Desk.{Desk, places_of, cells_of}
use Rattle.mem_base.specs.machine.Reaps.{released, is_among, is_named, reaped}
use Rattle.mem_base.specs.machine.Configs.{configured}
use Rattle.mem_base.specs.machine.World.{World, possible, world_after, reply, number_in, touched_blocks, touch_at, place_in_world}
use Rattle.view_laws.proofs.Tests.{none_is_not_some, same_place, same_region}
use Rattle.history_laws.proofs.DroppedLaws.{Dropped, IsGone, dropped_after}
use Rattle.turn_laws.proofs.Backed.{waits}
use Rattle.turn_laws.proofs.NewPlace.{between_new, others_rest}
use Rattle.turn_laws.proofs.Replaced.{block_words, its_region, kept_place, words_stay}
use Rattle.world_laws.proofs.Keeping.{Holds, holds_after}
use Rattle.mem_base.specs.machine.CellHistories.{releases, step_by, step_on, stepped, cell_value}
use Rattle.cell_laws.specs.CellHistory.{IsFilled}
use Rattle.cell_laws.proofs.PlaceKeeping.{configured_grows}
use Rattle.mem_base.proofs.BoolLaws.{true_is_not_false}

-- a step on one cell, as each other cell sees it

cell_stepped : (bs : List Block) (s r : RegionId) (j i : ℕ) (step : WordStep) → i < length (cells_in bs r)
    → slice_index (cells_in (blocks_after bs s j step) r) i ≡ stepped (if (s.0 == r.0) && (j == i) then Some step else None) (slice_index (cells_in bs r) i)
cell_stepped [] s r j i step l = absurd (omega arith)
cell_stepped (b ∷ bs) s r j i step l = dite (ℕ_discrete b.region.0 s.0)
    (λ bs_same. dite (ℕ_discrete b.region.0 r.0)
    (λ br_same. rw (eq-eqb b.region.0 s.0 bs_same) (rw (eq-eqb b.region.0 r.0 br_same, eq-eqb s.0 r.0 (sym bs_same ∙ br_same))
    (in_block b.words (subst (λ (t : Bool). i < length (if t then b.words else cells_in bs r)) (eq-eqb b.region.0 r.0 br_same) l))))
    (λ br_other. rw (eq-eqb b.region.0 s.0 bs_same) (rw (ne_eqb b.region.0 r.0 br_other, ne_eqb s.0 r.0 (λ e. br_other (bs_same ∙ e))) refl)))
    (λ bs_other. rw (ne_eqb b.region.0 s.0 bs_other) (dite (ℕ_discrete b.region.0 r.0)
    (λ br_same. rw (eq-eqb b.region.0 r.0 br_same, ne_eqb s.0 r.0 (λ e. bs_other (br_same ∙ sym e))) refl)
    (λ br_other. rw (ne_eqb b.region.0 r.0 br_other)
    (cell_stepped bs s r j i step (subst (λ (t : Bool). i < length (if t then b.words else cells_in bs r)) (ne_eqb b.region.0 r.0 br_other) l)))))
  where
    in_block : (ws : List ℕ) → i < length ws → slice_index (words_after ws j step) i ≡ stepped (if true && (j == i) then Some step else None) (slice_index ws i)
    in_block ws m = dite (ℕ_discrete j i)
        (λ e. rw (eq-eqb j i e) (subst (λ (k : ℕ). slice_index (words_after ws k step) i ≡ word_after step (slice_index ws i)) (sym e)
        (get_or-set_same ws i (word_after step (slice_index ws i)) 0 m)))
        (λ ne. rw (ne_eqb j i ne) (get_or-set_other ws j i (word_after step (slice_index ws j)) 0 (λ e. ne (sym e))))

touched_value : (bs : List Block) (s : RegionId) (o : Option Touch) (r : RegionId) (i : ℕ) → i < length (cells_in bs r)
    → slice_index (cells_in (touched_blocks bs (Some s) o) r) i ≡ stepped (step_by r i (Some s) o) (slice_index (cells_in bs r) i)
touched_value bs s None r i l = refl
touched_value bs s (Some t) r i l = cell_stepped bs s r t.word i t.step l

-- what holds in every legal history
pub record Sure (w : World) : Type 0 where
  pub holds : Holds w
  pub gone : Dropped w.writer.desk

pub sure_after : (w : World) → Sure w → (e : Event) → possible w e ≡ true → Sure (world_after w e)
sure_after w k e may = record {
  holds = holds_after w k.holds e may;
  gone = dropped_after w e (number_in (reply w e)) k.holds.sound k.gone;
}

-- places of the regions that were made, and the notifiers'

pub no_place : (pool_words made : ℕ) (ps : List Place) (r : RegionId) (p : Place) → made ≤ most_made → Every (λ p. p.region.0 < made) ps
    → place_in (ps ++ notifiers_place pool_words ∷ []) r ≡ Some p → made ≡ r.0 → ⊥
no_place pool_words made [] r p few h is e = go (4294967295 == r.0) refl is
  where
    go : (b : Bool) → (4294967295 == r.0) ≡ b → (if b then Some (notifiers_place pool_words) else None) ≡ Some p → ⊥
    go true q is = let z : 4294967295 ≡ r.0 = eqb-true 4294967295 r.0 q in absurd (omega (arith, z, e, few))
    go false q is = none_is_not_some p is
no_place pool_words made (q ∷ qs) r p few h is e = go (q.region.0 == r.0) refl is (λ is. no_place pool_words made qs r p few h.1 is e)
  where
    go : (b : Bool) → (q.region.0 == r.0) ≡ b → (if b then Some q else place_in (qs ++ notifiers_place pool_words ∷ []) r) ≡ Some p
        → (place_in (qs ++ notifiers_place pool_words ∷ []) r ≡ Some p → ⊥) → ⊥
    go true t is rest = let z : q.region.0 ≡ r.0 = eqb-true q.region.0 r.0 t in let l : q.region.0 < made = h.0 in absurd (omega (arith, z, e, l))
    go false t is rest = rest is

-- a place with pages is not the notifiers'
pub paged : (pool_words made : ℕ) (ps : List Place) (r : RegionId) (p : Place) → made ≤ most_made → Every (λ p. p.region.0 < made) ps
    → place_in (ps ++ notifiers_place pool_words ∷ []) r ≡ Some p → 0 < pages_in p → r.0 ≡ 4294967295 → ⊥
paged pool_words made [] r p few h is some e = go (4294967295 == r.0) is
  where
    go : (b : Bool) → (if b then Some (notifiers_place pool_words) else None) ≡ Some p → ⊥
    go true is = let l : 0 < pages_in (notifiers_place pool_words) = subst (λ (q : Place). 0 < pages_in q) (sym (same_place _ p is)) some in absurd (omega (arith, l))
    go false is = none_is_not_some p is
paged pool_words made (q ∷ qs) r p few h is some e = go (q.region.0 == r.0) refl is (λ is. paged pool_words made qs r p few h.1 is some e)
  where
    go : (b : Bool) → (q.region.0 == r.0) ≡ b → (if b then Some q else place_in (qs ++ notifiers_place pool_words ∷ []) r) ≡ Some p
        → (place_in (qs ++ notifiers_place pool_words ∷ []) r ≡ Some p → ⊥) → ⊥
    go true t is rest = let z : q.region.0 ≡ r.0 = eqb-true q.region.0 r.0 t in let l : q.region.0 < made = h.0 in absurd (omega (arith, z, e, l, few))
    go false t is rest = rest is

-- what a reap leaves was there

only_last : (kept : RegionId → Bool) (ps : List Place) (np p : Place) (r : RegionId) → kept r ≡ false
    → place_in (filter (λ q. kept q.region) ps ++ np ∷ []) r ≡ Some p → np.region.0 ≡ r.0
only_last kept [] np p r h is = its_last (np.region.0 == r.0) refl is
  where
    its_last : (b : Bool) → (np.region.0 == r.0) ≡ b → (if b then Some np else None) ≡ Some p → np.region.0 ≡ r.0
    its_last true e is = eqb-true np.region.0 r.0 e
    its_last false e is = none_is_not_some p is
only_last kept (q ∷ qs) np p r h is = go (kept q.region) refl is (only_last kept qs np p r h)
  where
    at : kept q.region ≡ true → (b : Bool) → (q.region.0 == r.0) ≡ b → (if b then Some q else place_in (filter (λ q. kept q.region) qs ++ np ∷ []) r) ≡ Some p
        → (place_in (filter (λ q. kept q.region) qs ++ np ∷ []) r ≡ Some p → np.region.0 ≡ r.0) → np.region.0 ≡ r.0
    at stays true e is rest = true_is_not_false (kept r)
        (subst (λ (z : RegionId). kept z ≡ true) (same_region q.region r (eqb-true q.region.0 r.0 e)) stays) h
    at stays false e is rest = rest is

    go : (b : Bool) → kept q.region ≡ b → place_in ((if b then q ∷ filter (λ q. kept q.region) qs else filter (λ q. kept q.region) qs) ++ np ∷ []) r ≡ Some p
        → (place_in (filter (λ q. kept q.region) qs ++ np ∷ []) r ≡ Some p → np.region.0 ≡ r.0) → np.region.0 ≡ r.0
    go true e is rest = at e (q.region.0 == r.0) refl is rest
    go false e is rest = rest is

pub notifiers_last : (pool_words made : ℕ) (ps : List Place) (r : RegionId) → made ≤ most_made → Every (λ p. p.region.0 < made) ps → 4294967295 ≡ r.0
    → place_in (ps ++ notifiers_place pool_words ∷ []) r ≡ Some (notifiers_place pool_words)
notifiers_last pool_words made [] r few h e = rw (eq-eqb 4294967295 r.0 e) refl
notifiers_last pool_words made (q ∷ qs) r few h e =
    rw (ne_eqb q.region.0 r.0 (λ z. let l : q.region.0 < made = h.0 in omega (arith, z, e, l, few))) (notifiers_last pool_words made qs r few h.1 e)

last_found : (kept : RegionId → Bool) (ps : List Place) (np : Place) (r : RegionId) → kept r ≡ false → np.region.0 ≡ r.0
    → place_in (filter (λ q. kept q.region) ps ++ np ∷ []) r ≡ Some np
last_found kept [] np r h e = rw (eq-eqb np.region.0 r.0 e) refl
last_found kept (q ∷ qs) np r h e = go (kept q.region) refl (last_found kept qs np r h e)
  where
    go : (b : Bool) → kept q.region ≡ b → place_in (filter (λ q. kept q.region) qs ++ np ∷ []) r ≡ Some np
        → place_in ((if b then q ∷ filter (λ q. kept q.region) qs else filter (λ q. kept q.region) qs) ++ np ∷ []) r ≡ Some np
    go true stays rest = rw (ne_eqb q.region.0 r.0 (λ z. true_is_not_false (kept r)
        (subst (λ (y : RegionId). kept y ≡ true) (same_region q.region r z) stays) h)) rest
    go false stays rest = rest

module _ (w : World) (k : Sure w) where
  abbrev d : Desk
  d = w.writer.desk

  abbrev np : Place
  np = notifiers_place d.pool_words

  stays_kept : (r : RegionId) → not (is_among (released w.writer) r) ≡ true → place_in (places_of (reaped w.writer)) r ≡ place_in (places_of d) r
  stays_kept r h = kept_place (λ r. not (is_among (released w.writer) r)) d.places (np ∷ []) r h

  reap_found : (r : RegionId) (p : Place) → place_in (places_of (reaped w.writer)) r ≡ Some p → place_in (places_of d) r ≡ Some p
  reap_found r p is = go (not (is_among (released w.writer) r)) refl
    where
      go : (b : Bool) → not (is_among (released w.writer) r) ≡ b → place_in (places_of d) r ≡ Some p
      go true h = sym (stays_kept r h) ∙ is
      go false h =
          let e : 4294967295 ≡ r.0 = only_last (λ r. not (is_among (released w.writer) r)) d.places np p r h is in
          let last = last_found (λ r. not (is_among (released w.writer) r)) d.places np r h e in
          notifiers_last d.pool_words d.forest.made d.places r k.holds.sound.few k.holds.sound.places e ∙ sym last ∙ is

  -- a private event leaves each place, and a new one is of the region that was made last

  config_kept : (c : Config) (r : RegionId) (p : Place) → place_in (places_of d) r ≡ Some p
      → place_in (places_of (configured w.writer.generations d c).desk) r ≡ Some p
  config_kept c r p here = ⊎_elim
      (λ a. ap (λ (ps : List Place). place_in ps r) a.0 ∙ here)
      (λ b. ap (λ (ps : List Place). place_in ps r) b.2
      ∙ between_new d.places b.0 np r (λ e. no_place d.pool_words d.forest.made d.places r p k.holds.sound.few k.holds.sound.places here (sym b.1 ∙ e)) ∙ here)
      (configured_grows w.writer.generations d k.holds.sound c).places

  config_new : (c : Config) (r : RegionId) (p : Place) → place_in (places_of d) r ≡ None
      → place_in (places_of (configured w.writer.generations d c).desk) r ≡ Some p → r.0 ≡ d.forest.made
  config_new c r p none is = ⊎_elim
      (λ a. none_is_not_some p (sym none ∙ sym (ap (λ (ps : List Place). place_in ps r) a.0) ∙ is))
      (λ b. dite (ℕ_discrete b.0.region.0 r.0) (λ e. sym e ∙ b.1)
      (λ ne. none_is_not_some p (sym none ∙ sym (between_new d.places b.0 np r ne) ∙ sym (ap (λ (ps : List Place). place_in ps r) b.2) ∙ is)))
      (configured_grows w.writer.generations d k.holds.sound c).places

  -- the place of a region after an event
  pub place_stays : (e : Event) (r : RegionId) (p : Place) → place_in_world w r ≡ Some p → releases w.writer e r ≡ false
      → place_in_world (world_after w e) r ≡ Some p
  place_stays (events.Config c) r p here stay = config_kept c r p here
  place_stays events.Reap r p here stay = stays_kept r (not_from_false _ stay) ∙ here
  place_stays _ r p here stay = here

  -- a place after an event was there before, or it is new
  pub record IsNewPlace (e : Event) (r : RegionId) : Type 0 where
    pub none : place_in_world w r ≡ None
    pub last : r.0 ≡ d.forest.made
    pub zeros : (i : ℕ) → cell_value (world_after w e) r i ≡ 0

  zero_at : (n i : ℕ) → slice_index (replicate n 0) i ≡ 0
  zero_at zero i = refl
  zero_at (suc n) zero = refl
  zero_at (suc n) (suc i) = zero_at n i

  new_place : (c : Config) (r : RegionId) (p : Place) (o : Option Place) → place_in (places_of d) r ≡ o
      → place_in (places_of (configured w.writer.generations d c).desk) r ≡ Some p → (place_in_world w r ≡ Some p) ⊎ IsNewPlace (events.Config c) r
  new_place c r p (Some q) before is =
      let same : q ≡ p = same_place q p (sym (config_kept c r q before) ∙ is) in inl (before ∙ ap (λ (z : Place). Some z) same)
  new_place c r p None before is =
      let ps = places_of (configured w.writer.generations d c).desk in
      let its : p.region ≡ r = same_region p.region r (its_region ps r p is) in
      let bare : has_block w.blocks p.region ≡ false = ap (has_block w.blocks) its ∙ k.holds.kept.coupled.bare r before in inr (record {
        none = before;
        last = config_new c r p before is;
        zeros = λ i. ap (λ (ws : List ℕ). slice_index ws i) (block_words w.blocks ps r p is
            ∙ ap (λ (b : Bool). if b then cells_in w.blocks p.region else replicate p.words 0) bare) ∙ zero_at p.words i;
      })

  pub found_before : (e : Event) (r : RegionId) (p : Place) → place_in_world (world_after w e) r ≡ Some p
      → (place_in_world w r ≡ Some p) ⊎ IsNewPlace e r
  found_before (events.Config c) r p is = new_place c r p (place_in (places_of d) r) refl is
  found_before events.Reap r p is = inl (reap_found r p is)
  found_before _ r p is = inl is

  -- the value of a cell after an event
  pub value_after : (e : Event) (r : RegionId) (p : Place) (i : ℕ) → place_in_world w r ≡ Some p → place_in_world (world_after w e) r ≡ Some p → i < p.words
      → cell_value (world_after w e) r i ≡ stepped (step_on w e r i) (cell_value w r i)
  value_after e r p i here there l = go e there
    where
      long : length (cells_in w.blocks r) ≡ p.words
      long = k.holds.kept.coupled.backed.long r p here

      inside : i < length (cells_in w.blocks r)
      inside = subst (λ (n : ℕ). i < n) (sym long) l

      go : (e : Event) → place_in_world (world_after w e) r ≡ Some p → cell_value (world_after w e) r i ≡ stepped (step_on w e r i) (cell_value w r i)
      go (events.Word h c step) there = touched_value w.blocks c.region (touch_at w (events.Word h c step) (Some c.region)) r i inside
      go (events.Mark v s client page) there = touched_value w.blocks s (touch_at w (events.Mark v s client page) (Some s)) r i inside
      go (events.Harvest s client index) there = touched_value w.blocks s (touch_at w (events.Harvest s client index) (Some s)) r i inside
      go (events.Fill c) there = touched_value w.blocks c.region (touch_at w (events.Fill c) (Some c.region)) r i inside
      go (events.Config c) there = ap (λ (ws : List ℕ). slice_index ws i)
          (words_stay w.blocks (places_of (configured w.writer.generations d c).desk) r p there long)
      go events.Reap there = ap (λ (ws : List ℕ). slice_index ws i) (words_stay w.blocks (places_of (reaped w.writer)) r p there long)
      go _ there = refl

  -- no step is made on a cell of a region that has no place
  no_touch : (s r : RegionId) (i : ℕ) (e : Event) → place_in_world w r ≡ None → step_by r i (Some s) (touch_at w e (Some s)) ≡ None
  no_touch s r i e none = dite (ℕ_discrete s.0 r.0)
      (λ same. ap (λ (o : Option Place). step_by r i (Some s) (option_and_then (λ p. touch_of p e) o))
      (ap (λ (z : RegionId). place_in_world w z) (same_region s r same) ∙ none))
      (λ ne. other ne (touch_at w e (Some s)))
    where
      other : (s.0 ≡ r.0 → ⊥) → (o : Option Touch) → step_by r i (Some s) o ≡ None
      other ne None = refl
      other ne (Some t) = ap (λ (b : Bool). if b && (t.word == i) then Some t.step else None) (ne_eqb s.0 r.0 ne)

  pub no_step : (e : Event) (r : RegionId) (i : ℕ) → place_in_world w r ≡ None → step_on w e r i ≡ None
  no_step e r i none = go (region_of e)
    where
      go : (o : Option RegionId) → step_by r i o (touch_at w e o) ≡ None
      go None = refl
      go (Some s) = no_touch s r i e none

  -- regions are numbered on
  pub made_on : (e : Event) → d.forest.made ≤ (world_after w e).writer.desk.forest.made
  made_on (events.Config c) = (configured_grows w.writer.generations d k.holds.sound c).made
  made_on _ = omega arith

  -- a region that is released was made
  among_gone : (rs : List RegionId) (test : RegionId → Bool) (r : RegionId) → Every (IsGone d.forest) rs
      → list_any (λ q. q.0 == r.0) (filter test rs) ≡ true → r.0 < d.forest.made
  among_gone [] test r g h = absurd (grind arith)
  among_gone (q ∷ rs) test r g h = go (test q) h (among_gone rs test r g.1)
    where
      at : (b : Bool) → (q.0 == r.0) ≡ b → (b || list_any (λ q. q.0 == r.0) (filter test rs)) ≡ true
          → (list_any (λ q. q.0 == r.0) (filter test rs) ≡ true → r.0 < d.forest.made) → r.0 < d.forest.made
      at true e h rest = subst (λ (n : ℕ). n < d.forest.made) (eqb-true q.0 r.0 e) g.0.1
      at false e h rest = rest h

      go : (b : Bool) → list_any (λ q. q.0 == r.0) (if b then q ∷ filter test rs else filter test rs) ≡ true
          → (list_any (λ q. q.0 == r.0) (filter test rs) ≡ true → r.0 < d.forest.made) → r.0 < d.forest.made
      go true h rest = at (q.0 == r.0) refl h rest
      go false h rest = rest h

  pub released_made : (e : Event) (r : RegionId) → releases w.writer e r ≡ true → r.0 < d.forest.made
  released_made events.Reap r h = among_gone d.dropped (λ r. not (is_named w.writer.generations r)) r k.gone.gone h
  released_made e r h = absurd (grind arith)

  -- a region of which no cell waits stays so while it has its place
  pub filled_stays : (e : Event) (r : RegionId) (p : Place) → place_in_world w r ≡ Some p → IsFilled d r → IsFilled (world_after w e).writer.desk r
  filled_stays (events.Config c) r p here f = λ i. ⊎_elim
      (λ a. ap (λ (cs : List Cell). waits cs r i) a.1 ∙ f i)
      (λ b. ap (λ (cs : List Cell). waits cs r i) b.3 ∙ either i d.unfilled b.0 (f i)
      (λ e. no_place d.pool_words d.forest.made d.places r p k.holds.sound.few k.holds.sound.places here (sym b.1 ∙ e)))
      (configured_grows w.writer.generations d k.holds.sound c).places
    where
      either : (i : ℕ) (cs : List Cell) (q : Place) → waits cs r i ≡ false → (q.region.0 ≡ r.0 → ⊥) → waits (cs ++ cells_of q) r i ≡ false
      either i [] q h ne = others_rest q.region r i _ ne
      either i (c ∷ cs) q h ne = go (is_same_cell (cell r i) c) h (λ h. either i cs q h ne)
        where
          go : (b : Bool) → (b || waits cs r i) ≡ false → (waits cs r i ≡ false → waits (cs ++ cells_of q) r i ≡ false)
              → (b || waits (cs ++ cells_of q) r i) ≡ false
          go true h rest = absurd (grind arith)
          go false h rest = rest h
  filled_stays (events.Fill c) r p here f = λ i. fewer i d.unfilled (f i)
    where
      fewer : (i : ℕ) (cs : List Cell) → waits cs r i ≡ false → waits (filter (λ x. not (is_same_cell c x)) cs) r i ≡ false
      fewer i [] h = refl
      fewer i (x ∷ xs) h = go (is_same_cell c x) (is_same_cell (cell r i) x) refl (fewer i xs) h
        where
          go : (b a : Bool) → is_same_cell (cell r i) x ≡ a → (waits xs r i ≡ false → waits (filter (λ x. not (is_same_cell c x)) xs) r i ≡ false)
              → (a || waits xs r i) ≡ false
              → waits (if not b then x ∷ filter (λ x. not (is_same_cell c x)) xs else filter (λ x. not (is_same_cell c x)) xs) r i ≡ false
          go b true e rest h = absurd (grind arith)
          go true false e rest h = rest h
          go false false e rest h = rw e (rest h)
  filled_stays _ r p here f = f
