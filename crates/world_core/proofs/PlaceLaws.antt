-- Laws of the places of a world: where one is found, and its mark words.
use Rattle.std.proofs.Common.{◌≡◌, ℕ, ◌+◌, ◌-◌, ◌*◌, ◌/◌, ◌<◌, ◌≤◌, true, false, List, [], ◌∷◌, ◌++◌, length, refl, ap, subst, ◌∙◌, arith}
use Rattle.std.proofs.Common.{if◌then◌else◌, Option, Some, None}
use Rattle.std.specs.Prelude.{◌==◌, slice_index}
use Rattle.mem_base.specs.declared.map.ids.RegionId.{RegionId}
use Rattle.mem_base.specs.declared.map.kinds.Client.{Client}
use Rattle.mem_base.specs.declared.access.cells.Place.{Place}
use Rattle.mem_base.specs.declared.access.cells.WordStep.TheVariants.{Take}
use Rattle.mem_base.specs.declared.machine.events.Event.TheVariants as events
use Rattle.mem_base.specs.lists.Every.{Every}
use Rattle.mem_base.specs.map.Limits.{notifier_count, pages_per_word}
use Rattle.mem_base.specs.access.PlacesByRegion.{notifiers, place_in}
use Rattle.mem_base.specs.access.Places.{notifiers_place, is_notifiers, past, mark_word, mark_words, pages_in, word_of_page}
use Rattle.mem_base.specs.access.Cells.{touch, words_after, Block}
use Rattle.mem_base.specs.machine.Desk.{places_of}
use Rattle.mem_base.specs.machine.World.{World, world, place_in_world, number_in, reply, world_after}
use Rattle.mem_base.proofs.EveryLaws.{weaker}
use Rattle.view_laws.proofs.Tests.{same_region}
use Rattle.turn_laws.proofs.Coupled.{IsWhole}
use Rattle.turn_laws.proofs.Replaced.{its_region}
use Rattle.kept_generations.specs.KeptState.{KeptState}
use Rattle.writer_desk.specs.Writers.{WriterState}
use Rattle.world_core.specs.Worlds.{Aside, world_of, IsWorld}
use Rattle.world_hand.proofs.Completing.{reached_holds}
use Rattle.world_core.proofs.WordLaws.{backing, cells_change, far, word_before}
use Rattle.mem_base.proofs.PlaceLaws.{found_has}

-- the notifiers' place is the last one, and those of regions come before it

last_place : (ps : List Place) (np : Place) → Every (λ p. is_notifiers p.region ≡ false) ps → np.region ≡ notifiers
    → place_in (ps ++ np ∷ []) notifiers ≡ Some np
last_place [] np others is = ap (λ (r : RegionId). if r.0 == notifiers.0 then Some np else None) is
last_place (p ∷ ps) np others is = rw others.0 (last_place ps np others.1 is)

pub other_place : (ps : List Place) (np : Place) (r : RegionId) → (np.region.0 == r.0) ≡ false → place_in (ps ++ np ∷ []) r ≡ place_in ps r
other_place [] np r other = rw other refl
other_place (p ∷ ps) np r other = ap (λ (o : Option Place). if p.region.0 == r.0 then Some p else o) (other_place ps np r other)

-- a place that is found is the region's own
pub own_region : (w : World) (r : RegionId) (p : Place) → place_in_world w r ≡ Some p → p.region ≡ r
own_region w r p here = same_region p.region r (its_region (places_of w.writer.desk) r p here)

module _ (d : WriterState) (k : KeptState) (ws : List ℕ) (x : Aside) (h : IsWorld d k ws x) where
  abbrev here : World
  here = world_of d k ws x

  pub notifiers_after : (start : ℕ) → start ≡ length ws - notifier_count → place_in_world here notifiers ≡ Some (notifiers_place start)
  notifiers_after start is =
      let pool_words : ℕ = d.backed.backing.pool_words in
      let wide : length ws ≡ pool_words + notifier_count = h.wide in
      let same : pool_words ≡ start = omega (arith, is, wide) in
      last_place d.backed.backing.places (notifiers_place pool_words)
      (weaker (λ p. (is_notifiers p.region ≡ false) × (0 < p.words) × (past p ≤ pool_words)) (λ p. is_notifiers p.region ≡ false) (λ p t. t.0)
      d.backed.backing.places (backing d k ws x h).inside) refl
      ∙ ap (λ (n : ℕ). Some (notifiers_place n)) same

  -- of a region's place, and one of its mark words
  module _ (r : RegionId) (p : Place) (placed : place_in_world here r ≡ Some p) (client : Client) (index : ℕ) (inside : index < mark_words p.bytes) where
    -- the mark words of a place are among its words
    pub mark_within : mark_word p client index < p.words
    mark_within =
        let w : World = here in
        let whole : IsWhole (places_of w.writer.desk) p = found_has (IsWhole (places_of w.writer.desk)) (places_of w.writer.desk) r p
        (reached_holds w h.reached).kept.coupled.whole placed in
        let first : index * pages_per_word < pages_in p = omega (arith, inside) in
        let same : index * pages_per_word / pages_per_word ≡ index = omega arith in
        subst (λ (n : ℕ). mark_word p client n < p.words) same (whole.marks client (index * pages_per_word) first)

    pub mark_far : p.start + mark_word p client index < length ws
    mark_far = far d k ws x h r p (mark_word p client index) placed mark_within

    -- a mark word that is taken
    pub take_is : (word : ℕ) → word ≡ mark_word p client index → (vs : List ℕ) → vs ≡ words_after ws (p.start + word) Take
        → world_of d k vs x ≡ world_after here (events.Harvest r client index)
    take_is word is vs same =
        ap (λ (us : List ℕ). world_of d k us x) (same ∙ ap (λ (n : ℕ). words_after ws (p.start + n) Take) is)
        ∙ ap (λ (bs : List Block). world here.writer k.states bs)
        (cells_change d k ws x h r p placed (events.Harvest r client index) (touch (mark_word p client index) Take true) refl mark_within)

    pub take_tells : (word : ℕ) → word ≡ mark_word p client index → slice_index ws (p.start + word) ≡ number_in (reply here (events.Harvest r client index))
    take_tells word is = ap (λ (n : ℕ). slice_index ws (p.start + n)) is
        ∙ word_before d k ws x h r p placed (events.Harvest r client index) (touch (mark_word p client index) Take true) refl mark_within

-- the mark word of its first page is the mark word
pub mark_is_at : (p : Place) (client : Client) (index page word : ℕ) → page ≡ index * pages_per_word →
    word ≡ word_of_page p client page → word ≡ mark_word p client index
mark_is_at p client index page word first is =
    let same : page / pages_per_word ≡ index = omega (arith, first) in is ∙ ap (λ (n : ℕ). mark_word p client n) same
