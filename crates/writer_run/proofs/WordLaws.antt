-- The calls of the writer that step on words alone are turns.
use Rattle.std.proofs.Common.{◌≡◌, ℕ, ◌+◌, ◌-◌, ◌<◌, ◌≤◌, List, [], ◌∷◌, ◌++◌, length, map, drop, ne_eqb, eq-eqb}
use Rattle.std.proofs.Common.{Option, Some, None, Ok, Err, refl, sym, ap, subst, ◌∙◌, arith}
use Rattle.std.specs.Prelude.{◌/◌, ◌^◌}
use Rattle.mem_base.specs.declared.map.ids.RegionId.{RegionId}
use Rattle.mem_base.specs.declared.map.forests.Forest.{Forest}
use Rattle.mem_base.specs.declared.map.refusals.Refusal.{Refusal}
use Rattle.mem_base.specs.declared.access.cells.Place.{Place}
use Rattle.mem_base.specs.declared.access.cells.WordStep.{WordStep}
use Rattle.mem_base.specs.declared.access.cells.WordStep.TheVariants.{Take}
use Rattle.mem_base.specs.declared.machine.events.Hand.TheVariants as hands
use Rattle.mem_base.specs.declared.machine.events.Event.{Event}
use Rattle.mem_base.specs.declared.machine.events.Event.TheVariants as events
use Rattle.mem_base.specs.declared.machine.events.HistoryEntry.{HistoryEntry}
use Rattle.mem_base.specs.lists.Every.{Every}
use Rattle.mem_base.specs.lists.Runs.{Run, touched}
use Rattle.mem_base.specs.map.Limits.{word_size}
use Rattle.mem_base.specs.access.Cells.{cell}
use Rattle.mem_base.specs.access.MemoryAccess.{replaces}
use Rattle.mem_base.specs.access.Places.{extent, notifiers_place, words_of}
use Rattle.mem_base.specs.access.PlacesByRegion.{place_in, notifiers}
use Rattle.mem_base.specs.machine.Actors.{generations_after_all}
use Rattle.mem_base.specs.machine.Answers.{notifier_answer, plain_answer, first_or_zero}
use Rattle.mem_base.specs.machine.Desk.{places_of, at_place}
use Rattle.mem_base.specs.machine.Generations.{Generations}
use Rattle.mem_base.specs.machine.Orders.{notified, load, loads, load_refusal, harvest_refusal, unless}
use Rattle.mem_base.specs.machine.Reaps.{Writer}
use Rattle.mem_base.specs.machine.Turns.{played, turn, history_entry}
use Rattle.writer_desk.specs.Listened.{ListenedState}
use Rattle.mem_base.specs.access.Places.{past}
use Rattle.mem_base.specs.map.Forest.{IsMade}
use Rattle.mem_base.specs.map.Limits.{notifier_count}
use Rattle.mem_base.proofs.EveryLaws.{weaker}
use Rattle.mem_base.specs.map.Refusals.{or_refused}
use Rattle.view_laws.proofs.Tests.{none_is_not_some}
use Rattle.history_laws.specs.BackedForests.{BacksForest}
use Rattle.writer_desk.proofs.HandedOn.{AreDeskPlaces, all_places}
use Rattle.writer_hand.specs.Entries.{entries_with, at}
use Rattle.writer_hand.specs.Hands.{word_entry}
use Rattle.writer_desk.specs.declared.idle.IdleDesk.{IdleDesk}
use Rattle.writer_run.specs.Parts.{part_of, AreParts}
use Rattle.writer_run.specs.Turns.{IsTurn}
use Rattle.writer_run.proofs.MadeLaws.{same_first}
use Rattle.writer_run.proofs.RoomLaws.{has_room, has_marks}
use Rattle.std.proofs.lemmas.Option.{same_Some}
use Rattle.mem_base.proofs.PlaceLaws.{found_has}

notifiers_found : (made : ℕ) (ps : List Place) (np : Place) → made ≤ 4294967294 → Every (λ p. p.region.0 < made) ps → np.region ≡ notifiers
    → place_in (ps ++ np ∷ []) notifiers ≡ Some np
notifiers_found made [] np few k is = rw (eq-eqb np.region.0 (2 ^ 32 - 1) (ap (λ (r : RegionId). r.0) is)) refl
notifiers_found made (p ∷ ps) np few k is =
    rw (ne_eqb p.region.0 (2 ^ 32 - 1) (λ e. let l : p.region.0 < made = k.0 in omega (arith, e, l, few))) (notifiers_found made ps np few k.1 is)

-- entries of steps on words leave the generations
words_keep : (p : Place) (ws : List Run) (f : Run → Event) (rs : List ℕ) (g : Generations) → ((r : Run) (n : ℕ) (g : Generations)
    → generations_after_all g (history_entry (f r) (at p (f r)) n ∷ []) ≡ g) → generations_after_all g (entries_with (at p) (map f ws) rs) ≡ g
words_keep p [] f rs g k = refl
words_keep p (w ∷ ws) f rs g k = words_keep p ws f (drop 1 rs) _ k ∙ k w (first_or_zero rs) g

abbrev steps_at : RegionId → (Run → ℕ) → (Run → WordStep) → List Run → List Event
steps_at region f s ws = map (λ w. events.Word hands.Writer (cell region (f w)) (s w)) ws

played_steps : (w : Writer) (p : Place) (region : RegionId) (f : Run → ℕ) (s : Run → WordStep) (ws : List Run) (rs : List ℕ)
    → place_in (places_of w.desk) region ≡ Some p → (played w (steps_at region f s ws) rs).entries ≡ entries_with (at p) (steps_at region f s ws) rs
played_steps w p region f s [] rs e = refl
played_steps w p region f s (x ∷ ws) rs e =
    λ i. history_entry (events.Word hands.Writer (cell region (f x)) (s x)) (at_place (e i)) (first_or_zero rs) ∷ played_steps w p region f s ws
    (drop 1 rs) e i

steps_leave : (w : Writer) (region : RegionId) (f : Run → ℕ) (s : Run → WordStep) (ws : List Run) (rs : List ℕ)
    → (played w (steps_at region f s ws) rs).writer ≡ w
steps_leave w region f s [] rs = refl
steps_leave w region f s (x ∷ ws) rs = steps_leave w region f s ws (drop 1 rs)

module _ (from : IdleDesk) (g : Generations) (words : ℕ) (parts : AreParts from g words) where
  abbrev s : ListenedState
  s = from.listened

  abbrev w : Writer
  w = part_of from g

  -- the parts belong together while the generations stay
  pub still : (h : Generations) (words_then : ℕ) → h ≡ g → words_then ≡ words → AreParts from h words_then
  still h words_then same wide = subst (λ (z : Generations × ℕ). AreParts from z.0 z.1) (λ i. (sym same i, sym wide i)) parts

  -- what is known of the places

  module _ (f : Forest) (ps : List Place) (are : ps ≡ all_places s.backed.backing) (back : AreDeskPlaces f ps) where
    ends : (back.regions ≡ s.backed.backing.places) × (notifiers_place back.pool_words ≡ notifiers_place s.backed.backing.pool_words)
    ends = same_first back.regions s.backed.backing.places _ _ (sym back.parts ∙ are)

    backs : BacksForest back.pool_words f s.backed.backing.places
    backs = subst (λ (qs : List Place). BacksForest back.pool_words f qs) ends.0 back.backs

    pub within : (r : RegionId) (p : Place) → place_in s.backed.backing.places r ≡ Some p → past p ≤ words
    within r p found =
        let l : past p ≤ back.pool_words = found_has (λ q. past q ≤ back.pool_words) s.backed.backing.places r p
        (weaker _ (λ q. past q ≤ back.pool_words) (λ q h. h.2) s.backed.backing.places backs.inside) found in
        let wide : words ≡ s.backed.backing.pool_words + notifier_count = parts.wide in
        let same : back.pool_words ≡ s.backed.backing.pool_words = ap (λ (q : Place). q.start) ends.1 in omega (arith, l, wide, same)

    pub room : IsMade f → (r : RegionId) (offset count : ℕ) → load_refusal f r offset count ≡ None → (p : Place)
        → place_in s.backed.backing.places r ≡ Some p
        → (i : ℕ) → i < offset + count → i / 8 < p.words
    room made r offset count none p found =
        let h = has_room f back.pool_words s.backed.backing.places backs made r offset count none in
        subst (λ (q : Place). (i : ℕ) → i < offset + count → i / 8 < q.words) (same_Some h.place p (sym h.here ∙ found)) h.room

    pub never : IsMade f → (r : RegionId) (offset count : ℕ) → load_refusal f r offset count ≡ None → place_in s.backed.backing.places r ≡ None → ⊥
    never made r offset count none found =
        let h = has_room f back.pool_words s.backed.backing.places backs made r offset count none in none_is_not_some h.place (sym found ∙ h.here)

    -- the same where marks are harvested

    pub sized : IsMade f → (r : RegionId) → harvest_refusal f r ≡ None → (p : Place) → place_in s.backed.backing.places r ≡ Some p
        → p.words ≡ words_of (extent p.bytes p.regs)
    sized made r none p found =
        let h = has_marks f back.pool_words s.backed.backing.places backs made r none in
        subst (λ (q : Place). q.words ≡ words_of (extent q.bytes q.regs)) (same_Some h.place p (sym h.here ∙ found)) h.sized

    pub has_place : IsMade f → (r : RegionId) → harvest_refusal f r ≡ None → place_in s.backed.backing.places r ≡ None → ⊥
    has_place made r none found =
        let h = has_marks f back.pool_words s.backed.backing.places backs made r none in none_is_not_some h.place (sym found ∙ h.here)

  pub taken : (number told : ℕ) (h : Generations) (makes : List HistoryEntry → Type 0)
      → makes (word_entry (notifiers_place s.backed.backing.pool_words) number Take told ∷ []) → h ≡ g
      → IsTurn w (notified number) makes (notifier_answer told) (part_of from h)
  taken number told h makes made same =
      let np : Place = notifiers_place s.backed.backing.pool_words in
      let here : place_in (places_of w.desk) notifiers ≡ Some np =
      notifiers_found w.desk.forest.made s.backed.backing.places np parts.idle.sound.few parts.idle.sound.places refl in record {
        replies = told ∷ [];
        made = subst (λ (o : Option Place). makes (history_entry (events.Word hands.Writer (cell notifiers number) Take) (at_place o) told ∷ []))
            (sym here) made;
        answer_is = refl;
        writer = ap (λ (x : Generations). part_of from x) same;
      }

  pub load_refused : (region : RegionId) (offset : ℕ) (bytes : List ℕ) (why : Refusal)
      → load_refusal s.backed.desk.state.forest region offset (length bytes) ≡ Some why → (makes : List HistoryEntry → Type 0) → makes []
      → IsTurn w (load region offset bytes) makes (plain_answer (Err why)) w
  load_refused region offset bytes why is makes made = record {
    replies = [];
    made = subst (λ (o : Option Refusal). makes (played w (unless o (loads region offset bytes)) []).entries) (sym is) made;
    answer_is = ap (λ (o : Option Refusal). plain_answer (or_refused o tt)) (sym is);
    writer = ap (λ (o : Option Refusal). (played w (unless o (loads region offset bytes)) []).writer) (sym is);
  }

  pub loaded : (region : RegionId) (offset : ℕ) (bytes : List ℕ) (p : Place) → place_in s.backed.backing.places region ≡ Some p
      → place_in (places_of w.desk) region ≡ Some p
      → load_refusal s.backed.desk.state.forest region offset (length bytes) ≡ None → (makes : List HistoryEntry → Type 0) (replies : List ℕ)
      → makes (entries_with (at p) (loads region offset bytes) replies) → (h : Generations) → h ≡ g
      → IsTurn w (load region offset bytes) makes (plain_answer (Ok tt)) (part_of from h)
  loaded region offset bytes p found here is makes replies made h same = record {
    replies = replies;
    made = subst (λ (o : Option Refusal). makes (played w (unless o (loads region offset bytes)) replies).entries) (sym is)
        (subst makes (sym (played_steps w p region (λ r. r.start / word_size) (replaces offset bytes) (touched word_size offset
        (length bytes)) replies here)) made);
    answer_is = ap (λ (o : Option Refusal). plain_answer (or_refused o tt)) (sym is);
    writer = ap (λ (x : Generations). part_of from x) same
        ∙ sym (steps_leave w region (λ r. r.start / word_size) (replaces offset bytes) (touched word_size offset (length bytes)) replies)
        ∙ ap (λ (o : Option Refusal). (played w (unless o (loads region offset bytes)) replies).writer) (sym is);
  }

pub loads_keep : (p : Place) (region : RegionId) (offset : ℕ) (bytes rs : List ℕ) (g : Generations)
    → generations_after_all g (entries_with (at p) (loads region offset bytes) rs) ≡ g
loads_keep p region offset bytes rs g = words_keep p (touched word_size offset (length bytes))
    (λ w. events.Word hands.Writer (cell region (w.start / word_size)) (replaces offset bytes w)) rs g (λ r n g. refl)

-- a load leaves the writer's part
pub load_leaves : (w : Writer) (region : RegionId) (offset : ℕ) (bytes rs : List ℕ) → (turn w (load region offset bytes) rs).writer ≡ w
load_leaves w region offset bytes rs = go (load_refusal w.desk.forest region offset (length bytes))
  where
    go : (o : Option Refusal) → (played w (unless o (loads region offset bytes)) rs).writer ≡ w
    go None = steps_leave w region (λ r. r.start / word_size) (replaces offset bytes) (touched word_size offset (length bytes)) rs
    go (Some why) = refl
