-- Each event of an access that the pure machine makes is possible on the running one, with a place that the pass's generation carries.
use Rattle.std.proofs.Common.{◌≡◌, ℕ, ◌+◌, ◌<◌, Bool, true, false, List, [], ◌∷◌, ◌++◌, map, refl, sym, ap, subst, ◌∙◌, eq-eqb, if◌then◌else◌, Option, Some}
use Rattle.std.specs.Prelude.{◌==◌, ◌&&◌, ◌||◌, flat_map, is_some}
use Rattle.std.specs.List.{list_any}
use Rattle.mem_base.specs.declared.map.ids.RegionId.{RegionId}
use Rattle.mem_base.specs.declared.map.ids.SpaceId.{SpaceId}
use Rattle.mem_base.specs.map.PassIds.{PassId}
use Rattle.mem_base.specs.declared.access.cells.Place.{Place}
use Rattle.mem_base.specs.declared.machine.events.HistoryEntry.{HistoryEntry}
use Rattle.mem_base.specs.declared.machine.events.Carried.{Carried}
use Rattle.mem_base.specs.declared.machine.events.Event.{Event}
use Rattle.mem_base.specs.declared.machine.events.Event.TheVariants as events
use Rattle.mem_base.specs.declared.machine.events.Hand.TheVariants as hands
use Rattle.mem_base.specs.lists.Every.{Every}
use Rattle.mem_base.specs.map.Limits.{most_passes, notifier_count}
use Rattle.mem_base.specs.access.PlacesByRegion.{place_in}
use Rattle.mem_base.specs.access.Places.{is_data_or_register, pages_in}
use Rattle.mem_base.specs.access.EditionPlaces.{ArePlacesOf, IsEdition}
use Rattle.mem_base.specs.access.AccessSteps.{Transfer, AccessStep, blank, steps, marks, events_of_steps}
use Rattle.mem_base.specs.access.Access.{access}
use Rattle.mem_base.specs.machine.Passes.{PassState, pass_of}
use Rattle.mem_base.specs.machine.Generations.{Generation, held_generations}
use Rattle.mem_base.specs.machine.Guards.{may_mark, may_reach}
use Rattle.mem_base.specs.machine.Reaps.{first_writer}
use Rattle.mem_base.specs.machine.World.{World, opening, possible, place_in_world, world_after, if_placed}
use Rattle.mem_base.specs.machine.History.{PureEntry, after_entries, IsLegalFrom, run_events}
use Rattle.mem_base.specs.machine.SharedHistory.{Shared, is_same_place}
use Rattle.mem_base.specs.machine.SharedHistory as running
use Rattle.mem_base.specs.machine.Composites.{accessed, enters, enters_unless, forest_at, is_entered, leaves, leaves_unless, steps_in}
use Rattle.mem_base.specs.machine.Completions.{may_access}
use Rattle.mem_base.specs.machine.Desk.{at_place}
use Rattle.mem_base.specs.machine.PassTurns.{carried_among, entries_of}
use Rattle.mem_base.specs.machine.Turns.{replies_of, Answered, entries_of_turn, history_entry, is_writers, last_writer, turns, writers_of}
use Rattle.mem_base.specs.machine.JoinedHistory.{joined_history}
use Rattle.mem_base.proofs.EveryLaws.{weaker, every_element, every_taken}
use Rattle.view_laws.proofs.Tests.{none_is_not_some, same_region}
use Rattle.history_laws.specs.BackedForests.{ShowsOwnPlaces}
use Rattle.history_laws.proofs.ShownLaws.{generations_show_places}
use Rattle.turn_laws.proofs.Coupled.{Coupled, Follows, seen}
use Rattle.turn_laws.proofs.PassSteps.{passes_follow}
use Rattle.turn_laws.proofs.Replaced.{its_region}
use Rattle.turn_laws.proofs.TurnsLaw.{turns_join}
use Rattle.world_laws.proofs.HandedOn.{published}
use Rattle.world_laws.specs.Entered.{EntersHeld, IsEnteredIn}
use Rattle.world_laws.specs.Standing.{StandsIn}
use Rattle.world_laws.proofs.Accessing.{access_reached}
use Rattle.world_laws.proofs.Entering.{entered_generations_are_held}
use Rattle.world_laws.proofs.Keeping.{held_places_stand}
use Rattle.world_laws.proofs.Running.{AllMay}
use Rattle.run_laws.specs.MadeForests.{HasMadeForests}
use Rattle.world_laws.proofs.PassKeeping.{KeepsAll, after_events, entered_by, may_look, steps_keep}
use Rattle.run_laws.proofs.Passing.{Led, enters_led, legal_steps, may_enter, may_leave, orderly, steps_led, within}
use Rattle.mem_base.specs.machine.ShownWorlds.{world_shown}
use Rattle.turn_laws.proofs.Joining.{Ends}
use Rattle.end_laws.proofs.EndLaws.{ends, leads}
use Rattle.cell_laws.proofs.Following.{shared_join}
use Rattle.history_laws.proofs.PureAppends.{events_of_run}
use Rattle.mem_base.proofs.PassTurnLaws.{events_are}
use Rattle.std.proofs.lemmas.Bool.{and_from, or_right}
use Rattle.std.proofs.lemmas.Option.{same_Some}
use Rattle.mem_base.proofs.PlaceLaws.{found_has}

-- an event of a pass is possible on the running machine, with what it carries among these places
pub record MayCarry (places : List Place) (w : World) (e : Event) : Type 0 where
  pub mine : is_writers e ≡ false
  pub may : (words : List ℕ) → running.shared_possible (seen w words) e (carried_among places e) ≡ true

abbrev pub AllCarry : List Place → World → List Event → Type 0
AllCarry places w [] = Unit {0}
AllCarry places w (e ∷ es) = MayCarry places w e × AllCarry places (world_after w e) es

pub carry_both : (places : List Place) (es fs : List Event) (w : World) → AllCarry places w es → AllCarry places (run_events w es).world fs
    → AllCarry places w (es ++ fs)
carry_both places [] fs w a b = b
carry_both places (e ∷ es) fs w a b = (a.0, carry_both places es fs (world_after w e) a.1 b)

-- entries of such events
pub record Carries (places : List Place) (w : World) (words : List ℕ) (es : List Event) : Type 0 where
  pub entries : List HistoryEntry
  pub are : entries ≡ entries_of places es (replies_of entries)
  pub legal : running.IsSharedLegalFrom (seen w words) entries

pub carry : (places : List Place) (es : List Event) (w : World) (words : List ℕ) → Coupled w words → AllCarry places w es → Carries places w words es
carry places [] w words k a = record { entries = []; are = refl; legal = tt }
carry places (e ∷ es) w words k a =
    let x : Carried = carried_among places e in
    let n = running.shared_reply (seen w words) e x in
    let f : Follows w words e x = passes_follow w words k e x a.0.mine (a.0.may words) in
    let rest = carry places es (world_after w e) _ f.coupled a.1 in record {
      entries = history_entry e x n ∷ rest.entries;
      are = ap (λ (ys : List HistoryEntry). history_entry e x n ∷ ys) rest.are;
      legal = (a.0.may words, refl, subst (λ (z : Shared). running.IsSharedLegalFrom z rest.entries) (sym f.leads) rest.legal);
    }

-- the numbers of a pass

pub carry_enters : (places : List Place) (w : World) (pass : PassId) → AllMay w (enters pass) → AllCarry places w (enters pass)
carry_enters places w pass a = (
  record { mine = refl; may = λ words. a.0 },
  (
    record { mine = refl; may = λ words. a.1.0 },
    (record { mine = refl; may = λ words. a.1.1.0 }, tt),
  ),
)

pub carry_leaves : (places : List Place) (w : World) (pass : PassId) → possible w (events.Leave pass) ≡ true → AllCarry places w (leaves pass)
carry_leaves places w pass may = (record { mine = refl; may = λ words. may }, tt)

-- the steps of an access

carries_found : (ps : List Place) (r : RegionId) (p : Place) → place_in ps r ≡ Some p → list_any (is_same_place p) ps ≡ true
carries_found [] r p e = none_is_not_some p e
carries_found (q ∷ qs) r p e = go (q.region.0 == r.0) e (carries_found qs r p)
  where
    itself : (p : Place) → is_same_place p p ≡ true
    itself p = and_from _ _ (and_from _ _ (and_from _ _ (and_from _ _ (eq-eqb p.region.0 p.region.0 refl) (eq-eqb p.start p.start refl)) (eq-eqb p.words p.words refl))
        (eq-eqb p.bytes p.bytes refl)) (eq-eqb p.regs p.regs refl)

    go : (b : Bool) → (if b then Some q else place_in qs r) ≡ Some p → (place_in qs r ≡ Some p → list_any (is_same_place p) qs ≡ true)
        → (is_same_place p q || list_any (is_same_place p) qs) ≡ true
    go true e rest = ap (λ (z : Place). is_same_place p z || list_any (is_same_place p) qs) (same_Some q p e)
        ∙ ap (λ (b : Bool). b || list_any (is_same_place p) qs) (itself p)
    go false e rest = or_right (is_same_place p q) (list_any (is_same_place p) qs) (rest e)

-- the step is on a word of data or a register of a place, or marks a page of it
abbrev OnPlace : List Place → AccessStep → Type 0
OnPlace places (blank n result) = Unit {0}
OnPlace places (steps c step x) = (p : Place) × (place_in places c.region ≡ Some p) × (is_data_or_register p c.word ≡ true)
OnPlace places (marks region client page) = (p : Place) × (place_in places region ≡ Some p) × (page < pages_in p)

module _ (v : PassId) (x : Generation) where
  place_at : (w : World) → Every (λ p. place_in_world w p.region ≡ Some p) x.places → (r : RegionId) (p : Place) → place_in x.places r ≡ Some p
      → place_in_world w r ≡ Some p
  place_at w all r p here = subst (λ (z : RegionId). place_in_world w z ≡ Some p) (same_region p.region r (its_region x.places r p here))
      (found_has (λ q. place_in_world w q.region ≡ Some q) x.places r p all here)

  carry_steps : (ds : List AccessStep) (w : World) → IsEnteredIn w v x → Every (λ p. place_in_world w p.region ≡ Some p) x.places
      → Every (OnPlace x.places) ds → IsLegalFrom w (run_events w (events_of_steps v ds)).entries → AllCarry x.places w (events_of_steps v ds)
  carry_steps [] w is all h l = tt
  carry_steps (blank n result ∷ ds) w is all h l = carry_steps ds w is all h.1 l
  carry_steps (steps c step y ∷ ds) w is all h l =
      let p = h.0.0 in let here = h.0.1 in
      let there = place_at w all c.region p here in
      let reach : may_reach (Some x) p c ≡ true =
      sym ((λ i. if_placed (there i) (λ q. may_reach (is i) q c))) ∙ l.0 in (
        record {
          mine = refl;
          may = λ words. (λ i. running.shared_possible (seen w words) (events.Word (hands.Pass v) c step) (at_place (here i)))
              ∙ (λ i. ((p.region.0 == c.region.0) && may_reach (is i) p c) && running.carries (is i) p)
              ∙ and_from _ _ (and_from _ _ (eq-eqb p.region.0 c.region.0 (its_region x.places c.region p here)) reach) (carries_found x.places c.region p here);
        },
        carry_steps ds (world_after w (events.Word (hands.Pass v) c step)) is all h.1 l.2,
      )
  carry_steps (marks region client page ∷ ds) w is all h l =
      let p = h.0.0 in let here = h.0.1 in
      let there = place_at w all region p here in
      let reach : may_mark (Some x) p region page ≡ true =
      sym ((λ i. if_placed (there i) (λ q. may_mark (is i) q region page))) ∙ l.0 in (
        record {
          mine = refl;
          may = λ words. (λ i. running.shared_possible (seen w words) (events.Mark v region client page) (at_place (here i)))
              ∙ (λ i. ((p.region.0 == region.0) && may_mark (is i) p region page) && running.carries (is i) p)
              ∙ and_from _ _ (and_from _ _ (eq-eqb p.region.0 region.0 (its_region x.places region p here)) reach) (carries_found x.places region p here);
        },
        carry_steps ds (world_after w (events.Mark v region client page)) is all h.1 l.2,
      )

-- all events of an access, by whether the pass was entered
abbrev all_events : Bool → World → PassId → SpaceId → ℕ → Transfer → List Event
all_events b w pass space addr transfer =
    let u = after_events w (enters_unless b pass) in
    enters_unless b pass ++ (events_of_steps pass (steps_in u pass space addr transfer) ++ leaves_unless b pass)

-- a whole access

module _ (pool : ℕ) where
  -- in the generation in which the pass is entered
  pub steps_carry : (zs : List PureEntry) (w : World) (pass : PassId) (space : SpaceId) (addr : ℕ) (transfer : Transfer) (k : Led pool zs w)
      (e : is_entered w pass ≡ true) → AllCarry (within pool zs w pass k e).generation.places w (events_of_steps pass (steps_in w pass space addr transfer))
  steps_carry zs w pass space addr transfer k e =
      let i = within pool zs w pass k e in
      let x : Generation = i.generation in
      let among = ((subst (λ (z : World). EntersHeld z pass) k.leads
      (entered_generations_are_held pool most_passes zs k.legal pass)).numbered x i.here).2.among in
      let shown = every_taken (λ (y : Generation). ArePlacesOf pool y.forest y.places) _ w.writer.generations.kept
      (subst (λ (z : World). ShowsOwnPlaces pool z.writer) k.leads (generations_show_places pool most_passes zs k.legal)).shown in
      let places : ArePlacesOf pool x.forest x.places =
      every_element (λ (y : Generation). ArePlacesOf pool y.forest y.places) (held_generations w.writer.generations) x shown among in
      let edition : IsEdition x.forest x.places = record { made = i.made; pool_words = pool; places_of = places } in
      let stand : Every (λ p. place_in_world w p.region ≡ Some p) x.places =
      weaker (StandsIn w.writer.desk x) (λ p. place_in_world w p.region ≡ Some p) (λ p t. t.stands) x.places
      (every_element (λ (y : Generation). Every (StandsIn w.writer.desk y) y.places) (held_generations w.writer.generations) x
      (subst (λ (z : World). Every (λ y. Every (StandsIn z.writer.desk y) y.places) (held_generations z.writer.generations)) k.leads
      (held_places_stand pool most_passes zs k.legal)) among) in
      let reached : Every (OnPlace x.places) (access x.forest space addr transfer) =
      access_reached (published 0 x.forest x.places) edition space addr transfer in
      let same : access x.forest space addr transfer ≡ steps_in w pass space addr transfer =
      ap (λ (o : Option Generation). access (forest_at o) space addr transfer) (sym i.here) in
      let legal = (legal_steps pool zs w pass x space addr transfer k i.here i.made).legal in
      subst (λ (ds : List AccessStep). AllCarry x.places w (events_of_steps pass ds)) same
      (carry_steps pass x (access x.forest space addr transfer) w i.here stand reached legal)

  access_carries : (b : Bool) (zs : List PureEntry) (w : World) (pass : PassId) (space : SpaceId) (addr : ℕ) (transfer : Transfer) → Led pool zs w
      → is_entered w pass ≡ b → may_access w pass ≡ true
      → (places : List Place) × AllCarry places w (all_events b w pass space addr transfer)
  access_carries true zs w pass space addr transfer k e may =
      let places = (within pool zs w pass k e).generation.places in
      (places, carry_both places (events_of_steps pass (steps_in w pass space addr transfer)) [] w (steps_carry zs w pass space addr transfer k e) tt)
  access_carries false zs w pass space addr transfer k e may =
      let look : possible w (events.Look pass) ≡ true = may_look _ _ may e in
      let u : World = after_events w (enters pass) in
      let ds : List AccessStep = steps_in u pass space addr transfer in
      let v : World = after_events u (events_of_steps pass ds) in
      let in_u : is_entered u pass ≡ true = entered_by w pass look in
      let kept : KeepsAll u v = steps_keep pass ds u in
      let in_v : is_entered v pass ≡ true = ap (λ (ps : List PassState). is_some (pass_of ps pass).entered) kept.passes ∙ in_u in
      let us : List PureEntry = zs ++ (run_events w (enters pass)).entries in
      let vs : List PureEntry = us ++ (run_events u (events_of_steps pass ds)).entries in
      let on : Led pool us u = (enters_led pool zs w pass k look).led in
      let next : Led pool vs v = (steps_led pool us u pass space addr transfer on in_u).led in
      let places = (within pool us u pass on in_u).generation.places in (
        places,
        carry_both places (enters pass) (events_of_steps pass ds ++ leaves pass) w (carry_enters places w pass (may_enter w pass (orderly pool zs w k) look))
            (carry_both places (events_of_steps pass ds) (leaves pass) u (steps_carry us u pass space addr transfer on in_u)
            (carry_leaves places v pass (may_leave pool vs v pass next in_v))),
      )

-- their events are those of the access

events_both : (xs ys : List PureEntry) → map (λ y. y.event) (xs ++ ys) ≡ map (λ y. y.event) xs ++ map (λ y. y.event) ys
events_both [] ys = refl
events_both (x ∷ xs) ys = ap (λ (fs : List Event). x.event ∷ fs) (events_both xs ys)

events_of_access : (w : World) (pass : PassId) (space : SpaceId) (addr : ℕ) (transfer : Transfer)
    → map (λ y. y.event) (accessed w pass space addr transfer).entries ≡ all_events (is_entered w pass) w pass space addr transfer
events_of_access w pass space addr transfer =
    let b = is_entered w pass in
    let u : World = after_events w (enters_unless b pass) in
    let es : List Event = events_of_steps pass (steps_in u pass space addr transfer) in
    let v : World = after_events u es in
    events_both (run_events w (enters_unless b pass)).entries ((run_events u es).entries ++ (run_events v (leaves_unless b pass)).entries)
    ∙ (λ i. events_of_run (enters_unless b pass) w i ++ events_both (run_events u es).entries (run_events v (leaves_unless b pass)).entries i)
    ∙ (λ i. enters_unless b pass ++ (events_of_run es u i ++ events_of_run (leaves_unless b pass) v i))

pub accesses_may_follow : (pool_words : ℕ) (os : List Answered) (xs : List HistoryEntry) (pass : PassId) (space : SpaceId) (addr : ℕ) (transfer : Transfer)
    → let ts = turns (first_writer pool_words most_passes) os in let h = last_writer (first_writer pool_words most_passes) ts in
    let s = running.after_shared_entries (running.shared_opening (pool_words + notifier_count) most_passes) xs in
    running.IsSharedLegal (pool_words + notifier_count) most_passes xs → writers_of xs ≡ flat_map entries_of_turn ts
    → HasMadeForests h → may_access (world_shown h s) pass ≡ true
    → (ys : List HistoryEntry) × (map (λ y. y.event) ys ≡ map (λ y. y.event) (accessed (world_shown h s) pass space addr transfer).entries)
    × running.IsSharedLegal (pool_words + notifier_count) most_passes (xs ++ ys)
accesses_may_follow pool_words os xs pass space addr transfer legal same made may =
    let h = last_writer (first_writer pool_words most_passes) (turns (first_writer pool_words most_passes) os) in
    let s : Shared = running.after_shared_entries (running.shared_opening (pool_words + notifier_count) most_passes) xs in
    let zs : List PureEntry = joined_history (turns (first_writer pool_words most_passes) os) xs in
    let w : World = after_entries (opening pool_words most_passes) zs in
    let e : Ends h s w = ends pool_words most_passes os xs legal same in
    let shown : w ≡ world_shown h s = leads pool_words most_passes os xs legal same in
    let k : Led pool_words zs w = record {
      legal = (turns_join pool_words most_passes os xs legal same).legal;
      leads = refl;
      made = subst HasMadeForests (sym e.writer) made;
    } in
    let all = access_carries pool_words (is_entered w pass) zs w pass space addr transfer k refl
    (subst (λ (z : World). may_access z pass ≡ true) (sym shown) may) in
    let es : List Event = all_events (is_entered w pass) w pass space addr transfer in
    let c : Carries all.0 w e.words es = carry all.0 es w e.words e.coupled all.1 in (
      c.entries,
      ap (λ (ys : List HistoryEntry). map (λ y. y.event) ys) c.are ∙ events_are all.0 es (replies_of c.entries)
          ∙ sym (events_of_access w pass space addr transfer)
          ∙ ap (λ (z : World). map (λ y. y.event) (accessed z pass space addr transfer).entries) shown,
      shared_join xs c.entries (running.shared_opening (pool_words + notifier_count) most_passes) legal
          (subst (λ (z : Shared). running.IsSharedLegalFrom z c.entries) e.shows c.legal),
    )
