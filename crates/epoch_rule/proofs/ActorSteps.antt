-- The kinds of step on the current number, the passes' words and the slots.
use Rattle.epoch_rule.proofs.Common.{◌≡◌, ◌≢◌, ℕ, ◌+◌, ◌-◌, ◌%◌, ◌<◌, ◌≤◌, true, false, List, [], ◌∷◌, ◌++◌, length, get_or, set, sym, refl, ap, ◌∙◌, subst}
use Rattle.epoch_rule.proofs.Common.{arith, length-set, get_or-set_other, get_or-set_same, Option, Some, None, lt-ltb, le-leb, some, none, IsPrefix, get_elem?}
use Rattle.epoch_rule.proofs.Common.{set-get_or, Me, keeps, Allows, set_else, one_turn, Carried, Nothing, HistoryEntry, PassState, idle, pass_of, pass_id}
use Rattle.epoch_rule.proofs.Common.{Generation, Generations, PassTrack, known_of, known_after_sweep, with_placed, all_placed, pin_word, Shared, shared}
use Rattle.epoch_rule.proofs.Common.{shared_possible, shared_reply, after_shared_entry, Sizes, Picked, View, history_entry, generations_published}
use Rattle.epoch_rule.proofs.Common.{generation_published, first_generation, state_of, IsLegal, generation_of_pick, carried_pick, pass_seen, generations_seen}
use Rattle.epoch_rule.proofs.Common.{WordsShow, PlacesFit, PassSlots, SlotsOfPass, AllSlots, SeatKnows, IsRuled, ComesNext, arc_value, Arc, Forest, Place}
use Rattle.epoch_rule.proofs.Common.{IsCopy, picked, none_is_no_number, same_number, and_from, published_append, none_placed, append-nil, with_known}
use Rattle.epoch_rule.proofs.Common.{published_with, actor_of, Event, State, is_some, is_none, not, step, takes, gives, looks, announces, enters, leaves}
use Rattle.epoch_rule.proofs.Common.{sweeps, reaches, places, publishes, placed_as, all_of, every_at, every_push, same_Some, sound, nothing_known}
use mathlib.Core.Option as maybe
use Rattle.mem_base.specs.declared.machine.events.Event.TheVariants as events
use Rattle.epoch_rule.proofs.EntrySteps.{grown, knows_generations, inside, shows_moved, slots_moved, slots_known, makes, loaded, seats_set, knows_still}
use Rattle.epoch_rule.proofs.EntrySteps as of_slots
use Rattle.mem_base.specs.map.PassIds.{PassId}
use Rattle.epoch_rule.proofs.PassLaws.{pass_known}
use Rattle.mem_base.proofs.PassTurnLaws.{raises}
use Rattle.epoch_rule.specs.Layout.{word_of_pass, words_before_pool, slots_before, slot_of}
use Rattle.mem_base.specs.map.Limits.{most_generations}

module _ {S : Type 0} (Copy : ℕ → Generation → S → Type 0) (z : Sizes) where
  -- a step of the pass p, which leaves its part of the history, its word and its slots so
  moves : (s : State S View) (k : IsRuled Copy z s) (id : ℕ) (v : View) → get_elem? s.views id ≡ some v → (p : ℕ) → p < z.passes → v.role ≡ Some (p + 1)
      → (event : PassId → Event) (r : ℕ) (now : PassState) (x : ℕ) (homes' : List (maybe.Option S)) → actor_of (event (pass_id p)) ≡ p + 1
      → shared_possible (state_of z k.log) (event (pass_id p)) Nothing ≡ true → r ≡ shared_reply (state_of z k.log) (event (pass_id p)) Nothing
      → after_shared_entry (state_of z k.log) (history_entry (event (pass_id p)) Nothing r) ≡ (let st = state_of z k.log in
      shared st.generations (set st.passes p now) st.words)
      → published_with (generations_published k.log) (event (pass_id p)) Nothing ≡ generations_published k.log
      → x ≡ pin_word now.announced → length homes' ≡ length s.homes
      → ((u j : ℕ) → u ≢ p → j < most_generations → get_elem? homes' (slots_before u + j) ≡ get_elem? s.homes (slots_before u + j))
      → PassSlots Copy (state_of z k.log).generations.current (generations_published k.log) (known_of (state_of z k.log).generations (pass_id p))
      now.entered k.held (generation_of_pick k.next) homes' p
      → let w = grown v (k.log ++ history_entry (event (pass_id p)) Nothing r ∷ []) v.held v.next in
      IsRuled Copy z record { words = set s.words (word_of_pass p) x; homes = homes'; views = set s.views id w }
      × ((b : ℕ) → v.role ≡ Some (b + 1) → ComesNext (b + 1) v (event (pass_id b)) Nothing r w)
  moves s k id v at p near role event r now x homes' mine may is after quiet pin deep away here =
      let st : Shared = state_of z k.log in
      let gs : List Generation = generations_published k.log in
      let did = makes Copy z s k id v at (p + 1) (event (pass_id p)) Nothing r (shared st.generations (set st.passes p now) st.words) gs
      (set s.words (word_of_pass p) x) homes' k.held k.next v.held v.next role mine may is after quiet
      (shows_moved z st s.words k.shown p now x (sound z.words z.passes k.log k.lawful).many near pin) k.roomy
      (slots_moved Copy z.passes st gs k.held (generation_of_pick k.next) s.homes homes' p now (inside Copy z s k id v at p near) k.slots deep away here)
      (λ y. absurd (omega arith)) (λ y. (refl, refl)) in (
        did.0,
        λ b role'. let same : p ≡ b = (let e = same_number (p + 1) (b + 1) (sym role ∙ role') in omega arith) in
            subst (λ (y : ℕ). ComesNext (y + 1) v (event (pass_id y)) Nothing r
            (grown v (k.log ++ history_entry (event (pass_id p)) Nothing r ∷ []) v.held v.next)) same did.1,
      )

  pub look : (slots id : ℕ) (me : Me S View) (p : ℕ) → p < z.passes → me.0.role ≡ Some (p + 1) → (pass_seen p me.0).announced ≡ None
      → Allows (IsRuled Copy z) slots id me 0 (λ r. r) (looks Copy (step slots 0 0 0 none) me)
  look slots id me p near role out s k deep at small =
      let st : Shared = state_of z k.log in
      let r : ℕ = get_or s.words 0 0 in
      let knows = pass_known z k.log p me.0 near ((k.seats id me.0 at).all (p + 1) role) in
      let may : shared_possible st (events.Look (pass_id p)) Nothing ≡ true =
      and_from _ _ (lt-ltb p (length st.passes) (inside Copy z s k id me.0 at p near)) (ap (λ (h : PassState). is_none h.announced) knows ∙ ap is_none out) in
      let did = moves s k id me.0 at p near role events.Look r (record (pass_of st.passes (pass_id p)) { looked = Some r }) (get_or s.words (word_of_pass p) 0)
      s.homes refl may k.shown.current refl refl (k.shown.pins p near) refl (λ v j other l. refl) (k.slots.each p near) in
      let ruled = loaded Copy z _ s.words s.homes _ 0 (set-get_or s.words (word_of_pass p) 0) did.0 in
      let fits = subst (λ (c : ℕ). c + 1 < 18446744073709551616) (sym k.shown.current) k.shown.small in
      (_, keeps, tt, ruled, (refl, fits, did.1))

  pub announce : (slots id : ℕ) (me : Me S View) (p q : ℕ) → p < z.passes → me.0.role ≡ Some (p + 1) → (pass_seen p me.0).looked ≡ Some q
      → (pass_seen p me.0).announced ≡ None
      → Allows (IsRuled Copy z) slots id me (word_of_pass p) (λ _. q + 1) (λ _. announces Copy (step slots (word_of_pass p) (q + 1) 0 none) me (q + 1))
  announce slots id me p q near role there out s k deep at small =
      let st : Shared = state_of z k.log in
      let was : PassState = pass_of st.passes (pass_id p) in
      let knows = pass_known z k.log p me.0 near ((k.seats id me.0 at).all (p + 1) role) in
      let may : shared_possible st (events.Announce (pass_id p)) Nothing ≡ true =
      and_from _ _ (and_from _ _ (lt-ltb p (length st.passes) (inside Copy z s k id me.0 at p near))
      (ap (λ (h : PassState). is_some h.looked) knows ∙ ap is_some there)) (ap (λ (h : PassState). is_none h.announced) knows ∙ ap is_none out) in
      let did = moves s k id me.0 at p near role events.Announce 0 (record was { announced = was.looked }) (q + 1) s.homes refl may refl refl refl
      (ap pin_word (sym (ap (λ (h : PassState). h.looked) knows ∙ there))) refl (λ v j other l. refl) (k.slots.each p near) in
      (_, keeps, tt, did.0, (refl, did.1))

  pub enter : (slots id : ℕ) (me : Me S View) (p q : ℕ) → p < z.passes → me.0.role ≡ Some (p + 1) → (pass_seen p me.0).announced ≡ Some q
      → (pass_seen p me.0).entered ≡ None
      → Allows (IsRuled Copy z) slots id me 0 (λ r. r) (enters Copy (step slots 0 0 0 none) me)
  enter slots id me p q near role there out s k deep at small =
      let st : Shared = state_of z k.log in
      let gs : List Generation = generations_published k.log in
      let c : ℕ = st.generations.current in
      let r : ℕ = get_or s.words 0 0 in
      let ok = sound z.words z.passes k.log k.lawful in
      let knows = pass_known z k.log p me.0 near ((k.seats id me.0 at).all (p + 1) role) in
      let may : shared_possible st (events.Enter (pass_id p)) Nothing ≡ true =
      and_from _ _ (and_from _ _ (lt-ltb p (length st.passes) (inside Copy z s k id me.0 at p near))
      (ap (λ (h : PassState). is_some h.announced) knows ∙ ap is_some there)) (ap (λ (h : PassState). is_none h.entered) knows ∙ ap is_none out) in
      let is : r ≡ shared_reply st (events.Enter (pass_id p)) Nothing = k.shown.current in
      let low = (ok.each p near).low in
      let mine_slots = subst (λ (e : Option ℕ). PassSlots Copy c gs (known_of st.generations (pass_id p)) e k.held (generation_of_pick k.next) s.homes p)
      (ap (λ (h : PassState). h.entered) knows ∙ out) (k.slots.each p near) in
      let copy = mine_slots.kept c low (omega arith) (λ e. none_is_no_number c e) in
      let i : ℕ = slot_of p r in
      let log' : List HistoryEntry = k.log ++ history_entry (events.Enter (pass_id p)) Nothing r ∷ [] in
      let did = moves s k id me.0 at p near role events.Enter r (record (pass_of st.passes (pass_id p)) { entered = Some r })
      (get_or s.words (word_of_pass p) 0)
      (set s.homes i none) refl may is refl refl (k.shown.pins p near) (length-set s.homes i none)
      (λ v j other l. set_else s.homes i (slots_before v + j) none (λ y. other (omega arith)))
      (subst (λ (n : ℕ). PassSlots Copy c gs (known_of st.generations (pass_id p)) (Some n) k.held (generation_of_pick k.next)
      (set s.homes (slot_of p n) none) p) (sym is) (of_slots.entered Copy c gs _ k.held _ s.homes p low (ok.each p near).near mine_slots)) in
      let same_gs : gs ≡ generations_published log' = sym (published_append k.log _ (first_generation ∷ [])) in (
        _,
        takes i copy.0,
        subst (λ (n : ℕ). get_elem? s.homes (slot_of p n) ≡ some (some copy.0)) (sym is) copy.1,
        loaded Copy z _ s.words _ _ 0 (set-get_or s.words (word_of_pass p) 0) did.0,
        (λ b role'. let same : p ≡ b = (let e = same_number (p + 1) (b + 1) (sym role ∙ role') in omega arith) in (
          did.1 b role',
          (
            copy.0,
            ap (λ (y : ℕ). (slot_of y r, copy.0) ∷ me.1) same,
            subst (λ (l : List Generation). Copy r (get_or l r first_generation) copy.0) same_gs
                (subst (λ (n : ℕ). Copy n (get_or gs n first_generation) copy.0) (sym is) copy.2),
          ),
          subst (λ (l : List Generation). PlacesFit me.0.sizes.words (get_or l r first_generation)) same_gs
              (subst (λ (y : Sizes). PlacesFit y.words (get_or gs r first_generation)) (sym ((k.seats id me.0 at).knows (p + 1) role))
              (every_at (PlacesFit z.words) gs r first_generation (let n = ok.counted in omega arith) k.roomy)),
        )),
      )

  pub leave : (slots id : ℕ) (me : Me S View) (p g : ℕ) (y : S) → p < z.passes → slots ≡ slots_before z.passes → me.0.role ≡ Some (p + 1)
      → (pass_seen p me.0).entered ≡ Some g → me.1 ≡ (slot_of p g, y) ∷ []
      → ((log : List HistoryEntry) → me.0.sizes ≡ z → IsLegal z log → IsPrefix me.0.seen log → Copy g (generation_published log g) y)
      → Allows (IsRuled Copy z) slots id me (word_of_pass p) (λ _. 0) (λ _. leaves Copy (step slots (word_of_pass p) 0 0 none) me 0)
  leave slots id me p g y near wide role there carries copies s k deep at small =
      let st : Shared = state_of z k.log in
      let gs : List Generation = generations_published k.log in
      let c : ℕ = st.generations.current in
      let knows = pass_known z k.log p me.0 near ((k.seats id me.0 at).all (p + 1) role) in
      let may : shared_possible st (events.Leave (pass_id p)) Nothing ≡ true = and_from _ _ (lt-ltb p (length st.passes) (inside Copy z s k id me.0 at p near))
      (ap (λ (h : PassState). is_some h.entered) knows ∙ ap is_some there) in
      let busy : (pass_of st.passes (pass_id p)).entered ≡ Some g = ap (λ (h : PassState). h.entered) knows ∙ there in
      let numbers = (sound z.words z.passes k.log k.lawful).each p near in
      let t = numbers.entered g busy in
      let next : Generation = generation_of_pick k.next in
      let i : ℕ = slot_of p g in
      let room : slots_before p + most_generations ≤ length s.homes = omega arith in
      let seat = k.seats id me.0 at in
      let did = moves s k id me.0 at p near role events.Leave 0 idle 0 (set s.homes i (some y)) refl may refl refl refl refl (length-set s.homes i (some y))
      (λ v j other l. set_else s.homes i (slots_before v + j) (some y) (λ q. other (omega arith)))
      (of_slots.left Copy c gs (known_of st.generations (pass_id p)) g k.held next s.homes p y t.3 t.4 numbers.near numbers.placed room
      (copies k.log (seat.knows (p + 1) role) k.lawful seat.begins)
      (subst (λ (e : Option ℕ). PassSlots Copy c gs (known_of st.generations (pass_id p)) e k.held next s.homes p) busy (k.slots.each p near))) in
      rw carries (_, gives, tt, did.0, (refl, did.1))

  -- a step of the writer about the pass p, which leaves what is known of the pass, its slots and what the writer holds so
  tracks : (s : State S View) (k : IsRuled Copy z s) (id : ℕ) (v : View) → get_elem? s.views id ≡ some v → (p : ℕ) → p < z.passes → v.role ≡ Some 0
      → (event : PassId → Event) (r : ℕ) (f : PassTrack) (homes' : List (maybe.Option S)) (held' : ℕ) (next' : Picked) (h : ℕ) (q : Picked)
      → actor_of (event (pass_id p)) ≡ 0
      → shared_possible (state_of z k.log) (event (pass_id p)) Nothing ≡ true → r ≡ shared_reply (state_of z k.log) (event (pass_id p)) Nothing
      → after_shared_entry (state_of z k.log) (history_entry (event (pass_id p)) Nothing r) ≡ (let st = state_of z k.log in
      shared (with_known st.generations (pass_id p) f) st.passes st.words)
      → published_with (generations_published k.log) (event (pass_id p)) Nothing ≡ generations_published k.log → length homes' ≡ length s.homes
      → ((u j : ℕ) → u ≢ p → j < most_generations → get_elem? homes' (slots_before u + j) ≡ get_elem? s.homes (slots_before u + j))
      → ((u : ℕ) → u ≢ p → u < z.passes → (held' ≡ u + 1 → k.held ≡ u + 1) × (k.held ≡ u + 1 → held' ≡ u + 1)
      × ((known_of (state_of z k.log).generations (pass_id u)).placed ≡ true → generation_of_pick next' ≡ generation_of_pick k.next))
      → PassSlots Copy (state_of z k.log).generations.current (generations_published k.log) f (pass_of (state_of z k.log).passes (pass_id p)).entered
      held' (generation_of_pick next') homes' p
      → (h ≡ held') × (q ≡ next')
      → let w = grown v (k.log ++ history_entry (event (pass_id p)) Nothing r ∷ []) h q in
      IsRuled Copy z record { words = set s.words (word_of_pass p) (get_or s.words (word_of_pass p) 0); homes = homes'; views = set s.views id w }
      × ((b : ℕ) → word_of_pass p ≡ word_of_pass b → ComesNext 0 v (event (pass_id b)) Nothing r w)
  tracks s k id v at p near role event r f homes' held' next' h q mine may is after quiet deep away told here hold =
      let st : Shared = state_of z k.log in
      let gs : List Generation = generations_published k.log in
      let known = (sound z.words z.passes k.log k.lawful).known in
      let shown : WordsShow z (shared (with_known st.generations (pass_id p) f) st.passes st.words) s.words =
      record { wide = k.shown.wide; current = k.shown.current; small = k.shown.small; pins = k.shown.pins; pool = k.shown.pool } in
      let did = makes Copy z s k id v at 0 (event (pass_id p)) Nothing r (shared (with_known st.generations (pass_id p) f) st.passes st.words) gs
      s.words homes' held' next' h q role mine may is after quiet shown k.roomy
      (slots_known Copy z.passes st gs k.held held' (generation_of_pick k.next) (generation_of_pick next') s.homes homes' p f (omega arith) k.slots
      deep away told here) (λ _. hold) (λ y. absurd (y refl)) in (
        loaded Copy z s.words s.words _ _ (word_of_pass p) refl did.0,
        λ b word. let same : p ≡ b = omega arith in subst (λ (y : ℕ). ComesNext 0 v (event (pass_id y)) Nothing r
            (grown v (k.log ++ history_entry (event (pass_id p)) Nothing r ∷ []) h q)) same did.1,
      )

  pub sweep : (slots id : ℕ) (me : Me S View) (p : ℕ) → p < z.passes → me.0.role ≡ Some 0
      → Allows (IsRuled Copy z) slots id me (word_of_pass p) (λ r. r) (sweeps Copy (step slots (word_of_pass p) 0 0 none) me)
  sweep slots id me p near role s k deep at small =
      let st : Shared = state_of z k.log in
      let c : ℕ = st.generations.current in
      let r : ℕ = get_or s.words (word_of_pass p) 0 in
      let was : PassTrack = known_of st.generations (pass_id p) in
      let now : PassTrack = known_after_sweep c was r in
      let n = (k.seats id me.0 at).counts role in
      let did = tracks s k id me.0 at p near role events.Sweep r now s.homes k.held k.next me.0.held me.0.next refl
      (lt-ltb p (length st.passes) (inside Copy z s k id me.0 at p near)) (k.shown.pins p near) refl refl refl (λ v j other l. refl)
      (λ v other l. ((λ q. q), (λ q. q), (λ _. refl)))
      (of_slots.swept Copy c (generations_published k.log) was now _ k.held _ s.homes p
      (raises c was r ((sound z.words z.passes k.log k.lawful).each p near).low) refl (k.slots.each p near)) (n.1, n.2) in
      (_, keeps, tt, did.0, (refl, (refl, refl), did.1))

  -- with a load of the pass's word the writer takes the slot for the next generation: no event
  pub reach : (slots id : ℕ) (me : Me S View) (p : ℕ) → p < z.passes → me.0.role ≡ Some 0 → me.0.held ≡ 0 → me.1 ≡ []
      → (generations_seen me.0).current ≤ (known_of (generations_seen me.0) (pass_id p)).lowest + (most_generations - 2)
      → (known_of (generations_seen me.0) (pass_id p)).placed ≡ false
      → Allows (IsRuled Copy z) slots id me (word_of_pass p) (λ r. r) (reaches Copy (step slots (word_of_pass p) 0 0 none) me)
  reach slots id me p near role idle_hand empty close free s k deep at small =
      let st : Shared = state_of z k.log in
      let gs : List Generation = generations_published k.log in
      let c : ℕ = st.generations.current in
      let seat = k.seats id me.0 at in
      let knows = knows_generations Copy z s k id me.0 at role in
      let none_held : k.held ≡ 0 = sym (seat.counts role).1 ∙ idle_hand in
      let was : PassTrack = known_of st.generations (pass_id p) in
      let next : Generation = generation_of_pick k.next in
      let close' : c ≤ was.lowest + (most_generations - 2) =
      subst (λ (d : Generations). d.current ≤ (known_of d (pass_id p)).lowest + (most_generations - 2)) (sym knows) close in
      let free' : was.placed ≡ false = ap (λ (d : Generations). (known_of d (pass_id p)).placed) knows ∙ free in
      let ok = (sound z.words z.passes k.log k.lawful).each p near in
      let mine_slots : PassSlots Copy c gs was (pass_of st.passes (pass_id p)).entered 0 next s.homes p =
      subst (λ (h : ℕ). SlotsOfPass Copy st gs h next s.homes p) none_held (k.slots.each p near) in
      let i : ℕ = slot_of p (c + 1) in
      let home = mine_slots.home ((c + 1) % most_generations) (omega arith) (λ g e q. let t = ok.entered g e in let a = t.3 in let b = t.4 in
      let y = one_turn g (c + 1) most_generations (omega arith) (omega arith) (sym q) in absurd (omega arith)) (λ y. absurd (omega arith)) in
      let homes' : List (maybe.Option S) = set s.homes i none in
      let v' : View = record me.0 { held = p + 1 } in
      let known = (sound z.words z.passes k.log k.lawful).known in
      let slots' : AllSlots Copy z.passes st gs (p + 1) next homes' =
      subst (λ (ps : List PassTrack). AllSlots Copy z.passes (shared (record st.generations { passes = ps }) st.passes st.words) gs (p + 1) next homes')
      (set-get_or st.generations.passes p nothing_known) (slots_known Copy z.passes st gs k.held (p + 1) next next s.homes homes' p was (omega arith) k.slots
      (length-set s.homes i none) (λ v j other l. set_else s.homes i (slots_before v + j) none (λ y. other (omega arith)))
      (λ v other l. ((λ y. absurd (other (omega arith))), (λ y. absurd (omega arith)), (λ _. refl)))
      (of_slots.reached Copy c gs was (pass_of st.passes (pass_id p)).entered next s.homes p close' free' mine_slots)) in rw empty (
        v',
        takes i home.0,
        home.1,
        loaded Copy z s.words s.words homes' (set s.views id v') (word_of_pass p) refl record {
          log = k.log;
          lawful = k.lawful;
          shown = k.shown;
          roomy = k.roomy;
          owner = k.owner;
          out = k.out;
          rest = k.rest;
          held = p + 1;
          next = k.next;
          slots = slots';
          seats = seats_set (λ j w. SeatKnows z k.log k.owner k.out (p + 1) k.next j w) s.views id v'
              (knows_still me.0 me.0.out (p + 1) me.0.next seat ([], append-nil k.log) (λ a is. refl) (λ a is. refl) (λ q is. refl)
              (λ is. let n = seat.counts is in ((n.0, refl, n.2), λ q l. (l, refl))))
              (λ j w other there. let f = k.seats j w there in
              knows_still w w.out w.held w.next f ([], append-nil k.log) (λ a is. refl) (λ a is. refl) (λ q is. refl)
              (λ is. absurd (other (sym (f.sits 0 is) ∙ seat.sits 0 role))));
        },
        (λ b word. let same : p ≡ b = omega arith in (
          ap (λ (y : ℕ). record me.0 { held = y + 1 }) same,
          (
            home.0,
            ap (λ (y : ℕ × ℕ). (slot_of y.0 (y.1 + 1), home.0) ∷ []) (λ i. (same i, ap (λ (d : Generations). d.current) knows i)),
          ),
        )),
      )

  pub place : (slots id : ℕ) (me : Me S View) (p : ℕ) (m : Picked) (y : S) → p < z.passes → slots ≡ slots_before z.passes
      → me.0.role ≡ Some 0 → me.0.held ≡ p + 1
      → me.1 ≡ (slot_of p ((generations_seen me.0).current + 1), y) ∷ []
      → Copy ((generations_seen me.0).current + 1) (generation_of_pick m) y
      → ((v : ℕ) → (known_of (generations_seen me.0) (pass_id v)).placed ≡ true → me.0.next ≡ m)
      → Allows (IsRuled Copy z) slots id me (word_of_pass p) (λ r. r) (places Copy m (step slots (word_of_pass p) 0 0 none) me)
  place slots id me p m y near wide role holding carries copy alike s k deep at small =
      let st : Shared = state_of z k.log in
      let gs : List Generation = generations_published k.log in
      let c : ℕ = st.generations.current in
      let counts = (k.seats id me.0 at).counts role in
      let knows = knows_generations Copy z s k id me.0 at role in
      let here_held : k.held ≡ p + 1 = sym counts.1 ∙ holding in
      let was : PassTrack = known_of st.generations (pass_id p) in
      let next : Generation = generation_of_pick k.next in
      let mine_slots : PassSlots Copy c gs was (pass_of st.passes (pass_id p)).entered (p + 1) next s.homes p =
      subst (λ (h : ℕ). SlotsOfPass Copy st gs h next s.homes p) here_held (k.slots.each p near) in
      let clear = mine_slots.clear refl in
      let may : shared_possible st (events.Place (pass_id p)) Nothing ≡ true =
      and_from _ _ (le-leb _ _ clear.0) (and_from _ _ (lt-ltb p (length st.passes) (inside Copy z s k id me.0 at p near)) (ap not clear.1)) in
      let i : ℕ = slot_of p (c + 1) in
      let room : slots_before p + most_generations ≤ length s.homes = omega arith in
      let did = tracks s k id me.0 at p near role events.Place 0 (with_placed true was) (set s.homes i (some y)) 0 m 0 m refl may refl refl refl
      (length-set s.homes i (some y)) (λ v j other l. set_else s.homes i (slots_before v + j) (some y) (λ q. other (omega arith)))
      (λ v other l. (
        (λ q. absurd (omega arith)),
        (λ q. absurd (other (omega arith))),
        λ b. ap generation_of_pick (sym (sym counts.2 ∙ alike v (sym (ap (λ (d : Generations). (known_of d (pass_id v)).placed) knows) ∙ b))),
      ))
      (of_slots.placed Copy c gs was (pass_of st.passes (pass_id p)).entered next (generation_of_pick m) s.homes p y room
      (subst (λ (d : Generations). Copy (d.current + 1) (generation_of_pick m) y) (sym knows) copy) mine_slots) (refl, refl) in
      let same_slot : slot_of p ((generations_seen me.0).current + 1) ≡ i = ap (λ (d : Generations). slot_of p (d.current + 1)) (sym knows) in
      rw (carries, same_slot) (_, gives, tt, did.0, (refl, refl, refl, did.1))

  pub publish : (slots id : ℕ) (me : Me S View) (new : ℕ) → me.0.role ≡ Some 0 → new ≡ (generations_seen me.0).current + 1
      → all_placed (generations_seen me.0).passes ≡ true → new + 1 < 18446744073709551616 → PlacesFit z.words (generation_of_pick me.0.next)
      → Allows (IsRuled Copy z) slots id me 0 (λ _. new) (λ _. publishes Copy (step slots 0 new 0 none) me new)
  publish slots id me new role next full fits roomy s k deep at small =
      let st : Shared = state_of z k.log in
      let gs : List Generation = generations_published k.log in
      let c : ℕ = st.generations.current in
      let seat = k.seats id me.0 at in
      let knows = knows_generations Copy z s k id me.0 at role in
      let m : Generation = generation_of_pick me.0.next in
      let x : Carried = carried_pick me.0.next in
      let next_is : k.next ≡ me.0.next = sym (seat.counts role).2 in
      let may : shared_possible st events.Publish x ≡ true = ap (λ (d : Generations). all_placed d.passes) knows ∙ full in
      let is : new ≡ c + 1 = next ∙ ap (λ (d : Generations). d.current + 1) (sym knows) in
      let ok = sound z.words z.passes k.log k.lawful in
      let shown : WordsShow z (after_shared_entry st (history_entry events.Publish x new)) (set s.words 0 new) = record {
        wide = length-set s.words 0 new ∙ k.shown.wide;
        current = get_or-set_same s.words 0 new 0 (let w = k.shown.wide in omega arith) ∙ is;
        small = let a = is in omega arith;
        pins = λ v l. get_or-set_other s.words 0 (word_of_pass v) new 0 (λ q. omega arith) ∙ k.shown.pins v l;
        pool = λ i l. get_or-set_other s.words 0 (words_before_pool z.passes + i) new 0 (λ q. omega arith) ∙ k.shown.pool i l;
      } in
      let slots' : AllSlots Copy z.passes (after_shared_entry st (history_entry events.Publish x new)) (gs ++ m ∷ []) k.held
      (generation_of_pick k.next) s.homes = record {
        deep = k.slots.deep;
        each = λ v l. let near : v < length st.generations.passes = (let n = ok.known in omega arith) in
            subst (λ (f : PassTrack). PassSlots Copy (c + 1) (gs ++ m ∷ []) f (pass_of st.passes (pass_id v)).entered k.held
            (generation_of_pick k.next) s.homes v) (sym (none_placed st.generations.passes v))
            (subst (λ (q : Picked). PassSlots Copy (c + 1) (gs ++ m ∷ []) (with_placed false (known_of st.generations (pass_id v)))
            (pass_of st.passes (pass_id v)).entered k.held (generation_of_pick q) s.homes v) (sym next_is)
            (of_slots.published Copy c gs (known_of st.generations (pass_id v)) (pass_of st.passes (pass_id v)).entered k.held m s.homes v ok.counted
            (all_of st.generations.passes v may near)
            (subst (λ (q : Picked). SlotsOfPass Copy st gs k.held (generation_of_pick q) s.homes v) next_is (k.slots.each v l))));
      } in
      let did = makes Copy z s k id me.0 at 0 events.Publish x new _ _ (set s.words 0 new) s.homes k.held k.next me.0.held me.0.next role refl may is refl refl
      shown (every_push (PlacesFit z.words) gs m k.roomy roomy) slots' (λ _. let n = seat.counts role in (n.1, n.2)) (λ q. absurd (q refl)) in
      (_, keeps, tt, did.0, (refl, (refl, refl), did.1))

-- for a play that names what was picked by the value in hand
pub place_as : {E Y : Type 0} (number : E → ℕ) (forest : E → Forest) (places : E → List Place) (z : Sizes) (slots id : ℕ) (me : Me (Option (Arc E Y)) View)
    (p : ℕ) (a : Arc E Y) → p < z.passes → slots ≡ slots_before z.passes → me.0.role ≡ Some 0 → me.0.held ≡ p + 1
    → me.1 ≡ (slot_of p ((generations_seen me.0).current + 1), Some a) ∷ [] → number (arc_value a) ≡ (generations_seen me.0).current + 1
    → ((v : ℕ) → (known_of (generations_seen me.0) (pass_id v)).placed ≡ true → me.0.next ≡ picked forest places (arc_value a))
    → Allows (IsRuled (IsCopy number forest places) z) slots id me (word_of_pass p) (λ r. r) (placed_as forest places (step slots (word_of_pass p) 0 0 none) me)
place_as {E} {Y} number forest places z slots id me p a near wide role holding carries num alike s k deep at small =
    let did = place (IsCopy number forest places) z slots id me p (picked forest places (arc_value a)) (Some a) near wide role holding carries
    (a, refl, num, refl) alike s k deep at small in
    let same : (i : ℕ) (b : Arc E Y) → me.1 ≡ (i, Some b) ∷ [] → picked forest places (arc_value a) ≡ picked forest places (arc_value b) =
    λ i b is. ap (λ x. picked forest places (arc_value x))
    (same_Some a b (ap (λ (l : List (ℕ × Option (Arc E Y))). (get_or l 0 (0, Some a)).1) (sym carries ∙ is))) in
    (did.0, did.1, did.2, did.3, λ i b is. (did.4.0, did.4.1, did.4.2 ∙ same i b is, did.4.3))
