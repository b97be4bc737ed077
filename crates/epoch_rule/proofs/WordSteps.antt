-- The steps on the cabinet's words.
use Rattle.epoch_rule.proofs.Common.{◌≡◌, ℕ, ◌+◌, ◌-◌, ◌<◌, ◌≤◌, eqb, Bool, true, false, List, length, get_or, set, sym, refl, ap, ◌∙◌, subst, arith}
use Rattle.epoch_rule.proofs.Common.{Some, MatchBool, lt-ltb, le-leb, eqb-true, some, get_elem?, State, Me, keeps, Allows, Place, Event, At, HistoryEntry}
use Rattle.epoch_rule.proofs.Common.{word_after, pass_of, Generation, entered_generation, Shared, shared, shared_reply, after_shared_entry, Sizes, View}
use Rattle.epoch_rule.proofs.Common.{pass_id, history_entry, generations_published, generation_published, first_generation, state_of, IsLegal, WordsShow}
use Rattle.epoch_rule.proofs.Common.{IsRuled, sound, WordWas, HadWord, slice_get, Act, Valid, stepped, carried_after, words_after, generation_at, PoolTouch}
use Rattle.epoch_rule.proofs.Common.{pool_after, old_in, told_by, touched, IsStepReady}
use Rattle.epoch_rule.proofs.SeatSteps.{peek}
use prog.Atomic.{either}
use Rattle.epoch_rule.proofs.EntrySteps.{makes, shows_touched}
use Rattle.std.proofs.lemmas.Option.{slice_get-get_or}
use Rattle.epoch_rule.specs.Layout.{words_before_pool}

-- a pass that is entered is in the generation that its Publish carried
pub entered_is : (z : Sizes) (log : List HistoryEntry) → IsLegal z log → (v : ℕ) → v < z.passes → (g : ℕ)
    → (pass_of (state_of z log).passes (pass_id v)).entered ≡ Some g
    → entered_generation (state_of z log).generations (state_of z log).passes (pass_id v) ≡ Some (generation_published log g)
entered_is z log l v near g is =
    let st : Shared = state_of z log in
    let c : ℕ = st.generations.current in
    let ok = sound z.words z.passes log l in
    let n = ok.each v near in
    let t = n.entered g is in
    let low = n.near in
    let below : g ≤ c = t.4 in
    let many = ok.many in
    let counted = ok.counted in
    let there : slice_get st.generations.kept (c - g) ≡ Some (generation_published log g) = ok.kept g below (let a = t.3 in omega arith)
    ∙ slice_get-get_or (generations_published log) g first_generation (omega arith) in
    rw (lt-ltb v (length st.passes) (omega arith)) (ap (generation_at st.generations) is ∙ rw (le-leb g c below) there)

module _ {S : Type 0} (Copy : ℕ → Generation → S → Type 0) (z : Sizes) where
  -- a word of the table is what the history leaves
  had_word : (s : State S View) (k : IsRuled Copy z s) (id : ℕ) (me : Me S View) → get_elem? s.views id ≡ some me.0 → (a : ℕ) → me.0.role ≡ Some a
      → (word : ℕ) → word < z.words → HadWord me.0.sizes me.0.seen word (get_or s.words (words_before_pool z.passes + word) 0) k.log
  had_word s k id me at a role word inside = let seat = k.seats id me.0 at in record {
    begins = seat.begins;
    lawful = subst (λ (y : Sizes). IsLegal y k.log) (sym (seat.knows a role)) k.lawful;
    value = subst (λ (y : Sizes). get_or (state_of y k.log).words word 0 ≡ get_or s.words (words_before_pool z.passes + word) 0) (sym (seat.knows a role))
        (sym (k.shown.pool word inside));
  }

  -- one atomic step on a word of the cabinet, whatever it is
  touch : (slots id : ℕ) (me : Me S View) (a : ℕ) (e : Event) (p : Place) (t : PoolTouch) (f : ℕ → ℕ) → IsStepReady z me.0 a e p t
      → ((n : ℕ) → n < 18446744073709551616 → f n ≡ word_after t.touch.step n)
      → Allows (IsRuled Copy z) slots id me (words_before_pool z.passes + t.word) f (λ r. touched a e p t me r)
  touch slots id me a e p t f ready does s k deep at small =
      let kind = ready.kind in
      let st : Shared = state_of z k.log in
      let gs : List Generation = generations_published k.log in
      let ok = sound z.words z.passes k.log k.lawful in
      let seat = k.seats id me.0 at in
      let i : ℕ = words_before_pool z.passes + t.word in
      let old : ℕ = get_or s.words i 0 in
      let r : ℕ = told_by t old in
      let same : old ≡ get_or st.words t.word 0 = k.shown.pool t.word ready.inside in
      let may = ready.may k.log (seat.knows a ready.role) k.lawful seat.begins (seat.all a ready.role) in
      let is : r ≡ shared_reply st e (At p) = ap (told_by t) same ∙ ap (old_in st.words) (sym kind.is) in
      let after : after_shared_entry st (history_entry e (At p) r) ≡ shared st.generations st.passes (words_after st.words t.word t.touch.step) =
      (λ j. shared (kind.generations st.generations r j) (kind.passes st.passes r j) (pool_after st.words (kind.is j))) in
      let new : f old ≡ word_after t.touch.step (get_or st.words t.word 0) = does old small ∙ ap (word_after t.touch.step) same in
      let now : ℕ = word_after t.touch.step (get_or st.words t.word 0) in
      let did = makes Copy z s k id me.0 at a e (At p) r (shared st.generations st.passes (set st.words t.word now)) gs (set s.words i (f old)) s.homes
      k.held k.next me.0.held me.0.next ready.role kind.mine may is after (kind.published gs)
      (subst (λ (y : ℕ). WordsShow z (shared st.generations st.passes (set st.words t.word now)) (set s.words i y)) (sym new)
      (shows_touched z st s.words k.shown t.word now ok.wide ready.inside)) k.roomy record { deep = k.slots.deep; each = k.slots.each }
      (λ o. let n = seat.counts (ready.role ∙ ap (λ (y : ℕ). Some y) o) in (n.1, n.2)) (λ o. (refl, refl)) in
      (_, keeps, tt, did.0, (refl, (refl, refl), did.1, (k.log, had_word s k id me at a ready.role t.word ready.inside, refl)))

  -- the same for a step that is ready, at the word's own number
  pub ready_touch : (slots id : ℕ) (me : Me S View) (a : ℕ) (e : Event) (p : Place) (t : PoolTouch) (index : ℕ) (f : ℕ → ℕ) → IsStepReady z me.0 a e p t
      → index ≡ words_before_pool z.passes + t.word
      → ((n : ℕ) → n < 18446744073709551616 → f n ≡ word_after t.touch.step n)
      → Allows (IsRuled Copy z) slots id me index f (λ r. touched a e p t me r)
  ready_touch slots id me a e p t index f r is does =
      subst (λ (i : ℕ). Allows (IsRuled Copy z) slots id me i f (λ n. touched a e p t me n)) (sym is)
      (touch slots id me a e p t f r does)

  -- a step that tells not what it found
  pub ready_store : (slots id : ℕ) (me : Me S View) (a : ℕ) (e : Event) (p : Place) (t : PoolTouch) (index value : ℕ) → IsStepReady z me.0 a e p t
      → index ≡ words_before_pool z.passes + t.word
      → ((n : ℕ) → n < 18446744073709551616 → value ≡ word_after t.touch.step n)
      → Allows (IsRuled Copy z) slots id me index (λ _. value) (λ _ w. (old : ℕ) × touched a e p t me old w)
  ready_store slots id me a e p t index value r is does s k deep at small =
      let did = ready_touch slots id me a e p t index (λ _. value) r is does s k deep at small in (did.0, did.1, did.2, did.3, (get_or s.words index 0, did.4))

  -- a load that shows no event
  pub ready_look : (slots id : ℕ) (me : Me S View) (a : ℕ) (e : Event) (p : Place) (t : PoolTouch) (index : ℕ) → IsStepReady z me.0 a e p t
      → index ≡ words_before_pool z.passes + t.word
      → Allows (IsRuled Copy z) slots id me index (λ n. n) (λ r w. (w ≡ me) × WordWas me.0.sizes me.0.seen t.word r)
  ready_look slots id me a e p t index r is s k deep at small =
      let did = peek Copy z slots id me index s k deep at small in
      let had = subst (λ (j : ℕ). HadWord me.0.sizes me.0.seen t.word (get_or s.words j 0) k.log) (sym is) (had_word s k id me at a r.role t.word r.inside) in
      (did.0, did.1, did.2, did.3, (did.4, (k.log, had)))

  -- a compare-exchange
  pub ready_try : (slots id : ℕ) (me : Me S View) (a : ℕ) (e : Event) (p : Place) (t : PoolTouch) (index old new : ℕ) → IsStepReady z me.0 a e p t
      → index ≡ words_before_pool z.passes + t.word
      → new ≡ word_after t.touch.step old
      → Allows (IsRuled Copy z) slots id me index (λ n. either (eqb n old) new n) (λ r w. MatchBool (eqb r old) (touched a e p t me r w)
      ((w ≡ me) × WordWas me.0.sizes me.0.seen t.word r))
  ready_try slots id me a e p t index old new r is does s k deep at small = go (eqb (get_or s.words index 0) old) refl
    where
      go : (b : Bool) → eqb (get_or s.words index 0) old ≡ b → (w : View) × (x : Act S) × Valid s.homes me.1 x
          × IsRuled Copy z (stepped s index (either b new (get_or s.words index 0)) id me.1 w x)
          × MatchBool b (touched a e p t me (get_or s.words index 0) (w, carried_after me.1 x))
          (((w, carried_after me.1 x) ≡ me) × WordWas me.0.sizes me.0.seen t.word (get_or s.words index 0))
      go true same =
          let hit : get_or s.words index 0 ≡ old = eqb-true _ _ same in
          let did = ready_touch slots id me a e p t index (λ n. word_after t.touch.step n) r is (λ n l. refl) s k deep at small in (
            did.0,
            did.1,
            did.2,
            subst (λ (n : ℕ). IsRuled Copy z (stepped s index n id me.1 did.0 did.1)) (ap (word_after t.touch.step) hit ∙ sym does) did.3,
            did.4,
          )
      go false other = let did = ready_look slots id me a e p t index r is s k deep at small in (did.0, did.1, did.2, did.3, did.4)
