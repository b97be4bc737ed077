-- What holds after every legal history of the running machine.
use Rattle.std.proofs.Common.{◌≡◌, ℕ, zero, suc, ◌+◌, ◌-◌, ◌<◌, ◌≤◌, max, ne_eqb, true, false, List, [], ◌∷◌, ◌++◌, length, get_or, set}
use Rattle.std.proofs.Common.{sym, refl, ap, ◌∙◌, subst, arith, length-set, length-append, map, take, get_or-set_other, get_or-set_same}
use Rattle.std.proofs.Common.{Option, Some, None}
use Rattle.std.specs.Prelude.{is_some, slice_get}
use Rattle.std.proofs.lemmas.Bool.{ltb-true, leb-true, and_parts}
use mathlib.Core.Logic.{dite}
use native.Mathlib.Decide.{ℕ_discrete}
use lib.ListN.{length-replicate, get_or-replicate, length-map}
use Rattle.mem_base.specs.declared.machine.events.Event.{Event}
use Rattle.mem_base.specs.declared.machine.events.Event.TheVariants as events
use Rattle.mem_base.specs.declared.machine.events.Carried.{Carried}
use Rattle.mem_base.specs.declared.machine.events.Carried.TheVariants.{Nothing, Edition, At}
use Rattle.mem_base.specs.declared.machine.events.HistoryEntry.{HistoryEntry}
use Rattle.mem_base.specs.machine.Passes.{PassState, idle, pass_id, pass_of, with_pass}
use Rattle.mem_base.specs.machine.Generations.{Generation, generation, PassTrack, nothing_known, known_of, known_after_sweep, with_known}
use Rattle.mem_base.specs.machine.Generations.{with_placed, pin_word, all_placed}
use Rattle.mem_base.specs.machine.SharedHistory.{Shared, shared, PoolTouch, pool_after, pool_touch_of, shared_possible, shared_reply}
use Rattle.mem_base.specs.machine.SharedHistory.{after_shared_entry, after_shared_entries, shared_opening, IsSharedLegalFrom}
use Rattle.mem_base.specs.machine.Actors.{published_with, published_from, first_generation}
use Rattle.mem_base.specs.machine.Turns.{history_entry}
use Rattle.history_laws.specs.Numbers.{InNumbers, HasSoundNumbers, SharedHistoriesAreSound}
use Rattle.view_laws.proofs.Tests.{none_is_no_number, same_number, none_of}

-- one pass, by each kind of event

looks : (c : ℕ) (k : PassTrack) (p : PassState) → InNumbers c k p → InNumbers c k (record p { looked = Some c })
looks c k p ok = record {
  near = ok.near;
  low = ok.low;
  placed = ok.placed;
  looked = λ q e. let x = same_number c q e in omega arith;
  announced = ok.announced;
  entered = ok.entered;
}

announces : (c : ℕ) (k : PassTrack) (p : PassState) → p.announced ≡ None → InNumbers c k p → InNumbers c k (record p { announced = p.looked })
announces c k p free ok = record {
  near = ok.near;
  low = ok.low;
  placed = ok.placed;
  looked = ok.looked;
  announced = ok.looked;
  entered = λ g e. let t = ok.entered g e in absurd (none_is_no_number t.0 (sym free ∙ t.1));
}

enters : (c : ℕ) (k : PassTrack) (p : PassState) → is_some p.announced ≡ true → InNumbers c k p → InNumbers c k (record p { entered = Some c })
enters c k p there ok = record {
  near = ok.near;
  low = ok.low;
  placed = ok.placed;
  looked = ok.looked;
  announced = ok.announced;
  entered = λ g e. go p.announced refl there g (same_number c g e);
}
  where
    go : (a : Option ℕ) → p.announced ≡ a → is_some a ≡ true → (g : ℕ) → c ≡ g → (q : ℕ) × (p.announced ≡ Some q) × (q ≤ g) × (k.lowest ≤ g) × (g ≤ c)
    go None e b g x = absurd (grind arith)
    go (Some q) e b g x = let a = ok.announced q e in let low = ok.low in (q, e, omega arith, omega arith, omega arith)

leaves : (c : ℕ) (k : PassTrack) (p : PassState) → InNumbers c k p → InNumbers c k idle
leaves c k p ok = record {
  near = ok.near;
  low = ok.low;
  placed = ok.placed;
  looked = λ q e. absurd (none_is_no_number q e);
  announced = λ q e. absurd (none_is_no_number q e);
  entered = λ q e. absurd (none_is_no_number q e);
}

sweeps : (c : ℕ) (k : PassTrack) (p : PassState) → InNumbers c k p → InNumbers c (known_after_sweep c k (pin_word p.announced)) p
sweeps c k p ok = go p.announced refl
  where
    go : (a : Option ℕ) → p.announced ≡ a → InNumbers c (known_after_sweep c k (pin_word a)) p
    go None is = record {
      near = omega arith;
      low = omega arith;
      placed = λ _. omega arith;
      looked = ok.looked;
      announced = ok.announced;
      entered = λ g e. let t = ok.entered g e in absurd (none_is_no_number t.0 (sym is ∙ t.1));
    }
    go (Some q) is =
        let e : (known_after_sweep c k (q + 1)).lowest ≡ max k.lowest q = rw (ne_eqb (q + 1) 0 (λ z. omega arith)) (ap (max k.lowest) (omega arith)) in
        let m : ℕ = max k.lowest q in
        let near = ok.near in let low = ok.low in let a = ok.announced q is in record {
          near = rw e (omega arith);
          low = rw e (omega arith);
          placed = λ b. let z = ok.placed b in rw e (omega arith);
          looked = ok.looked;
          announced = ok.announced;
          entered = λ g x. let t = ok.entered g x in let same = same_number q t.0 (sym is ∙ t.1) in let b = t.2 in let d = t.3 in
              (t.0, t.1, t.2, rw e (omega arith), t.4);
        }

places : (c : ℕ) (k : PassTrack) (p : PassState) → c ≤ k.lowest + 6 → InNumbers c k p → InNumbers c (with_placed true k) p
places c k p close ok = record { near = ok.near; low = ok.low; placed = λ _. close; looked = ok.looked; announced = ok.announced; entered = ok.entered }

publishes : (c : ℕ) (k : PassTrack) (p : PassState) → k.placed ≡ true → InNumbers c k p → InNumbers (c + 1) (with_placed false k) p
publishes c k p all ok = let d = ok.placed all in record {
  near = omega arith;
  low = let a = ok.low in omega arith;
  placed = λ e. absurd (grind arith);
  looked = λ q e. let a = ok.looked q e in omega arith;
  announced = λ q e. let a = ok.announced q e in omega arith;
  entered = λ g e. let t = ok.entered g e in (t.0, t.1, t.2, t.3, let a = t.4 in omega arith);
}

-- lists

pub all_of : (ks : List PassTrack) (v : ℕ) → all_placed ks ≡ true → v < length ks → (get_or ks v nothing_known).placed ≡ true
all_of [] v e l = absurd (omega arith)
all_of (k ∷ ks) zero e l = (and_parts _ _ e).0
all_of (k ∷ ks) (suc v) e l = all_of ks v (and_parts _ _ e).1 (omega arith)

pub none_placed : (ks : List PassTrack) (v : ℕ) → get_or (map (with_placed false) ks) v nothing_known ≡ with_placed false (get_or ks v nothing_known)
none_placed [] v = refl
none_placed (k ∷ ks) zero = refl
none_placed (k ∷ ks) (suc v) = none_placed ks v

module _ {A : Type 0} where
  get_past : (l : List A) (a : A) (i : ℕ) → i < length l → slice_get (l ++ a ∷ []) i ≡ slice_get l i
  get_past [] a i h = absurd (omega arith)
  get_past (x ∷ xs) a zero h = refl
  get_past (x ∷ xs) a (suc i) h = get_past xs a i (omega arith)

  get_last : (l : List A) (a : A) (i : ℕ) → length l ≡ i → slice_get (l ++ a ∷ []) i ≡ Some a
  get_last [] a zero h = refl
  get_last [] a (suc i) h = absurd (omega arith)
  get_last (x ∷ xs) a zero h = absurd (omega arith)
  get_last (x ∷ xs) a (suc i) h = get_last xs a i (omega arith)

  get_take : (l : List A) (n i : ℕ) → i < n → slice_get (take n l) i ≡ slice_get l i
  get_take l zero i h = absurd (omega arith)
  get_take [] (suc n) i h = refl
  get_take (x ∷ xs) (suc n) zero h = refl
  get_take (x ∷ xs) (suc n) (suc i) h = get_take xs n i (omega arith)

-- the machine

module _ (words passes : ℕ) (gs : List Generation) (s : Shared) (k : HasSoundNumbers words passes gs s) where
  -- a step of the pass u alone
  moves : (u : ℕ) (p : PassState) → u < passes → InNumbers s.generations.current (known_of s.generations (pass_id u)) p
      → HasSoundNumbers words passes gs (shared s.generations (set s.passes u p) s.words)
  moves u p near ok = record {
    wide = k.wide;
    many = length-set s.passes u p ∙ k.many;
    known = k.known;
    counted = k.counted;
    kept = k.kept;
    each = λ v l. dite (ℕ_discrete v u)
        (λ same. subst (λ (z : ℕ). InNumbers s.generations.current (known_of s.generations (pass_id z)) (get_or (set s.passes u p) z idle)) (sym same)
        (subst (λ (h : PassState). InNumbers s.generations.current (known_of s.generations (pass_id u)) h)
        (sym (get_or-set_same s.passes u p idle (let m = k.many in omega arith))) ok))
        (λ other. subst (λ (h : PassState). InNumbers s.generations.current (known_of s.generations (pass_id v)) h)
        (sym (get_or-set_other s.passes u v p idle other)) (k.each v l));
  }

  -- what the writer knows of the pass u changes alone
  knows : (u : ℕ) (f : PassTrack) → u < passes → InNumbers s.generations.current f (pass_of s.passes (pass_id u)) → HasSoundNumbers words passes gs
      (shared (with_known s.generations (pass_id u) f) s.passes s.words)
  knows u f near ok = record {
    wide = k.wide;
    many = k.many;
    known = length-set s.generations.passes u f ∙ k.known;
    counted = k.counted;
    kept = k.kept;
    each = λ v l. dite (ℕ_discrete v u)
        (λ same. subst (λ (z : ℕ). InNumbers s.generations.current (get_or (set s.generations.passes u f) z nothing_known)
        (pass_of s.passes (pass_id z))) (sym same)
        (subst (λ (h : PassTrack). InNumbers s.generations.current h (pass_of s.passes (pass_id u)))
        (sym (get_or-set_same s.generations.passes u f nothing_known (let m = k.known in omega arith))) ok))
        (λ other. subst (λ (h : PassTrack). InNumbers s.generations.current h (pass_of s.passes (pass_id v)))
        (sym (get_or-set_other s.generations.passes u v f nothing_known other)) (k.each v l));
  }

  -- a step on a word
  touches : (o : Option PoolTouch) → HasSoundNumbers words passes gs (shared s.generations s.passes (pool_after s.words o))
  touches None = record { wide = k.wide; many = k.many; known = k.known; counted = k.counted; kept = k.kept; each = k.each }
  touches (Some t) = record { wide = length-set s.words t.word _ ∙ k.wide; many = k.many; known = k.known; counted = k.counted; kept = k.kept; each = k.each }

  inside : (u : ℕ) → u < length s.passes → u < passes
  inside u l = let m = k.many in omega arith

  pub sound_after : (e : Event) (x : Carried) (r : ℕ) → shared_possible s e x ≡ true → r ≡ shared_reply s e x → HasSoundNumbers words passes
      (published_with gs e x) (after_shared_entry s (history_entry e x r))
  sound_after (events.Look u) Nothing r may is = let m = and_parts _ _ may in let near = inside u.0 (ltb-true _ _ m.0) in
      subst (λ (z : ℕ). HasSoundNumbers words passes gs
      (shared s.generations (with_pass s.passes u (record (pass_of s.passes u) { looked = Some z })) s.words)) (sym is)
      (moves u.0 _ near (looks _ _ _ (k.each u.0 near)))
  sound_after (events.Announce u) Nothing r may is = let m = and_parts _ _ may in let near = inside u.0 (ltb-true _ _ (and_parts _ _ m.0).0) in
      moves u.0 _ near (announces _ _ _ (none_of _ m.1) (k.each u.0 near))
  sound_after (events.Enter u) Nothing r may is = let m = and_parts _ _ may in let a = and_parts _ _ m.0 in let near = inside u.0 (ltb-true _ _ a.0) in
      subst (λ (z : ℕ). HasSoundNumbers words passes gs
      (shared s.generations (with_pass s.passes u (record (pass_of s.passes u) { entered = Some z })) s.words)) (sym is)
      (moves u.0 _ near (enters _ _ _ a.1 (k.each u.0 near)))
  sound_after (events.Leave u) Nothing r may is = let m = and_parts _ _ may in let near = inside u.0 (ltb-true _ _ m.0) in
      moves u.0 _ near (leaves _ _ _ (k.each u.0 near))
  sound_after (events.Sweep u) Nothing r may is = let near = inside u.0 (ltb-true _ _ may) in
      subst (λ (z : ℕ). HasSoundNumbers words passes gs
      (shared (with_known s.generations u (known_after_sweep s.generations.current (known_of s.generations u) z)) s.passes s.words)) (sym is)
      (knows u.0 _ near (sweeps _ _ _ (k.each u.0 near)))
  sound_after (events.Place u) Nothing r may is = let m = and_parts _ _ may in let near = inside u.0 (ltb-true _ _ (and_parts _ _ m.1).0) in
      knows u.0 _ near (places _ _ _ (leb-true _ _ m.0) (k.each u.0 near))
  sound_after events.Publish (Edition forest ps) r may is = record {
    wide = k.wide;
    many = k.many;
    known = length-map s.generations.passes (with_placed false) ∙ k.known;
    counted = length-append gs (generation forest ps ∷ []) ∙ (let e = k.counted in omega arith);
    kept = λ number low near. dite (ℕ_discrete number (s.generations.current + 1))
        (λ same. subst (λ (z : ℕ). slice_get (generation forest ps ∷ take 7 s.generations.kept) ((s.generations.current + 1) - z) ≡ slice_get
        (gs ++ generation forest ps ∷ []) z) (sym same)
        (let gap : 0 ≡ (s.generations.current + 1) - (s.generations.current + 1) = omega arith in
        subst (λ (z : ℕ). slice_get (generation forest ps ∷ take 7 s.generations.kept) z ≡ slice_get (gs ++ generation forest ps ∷ [])
        (s.generations.current + 1)) gap
        (sym (get_last gs (generation forest ps) (s.generations.current + 1) k.counted))))
        (λ other. let e = k.counted in
        let gap : suc (s.generations.current - number) ≡ (s.generations.current + 1) - number = omega arith in
        subst (λ (z : ℕ). slice_get (generation forest ps ∷ take 7 s.generations.kept) z ≡ slice_get (gs ++ generation forest ps ∷ []) number) gap
        (get_take s.generations.kept 7 (s.generations.current - number) (omega arith)
        ∙ (k.kept number (omega arith) (omega arith) ∙ sym (get_past gs (generation forest ps) number (omega arith)))));
    each = λ v l. subst (λ (f : PassTrack). InNumbers (s.generations.current + 1) f (pass_of s.passes (pass_id v))) (sym (none_placed s.generations.passes v))
        (publishes _ _ _ (all_of s.generations.passes v may (let m = k.known in omega arith)) (k.each v l));
  }
  sound_after (events.Word h c step) (At p) r may is = touches (pool_touch_of (events.Word h c step) (At p))
  sound_after (events.Mark v region client page) (At p) r may is = touches (pool_touch_of (events.Mark v region client page) (At p))
  sound_after (events.Harvest region client index) (At p) r may is = touches (pool_touch_of (events.Harvest region client index) (At p))
  sound_after (events.Fill c) (At p) r may is = touches (pool_touch_of (events.Fill c) (At p))
  sound_after e x r may is = absurd (grind arith)

pub sound_from : (words passes : ℕ) (xs : List HistoryEntry) (gs : List Generation) (s : Shared) → HasSoundNumbers words passes gs s
    → IsSharedLegalFrom s xs → HasSoundNumbers words passes (published_from gs xs) (after_shared_entries s xs)
sound_from words passes [] gs s k l = k
sound_from words passes (x ∷ xs) gs s k l = sound_from words passes xs (published_with gs x.event x.carried) (after_shared_entry s x)
    (sound_after words passes gs s k x.event x.carried x.reply l.0 l.1) l.2

pub sound : SharedHistoriesAreSound
sound words passes xs l = sound_from words passes xs (first_generation ∷ []) (shared_opening words passes) record {
  wide = length-replicate words 0;
  many = length-replicate passes idle;
  known = length-replicate passes nothing_known;
  counted = refl;
  kept = λ number low near. let none : 0 ≡ number = omega arith in
      subst (λ (z : ℕ). slice_get (first_generation ∷ []) (0 - z) ≡ slice_get (first_generation ∷ []) z) none refl;
  each = λ v near. subst (λ (z : PassTrack × PassState). InNumbers 0 z.0 z.1)
      (λ i. (sym (get_or-replicate passes v nothing_known nothing_known near) i, sym (get_or-replicate passes v idle idle near) i)) record {
        near = omega arith;
        low = omega arith;
        placed = λ e. absurd (grind arith);
        looked = λ q e. absurd (none_is_no_number q e);
        announced = λ q e. absurd (none_is_no_number q e);
        entered = λ q e. absurd (none_is_no_number q e);
      };
} l
