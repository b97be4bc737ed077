-- Four facts of every pass hold in every legal history, and each event keeps them.
use Rattle.std.proofs.Common.{◌≡◌, ℕ, zero, suc, ◌+◌, ◌-◌, ◌<◌, ◌≤◌, max, min, ne_eqb, Bool, true, false, ◌&&◌, List, [], ◌∷◌, length, map}
use Rattle.std.proofs.Common.{take, get_or, set, sym, refl, ap, ◌∙◌, subst, arith, length-set, length-take, get_or-set_other}
use Rattle.std.proofs.Common.{get_or-set_same, if◌then◌else◌, Option, Some, None}
use Rattle.std.specs.Prelude.{is_some, not, nat_le, Ok, Err, Result, ◌==◌}
use Rattle.std.specs.List.{list_all}
use Rattle.std.proofs.lemmas.Bool.{ltb-true, leb-false, and_parts, not-true}
use mathlib.Core.Logic.{dite}
use native.Mathlib.Decide.{ℕ_discrete}
use lib.ListN.{length-replicate, get_or-replicate}
use Rattle.mem_base.specs.map.PassIds.{PassId}
use Rattle.mem_base.specs.declared.map.ids.RegionId.{RegionId}
use Rattle.mem_base.specs.declared.map.ids.ListenerId.{ListenerId}
use Rattle.mem_base.specs.declared.map.forests.Forest.{Forest}
use Rattle.mem_base.specs.declared.views.listening.Listener.{Listener}
use Rattle.mem_base.specs.declared.map.refusals.Refusal.{Refusal}
use Rattle.mem_base.specs.declared.map.refusals.Refusal.TheVariants.{NoTransaction, TooNested, Held}
use Rattle.mem_base.specs.declared.map.calls.Call.{Call}
use Rattle.mem_base.specs.declared.map.calls.Call.TheVariants as calls
use Rattle.mem_base.specs.declared.map.calls.Applied.{Applied}
use Rattle.mem_base.specs.declared.map.calls.Applied.TheVariants.{Done, Made}
use Rattle.mem_base.specs.declared.map.calls.Config.{Config}
use Rattle.mem_base.specs.declared.map.calls.Config.TheVariants as configs
use Rattle.mem_base.specs.declared.machine.events.Event.{Event}
use Rattle.mem_base.specs.declared.machine.events.Event.TheVariants as events
use Rattle.mem_base.specs.map.Limits.{most_nested}
use Rattle.mem_base.specs.map.Calls.{after as forest_after, answer_of, is_quiet}
use Rattle.mem_base.specs.access.Places.{Extent, words_of, extent_of, first_fit}
use Rattle.mem_base.specs.machine.Passes.{PassState, pass_of, with_pass, idle}
use Rattle.mem_base.specs.machine.Generations.{PassTrack, nothing_known, Generations, Generation, known_of, known_after_sweep, pin_word, with_placed}
use Rattle.mem_base.specs.machine.Desk.{Desk}
use Rattle.mem_base.specs.views.Listening.{Listening}
use Rattle.mem_base.specs.machine.Publishing.{settled, refused_desk, unless_refused, would_publish, holds_up, held_at, held_from, held_up, readied, publishing}
use Rattle.mem_base.specs.machine.Configs.{configured, made, backed, kept_back, after_call, begun, committed, without_listener}
use Rattle.mem_base.specs.machine.World.{World, possible, reply, after_telling, number_in, opening}
use Rattle.mem_base.specs.machine.History.{PureEntry, after_entry, after_entries, IsLegalFrom, IsLegal, IsInOrder, is_swept, AllInOrder, IsOrderly}
use Rattle.view_laws.proofs.Tests.{none_is_no_number, same_number, none_is_not_some, none_of, all_at, none_set}
use Rattle.history_laws.proofs.NumberLaws.{none_placed}
use Rattle.mem_base.proofs.BoolLaws.{holds_where}
use Rattle.mem_base.proofs.ListLaws.{length_map}

-- one pass that looks, announces, enters, leaves

looks : (c : ℕ) (due sw : Bool) (k : PassTrack) (p : PassState) → IsInOrder c due sw k p → IsInOrder c due sw k (record p { looked = Some c })
looks c due sw k p ok = record {
  near = ok.near;
  low = ok.low;
  found_low = ok.found_low;
  free_low = ok.free_low;
  free_due = ok.free_due;
  due_near = ok.due_near;
  looked = λ q e. let x = same_number c q e in omega arith;
  announced = ok.announced;
  entered = ok.entered;
}

announces : (c : ℕ) (due sw : Bool) (k : PassTrack) (p : PassState) → p.announced ≡ None → IsInOrder c due sw k p
    → IsInOrder c due sw k (record p { announced = p.looked })
announces c due sw k p free ok = record {
  near = ok.near;
  low = ok.low;
  found_low = ok.found_low;
  free_low = ok.free_low;
  free_due = ok.free_due;
  due_near = ok.due_near;
  looked = ok.looked;
  announced = ok.looked;
  entered = λ g e. let t = ok.entered g e in absurd (none_is_no_number t.0 (sym free ∙ t.1));
}

enters : (c : ℕ) (due sw : Bool) (k : PassTrack) (p : PassState) → is_some p.announced ≡ true → IsInOrder c due sw k p
    → IsInOrder c due sw k (record p { entered = Some c })
enters c due sw k p there ok = record {
  near = ok.near;
  low = ok.low;
  found_low = ok.found_low;
  free_low = ok.free_low;
  free_due = ok.free_due;
  due_near = ok.due_near;
  looked = ok.looked;
  announced = ok.announced;
  entered = λ g e. go p.announced refl there g (same_number c g e);
}
  where
    go : (a : Option ℕ) → p.announced ≡ a → is_some a ≡ true → (g : ℕ) → c ≡ g → (q : ℕ) × (p.announced ≡ Some q) × (q ≤ g) × (k.lowest ≤ g) × (g ≤ c)
    go None e b g x = absurd (grind arith)
    go (Some q) e b g x = let a = ok.announced q e in let low = ok.low in (q, e, omega arith, omega arith, omega arith)

leaves : (c : ℕ) (due sw : Bool) (k : PassTrack) (p : PassState) → IsInOrder c due sw k p → IsInOrder c due sw k idle
leaves c due sw k p ok = record {
  near = ok.near;
  low = ok.low;
  found_low = ok.found_low;
  free_low = ok.free_low;
  free_due = ok.free_due;
  due_near = ok.due_near;
  looked = λ q e. absurd (none_is_no_number q e);
  announced = λ q e. absurd (none_is_no_number q e);
  entered = λ q e. absurd (none_is_no_number q e);
}

-- the writer sweeps it, gives it a copy, publishes

sweeps : (c : ℕ) (due sw : Bool) (k : PassTrack) (p : PassState) → IsInOrder c due sw k p
    → IsInOrder c due true (known_after_sweep c k (pin_word p.announced)) p
sweeps c due sw k p ok = go p.announced refl
  where
    go : (a : Option ℕ) → p.announced ≡ a → IsInOrder c due true (known_after_sweep c k (pin_word a)) p
    go None is = record {
      near = omega arith;
      low = omega arith;
      found_low = λ s q e. absurd (none_is_no_number q e);
      free_low = λ s e. omega arith;
      free_due = λ s e d. omega arith;
      due_near = λ d. omega arith;
      looked = ok.looked;
      announced = ok.announced;
      entered = λ g e. let t = ok.entered g e in absurd (none_is_no_number t.0 (sym is ∙ t.1));
    }
    go (Some q) is =
        let e : (known_after_sweep c k (q + 1)).lowest ≡ max k.lowest q = rw (ne_eqb (q + 1) 0 (λ z. omega arith)) (ap (max k.lowest) (omega arith)) in
        let w : (known_after_sweep c k (q + 1)).found ≡ Some q = rw (ne_eqb (q + 1) 0 (λ z. omega arith)) (ap Some (omega arith)) in
        let m : ℕ = max k.lowest q in
        let near = ok.near in let low = ok.low in let a = ok.announced q is in record {
          near = rw e (omega arith);
          low = rw e (omega arith);
          found_low = λ s z is_z. let same = same_number q z (sym w ∙ is_z) in rw e (omega arith);
          free_low = λ s no. absurd (none_is_no_number q (sym no ∙ w));
          free_due = λ s no d. absurd (none_is_no_number q (sym no ∙ w));
          due_near = λ d. let z = ok.due_near d in rw e (omega arith);
          looked = ok.looked;
          announced = ok.announced;
          entered = λ g x. let t = ok.entered g x in let same = same_number q t.0 (sym is ∙ t.1) in let b = t.2 in let d = t.3 in
              (t.0, t.1, t.2, rw e (omega arith), t.4);
        }

places : (c : ℕ) (due sw : Bool) (k : PassTrack) (p : PassState) → IsInOrder c due sw k p → IsInOrder c due sw (with_placed true k) p
places c due sw k p ok = record {
  near = ok.near;
  low = ok.low;
  found_low = ok.found_low;
  free_low = ok.free_low;
  free_due = ok.free_due;
  due_near = ok.due_near;
  looked = ok.looked;
  announced = ok.announced;
  entered = ok.entered;
}

publishes : (c : ℕ) (sw : Bool) (k : PassTrack) (p : PassState) → IsInOrder c true sw k p → IsInOrder (c + 1) false sw (with_placed false k) p
publishes c sw k p ok = let low = ok.low in let d = ok.due_near refl in record {
  near = omega arith;
  low = omega arith;
  found_low = ok.found_low;
  free_low = λ s e. let a = ok.free_due s e refl in omega arith;
  free_due = λ s e d. absurd (grind arith);
  due_near = λ d. absurd (grind arith);
  looked = λ q e. let a = ok.looked q e in omega arith;
  announced = λ q e. let a = ok.announced q e in omega arith;
  entered = λ g e. let t = ok.entered g e in (t.0, t.1, t.2, t.3, let a = t.4 in omega arith);
}

-- a private event that makes no publish due

unsweeps : (c : ℕ) (due sw : Bool) (k : PassTrack) (p : PassState) → IsInOrder c due sw k p → IsInOrder c false false k p
unsweeps c due sw k p ok = record {
  near = ok.near;
  low = ok.low;
  found_low = λ s q e. absurd (grind arith);
  free_low = λ s e. absurd (grind arith);
  free_due = λ s e d. absurd (grind arith);
  due_near = λ d. absurd (grind arith);
  looked = ok.looked;
  announced = ok.announced;
  entered = ok.entered;
}

-- one that does: the pass was swept, and was not found too low
readies : (c : ℕ) (due : Bool) (k : PassTrack) (p : PassState) → IsInOrder c due true k p → ((q : ℕ) → k.found ≡ Some q → c < q + 7)
    → IsInOrder c true false k p
readies c due k p ok free = record {
  near = ok.near;
  low = ok.low;
  found_low = λ s q e. absurd (grind arith);
  free_low = λ s e. absurd (grind arith);
  free_due = λ s e d. absurd (grind arith);
  due_near = λ d. go k.found refl;
  looked = ok.looked;
  announced = ok.announced;
  entered = ok.entered;
}
  where
    go : (o : Option ℕ) → k.found ≡ o → c ≤ k.lowest + 6
    go None e = let a = ok.free_low refl e in omega arith
    go (Some q) e = let a = ok.found_low refl q e in let b = free q e in omega arith

-- no pass holds a publish up

past_first : (c w : ℕ) (ks : List PassTrack) (o : Option ℕ) → (if holds_up c o then held_at (record { 0 = w }) o else held_from c (w + 1) ks) ≡ None
    → ((q : ℕ) → o ≡ Some q → c < q + 7) × (held_from c (w + 1) ks ≡ None)
past_first c w ks None h = (λ q e. absurd (none_is_no_number q e), h)
past_first c w ks (Some p) h = go (nat_le (p + 7) c) refl h
  where
    go : (b : Bool) → nat_le (p + 7) c ≡ b → (if b then held_at (record { 0 = w }) (Some p) else held_from c (w + 1) ks) ≡ None
        → ((q : ℕ) → Some p ≡ Some q → c < q + 7) × (held_from c (w + 1) ks ≡ None)
    go true e h = none_is_not_some (Held (record { 0 = w }) p) (sym h)
    go false e h = (λ q z. let same = same_number p q z in let far = leb-false _ _ e in omega arith, h)

none_after : (c w : ℕ) (ks : List PassTrack) → held_from c w ks ≡ None → (v q : ℕ) → (get_or ks v nothing_known).found ≡ Some q → c < q + 7
none_after c w [] h v q e = absurd (none_is_no_number q e)
none_after c w (k ∷ ks) h zero q e = (past_first c w ks k.found h).0 q e
none_after c w (k ∷ ks) h (suc v) q e = none_after c (w + 1) ks (past_first c w ks k.found h).1 v q e

-- what a private event does to what is due and to who is swept
record Settles (g : Generations) (d : Desk) (k : Config) (m : Desk) : Type 0 where
  swept : m.swept ≡ d.swept
  due : m.due ≡ true → (would_publish d k ≡ true) × (held_up g ≡ None)

-- what leaves both as they are
abbrev Stays : Desk → Desk → Type 0
Stays d m = (m.swept ≡ d.swept) × (m.due ≡ d.due)

not_due : (d : Desk) → d.due ≡ false → {A : Type 0} → d.due ≡ true → A
not_due d off on = absurd (let z = sym off ∙ on in grind arith)

settles_where : (g : Generations) (d : Desk) (k : Config) (m : Desk) → d.due ≡ false → Stays d m → Settles g d k m
settles_where g d k m off s = record { swept = s.0; due = λ on. not_due d off (sym s.1 ∙ on) }

unless_stays : (o : Option Refusal) (d m : Desk) (a : Applied) → Stays d m → Stays d (unless_refused o d (settled m a)).desk
unless_stays None d m a s = s
unless_stays (Some why) d m a s = (refl, refl)

backed_stays : (d : Desk) (f : Forest) (r : RegionId) (x : Extent) (o : Option ℕ) → Stays d (backed d f r x o).desk
backed_stays d f r x None = (refl, refl)
backed_stays d f r x (Some start) = (refl, refl)

made_stays : (d : Desk) (f : Forest) (r : RegionId) (x : Extent) → Stays d (made d f r x).desk
made_stays d f r x = go (words_of x == 0)
  where
    go : (b : Bool) → Stays d (if b then settled (record d { forest = f }) (Made r) else backed d f r x (first_fit d.pool_words d.places (words_of x))).desk
    go true = (refl, refl)
    go false = backed_stays d f r x (first_fit d.pool_words d.places (words_of x))

kept_back_stays : (d : Desk) (call : Call) (f : Forest) → Stays d (kept_back d call f).desk
kept_back_stays d (calls.Region kind size) f = made_stays d f (record { 0 = d.forest.made }) (extent_of kind size)
kept_back_stays d call f = (refl, refl)

abbrev with_listening : Listening → Desk → Desk
with_listening x d = record d { listening = x }

either_stays : (b : Bool) (x : Listening) (d m : Desk) → Stays d m → Stays d (if b then with_listening x d else m)
either_stays true x d m s = (refl, refl)
either_stays false x d m s = s

without_stays : (ls : List Listener) (id : ListenerId) (g : Generations) (d : Desk) → Stays d (without_listener ls id g d)
without_stays [] id g d = (refl, refl)
without_stays (l ∷ ls) id g d = either_stays (l.listener.0 == id.0) _ d (without_listener ls id g d) (without_stays ls id g d)

publishing_settles : (g : Generations) (d : Desk) (k : Config) (f : Forest) (a : Applied) → d.due ≡ false → would_publish d k ≡ true
    → Settles g d k (publishing g d f a).desk
publishing_settles g d k f a off would = go (held_up g) refl
  where
    go : (h : Option Refusal) → held_up g ≡ h → Settles g d k (unless_refused h d (settled (readied g d f) a)).desk
    go None e = record { swept = refl; due = λ on. (would, e) }
    go (Some why) e = settles_where g d k d off (refl, refl)

begun_settles : (g : Generations) (d : Desk) → d.due ≡ false → Settles g d configs.Begin (begun d).desk
begun_settles g d off = go (d.depth == most_nested)
  where
    go : (b : Bool) → Settles g d configs.Begin (if b then refused_desk d TooNested else settled (record d { depth = d.depth + 1 }) Done).desk
    go true = settles_where g d configs.Begin _ off (refl, refl)
    go false = settles_where g d configs.Begin _ off (refl, refl)

called_settles : (g : Generations) (d : Desk) (call : Call) → d.due ≡ false → Settles g d (configs.Call call)
    (after_call g d call (forest_after d.forest call)).desk
called_settles g d call off = go (forest_after d.forest call) refl
  where
    go : (x : Result Forest Refusal) → forest_after d.forest call ≡ x → Settles g d (configs.Call call) (after_call g d call x).desk
    go (Err why) e = settles_where g d (configs.Call call) d off (refl, refl)
    go (Ok f) e = at ((d.depth == 0) && not (is_quiet call)) refl
      where
        at : (b : Bool) → ((d.depth == 0) && not (is_quiet call)) ≡ b → Settles g d (configs.Call call)
            (if b then publishing g d f (answer_of d.forest call) else kept_back d call f).desk
        at true h = publishing_settles g d (configs.Call call) f (answer_of d.forest call) off
            (let p = and_parts (d.depth == 0) (not (is_quiet call)) h in rw (p.0, p.1, e) refl)
        at false h = settles_where g d (configs.Call call) _ off (kept_back_stays d call f)

committed_settles : (g : Generations) (d : Desk) → d.due ≡ false → Settles g d configs.Commit (committed g d).desk
committed_settles g d off = go (d.depth == 0)
  where
    inner : (b : Bool) → ((d.depth == 1) && d.pending) ≡ b → Settles g d configs.Commit
        (if b then publishing g d d.forest Done else settled (record d { depth = d.depth - 1 }) Done).desk
    inner true h = publishing_settles g d configs.Commit d.forest Done off h
    inner false h = settles_where g d configs.Commit _ off (refl, refl)

    go : (b : Bool) → Settles g d configs.Commit (if b then refused_desk d NoTransaction else if (d.depth == 1)
        && d.pending then publishing g d d.forest Done else settled (record d { depth = d.depth - 1 }) Done).desk
    go true = settles_where g d configs.Commit d off (refl, refl)
    go false = inner ((d.depth == 1) && d.pending) refl

settles : (g : Generations) (d : Desk) (k : Config) → d.due ≡ false → Settles g d k (configured g d k).desk
settles g d configs.Begin off = begun_settles g d off
settles g d (configs.Call call) off = called_settles g d call off
settles g d configs.Commit off = committed_settles g d off
settles g d (configs.Listen listener space priority) off =
    settles_where g d (configs.Listen listener space priority) _ off (unless_stays _ d _ Done (refl, refl))
settles g d (configs.Unlisten id) off =
    settles_where g d (configs.Unlisten id) _ off (unless_stays _ d _ Done (without_stays d.listening.listeners id g d))

-- all passes, after a step of one

moves : (due : Bool) (sw : List Bool) (g : Generations) (ps : List PassState) → AllInOrder due sw g ps → (u : PassId) (p : PassState) → u.0 < length ps
    → IsInOrder g.current due (is_swept sw u) (known_of g u) p → AllInOrder due sw g (with_pass ps u p)
moves due sw g ps k u p near ok = record {
  all_known = k.all_known ∙ sym (length-set ps u.0 p);
  all_flagged = k.all_flagged ∙ sym (length-set ps u.0 p);
  kept = k.kept;
  each = λ v l. dite (ℕ_discrete v.0 u.0)
      (λ same. subst (λ (z : ℕ). IsInOrder g.current due (get_or sw z false) (get_or g.passes z nothing_known) (get_or (set ps u.0 p) z idle)) (sym same)
      (subst (λ (h : PassState). IsInOrder g.current due (is_swept sw u) (known_of g u) h) (sym (get_or-set_same ps u.0 p idle near)) ok))
      (λ other. subst (λ (h : PassState). IsInOrder g.current due (is_swept sw v) (known_of g v) h) (sym (get_or-set_other ps u.0 v.0 p idle other))
      (k.each v (subst (λ (m : ℕ). v.0 < m) (length-set ps u.0 p) l)));
}

sweeps_all : (due : Bool) (sw : List Bool) (g : Generations) (ps : List PassState) → AllInOrder due sw g ps → (u : PassId) → u.0 < length ps
    → AllInOrder due (set sw u.0 true)
    (record g { passes = set g.passes u.0 (known_after_sweep g.current (known_of g u) (pin_word (pass_of ps u).announced)) }) ps
sweeps_all due sw g ps k u near = let new = known_after_sweep g.current (known_of g u) (pin_word (pass_of ps u).announced) in record {
  all_known = length-set g.passes u.0 new ∙ k.all_known;
  all_flagged = length-set sw u.0 true ∙ k.all_flagged;
  kept = k.kept;
  each = λ v l. dite (ℕ_discrete v.0 u.0)
      (λ same. subst (λ (z : ℕ). IsInOrder g.current due (get_or (set sw u.0 true) z false) (get_or (set g.passes u.0 new) z nothing_known)
      (get_or ps z idle)) (sym same)
      (subst (λ (z : Bool × PassTrack). IsInOrder g.current due z.0 z.1 (pass_of ps u))
      (λ i. (
        sym (get_or-set_same sw u.0 true false (subst (λ (m : ℕ). u.0 < m) (sym k.all_flagged) near)) i,
        sym (get_or-set_same g.passes u.0 new nothing_known (subst (λ (m : ℕ). u.0 < m) (sym k.all_known) near)) i,
      ))
      (sweeps g.current due (is_swept sw u) (known_of g u) (pass_of ps u) (k.each u near))))
      (λ other. subst (λ (z : Bool × PassTrack). IsInOrder g.current due z.0 z.1 (pass_of ps v))
      (λ i. (sym (get_or-set_other sw u.0 v.0 true false other) i, sym (get_or-set_other g.passes u.0 v.0 new nothing_known other) i))
      (k.each v l));
}

places_all : (due : Bool) (sw : List Bool) (g : Generations) (ps : List PassState) → AllInOrder due sw g ps → (u : PassId) → u.0 < length ps
    → AllInOrder due sw (record g { passes = set g.passes u.0 (with_placed true (known_of g u)) }) ps
places_all due sw g ps k u near = let new = with_placed true (known_of g u) in record {
  all_known = length-set g.passes u.0 new ∙ k.all_known;
  all_flagged = k.all_flagged;
  kept = k.kept;
  each = λ v l. dite (ℕ_discrete v.0 u.0)
      (λ same. subst (λ (z : ℕ). IsInOrder g.current due (get_or sw z false) (get_or (set g.passes u.0 new) z nothing_known) (get_or ps z idle)) (sym same)
      (subst (λ (f : PassTrack). IsInOrder g.current due (is_swept sw u) f (pass_of ps u))
      (sym (get_or-set_same g.passes u.0 new nothing_known (subst (λ (m : ℕ). u.0 < m) (sym k.all_known) near)))
      (places g.current due (is_swept sw u) (known_of g u) (pass_of ps u) (k.each u near))))
      (λ other. subst (λ (f : PassTrack). IsInOrder g.current due (is_swept sw v) f (pass_of ps v))
      (sym (get_or-set_other g.passes u.0 v.0 new nothing_known other)) (k.each v l));
}

one_more_kept : {A : Type 0} (c : ℕ) (x : A) (xs : List A) → length xs ≡ min (c + 1) 8 → length (x ∷ take 7 xs) ≡ min (c + 1 + 1) 8
one_more_kept c x xs e = let l = length-take 7 xs in omega arith

publishes_all : (sw : List Bool) (g : Generations) (ps : List PassState) (x : Generation) → AllInOrder true sw g ps
    → AllInOrder false sw (record { current = g.current + 1; kept = x ∷ take 7 g.kept; passes = map (with_placed false) g.passes }) ps
publishes_all sw g ps x k = record {
  all_known = length_map (with_placed false) g.passes ∙ k.all_known;
  all_flagged = k.all_flagged;
  kept = one_more_kept g.current x g.kept k.kept;
  each = λ v l. subst (λ (f : PassTrack). IsInOrder (g.current + 1) false (is_swept sw v) f (pass_of ps v)) (sym (none_placed g.passes v.0))
      (publishes g.current (is_swept sw v) (known_of g v) (pass_of ps v) (k.each v l));
}

-- after a private event: nothing was due before; where a publish is due now, all were swept and none holds it up
privates_all : (due : Bool) (sw bs : List Bool) (g : Generations) (ps : List PassState) → AllInOrder false sw g ps → length bs ≡ length sw
    → (due ≡ true → (list_all (λ b. b) sw ≡ true) × (held_up g ≡ None)) → AllInOrder due (map (λ b. false) bs) g ps
privates_all due sw bs g ps k same ready = record {
  all_known = k.all_known;
  all_flagged = length_map (λ b. false) bs ∙ same ∙ k.all_flagged;
  kept = k.kept;
  each = λ v l. subst (λ (b : Bool). IsInOrder g.current due b (known_of g v) (pass_of ps v)) (sym (none_set bs v.0)) (go due ready v l);
}
  where
    go : (b : Bool) → (b ≡ true → (list_all (λ b. b) sw ≡ true) × (held_up g ≡ None)) → (v : PassId) → v.0 < length ps → IsInOrder g.current b false
        (known_of g v) (pass_of ps v)
    go false h v l = unsweeps g.current false (is_swept sw v) (known_of g v) (pass_of ps v) (k.each v l)
    go true h v l = let all = h refl in
        readies g.current false (known_of g v) (pass_of ps v)
        (subst (λ (b : Bool). IsInOrder g.current false b (known_of g v) (pass_of ps v))
        (all_at sw v.0 all.0 (subst (λ (m : ℕ). v.0 < m) (sym k.all_flagged) l)) (k.each v l))
        (λ q e. none_after g.current 0 g.passes all.1 v.0 q e)

-- each event keeps the facts
pub order_after : (w : World) → IsOrderly w → (e : Event) (n : ℕ) → possible w e ≡ true → number_in (reply w e) ≡ n → IsOrderly (after_telling w e n)
order_after w k (events.Look v) n may is = let d = w.writer.desk in let g = w.writer.generations in let near = ltb-true _ _ (and_parts _ _ may).0 in
    subst (λ (z : ℕ). AllInOrder d.due d.swept g (with_pass w.passes v (record (pass_of w.passes v) { looked = Some z }))) is
    (moves d.due d.swept g w.passes k v _ near (looks g.current d.due (is_swept d.swept v) (known_of g v) (pass_of w.passes v) (k.each v near)))
order_after w k (events.Announce v) n may is = let d = w.writer.desk in let g = w.writer.generations in let m = and_parts _ _ may in
    let near = ltb-true _ _ (and_parts _ _ m.0).0 in
    moves d.due d.swept g w.passes k v _ near (announces g.current d.due (is_swept d.swept v) (known_of g v) (pass_of w.passes v) (none_of _ m.1)
    (k.each v near))
order_after w k (events.Enter v) n may is = let d = w.writer.desk in let g = w.writer.generations in let m = and_parts _ _ may in
    let a = and_parts _ _ m.0 in let near = ltb-true _ _ a.0 in
    subst (λ (z : ℕ). AllInOrder d.due d.swept g (with_pass w.passes v (record (pass_of w.passes v) { entered = Some z }))) is
    (moves d.due d.swept g w.passes k v _ near (enters g.current d.due (is_swept d.swept v) (known_of g v) (pass_of w.passes v) a.1 (k.each v near)))
order_after w k (events.Leave v) n may is = let d = w.writer.desk in let g = w.writer.generations in let near = ltb-true _ _ (and_parts _ _ may).0 in
    moves d.due d.swept g w.passes k v _ near (leaves g.current d.due (is_swept d.swept v) (known_of g v) (pass_of w.passes v) (k.each v near))
order_after w k (events.Sweep v) n may is = let d = w.writer.desk in let g = w.writer.generations in
    subst (λ (z : ℕ). AllInOrder d.due (set d.swept v.0 true)
    (record g { passes = set g.passes v.0 (known_after_sweep g.current (known_of g v) z) }) w.passes) is
    (sweeps_all d.due d.swept g w.passes k v (ltb-true _ _ may))
order_after w k (events.Place v) n may is = let d = w.writer.desk in let g = w.writer.generations in
    places_all d.due d.swept g w.passes k v (ltb-true _ _ (and_parts _ _ (and_parts _ _ may).1).0)
order_after w k events.Publish n may is = let d = w.writer.desk in let g = w.writer.generations in
    publishes_all d.swept g w.passes _ (subst (λ (b : Bool). AllInOrder b d.swept g w.passes) (and_parts _ _ may).0 k)
order_after w k (events.Config c) n may is = let d = w.writer.desk in let g = w.writer.generations in
    let m = and_parts _ _ may in
    let off = not-true d.due (and_parts _ _ m.0).0 in
    let s = settles g d c off in
    privates_all (configured g d c).desk.due d.swept (configured g d c).desk.swept g w.passes (subst (λ (b : Bool). AllInOrder b d.swept g w.passes) off k)
    (ap (λ (z : List Bool). length z) s.swept)
    (λ on. let t = s.due on in (holds_where _ _ m.1 t.0, t.1))
order_after w k events.Reap n may is = let d = w.writer.desk in let g = w.writer.generations in
    let m = and_parts _ _ may in
    let off = not-true d.due (and_parts _ _ m.0).0 in
    privates_all d.due d.swept d.swept g w.passes (subst (λ (b : Bool). AllInOrder b d.swept g w.passes) off k) refl
    (λ on. not_due d off on)
order_after w k _ n may is = k

pub order_from : (w : World) (xs : List PureEntry) → IsOrderly w → IsLegalFrom w xs → IsOrderly (after_entries w xs)
order_from w [] k l = k
order_from w (x ∷ xs) k l = order_from (after_entry w x) xs (order_after w k x.event (number_in x.reply) l.0 (ap number_in (sym l.1))) l.2

-- at first they hold
pub order_at_first : (pool_words passes : ℕ) → IsOrderly (opening pool_words passes)
order_at_first pool_words passes = record {
  all_known = length-replicate passes nothing_known ∙ sym (length-replicate passes idle);
  all_flagged = length-replicate passes false ∙ sym (length-replicate passes idle);
  kept = refl;
  each = λ v near. let inside : v.0 < passes = subst (λ (m : ℕ). v.0 < m) (length-replicate passes idle) near in
      subst (λ (z : Bool × PassTrack × PassState). IsInOrder 0 false z.0 z.1 z.2)
      (λ i. (
        sym (get_or-replicate passes v.0 false false inside) i,
        sym (get_or-replicate passes v.0 nothing_known nothing_known inside) i,
        sym (get_or-replicate passes v.0 idle idle inside) i,
      )) record {
        near = omega arith;
        low = omega arith;
        found_low = λ s q e. absurd (none_is_no_number q e);
        free_low = λ s e. omega arith;
        free_due = λ s e d. omega arith;
        due_near = λ d. omega arith;
        looked = λ q e. absurd (none_is_no_number q e);
        announced = λ q e. absurd (none_is_no_number q e);
        entered = λ q e. absurd (none_is_no_number q e);
      };
}

-- so they hold in every legal history
pub order : (pool_words passes : ℕ) (xs : List PureEntry) → IsLegal pool_words passes xs → IsOrderly (after_entries (opening pool_words passes) xs)
order pool_words passes xs l = order_from (opening pool_words passes) xs (order_at_first pool_words passes) l
