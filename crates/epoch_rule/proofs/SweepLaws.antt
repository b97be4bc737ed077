-- A call that makes an event for each pass, step by step, and the writer's seat after its calls.
use Rattle.epoch_rule.proofs.Common.{◌≡◌, ℕ, zero, suc, ◌+◌, ◌-◌, ◌<◌, ◌≤◌, max, ne_eqb, Bool, true, false, List, [], ◌∷◌, ◌++◌, length, map, get_or, set, sym}
use Rattle.epoch_rule.proofs.Common.{refl, ap, ◌∙◌, subst, arith, length-set, length-append, append_assoc, Option, Some, None, if◌then◌else◌, get_or-set_other}
use Rattle.epoch_rule.proofs.Common.{get_or-set_same, both_ways, arc_value, Arc, Forest, Place, picked, dite, ℕ_discrete, prefix_trans, Event, Carried}
use Rattle.epoch_rule.proofs.Common.{Nothing, HistoryEntry, Generations, PassTrack, nothing_known, known_of, known_after_sweep, pin_word, number_pinned}
use Rattle.epoch_rule.proofs.Common.{first_generations, with_known, with_placed, all_placed, Sizes, View, Found, pass_id, history_entry, actor_of, own_entries}
use Rattle.epoch_rule.proofs.Common.{generations_after_all, IsLegal, generations_seen, KeepsSlot, ComesNext, stored, Every, holds_up, Picked, sweeps_of}
use Rattle.epoch_rule.proofs.Common.{places_of, HasWritten, HasSwept, AreCopies, held_in, none_is_no_number, same_number, none_is_not_some}
use Rattle.epoch_rule.proofs.Common.{generations_by_append, EndsWith, leb-false, option_to_list, map-set, every_first, every_rest, length-map, TableId, Me}
use Rattle.epoch_rule.proofs.Common.{least_lowest, held_up, carried_pick, Wrote, IsWriting, HasPlaced, least_in, refusal_of, none_placed, number_seen, min}
use Rattle.epoch_rule.proofs.Common.{option_map, nat_le, held_at, held_from}
use lib.ListN.{get_or-map}
use Rattle.mem_base.specs.declared.machine.events.Event.TheVariants as events
use Rattle.epoch_rule.proofs.PassLaws.{own_added, begins_added, ends_added, generations_added, suits_on}
use Rattle.mem_base.specs.declared.map.refusals.Refusal.TheVariants as refusals
use Rattle.mem_base.specs.declared.machine.events.Hand.TheVariants as hands
use Rattle.epoch_rule.proofs.LeastLaws.{current_seen}
use Rattle.mem_base.proofs.PassTurnLaws.{all_from, pinned}
use Rattle.mem_base.specs.map.Limits.{most_generations}

-- what is taken of each element stays where one changes that has the same
map_kept : {A B : Type 0} (f : A → B) (xs : List A) (i : ℕ) (x d : A) → f x ≡ f (get_or xs i d) → map f (set xs i x) ≡ map f xs
map_kept f [] i x d same = refl
map_kept f (y ∷ ys) zero x d same = ap (λ z. z ∷ map f ys) same
map_kept f (y ∷ ys) (suc i) x d same = ap (λ l. f y ∷ l) (map_kept f ys i x d same)

pub sweeps_snoc : (rs : List ℕ) (first r : ℕ) → sweeps_of first (rs ++ r ∷ []) ≡ sweeps_of first rs
    ++ history_entry (events.Sweep (pass_id (first + length rs))) Nothing r ∷ []
sweeps_snoc [] first r = ap (λ (n : ℕ). history_entry (events.Sweep (pass_id n)) Nothing r ∷ []) (omega arith)
sweeps_snoc (q ∷ rs) first r = ap (λ l. history_entry (events.Sweep (pass_id first)) Nothing q ∷ l) (sweeps_snoc rs (suc first) r ∙
    ap (λ (n : ℕ). sweeps_of (suc first) rs ++ history_entry (events.Sweep (pass_id n)) Nothing r ∷ []) (omega arith))

-- sweeps change no number
pub sweeps_current : (rs : List ℕ) (first : ℕ) (g : Generations) → ((generations_after_all g (sweeps_of first rs)).current ≡ g.current)
    × (length (generations_after_all g (sweeps_of first rs)).passes ≡ length g.passes)
sweeps_current [] first g = (refl, refl)
sweeps_current (r ∷ rs) first g = let k : PassTrack = known_after_sweep g.current (known_of g (pass_id first)) r in
    let h = sweeps_current rs (suc first) (with_known g (pass_id first) k) in
    (h.0, h.1 ∙ length-set g.passes first k)

-- what was written makes the generations
pub writes_generations : (v : View) (es : List HistoryEntry) (w : View) → HasWritten v es w → generations_seen w ≡ generations_after_all (generations_seen v) es
writes_generations v es w h = (λ i. generations_after_all (first_generations (h.sizes i).passes) (h.events i))
    ∙ generations_by_append (own_entries 0 v.seen) es (first_generations v.sizes.passes)

pub writes_more : (v : View) (es : List HistoryEntry) (w : View) (e : Event) (x : Carried) (r : ℕ) (u : View) → actor_of e ≡ 0 → HasWritten v es w
    → ComesNext 0 w e x r u → HasWritten v (es ++ history_entry e x r ∷ []) u
writes_more v es w e x r u mine h a = record {
  role = a.role ∙ h.role;
  out = a.out ∙ h.out;
  sizes = a.sizes ∙ h.sizes;
  begins = prefix_trans v.seen w.seen u.seen h.begins (begins_added 0 w e x r u a);
  lawful = subst (λ (z : Sizes). IsLegal z u.seen) h.sizes a.lawful;
  events = own_added 0 w e x r u mine a ∙ (ap (λ l. l ++ history_entry e x r ∷ []) h.events
      ∙ append_assoc (own_entries 0 v.seen) es (history_entry e x r ∷ []));
  home = λ q l. a.home refl q (ap (λ (o : List Bool). get_or o q false) h.out ∙ l) ∙ h.home q l;
}

pub sweeping_current : (v w : View) (known : List Found) (n : ℕ) → HasSwept v w known n → ((generations_seen w).current ≡ (generations_seen v).current)
    × (length (generations_seen w).passes ≡ length (generations_seen v).passes)
sweeping_current v w known n s = let h = sweeps_current s.rs 0 (generations_seen v) in let e = writes_generations v (sweeps_of 0 s.rs) w s.writes in
    (ap (λ (g : Generations). g.current) e ∙ h.0, ap (λ (g : Generations). length g.passes) e ∙ h.1)

pub sweeping_next : (v w u : View) (known known' : List Found) (n r : ℕ) (f : Found) → HasSwept v w known n
    → ComesNext 0 w (events.Sweep (pass_id n)) Nothing r u → KeepsSlot w u
    → f ≡ stored (known_after_sweep (generations_seen v).current (known_of (generations_seen w) (pass_id n)) r) → known' ≡ set known n f
    → HasSwept v u known' (n + 1)
sweeping_next v w u known known' n r f s a holds is set_is =
    let g : Generations = generations_seen w in
    let now = (sweeping_current v w known n s).0 in
    let k : PassTrack = known_after_sweep g.current (known_of g (pass_id n)) r in
    let more : sweeps_of 0 s.rs ++ history_entry (events.Sweep (pass_id n)) Nothing r ∷ [] ≡ sweeps_of 0 (s.rs ++ r ∷ []) =
    ap (λ (m : ℕ). sweeps_of 0 s.rs ++ history_entry (events.Sweep (pass_id m)) Nothing r ∷ []) (sym s.many ∙ omega arith) ∙ sym (sweeps_snoc s.rs 0 r) in
    let after : generations_seen u ≡ with_known g (pass_id n) k = generations_added w (events.Sweep (pass_id n)) Nothing r u refl a in record {
      rs = s.rs ++ r ∷ [];
      many = length-append s.rs (r ∷ []) ∙ ap (λ (m : ℕ). m + 1) s.many;
      writes = subst (λ l. HasWritten v l u) more (writes_more v (sweeps_of 0 s.rs) w (events.Sweep (pass_id n)) Nothing r u refl s.writes a);
      ends = subst (λ l. EndsWith l u.seen) more (ends_added 0 w (events.Sweep (pass_id n)) Nothing r u a (sweeps_of 0 s.rs));
      holds = (holds.0 ∙ s.holds.0, holds.1 ∙ s.holds.1);
      is_known = set_is ∙ ((λ i. set (s.is_known i) n ((is ∙ ap (λ (c : ℕ). stored (known_after_sweep c (known_of g (pass_id n)) r)) (sym now)) i))
          ∙ (sym (map-set stored g.passes n k) ∙ ap (λ (h : Generations). map stored h.passes) (sym after)));
    }

-- what a pass is known by, once it was swept
abbrev pub IsSwept : ℕ → PassTrack → Type 0
IsSwept c k = (k.found ≡ None → k.lowest ≡ c) × ((q : ℕ) → k.found ≡ Some q → q ≤ k.lowest)

swept_after : (c : ℕ) (k : PassTrack) (r : ℕ) → IsSwept c (known_after_sweep c k r)
swept_after c k zero = ((λ e. refl), (λ q e. absurd (none_is_no_number q e)))
swept_after c k (suc n) = subst (λ (r : ℕ). IsSwept c (known_after_sweep c k r)) {x = n + 1} (omega arith)
    (let e : (known_after_sweep c k (n + 1)).lowest ≡ max k.lowest n = rw (ne_eqb (n + 1) 0 (λ z. omega arith)) (ap (max k.lowest) (omega arith)) in
    let w : (known_after_sweep c k (n + 1)).found ≡ Some n = rw (ne_eqb (n + 1) 0 (λ z. omega arith)) (ap Some (omega arith)) in
    ((λ no. absurd (none_is_no_number n (sym no ∙ w))), (λ q is. let same = same_number n q (sym w ∙ is) in rw e (omega arith))))

sweeps_other : (rs : List ℕ) (first : ℕ) (g : Generations) (u : ℕ) → u < first
    → known_of (generations_after_all g (sweeps_of first rs)) (pass_id u) ≡ known_of g (pass_id u)
sweeps_other [] first g u l = refl
sweeps_other (r ∷ rs) first g u l = let k : PassTrack = known_after_sweep g.current (known_of g (pass_id first)) r in
    sweeps_other rs (suc first) (with_known g (pass_id first) k) u (omega arith) ∙ get_or-set_other g.passes first u k nothing_known (λ q. omega arith)

pub sweeps_swept : (rs : List ℕ) (first : ℕ) (g : Generations) (u : ℕ) → first ≤ u → u < first + length rs → u < length g.passes
    → IsSwept g.current (known_of (generations_after_all g (sweeps_of first rs)) (pass_id u))
sweeps_swept [] first g u low high l = absurd (omega arith)
sweeps_swept (r ∷ rs) first g u low high l = let k : PassTrack = known_after_sweep g.current (known_of g (pass_id first)) r in dite (ℕ_discrete u first)
    (λ same. subst (λ (z : ℕ). IsSwept g.current (known_of (generations_after_all (with_known g (pass_id first) k) (sweeps_of (suc first) rs)) (pass_id z)))
    (sym same)
    (subst (IsSwept g.current) (sym (sweeps_other rs (suc first) (with_known g (pass_id first) k) first (omega arith)
    ∙ get_or-set_same g.passes first k nothing_known (omega arith))) (swept_after g.current (known_of g (pass_id first)) r)))
    (λ other. sweeps_swept rs (suc first) (with_known g (pass_id first) k) u (omega arith) (omega arith) (let e = length-set g.passes first k in omega arith))

sweeps_placed : (rs : List ℕ) (first : ℕ) (g : Generations)
    → map (λ k. k.placed) (generations_after_all g (sweeps_of first rs)).passes ≡ map (λ k. k.placed) g.passes
sweeps_placed [] first g = refl
sweeps_placed (r ∷ rs) first g = let k : PassTrack = known_after_sweep g.current (known_of g (pass_id first)) r in
    sweeps_placed rs (suc first) (with_known g (pass_id first) k) ∙ map_kept (λ k. k.placed) g.passes first k nothing_known refl

held_none : (c first : ℕ) (ks : List PassTrack) → held_in c first (map stored ks) ≡ None → (u : ℕ) → u < length ks
    → holds_up c (get_or ks u nothing_known).found ≡ false
held_none c first [] h u l = absurd (omega arith)
held_none c first (k ∷ ks) h u l = go (holds_up c (number_pinned (pin_word k.found))) refl (held_none c (first + 1) ks) h u l
  where
    go : (b : Bool) → holds_up c (number_pinned (pin_word k.found)) ≡ b
        → (held_in c (first + 1) (map stored ks) ≡ None → (u : ℕ) → u < length ks → holds_up c (get_or ks u nothing_known).found ≡ false)
        → (if b then Some (record { pass = pass_id first; number = pin_word k.found - 1 }) else held_in c (first + 1) (map stored ks)) ≡ None
        → (u : ℕ) → u < suc (length ks) → holds_up c (get_or (k ∷ ks) u nothing_known).found ≡ false
    go true e r h u l = none_is_not_some _ (sym h)
    go false e r h zero l = ap (holds_up c) (sym (pinned k.found)) ∙ e
    go false e r h (suc u) l = r h u (omega arith)

near_of : (c : ℕ) (k : PassTrack) → IsSwept c k → holds_up c k.found ≡ false → c ≤ k.lowest + (most_generations - 2)
near_of c k s free = go k.found refl free
  where
    go : (o : Option ℕ) → k.found ≡ o → holds_up c o ≡ false → c ≤ k.lowest + (most_generations - 2)
    go None e h = let a = s.0 e in omega arith
    go (Some q) e h = let a = s.1 q e in let b = leb-false (q + (most_generations - 1)) c h in omega arith

-- after a sweep of each pass that none holds up, each may have its copy
pub all_near : (v w : View) (known : List Found) (c : ℕ) → HasSwept v w known (length (generations_seen v).passes) → c ≡ (generations_seen v).current
    → held_in c 0 known ≡ None
    → (u : ℕ) → u < length (generations_seen v).passes
    → (generations_seen w).current ≤ (known_of (generations_seen w) (pass_id u)).lowest + (most_generations - 2)
all_near v w known c s is none u l =
    let g : Generations = generations_seen v in
    let e = writes_generations v (sweeps_of 0 s.rs) w s.writes in
    let now = sweeping_current v w known (length g.passes) s in
    let many = s.many in
    let swept : IsSwept c (known_of (generations_seen w) (pass_id u)) =
    subst (λ (h : ℕ × Generations). IsSwept h.0 (known_of h.1 (pass_id u))) (λ i. (sym is i, sym e i))
    (sweeps_swept s.rs 0 g u (omega arith) (omega arith) l) in
    let long = now.1 in
    let free = held_none c 0 (generations_seen w).passes (ap (held_in c 0) (sym s.is_known) ∙ none) u (omega arith) in
    let near = near_of c (known_of (generations_seen w) (pass_id u)) swept free in
    let same = now.0 in omega arith

pub all_free : (v w : View) (known : List Found) (n : ℕ) → HasSwept v w known n → ((u : ℕ) → (known_of (generations_seen v) (pass_id u)).placed ≡ false)
    → (u : ℕ) → (known_of (generations_seen w) (pass_id u)).placed ≡ false
all_free v w known n s free u = ap (λ (g : Generations). (known_of g (pass_id u)).placed) (writes_generations v (sweeps_of 0 s.rs) w s.writes)
    ∙ (sym (get_or-map (λ k. k.placed) _ u nothing_known) ∙ (ap (λ l. get_or l u false) (sweeps_placed s.rs 0 (generations_seen v))
    ∙ (get_or-map (λ k. k.placed) (generations_seen v).passes u nothing_known ∙ free u)))

-- copies
place_after : (g : Generations) (n : ℕ) → generations_after_all g (places_of (suc n))
    ≡ with_known (generations_after_all g (places_of n)) (pass_id n) (with_placed true (known_of (generations_after_all g (places_of n)) (pass_id n)))
place_after g n = generations_by_append (places_of n) (history_entry (events.Place (pass_id n)) Nothing 0 ∷ []) g

pub places_current : (g : Generations) (n : ℕ) → ((generations_after_all g (places_of n)).current ≡ g.current)
    × (length (generations_after_all g (places_of n)).passes ≡ length g.passes)
places_current g zero = (refl, refl)
places_current g (suc n) = let h = places_current g n in let e = place_after g n in (
  ap (λ (x : Generations). x.current) e ∙ h.0,
  ap (λ (x : Generations). length x.passes) e
      ∙ (length-set (generations_after_all g (places_of n)).passes n _ ∙ h.1),
)

-- a pass whose turn has not come is known as before
pub places_later : (g : Generations) (n u : ℕ) → n ≤ u → known_of (generations_after_all g (places_of n)) (pass_id u) ≡ known_of g (pass_id u)
places_later g zero u l = refl
places_later g (suc n) u l = ap (λ (x : Generations). known_of x (pass_id u)) (place_after g n)
    ∙ (get_or-set_other (generations_after_all g (places_of n)).passes n u _ nothing_known (λ q. omega arith) ∙ places_later g n u (omega arith))

pub places_done : (g : Generations) (n u : ℕ) → u < n → n ≤ length g.passes → (known_of (generations_after_all g (places_of n)) (pass_id u)).placed ≡ true
places_done g zero u l m = absurd (omega arith)
places_done g (suc n) u l m =
    let h : Generations = generations_after_all g (places_of n) in
    let k : PassTrack = with_placed true (known_of h (pass_id n)) in
    let long = (places_current g n).1 in
    ap (λ (x : Generations). (known_of x (pass_id u)).placed) (place_after g n) ∙ dite (ℕ_discrete u n)
    (λ same. subst (λ (z : ℕ). (get_or (set h.passes n k) z nothing_known).placed ≡ true) (sym same)
    (ap (λ (k : PassTrack). k.placed) (get_or-set_same h.passes n k nothing_known (omega arith))))
    (λ other. ap (λ (k : PassTrack). k.placed) (get_or-set_other h.passes n u k nothing_known other) ∙ places_done g n u (omega arith) (omega arith))

pub places_stored : (g : Generations) (n : ℕ) → map stored (generations_after_all g (places_of n)).passes ≡ map stored g.passes
places_stored g zero = refl
places_stored g (suc n) = ap (λ (x : Generations). map stored x.passes) (place_after g n)
    ∙ (map_kept stored (generations_after_all g (places_of n)).passes n _ nothing_known refl ∙ places_stored g n)

pub unplaced_stored : (ks : List PassTrack) → map stored (map (with_placed false) ks) ≡ map stored ks
unplaced_stored [] = refl
unplaced_stored (k ∷ ks) = ap (λ l. stored k ∷ l) (unplaced_stored ks)

-- a pass that has its copy had it, or got it by now
pub places_placed : (g : Generations) (n u : ℕ) → (known_of (generations_after_all g (places_of n)) (pass_id u)).placed ≡ true
    → (known_of g (pass_id u)).placed ≡ false → 0 < n
places_placed g zero u placed free = absurd (both_ways _ free placed)
places_placed g (suc n) u placed free = omega arith

pub last_copy : {E Z : Type 0} (number : E → ℕ) (forest : E → Forest) (places : E → List Place) (g : ℕ) (x : Picked) (old new : List (Arc E Z))
    (o : Option (Arc E Z)) (a : Arc E Z) → old ≡ new ++ option_to_list o → o ≡ Some a
    → AreCopies number forest places g x old → AreCopies number forest places g x new × ((number (arc_value a) ≡ g) × (picked forest places (arc_value a) ≡ x))
last_copy {E} {Z} number forest places g x old new o a is some all =
    let P : Arc E Z → Type 0 = λ a. (number (arc_value a) ≡ g) × (picked forest places (arc_value a) ≡ x) in
    let whole = subst (λ l. Every P l) (is ∙ ap (λ o. new ++ option_to_list o) some) all in
    (every_first P new (a ∷ []) whole, (every_rest P new (a ∷ []) whole).0)

pub wrote_of : (v : View) (es : List HistoryEntry) (w : View) → HasWritten v es w → EndsWith es w.seen → Wrote hands.Writer v.sizes v.seen es w.seen
wrote_of v es w h ends = record { begins = h.begins; lawful = h.lawful; events = h.events; ends = ends }

-- what is stored as the current number is that of the last Publish
pub writing_number : {S : Type 0} {t : TableId} {me : Me S View} {current : ℕ} {known : List Found} {out : List Bool} → IsWriting t me current known out
    → current ≡ number_seen me.0.seen
writing_number w = w.is_current ∙ current_seen _ _ w.lawful

pub writes_both : (v : View) (es : List HistoryEntry) (w : View) (fs : List HistoryEntry) (u : View) → HasWritten v es w → HasWritten w fs u
    → HasWritten v (es ++ fs) u
writes_both v es w fs u h k = record {
  role = k.role ∙ h.role;
  out = k.out ∙ h.out;
  sizes = k.sizes ∙ h.sizes;
  begins = prefix_trans v.seen w.seen u.seen h.begins k.begins;
  lawful = subst (λ (z : Sizes). IsLegal z u.seen) h.sizes k.lawful;
  events = k.events ∙ (ap (λ l. l ++ fs) h.events ∙ append_assoc (own_entries 0 v.seen) es fs);
  home = λ q l. k.home q (ap (λ (o : List Bool). get_or o q false) h.out ∙ l) ∙ h.home q l;
}

-- after a sweep of each pass
pub swept_writing : {S : Type 0} (t t' : TableId) (me new : Me S View) (current : ℕ) (known known' : List Found) (out : List Bool) (n : ℕ) → t' ≡ t
    → new.1 ≡ me.1 → HasSwept me.0 new.0 known' n
    → IsWriting t me current known out → IsWriting t' new current known' out
swept_writing t t' me new current known known' out n table bare s w = let now = sweeping_current me.0 new.0 known' n s in record {
  role = s.writes.role ∙ w.role;
  free = s.holds.0 ∙ w.free;
  bare = bare ∙ w.bare;
  suits = suits_on t t' me.0.sizes new.0.sizes (sym table) (sym s.writes.sizes) w.suits;
  is_current = w.is_current ∙ sym now.0;
  is_known = s.is_known;
  many = now.1 ∙ (w.many ∙ ap (λ (z : Sizes). z.passes) (sym s.writes.sizes));
  unplaced = all_free me.0 new.0 known' n s w.unplaced;
  is_out = w.is_out ∙ sym s.writes.out;
  outs = w.outs ∙ ap (λ (z : Sizes). z.passes) (sym s.writes.sizes);
  lawful = subst (λ (z : Sizes). IsLegal z new.0.seen) (sym s.writes.sizes) s.writes.lawful;
}

-- all have their copies
pub placed_all : (w u : View) (x : Picked) (n : ℕ) → HasPlaced w u x n → n ≡ length (generations_seen w).passes → all_placed (generations_seen u).passes ≡ true
placed_all w u x n p is =
    let e = writes_generations w (places_of n) u p.writes in
    let long = (places_current (generations_seen w) n).1 in
    subst (λ (g : Generations). all_placed g.passes ≡ true) (sym e) (all_from _ (λ v l. places_done (generations_seen w) n v (omega arith) (omega arith)))

pub placed_current : (w u : View) (x : Picked) (n : ℕ) → HasPlaced w u x n → (generations_seen u).current ≡ (generations_seen w).current
placed_current w u x n p = ap (λ (g : Generations). g.current) (writes_generations w (places_of n) u p.writes) ∙ (places_current (generations_seen w) n).0

-- after a publish
pub published_writing : {S : Type 0} (t t' : TableId) (me : Me S View) (u : View) (new : Me S View) (current : ℕ) (known : List Found) (out : List Bool)
    (x : Picked) (n : ℕ) → t' ≡ t → new.1 ≡ [] → HasPlaced me.0 u x n → KeepsSlot u new.0
    → ComesNext 0 u events.Publish (carried_pick u.next) (current + 1) new.0 → IsWriting t me current known out → IsWriting t' new (current + 1) known out
published_writing t t' me u new current known out x n table bare p holds a w =
    let g : Generations = generations_seen me.0 in
    let h : Generations = generations_seen u in
    let e = writes_generations me.0 (places_of n) u p.writes in
    let after = generations_added u events.Publish (carried_pick u.next) (current + 1) new.0 refl a in
    let sizes : new.0.sizes ≡ me.0.sizes = a.sizes ∙ p.writes.sizes in record {
      role = a.role ∙ (p.writes.role ∙ w.role);
      free = holds.0 ∙ p.free;
      bare = bare;
      suits = suits_on t t' me.0.sizes new.0.sizes (sym table) (sym sizes) w.suits;
      is_current = ap (λ (c : ℕ). c + 1) (w.is_current ∙ sym (placed_current me.0 u x n p)) ∙ ap (λ (y : Generations). y.current) (sym after);
      is_known = w.is_known ∙ (sym (places_stored g n)
          ∙ (ap (λ (y : Generations). map stored y.passes) (sym e)
          ∙ (sym (unplaced_stored h.passes) ∙ ap (λ (y : Generations). map stored y.passes) (sym after))));
      many = ap (λ (y : Generations). length y.passes) after
          ∙ (length-map h.passes (with_placed false)
          ∙ (ap (λ (y : Generations). length y.passes) e ∙ ((places_current g n).1 ∙ (w.many ∙ ap (λ (z : Sizes). z.passes) (sym sizes)))));
      unplaced = λ v. ap (λ (y : Generations). (known_of y (pass_id v)).placed) after ∙ ap (λ (k : PassTrack). k.placed) (none_placed h.passes v);
      is_out = w.is_out ∙ sym (a.out ∙ p.writes.out);
      outs = w.outs ∙ ap (λ (z : Sizes). z.passes) (sym sizes);
      lawful = subst (λ (z : Sizes). IsLegal z new.0.seen) (sym a.sizes) a.lawful;
    }

-- what holds a publish up, as the pure machine says it
pub held_both : (c first : ℕ) (ks : List PassTrack) → held_from c first ks ≡ option_map refusal_of (held_in c first (map stored ks))
held_both c first [] = refl
held_both c first (k ∷ ks) = one k.found (held_both c (first + 1) ks)
  where
    one : (o : Option ℕ) → held_from c (first + 1) ks ≡ option_map refusal_of (held_in c (first + 1) (map stored ks))
        → (if holds_up c o then held_at (pass_id first) o else held_from c (first + 1) ks)
        ≡ option_map refusal_of (if holds_up c (number_pinned (pin_word o)) then Some
        (record { pass = pass_id first; number = pin_word o - 1 }) else held_in c (first + 1) (map stored ks))
    one None h = h
    one (Some q) h = subst (λ (x : Option ℕ). (if holds_up c (Some q) then held_at (pass_id first) (Some q) else held_from c (first + 1) ks)
        ≡ option_map refusal_of (if holds_up c x then Some (record { pass = pass_id first; number = q + 1 - 1 }) else held_in c (first + 1) (map stored ks)))
        (sym (pinned (Some q))) (go (nat_le (q + (most_generations - 1)) c))
      where
        go : (b : Bool) → (if b then held_at (pass_id first) (Some q) else held_from c (first + 1) ks)
            ≡ option_map refusal_of (if b then Some (record { pass = pass_id first; number = q + 1 - 1 }) else held_in c (first + 1) (map stored ks))
        go true = ap (λ (n : ℕ). Some (refusals.Held (pass_id first) n)) (omega arith)
        go false = h

pub held_found : (v w : View) (known : List Found) (n c : ℕ) → HasSwept v w known n → c ≡ (generations_seen v).current
    → held_up (generations_seen w) ≡ option_map refusal_of (held_in c 0 known)
held_found v w known n c s is = held_both (generations_seen w).current 0 (generations_seen w).passes
    ∙ ap (option_map refusal_of) (λ i. held_in (((sweeping_current v w known n s).0 ∙ sym is) i) 0 (sym s.is_known i))

pub least_is : (c : ℕ) (ks : List PassTrack) → least_in c (map stored ks) ≡ least_lowest c ks
least_is c [] = refl
least_is c (k ∷ ks) = ap (min k.lowest) (least_is c ks)

pub least_below : (c : ℕ) (fs : List Found) → least_in c fs ≤ c
least_below c [] = omega arith
least_below c (f ∷ fs) = let h = least_below c fs in omega arith

-- after a step that changes which passes are out
pub writing_seat : {S : Type 0} (t t' : TableId) (me new : Me S View) (current : ℕ) (known : List Found) (out out' : List Bool) → t' ≡ t → new.1 ≡ me.1
    → new.0.role ≡ me.0.role → KeepsSlot me.0 new.0 → new.0.sizes ≡ me.0.sizes
    → generations_seen new.0 ≡ generations_seen me.0 → IsLegal new.0.sizes new.0.seen → out' ≡ new.0.out → length out' ≡ length out
    → IsWriting t me current known out → IsWriting t' new current known out'
writing_seat t t' me new current known out out' table bare role holds sizes same lawful is long w = record {
  role = role ∙ w.role;
  free = holds.0 ∙ w.free;
  bare = bare ∙ w.bare;
  suits = suits_on t t' me.0.sizes new.0.sizes (sym table) (sym sizes) w.suits;
  is_current = w.is_current ∙ ap (λ (g : Generations). g.current) (sym same);
  is_known = w.is_known ∙ ap (λ (g : Generations). map stored g.passes) (sym same);
  many = ap (λ (g : Generations). length g.passes) same ∙ (w.many ∙ ap (λ (z : Sizes). z.passes) (sym sizes));
  unplaced = λ v. ap (λ (g : Generations). (known_of g (pass_id v)).placed) same ∙ w.unplaced v;
  is_out = is;
  outs = long ∙ (w.outs ∙ ap (λ (z : Sizes). z.passes) (sym sizes));
  lawful = lawful;
}
