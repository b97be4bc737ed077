-- Opening a table, splitting a seat, joining two, and looks that show no event.
use Rattle.epoch_rule.proofs.Common.{◌≡◌, ◌≢◌, ◌⊎◌, ℕ, zero, suc, ◌+◌, ◌-◌, ◌<◌, ◌≤◌, eqb, Bool, true, false, List, [], ◌∷◌, ◌++◌, length, get_or, set, sym}
use Rattle.epoch_rule.proofs.Common.{refl, ap, ◌∙◌, subst, ⊎_elim, inl, inr, arith, get_or-set_other, get_or-set_same, ne_eqb, if◌then◌else◌, append-nil}
use Rattle.epoch_rule.proofs.Common.{Option, Some, None, append_cancel_left, both_ways, ltb-true, unwrap_or, dite, some, some-ne-none, IsPrefix, ℕ_discrete}
use Rattle.epoch_rule.proofs.Common.{get_elem?, set-get_or, prefix_refl, nat_lt, State, Me, keeps, Allows, set_again, HistoryEntry, Generation, shared_opening}
use Rattle.epoch_rule.proofs.Common.{Sizes, Picked, View, idle, own_entries, actor_of, pass_after_all, IsLegal, pass_seen, SeatKnows, IsRuled, first_free}
use Rattle.epoch_rule.proofs.Common.{met_view, taken_in, none_is_no_number, same_number, own_append, legal_start, ltb-false, some-injective, Splits, Joins}
use Rattle.epoch_rule.proofs.Common.{at_snoc, IsSharedLegal, longer, note_view, spent_view, with_least_out, next_pass, settles, drop, set_else, prefix_anti}
use Rattle.epoch_rule.proofs.Common.{IsSettled}
use Rattle.std.proofs.Common.{eq-eqb}
use Rattle.epoch_rule.proofs.EntrySteps.{seats_set, knows_still}

module _ {A : Type 0} where
  pub shorter_begins : (p q l : List A) → IsPrefix p l → IsPrefix q l → length p ≤ length q → IsPrefix p q
  shorter_begins [] q l h k le = (q, refl)
  shorter_begins (x ∷ p) [] l h k le = absurd (omega arith)
  shorter_begins (x ∷ p) (y ∷ q) l h k le = let t = shorter_begins p q (drop 1 l) (h.0, ap (drop 1) h.1) (k.0, ap (drop 1) k.1) (omega arith) in
      let e : x ≡ y = ap (λ z. get_or z 0 x) (h.1 ∙ sym k.1) in (t.0, λ i. e i ∷ t.1 i)

  pub at_end : (l : List A) (a b : A) (j : ℕ) → get_elem? (l ++ a ∷ []) j ≡ some b → (get_elem? l j ≡ some b) ⊎ ((j ≡ length l) × (a ≡ b))
  at_end [] a b zero e = inr (refl, some-injective a b e)
  at_end [] a b (suc j) e = absurd (some-ne-none b (sym e))
  at_end (x ∷ xs) a b zero e = inl e
  at_end (x ∷ xs) a b (suc j) e = ⊎_elim (λ t. inl t) (λ t. inr (ap suc t.0, t.1)) (at_end xs a b j e)

-- a longer beginning of the history has as many events of the actor
pub squeezed : (a : ℕ) (xs ys log : List HistoryEntry) → IsPrefix xs ys → IsPrefix ys log → own_entries a xs ≡ own_entries a log
    → own_entries a ys ≡ own_entries a log
squeezed a xs ys log h k e = prefix_anti (own_entries a ys) (own_entries a log)
    (own_entries a k.0, sym (own_append a ys k.0) ∙ ap (own_entries a) k.1)
    (subst (λ l. IsPrefix l (own_entries a ys)) e (own_entries a h.0, sym (own_append a xs h.0) ∙ ap (own_entries a) h.1))

pub longer_cases : (P : List HistoryEntry → Type 0) (xs ys : List HistoryEntry) → (length xs < length ys → P ys) → (length ys ≤ length xs → P xs)
    → P (longer xs ys)
longer_cases P xs ys one two = go (nat_lt (length xs) (length ys)) refl
  where
    go : (b : Bool) → nat_lt (length xs) (length ys) ≡ b → P (if b then ys else xs)
    go true e = one (ltb-true _ _ e)
    go false e = two (ltb-false _ _ e)

longer_of : (xs ys log : List HistoryEntry) → IsPrefix xs log → IsPrefix ys log
    → IsPrefix xs (longer xs ys) × IsPrefix ys (longer xs ys) × IsPrefix (longer xs ys) log
longer_of xs ys log h k = longer_cases (λ z. IsPrefix xs z × IsPrefix ys z × IsPrefix z log) xs ys
    (λ l. (shorter_begins xs ys log h k (omega arith), prefix_refl ys, k)) (λ l. (prefix_refl xs, shorter_begins ys xs log k h l, h))

abbrev put : (ℕ → ℕ) → ℕ → ℕ → ℕ → ℕ
put f a x b = if eqb b a then x else f b

put_here : (f : ℕ → ℕ) (a x : ℕ) → put f a x a ≡ x
put_here f a x = rw (eq-eqb a a refl) refl

put_else : (f : ℕ → ℕ) (a x b : ℕ) → b ≢ a → put f a x b ≡ f b
put_else f a x b other = rw (ne_eqb b a other) refl

first_is : (bs : List Bool) → get_or bs (first_free bs) false ≡ false
first_is [] = refl
first_is (true ∷ bs) = first_is bs
first_is (false ∷ bs) = refl

pub set_false : (out : List Bool) (i : ℕ) → get_or (set out i false) i false ≡ false
set_false [] i = refl
set_false (b ∷ bs) zero = refl
set_false (b ∷ bs) (suc i) = set_false bs i

module _ {S : Type 0} (Copy : ℕ → Generation → S → Type 0) (z : Sizes) where
  -- the rule where the views alone change
  reseat : (s : State S View) (k : IsRuled Copy z s) (views' : List View) (owner : ℕ → ℕ) (out : List Bool)
      → ((p : ℕ) → get_or out p false ≡ false → pass_after_all idle (own_entries (p + 1) k.log) ≡ idle)
      → ((j : ℕ) (v : View) → get_elem? views' j ≡ some v → SeatKnows z k.log owner out k.held k.next j v)
      → IsRuled Copy z record { words = s.words; homes = s.homes; views = views' }
  reseat s k views' owner out rest seats = record {
    log = k.log;
    lawful = k.lawful;
    shown = k.shown;
    roomy = k.roomy;
    owner = owner;
    out = out;
    rest = rest;
    held = k.held;
    next = k.next;
    slots = k.slots;
    seats = seats;
  }

  idles : (log : List HistoryEntry) (owner : ℕ → ℕ) (out : List Bool) (h : ℕ) (x : Picked) (j : ℕ) (v : View) → v.role ≡ None → IsPrefix v.seen log
      → IsPrefix v.was v.seen → IsPrefix v.told v.seen → SeatKnows z log owner out h x j v
  idles log owner out h x j v r b was told = record {
    knows = λ a is. absurd (none_is_no_number a (sym r ∙ is));
    begins = b;
    was = was;
    told = told;
    quiet = λ a is. absurd (none_is_no_number a (sym r ∙ is));
    fresh = λ new p is. absurd (none_is_no_number (p + 1) (sym r ∙ is));
    sits = λ a is. absurd (none_is_no_number a (sym r ∙ is));
    all = λ a is. absurd (none_is_no_number a (sym r ∙ is));
    goes = λ p is. absurd (none_is_no_number (p + 1) (sym r ∙ is));
    counts = λ is. absurd (none_is_no_number 0 (sym r ∙ is));
    stay = λ is. absurd (none_is_no_number 0 (sym r ∙ is));
    brought = λ is. absurd (none_is_no_number 0 (sym r ∙ is));
    home = λ is. absurd (none_is_no_number 0 (sym r ∙ is));
  }

  pub tells : (id : ℕ) (v : View) → Splits (IsRuled Copy z) id v v (note_view v)
  tells id v s k at = reseat s k (set s.views id v ++ note_view v ∷ []) k.owner k.out k.rest
      (λ j w e. ⊎_elim (λ t. k.seats j w (subst (λ l. get_elem? l j ≡ some w) (set_again s.views id v at) t))
      (λ t. subst (λ (y : View). SeatKnows z k.log k.owner k.out k.held k.next j y) t (let f = k.seats id v at in
      idles k.log k.owner k.out k.held k.next j (note_view v) refl f.begins f.was f.told)) (at_snoc (set s.views id v) (note_view v) w j e))

  -- a view that has met a note
  merged : (log : List HistoryEntry) (owner : ℕ → ℕ) (out : List Bool) (h : ℕ) (x : Picked) (j : ℕ) (v w : View) → SeatKnows z log owner out h x j v
      → IsPrefix w.seen log → SeatKnows z log owner out h x j (met_view v w)
  merged log owner out h x j v w f g =
      let t = longer_of v.seen w.seen log f.begins g in record {
        knows = f.knows;
        begins = t.2;
        was = t.0;
        told = t.1;
        quiet = λ a is. f.all a is ∙ sym (squeezed a v.seen (longer v.seen w.seen) log t.0 t.2 (f.all a is));
        fresh = λ new p is. absurd (grind arith);
        sits = f.sits;
        all = λ a is. squeezed a v.seen (longer v.seen w.seen) log t.0 t.2 (f.all a is);
        goes = f.goes;
        counts = f.counts;
        stay = λ is q l ne. f.home is q l ∙ sym (squeezed (q + 1) v.seen (longer v.seen w.seen) log t.0 t.2 (f.home is q l));
        brought = λ is q l e. absurd (omega arith);
        home = λ is p l. squeezed (p + 1) v.seen (longer v.seen w.seen) log t.0 t.2 (f.home is p l);
      }

  -- where one seat met another, which is spent
  joined : (s : State S View) (k : IsRuled Copy z s) (id other : ℕ) (new : View) (out : List Bool)
      → ((p : ℕ) → get_or out p false ≡ false → pass_after_all idle (own_entries (p + 1) k.log) ≡ idle)
      → SeatKnows z k.log k.owner out k.held k.next id new
      → ((j : ℕ) (u : View) → j ≢ other → j ≢ id → get_elem? s.views j ≡ some u → SeatKnows z k.log k.owner out k.held k.next j u)
      → IsRuled Copy z record { words = s.words; homes = s.homes; views = set (set s.views id new) other spent_view }
  joined s k id other new out rest here others = reseat s k (set (set s.views id new) other spent_view) k.owner out rest
      (seats_set (SeatKnows z k.log k.owner out k.held k.next) (set s.views id new) other spent_view
      (idles k.log k.owner out k.held k.next other spent_view refl (k.log, refl) ([], refl) ([], refl))
      (λ j u apart at. seats_set (λ i w. i ≢ other → SeatKnows z k.log k.owner out k.held k.next i w) s.views id new (λ _. here)
      (λ i w ne at apart. others i w apart ne at) j u at apart))

  pub learns : (id : ℕ) (v : View) (other : ℕ) (w : View) → Joins (IsRuled Copy z) id v other w (met_view v w) spent_view
  learns id v other w s k at apart e =
      joined s k id other (met_view v w) k.out k.rest
      (merged k.log k.owner k.out k.held k.next id v w (k.seats id v at) (k.seats other w (sym (set_else s.views id other (met_view v w) apart) ∙ e)).begins)
      (λ j u _ _ at. k.seats j u at)

  pub hands_out : (id : ℕ) (v : View) → v.role ≡ Some 0 → first_free v.out < length v.out → Splits (IsRuled Copy z) id v (with_least_out v) (next_pass v)
  hands_out id v role room s k at =
      let f : ℕ = first_free v.out in
      let mine = k.seats id v at in
      let out' : List Bool = set k.out f true in
      let same : v.out ≡ k.out = (mine.counts role).0 in
      let was : get_or k.out f false ≡ false = subst (λ (o : List Bool). get_or o f false ≡ false) same (first_is v.out) in
      let now : get_or out' f false ≡ true = get_or-set_same k.out f true false (subst (λ (o : List Bool). f < length o) same room) in
      let vs : List View = set s.views id (with_least_out v) in
      let owner' : ℕ → ℕ = put k.owner (f + 1) (length vs) in
      let rest : (p : ℕ) → get_or out' p false ≡ false
      → get_or k.out p false ≡ false = λ p l. dite (ℕ_discrete p f)
      (λ e. absurd (both_ways _ l (subst (λ (y : ℕ). get_or out' y false ≡ true) (sym e) now))) (λ ne. sym (get_or-set_other k.out f p true false ne) ∙ l) in
      let kept : (j : ℕ) (w : View) → SeatKnows z k.log k.owner k.out k.held k.next j w → (o : List Bool) → (w.role ≡ Some 0 → o ≡ out')
      → SeatKnows z k.log owner' out' k.held k.next j (record w { out = o }) = λ j w g o new.
      knows_still w o w.held w.next g (prefix_refl k.log)
      (λ a is. put_else k.owner (f + 1) (length vs) a (λ q. both_ways _ was (g.goes f (is ∙ ap (λ (y : ℕ). Some y) q)))) (λ a is. refl)
      (λ p is. get_or-set_other k.out f p true false (λ q. both_ways _ was (subst (λ (y : ℕ). get_or k.out y false ≡ true) q (g.goes p is))))
      (λ is. let c = g.counts is in ((new is, c.1, c.2), λ q l. (rest q l, refl))) in
      reseat s k (vs ++ next_pass v ∷ []) owner' out' (λ p l. k.rest p (rest p l))
      (λ j w e. ⊎_elim
      (seats_set (SeatKnows z k.log owner' out' k.held k.next) s.views id (with_least_out v)
      (kept id v mine (set v.out f true) (λ _. ap (λ (o : List Bool). set o f true) same))
      (λ i u other at. let g = k.seats i u at in kept i u g u.out (λ is. absurd (other (sym (g.sits 0 is) ∙ mine.sits 0 role)))) j w)
      (λ (t : (j ≡ length vs) × (next_pass v ≡ w)). subst (λ (y : ℕ × View). SeatKnows z k.log owner' out' k.held k.next y.0 y.1)
      (λ i. (sym t.0 i, t.1 i)) record {
        knows = λ a is. mine.knows 0 role;
        begins = mine.begins;
        was = prefix_refl v.seen;
        told = prefix_refl v.seen;
        quiet = λ a is. refl;
        fresh = λ new p is. subst (λ (y : ℕ). pass_after_all idle (own_entries y v.seen) ≡ idle) (same_number (f + 1) (p + 1) is)
            (ap (pass_after_all idle) (mine.home role f was) ∙ k.rest f was);
        sits = λ a is. ap owner' (sym (same_number (f + 1) a is)) ∙ put_here k.owner (f + 1) (length vs);
        all = λ a is. subst (λ (y : ℕ). own_entries y v.seen ≡ own_entries y k.log) (same_number (f + 1) a is) (mine.home role f was);
        goes = λ p is. let e : f ≡ p = (let q = same_number (f + 1) (p + 1) is in omega arith) in subst (λ (y : ℕ). get_or out' y false ≡ true) e now;
        counts = λ is. absurd (let q = same_number (f + 1) 0 is in omega arith);
        stay = λ is. absurd (let q = same_number (f + 1) 0 is in omega arith);
        brought = λ is. absurd (let q = same_number (f + 1) 0 is in omega arith);
        home = λ is. absurd (let q = same_number (f + 1) 0 is in omega arith);
      })
      (at_end vs (next_pass v) w j e))

  pub takes_in : (id : ℕ) (v : View) (other : ℕ) (w : View) (p : ℕ) → v.role ≡ Some 0 → w.role ≡ Some (p + 1) → pass_seen p w ≡ idle
      → Joins (IsRuled Copy z) id v other w (taken_in v w) spent_view
  takes_in id v other w p role pass still s k at apart e =
      let mine = k.seats id v at in
      let theirs = k.seats other w (sym (set_else s.views id other (taken_in v w) apart) ∙ e) in
      let m : ℕ = unwrap_or w.role 0 - 1 in
      let is_p : m ≡ p = (let q : unwrap_or w.role 0 ≡ p + 1 = ap (λ (r : Option ℕ). unwrap_or r 0) pass in omega arith) in
      let out' : List Bool = set k.out m false in
      let all : List HistoryEntry = longer v.seen w.seen in
      let t = longer_of v.seen w.seen k.log mine.begins theirs.begins in
      let met = merged k.log k.owner k.out k.held k.next id v w mine theirs.begins in
      joined s k id other (taken_in v w) out'
      (λ b l. dite (ℕ_discrete b p)
      (λ same. ap (λ (y : ℕ). pass_after_all idle (own_entries (y + 1) k.log)) same ∙ (ap (pass_after_all idle) (sym (theirs.all (p + 1) pass)) ∙ still))
      (λ ne. k.rest b (sym (get_or-set_other k.out m b false false (λ x. ne (x ∙ is_p))) ∙ l)))
      record {
        knows = met.knows;
        begins = met.begins;
        was = met.was;
        told = met.told;
        quiet = met.quiet;
        fresh = met.fresh;
        sits = met.sits;
        all = met.all;
        goes = λ b is. absurd (let x = same_number 0 (b + 1) (sym role ∙ is) in omega arith);
        counts = λ is. let c = mine.counts role in (ap (λ (o : List Bool). set o m false) c.0, c.1, c.2);
        stay = λ is b l ne. let apart : b ≢ p = λ same. ne (let q : unwrap_or w.role 0 ≡ p + 1 = ap (λ (r : Option ℕ). unwrap_or r 0) pass in omega arith) in
            let there = mine.home role b (sym (get_or-set_other k.out m b false false (λ x. apart (x ∙ is_p))) ∙ l) in
            there ∙ sym (squeezed (b + 1) v.seen all k.log t.0 t.2 there);
        brought = λ is b l e. let same : b ≡ p = (let q : unwrap_or w.role 0 ≡ p + 1 = ap (λ (r : Option ℕ). unwrap_or r 0) pass in omega arith) in
            let there = theirs.all (b + 1) (pass ∙ ap (λ (y : ℕ). Some (y + 1)) (sym same)) in
            there ∙ sym (squeezed (b + 1) w.seen all k.log t.1 t.2 there);
        home = λ is b l. dite (ℕ_discrete b p)
            (λ same. squeezed (b + 1) w.seen all k.log t.1 t.2 (theirs.all (b + 1) (pass ∙ ap (λ (y : ℕ). Some (y + 1)) (sym same))))
            (λ ne. squeezed (b + 1) v.seen all k.log t.0 t.2 (mine.home role b (sym (get_or-set_other k.out m b false false (λ x. ne (x ∙ is_p))) ∙ l)));
      }
      (λ j u apart ne at. let g = k.seats j u at in
      knows_still u u.out u.held u.next g (prefix_refl k.log) (λ a is. refl) (λ a is. refl)
      (λ b is. get_or-set_other k.out m b false false
      (λ x. apart (sym (g.sits (b + 1) is) ∙ (ap (λ (y : ℕ). k.owner (y + 1)) (x ∙ is_p) ∙ theirs.sits (p + 1) pass))))
      (λ is. absurd (ne (sym (g.sits 0 is) ∙ mine.sits 0 role))))

  -- where no pass is out, the writer has seen the whole history
  pub sees_whole : (s : State S View) (k : IsRuled Copy z s) (id : ℕ) (v : View) → get_elem? s.views id ≡ some v → v.role ≡ Some 0
      → ((p : ℕ) → get_or v.out p false ≡ false) → v.seen ≡ k.log
  sees_whole s k id v at role home =
      let f = k.seats id v at in
      let none_left : (a : ℕ) → own_entries a f.begins.0 ≡ [] = λ a. append_cancel_left (own_entries a v.seen) (own_entries a f.begins.0) []
      (sym (own_append a v.seen f.begins.0) ∙ (ap (own_entries a) f.begins.1 ∙ (sym (all a) ∙ sym (append-nil (own_entries a v.seen))))) in
      sym (append-nil v.seen) ∙ (ap (λ y. v.seen ++ y) (sym (empty f.begins.0 none_left)) ∙ f.begins.1)
    where
      all : (a : ℕ) → own_entries a v.seen ≡ own_entries a k.log
      all zero = (k.seats id v at).all 0 role
      all (suc p) = subst (λ (y : ℕ). own_entries y v.seen ≡ own_entries y k.log) (omega arith)
          ((k.seats id v at).home role p (ap (λ (o : List Bool). get_or o p false) (sym ((k.seats id v at).counts role).0) ∙ home p))

      empty : (xs : List HistoryEntry) → ((a : ℕ) → own_entries a xs ≡ []) → xs ≡ []
      empty [] h = refl
      empty (x ∷ xs) h = absurd (omega (arith, sym (ap length (h (actor_of x.event))), ap length (first x xs)))
        where
          first : (x : HistoryEntry) (xs : List HistoryEntry) → own_entries (actor_of x.event) (x ∷ xs) ≡ x ∷ own_entries (actor_of x.event) xs
          first x xs = rw (eq-eqb (actor_of x.event) (actor_of x.event) refl) refl

  -- looks that show no event
  pub peek : (slots id : ℕ) (me : Me S View) (i : ℕ) → Allows (IsRuled Copy z) slots id me i (λ r. r) (λ r w. w ≡ me)
  peek slots id me i s k deep at small = (
    me.0,
    keeps,
    tt,
    subst (λ (y : List ℕ × List View). IsRuled Copy z record { words = y.0; homes = s.homes; views = y.1 })
        (λ j. (sym (set-get_or s.words i 0) j, sym (set_again s.views id me.0 at) j)) k,
    refl,
  )

  pub settle : (slots id : ℕ) (me : Me S View) (i : ℕ) → Allows (IsRuled Copy z) slots id me i (λ r. r) (λ r w. settles me w)
  settle slots id me i s k deep at small =
      let f = k.seats id me.0 at in
      let did = peek slots id me i s k deep at small in
      let settled : (w : View) → w ≡ me.0 → (a : ℕ) → me.0.role ≡ Some a → IsSettled a me.0 w = λ w same a is. record {
        same = same;
        was = f.was;
        told = f.told;
        quiet = f.quiet a is;
        stay = λ r q l ne. f.stay r q (ap (λ (o : List Bool). get_or o q false) (sym (f.counts r).0) ∙ l) ne;
        brought = λ r q l e. f.brought r q (ap (λ (o : List Bool). get_or o q false) (sym (f.counts r).0) ∙ l) e;
        fresh = f.fresh;
        lawful = subst (λ (y : Sizes). IsLegal y me.0.seen) (sym (f.knows a is))
            (legal_start me.0.seen f.begins.0 (shared_opening z.words z.passes) (subst (IsSharedLegal z.words z.passes) (sym f.begins.1) k.lawful));
      } in
      (did.0, did.1, did.2, did.3, (ap (λ m. m.1) did.4, settled _ (ap (λ m. m.0) did.4)))

pub first_most : (bs : List Bool) → first_free bs ≤ length bs
first_most [] = omega arith
first_most (true ∷ bs) = let h = first_most bs in omega arith
first_most (false ∷ bs) = omega arith
