-- A walk, replayed on the view that it begins from, gives the view that it ends in.
use Rattle.std.proofs.Common.{◌≡◌, ℕ, ◌<◌, ◌≤◌, ne_eqb, Bool, true, false, ◌||◌, List, [], ◌∷◌, ◌++◌, map, append_assoc, sym, refl, ap, ◌∙◌}
use Rattle.std.proofs.Common.{subst, arith, if◌then◌else◌, Option, Some, None}
use Rattle.std.specs.Prelude.{filter, filter_map, find, not, nat_lt, bit_or, option_and_then}
use Rattle.std.specs.List.{list_any, cons_option}
use Rattle.std.specs.Ordering.{is_lt, nat_cmp}
use Rattle.std.proofs.lemmas.Bool.{lt-ltb, le-ltb, eqb-true}
use Rattle.std.proofs.lemmas.Nat.{or_comm}
use Rattle.mem_base.specs.declared.views.flat.FlatRange.{FlatRange}
use Rattle.mem_base.specs.declared.views.listening.RangeEvent.{RangeEvent}
use Rattle.mem_base.specs.declared.views.listening.RangeEvent.TheVariants.{Delete, Add, Keep, LogStart, LogStop}
use Rattle.mem_base.specs.lists.Every.{Every}
use Rattle.mem_base.specs.views.View.{IsRanges}
use Rattle.mem_base.specs.lists.Sorting.{put_by}
use Rattle.mem_base.specs.views.Walk.{is_same_range, has_more_bits, log_started, log_stopped, added_or_kept, deleted, shown_again, walk}
use Rattle.mem_base.specs.views.Replay.{is_equal_range, meets_range, range_order, with_log, relogged, if_fits, ranges_after, ranges_after_all}
use Rattle.mem_base.proofs.EveryLaws.{weaker, every_push}
use Rattle.view_laws.proofs.Tests.{none_is_not_some}
use Rattle.view_laws.proofs.RangeLaws.{Apart, apart, Same, same_of, equal_itself, not_equal, with_its_log}
use Rattle.view_laws.proofs.RangeLaws.{any_middle, none_any, takes_out}
use Rattle.std.proofs.lemmas.Option.{same_Some}
use Rattle.mem_base.proofs.BoolLaws.{true_is_not_false}
use Rattle.mem_base.proofs.ViewLaws.{same_itself, not_same}

-- events one after another

pub after_both : (rs : Option (List FlatRange)) (es fs : List RangeEvent) → ranges_after_all rs (es ++ fs) ≡ ranges_after_all (ranges_after_all rs es) fs
after_both rs [] fs = refl
after_both rs (e ∷ es) fs = after_both (option_and_then (λ qs. ranges_after qs e) rs) es fs

-- the deletes

abbrev kept_in : List FlatRange → FlatRange → Bool
kept_in new r = list_any (is_same_range r) new

-- each of these ranges begins before all of those
abbrev Precede : List FlatRange → List FlatRange → Type 0
Precede xs ys = Every (λ x. Every (λ y. x.start < y.start) ys) xs

first_of : (xs : List FlatRange) (y : FlatRange) (ys : List FlatRange) → Precede xs (y ∷ ys) → Every (λ x. x.start < y.start) xs
first_of xs y ys h = weaker (λ x. Every (λ y. x.start < y.start) (y ∷ ys)) (λ x. x.start < y.start) (λ x e. e.0) xs h

rest_of : (xs : List FlatRange) (y : FlatRange) (ys : List FlatRange) → Precede xs (y ∷ ys) → Precede xs ys
rest_of xs y ys h = weaker (λ x. Every (λ y. x.start < y.start) (y ∷ ys)) (λ x. Every (λ y. x.start < y.start) ys) (λ x e. e.1) xs h

starts_after : (r : FlatRange) (rs : List FlatRange) → r.start ≤ r.last → Every (λ q. r.last < q.start) rs → Every (λ q. r.start < q.start) rs
starts_after r rs l h = weaker (λ q. r.last < q.start) (λ q. r.start < q.start) (λ q e. omega arith) rs h

unequal_before : (r : FlatRange) (xs : List FlatRange) → Every (λ x. x.start < r.start) xs → Every (λ x. is_equal_range r x ≡ false) xs
unequal_before r xs h = weaker (λ x. x.start < r.start) (λ x. is_equal_range r x ≡ false) (λ x e. not_equal r x (λ z. omega arith)) xs h

unequal_after : (r : FlatRange) (xs : List FlatRange) → Every (λ x. r.start < x.start) xs → Every (λ x. is_equal_range r x ≡ false) xs
unequal_after r xs h = weaker (λ x. r.start < x.start) (λ x. is_equal_range r x ≡ false) (λ x e. not_equal r x (λ z. omega arith)) xs h

-- one delete takes its range out
deletes_one : (r : FlatRange) (xs ys : List FlatRange) → Every (λ x. x.start < r.start) xs → Every (λ x. r.start < x.start) ys
    → ranges_after (xs ++ r ∷ ys) (Delete r) ≡ Some (xs ++ ys)
deletes_one r xs ys before after =
    let there : list_any (is_equal_range r) (xs ++ r ∷ ys) ≡ true = any_middle (is_equal_range r) xs r ys (equal_itself r) in
    let out : filter (λ q. not (is_equal_range r q)) (xs ++ r ∷ ys) ≡ xs ++ ys = takes_out (is_equal_range r) xs r ys (unequal_before r xs before)
    (equal_itself r) (unequal_after r ys after) in
    rw there (ap Some out)

abbrev deletes_of : List FlatRange → List FlatRange → List RangeEvent
deletes_of new rest = map (λ r. Delete r) (filter (λ r. not (kept_in new r)) rest)

deletes_from : (new done rest : List FlatRange) → Precede done rest → Apart rest
    → ranges_after_all (Some (done ++ rest)) (deletes_of new rest) ≡ Some (done ++ filter (kept_in new) rest)
deletes_from new done [] h k = refl
deletes_from new done (r ∷ rest) h k =
    let before = first_of done r rest h in
    let after = starts_after r rest k.0 k.1 in
    go (kept_in new r)
    (subst (λ (z : List FlatRange). ranges_after_all (Some z) (deletes_of new rest) ≡ Some (done ++ r ∷ filter (kept_in new) rest))
    (append_assoc done (r ∷ []) rest)
    (deletes_from new (done ++ r ∷ []) rest (every_push (λ x. Every (λ y. x.start < y.start) rest) done r (rest_of done r rest h) after) k.2
    ∙ ap Some (append_assoc done (r ∷ []) (filter (kept_in new) rest))))
    (ap (λ (z : Option (List FlatRange)). ranges_after_all z (deletes_of new rest)) (deletes_one r done rest before after)
    ∙ deletes_from new done rest (rest_of done r rest h) k.2)
  where
    go : (b : Bool) → ranges_after_all (Some (done ++ r ∷ rest)) (deletes_of new rest) ≡ Some (done ++ r ∷ filter (kept_in new) rest)
        → ranges_after_all (ranges_after (done ++ r ∷ rest) (Delete r)) (deletes_of new rest) ≡ Some (done ++ filter (kept_in new) rest)
        → ranges_after_all (Some (done ++ r ∷ rest))
        (map (λ r. Delete r) (if not b then r ∷ filter (λ r. not (kept_in new r)) rest else filter (λ r. not (kept_in new r)) rest))
        ≡ Some (done ++ (if b then r ∷ filter (kept_in new) rest else filter (kept_in new) rest))
    go true x y = x
    go false x y = y

-- the old ranges that are the same as new ones, in the order of the new ones

abbrev old_same : List FlatRange → FlatRange → Option FlatRange
old_same old r = find (is_same_range r) old

abbrev olds : List FlatRange → List FlatRange → List FlatRange
olds old new = filter_map (old_same old) new

none_after : (r : FlatRange) (qs : List FlatRange) → Every (λ q. r.start < q.start) qs → find (is_same_range r) qs ≡ None
none_after r [] h = refl
none_after r (q ∷ qs) h = rw (not_same r q (λ z. let l = h.0 in omega arith)) (none_after r qs h.1)

-- what is found is the same, and one of the list
found_same : (r : FlatRange) (qs : List FlatRange) (x : FlatRange) → find (is_same_range r) qs ≡ Some x → is_same_range r x ≡ true
found_same r [] x h = none_is_not_some x h
found_same r (q ∷ qs) x h = go (is_same_range r q) refl h (found_same r qs x)
  where
    go : (b : Bool) → is_same_range r q ≡ b → (if b then Some q else find (is_same_range r) qs) ≡ Some x
        → (find (is_same_range r) qs ≡ Some x → is_same_range r x ≡ true) → is_same_range r x ≡ true
    go true e h rest = subst (λ (z : FlatRange). is_same_range r z ≡ true) (same_Some q x h) e
    go false e h rest = rest h

found_after : (a : ℕ) (r : FlatRange) (qs : List FlatRange) (x : FlatRange) → Every (λ q. a < q.start) qs → find (is_same_range r) qs ≡ Some x → a < x.start
found_after a r [] x k h = none_is_not_some x h
found_after a r (q ∷ qs) x k h = go (is_same_range r q) h (found_after a r qs x k.1)
  where
    go : (b : Bool) → (if b then Some q else find (is_same_range r) qs) ≡ Some x → (find (is_same_range r) qs ≡ Some x → a < x.start) → a < x.start
    go true h rest = subst (λ (z : FlatRange). a < z.start) (same_Some q x h) k.0
    go false h rest = rest h

any_same_after : (q : FlatRange) (rs : List FlatRange) → Every (λ r. q.start < r.start) rs → list_any (is_same_range q) rs ≡ false
any_same_after q [] h = refl
any_same_after q (r ∷ rs) h = rw (not_same q r (λ z. let l = h.0 in omega arith)) (any_same_after q rs h.1)

-- an old range that is the same as none of some new ones is not found for them
olds_without : (q : FlatRange) (qs new : List FlatRange) → Every (λ r. q.start < r.start) new → olds (q ∷ qs) new ≡ olds qs new
olds_without q qs [] h = refl
olds_without q qs (r ∷ new) h =
    let e : find (is_same_range r) (q ∷ qs) ≡ find (is_same_range r) qs = rw (not_same r q (λ z. let l = h.0 in omega arith)) refl in
    ap (λ (o : Option FlatRange). cons_option o (olds (q ∷ qs) new)) e ∙ ap (cons_option (find (is_same_range r) qs)) (olds_without q qs new h.1)

no_olds : (new : List FlatRange) → olds [] new ≡ []
no_olds [] = refl
no_olds (r ∷ new) = no_olds new

back : (r q : FlatRange) → is_same_range r q ≡ true → is_same_range q r ≡ true
back r q h = let s = same_of r q h in
    subst (λ (z : FlatRange). is_same_range q z ≡ true) (with_its_log r q s) (same_but_log r.attrs.log q)
  where
    same_but_log : (log : ℕ) (q : FlatRange) → is_same_range q (with_log log q) ≡ true
    same_but_log log q = same_itself q

both_ways : (r q : FlatRange) (b : Bool) → is_same_range r q ≡ b → is_same_range q r ≡ b
both_ways r q true h = back r q h
both_ways r q false h = go (is_same_range q r) refl
  where
    go : (b : Bool) → is_same_range q r ≡ b → b ≡ false
    go true e = true_is_not_false (is_same_range r q) (back q r e) h
    go false e = refl

-- one old range before others
olds_with : (q : FlatRange) (qs new : List FlatRange) → Every (λ x. q.start < x.start) qs → Apart new
    → olds (q ∷ qs) new ≡ (if kept_in new q then q ∷ olds qs new else olds qs new)
olds_with q qs [] h k = refl
olds_with q qs (r ∷ rs) h k = go (is_same_range r q) refl (olds_with q qs rs h k.2)
  where
    after : Every (λ x. r.start < x.start) rs
    after = starts_after r rs k.0 k.1

    after_q : (x : FlatRange) → find (is_same_range r) qs ≡ Some x → Every (λ y. q.start < y.start) rs
    after_q x e = let l = found_after q.start r qs x h e in let s = (same_of r x (found_same r qs x e)).start in
        weaker (λ y. r.start < y.start) (λ y. q.start < y.start) (λ y z. omega arith) rs after

    others : (o : Option FlatRange) → find (is_same_range r) qs ≡ o → olds (q ∷ qs) rs ≡ (if kept_in rs q then q ∷ olds qs rs else olds qs rs)
        → cons_option o (olds (q ∷ qs) rs) ≡ (if kept_in rs q then q ∷ cons_option o (olds qs rs) else cons_option o (olds qs rs))
    others None e rest = rest
    others (Some x) e rest = let b = after_q x e in
        ap (λ (z : List FlatRange). x ∷ z) (olds_without q qs rs b) ∙ ap (λ (b : Bool). if b then q ∷ x ∷ olds qs rs else x ∷ olds qs rs)
        (sym (any_same_after q rs b))

    go : (b : Bool) → is_same_range r q ≡ b → olds (q ∷ qs) rs ≡ (if kept_in rs q then q ∷ olds qs rs else olds qs rs)
        → cons_option (if b then Some q else find (is_same_range r) qs) (olds (q ∷ qs) rs)
        ≡ (if is_same_range q r || kept_in rs q then q ∷ cons_option (find (is_same_range r) qs) (olds qs rs)
        else cons_option (find (is_same_range r) qs) (olds qs rs))
    go true e rest =
        let s = (same_of r q e).start in
        let none : find (is_same_range r) qs ≡ None = none_after r qs (weaker (λ x. q.start < x.start) (λ x. r.start < x.start) (λ x z. omega arith) qs h) in
        let w : olds (q ∷ qs) rs ≡ olds qs rs = olds_without q qs rs (weaker (λ y. r.start < y.start) (λ y. q.start < y.start) (λ y z. omega arith) rs after) in
        rw (both_ways r q true e, none, w) refl
    go false e rest = rw (both_ways r q false e) (others (find (is_same_range r) qs) refl rest)

-- the old ranges that are kept are those found for the new ones
olds_kept : (old new : List FlatRange) → Apart old → Apart new → filter (kept_in new) old ≡ olds old new
olds_kept [] new h k = sym (no_olds new)
olds_kept (q ∷ qs) new h k = sym (olds_with q qs new (starts_after q qs h.0 h.1) k ∙ ap (λ (z : List FlatRange). if kept_in new q then q ∷ z else z)
    (sym (olds_kept qs new h.2 k)))

-- the ranges that are found begin where the new ones do
olds_after : (a : ℕ) (old new : List FlatRange) → Every (λ r. a < r.start) new → Every (λ x. a < x.start) (olds old new)
olds_after a old [] h = tt
olds_after a old (r ∷ new) h = go (old_same old r) refl (olds_after a old new h.1)
  where
    go : (o : Option FlatRange) → old_same old r ≡ o → Every (λ x. a < x.start) (olds old new) → Every (λ x. a < x.start) (cons_option o (olds old new))
    go None e rest = rest
    go (Some x) e rest = (let s = (same_of r x (found_same r old x e)).start in let l = h.0 in omega arith, rest)

-- an Add puts its range between those before and those after

meets_none_before : (r : FlatRange) (xs : List FlatRange) → Every (λ x. x.last < r.start) xs → Every (λ x. meets_range r x ≡ false) xs
meets_none_before r xs h = weaker (λ x. x.last < r.start) (λ x. meets_range r x ≡ false) (λ x l. rw (lt-ltb x.last r.start l) (go (nat_lt r.last x.start))) xs h
  where
    go : (b : Bool) → not (b || true) ≡ false
    go true = refl
    go false = refl

meets_none_after : (r : FlatRange) (xs : List FlatRange) → Every (λ x. r.last < x.start) xs → Every (λ x. meets_range r x ≡ false) xs
meets_none_after r xs h = weaker (λ x. r.last < x.start) (λ x. meets_range r x ≡ false) (λ x l. rw (lt-ltb r.last x.start l) refl) xs h

not_less : (a b : ℕ) → b < a → is_lt (nat_cmp a b) ≡ false
not_less a b l = rw (le-ltb a b (omega arith), ne_eqb a b (λ z. omega arith)) refl

less : (a b : ℕ) → a < b → is_lt (nat_cmp a b) ≡ true
less a b l = rw (lt-ltb a b l) refl

put_first : (r : FlatRange) (ys : List FlatRange) → Every (λ y. r.start < y.start) ys → put_by range_order r ys ≡ r ∷ ys
put_first r [] h = refl
put_first r (y ∷ ys) h = rw (less r.start y.start h.0) refl

put_between : (r : FlatRange) (xs ys : List FlatRange) → Every (λ x. x.start < r.start) xs → Every (λ y. r.start < y.start) ys
    → put_by range_order r (xs ++ ys) ≡ xs ++ r ∷ ys
put_between r [] ys h k = put_first r ys k
put_between r (x ∷ xs) ys h k = rw (not_less r.start x.start h.0) (ap (λ (z : List FlatRange). x ∷ z) (put_between r xs ys h.1 k))

adds_one : (r : FlatRange) (xs ys : List FlatRange) → r.start ≤ r.last → Every (λ x. (x.start ≤ x.last) × (x.last < r.start)) xs
    → Every (λ y. r.last < y.start) ys
    → ranges_after (xs ++ ys) (Add r) ≡ Some (xs ++ r ∷ ys)
adds_one r xs ys l before after =
    let free : list_any (meets_range r) (xs ++ ys) ≡ false = none_any (meets_range r) xs ys
    (meets_none_before r xs (weaker (λ x. (x.start ≤ x.last) × (x.last < r.start)) (λ x. x.last < r.start) (λ x e. e.1) xs before))
    (meets_none_after r ys after) in
    let put : put_by range_order r (xs ++ ys) ≡ xs ++ r ∷ ys =
    put_between r xs ys (weaker (λ x. (x.start ≤ x.last) × (x.last < r.start)) (λ x. x.start < r.start) (λ x e. let a = e.0 in let b = e.1 in
    omega arith) xs before) (starts_after r ys l after) in
    rw free (ap Some put)

-- a range that is kept gets the new log

unchanged : (r : FlatRange) (log : ℕ) (xs : List FlatRange) → Every (λ x. is_same_range r x ≡ false) xs → relogged r log xs ≡ xs
unchanged r log [] h = refl
unchanged r log (x ∷ xs) h = rw h.0 (ap (λ (z : List FlatRange). x ∷ z) (unchanged r log xs h.1))

relogs_one : (r : FlatRange) (log : ℕ) (xs : List FlatRange) (q : FlatRange) (ys : List FlatRange) → Every (λ x. is_same_range r x ≡ false) xs
    → is_same_range r q ≡ true → Every (λ y. is_same_range r y ≡ false) ys
    → relogged r log (xs ++ q ∷ ys) ≡ xs ++ with_log log q ∷ ys
relogs_one r log [] q ys h e k = rw e (ap (λ (z : List FlatRange). with_log log q ∷ z) (unchanged r log ys k))
relogs_one r log (x ∷ xs) q ys h e k = rw h.0 (ap (λ (z : List FlatRange). x ∷ z) (relogs_one r log xs q ys h.1 e k))

abbrev logs : FlatRange → FlatRange → List RangeEvent
logs r q = log_started r q.attrs.log r.attrs.log ++ log_stopped r q.attrs.log r.attrs.log

-- no bits gained and none lost: the same log
same_log : (a b : ℕ) → has_more_bits a b ≡ false → has_more_bits b a ≡ false → b ≡ a
same_log a b h k = let x : bit_or a b ≡ a = eqb-true _ _ (not_not _ h) in let y : bit_or b a ≡ b = eqb-true _ _ (not_not _ k) in sym y ∙ or_comm b a ∙ x
  where
    not_not : (t : Bool) → not t ≡ false → t ≡ true
    not_not true e = refl
    not_not false e = absurd (grind arith)

-- one step that fits
fits_to : (b : Bool) (xs ys : List FlatRange) (es : List RangeEvent) → b ≡ true → xs ≡ ys → ranges_after_all (if_fits b xs) es ≡ ranges_after_all (Some ys) es
fits_to b xs ys es h e = ap (λ (z : Bool × List FlatRange). ranges_after_all (if_fits z.0 z.1) es) (λ i. (h i, e i))

keeps_one : (r q : FlatRange) (xs ys : List FlatRange) → Every (λ x. is_same_range r x ≡ false) xs → is_same_range r q ≡ true
    → Every (λ y. is_same_range r y ≡ false) ys
    → ranges_after_all (Some (xs ++ q ∷ ys)) (Keep r ∷ logs r q) ≡ Some (xs ++ r ∷ ys)
keeps_one r q xs ys before e after =
    let there : (z : FlatRange) → is_same_range r z ≡ true → list_any (is_same_range r) (xs ++ z ∷ ys) ≡ true = λ z h. any_middle (is_same_range r) xs z ys h in
    let s = same_of r q e in
    let once : relogged r r.attrs.log (xs ++ q ∷ ys) ≡ xs ++ r ∷ ys = relogs_one r r.attrs.log xs q ys before e after
    ∙ ap (λ (z : FlatRange). xs ++ z ∷ ys) (with_its_log r q s) in
    let again : relogged r r.attrs.log (xs ++ r ∷ ys) ≡ xs ++ r ∷ ys = relogs_one r r.attrs.log xs r ys before (same_itself r) after in
    fits_to (list_any (is_same_range r) (xs ++ q ∷ ys)) (xs ++ q ∷ ys) (xs ++ q ∷ ys) (logs r q) (there q e) refl
    ∙ go (has_more_bits q.attrs.log r.attrs.log) (has_more_bits r.attrs.log q.attrs.log) refl refl (there q e) (there r (same_itself r)) once again s
  where
    go : (b c : Bool) → has_more_bits q.attrs.log r.attrs.log ≡ b → has_more_bits r.attrs.log q.attrs.log ≡ c
        → list_any (is_same_range r) (xs ++ q ∷ ys) ≡ true → list_any (is_same_range r) (xs ++ r ∷ ys) ≡ true
        → relogged r r.attrs.log (xs ++ q ∷ ys) ≡ xs ++ r ∷ ys → relogged r r.attrs.log (xs ++ r ∷ ys) ≡ xs ++ r ∷ ys → Same r q
        → ranges_after_all (Some (xs ++ q ∷ ys))
        ((if b then LogStart r q.attrs.log r.attrs.log ∷ [] else []) ++ (if c then LogStop r q.attrs.log r.attrs.log ∷ [] else [])) ≡ Some (xs ++ r ∷ ys)
    go true true x y t u once again s = fits_to _ _ _ (LogStop r q.attrs.log r.attrs.log ∷ []) t once ∙ fits_to _ _ _ [] u again
    go true false x y t u once again s = fits_to _ _ _ [] t once
    go false true x y t u once again s = fits_to _ _ _ [] t once
    go false false x y t u once again s = ap (λ (z : FlatRange). Some (xs ++ z ∷ ys))
        (sym (let l : r.attrs.log ≡ q.attrs.log = same_log q.attrs.log r.attrs.log x y in sym (with_its_log r q s) ∙ ap (λ (n : ℕ). with_log n q) l))

-- all new ranges, each added or kept

not_same_before : (r : FlatRange) (xs : List FlatRange) → Every (λ x. (x.start ≤ x.last) × (x.last < r.start)) xs → Every (λ x. is_same_range r x ≡ false) xs
not_same_before r xs h = weaker (λ x. (x.start ≤ x.last) × (x.last < r.start)) (λ x. is_same_range r x ≡ false)
    (λ x e. not_same r x (λ z. let a = e.0 in let b = e.1 in omega arith)) xs h

not_same_after : (r : FlatRange) (xs : List FlatRange) → Every (λ x. r.start < x.start) xs → Every (λ x. is_same_range r x ≡ false) xs
not_same_after r xs h = weaker (λ x. r.start < x.start) (λ x. is_same_range r x ≡ false) (λ x e. not_same r x (λ z. omega arith)) xs h

-- each of these ranges ends before all of those
abbrev EndBefore : List FlatRange → List FlatRange → Type 0
EndBefore xs ys = Every (λ x. (x.start ≤ x.last) × Every (λ y. x.last < y.start) ys) xs

shows_from : (old done rest : List FlatRange) → EndBefore done rest → Apart rest
    → ranges_after_all (Some (done ++ olds old rest)) (shown_again old rest) ≡ Some (done ++ rest)
shows_from old done [] h k = refl
shows_from old done (r ∷ rest) h k =
    let before : Every (λ x. (x.start ≤ x.last) × (x.last < r.start)) done =
    weaker (λ x. (x.start ≤ x.last) × Every (λ y. x.last < y.start) (r ∷ rest)) (λ x. (x.start ≤ x.last) × (x.last < r.start))
    (λ x e. (e.0, e.1.0)) done h in
    let others : EndBefore done rest = weaker (λ x. (x.start ≤ x.last) × Every (λ y. x.last < y.start) (r ∷ rest))
    (λ x. (x.start ≤ x.last) × Every (λ y. x.last < y.start) rest) (λ x e. (e.0, e.1.1)) done h in
    let later : ranges_after_all (Some (done ++ r ∷ olds old rest)) (shown_again old rest) ≡ Some (done ++ r ∷ rest) =
    subst (λ (z : List FlatRange × List FlatRange). ranges_after_all (Some z.0) (shown_again old rest) ≡ Some z.1)
    (λ i. (append_assoc done (r ∷ []) (olds old rest) i, append_assoc done (r ∷ []) rest i))
    (shows_from old (done ++ r ∷ []) rest (every_push (λ x. (x.start ≤ x.last) × Every (λ y. x.last < y.start) rest) done r others (k.0, k.1)) k.2) in
    go (old_same old r) refl before later
  where
    past : Every (λ x. r.last < x.start) (olds old rest)
    past = olds_after r.last old rest k.1

    go : (o : Option FlatRange) → old_same old r ≡ o → Every (λ x. (x.start ≤ x.last) × (x.last < r.start)) done
        → ranges_after_all (Some (done ++ r ∷ olds old rest)) (shown_again old rest) ≡ Some (done ++ r ∷ rest)
        → ranges_after_all (Some (done ++ cons_option o (olds old rest))) (added_or_kept r o ++ shown_again old rest) ≡ Some (done ++ r ∷ rest)
    go None e before later = ap (λ (z : Option (List FlatRange)). ranges_after_all z (shown_again old rest))
        (adds_one r done (olds old rest) k.0 before past) ∙ later
    go (Some q) e before later =
        after_both (Some (done ++ q ∷ olds old rest)) (Keep r ∷ logs r q) (shown_again old rest)
        ∙ ap (λ (z : Option (List FlatRange)). ranges_after_all z (shown_again old rest))
        (keeps_one r q done (olds old rest) (not_same_before r done before) (found_same r old q e)
        (not_same_after r (olds old rest) (starts_after r (olds old rest) k.0 past)))
        ∙ later

-- from one view to another, each of which stands apart
pub walk_replays_apart : (old new : List FlatRange) → Apart old → Apart new → ranges_after_all (Some old) (walk old new) ≡ Some new
walk_replays_apart old new a b =
    after_both (Some old) (deleted old new) (shown_again old new)
    ∙ ap (λ (z : Option (List FlatRange)). ranges_after_all z (shown_again old new)) (deletes_from new [] old tt a ∙ ap Some (olds_kept old new a b))
    ∙ shows_from old [] new tt b

pub walk_replays : (from end : ℕ) (old new : List FlatRange) → IsRanges from end old → IsRanges from end new → ranges_after_all (Some old)
    (walk old new) ≡ Some new
walk_replays from end old new h k = walk_replays_apart old new (apart from end old h) (apart from end new k)
