-- How the two parts of a walk go on with the next range.
use Rattle.std.proofs.Common.{◌≡◌, ℕ, ◌<◌, ◌≤◌, ◌+◌, Bool, true, false, ◌&&◌, cond, List, [], ◌∷◌, ◌++◌, Option, Some, None, map, refl, sym}
use Rattle.std.proofs.Common.{ap, ◌∙◌, subst, arith, nat_le, eqb, eqb-true, eq-eqb, append_assoc, append-nil, drop, drop-cons, drop-drop}
use Rattle.std.proofs.Common.{get_or, length, add-one, ◌^◌}
use Rattle.view_walk.specs.declared.sides.Side.{Side}
use Rattle.view_walk.specs.declared.sides.Side.TheVariants.{OldOnly, Both, NewOnly}
use Rattle.view_walk.specs.Sides.{first_of, side_of}
use Rattle.std.proofs.lemmas.Nat.Bits.{bit_at_or, same_from_bits}
use Rattle.std.specs.Int.{bit_at}
use Rattle.std.specs.Prelude.{bit_or, max, zero, suc, slice_get, if◌then◌else◌, filter, find, not, ◌==◌}
use Rattle.std.specs.List.{list_any}
use Rattle.std.proofs.lemmas.Bool.Decides.{nat_tests}
use Rattle.mem_base.specs.map.Attributes.{is_same_flags}
use Rattle.mem_base.specs.declared.views.flat.FlatRange.{FlatRange}
use Rattle.mem_base.specs.declared.views.listening.RangeEvent.{RangeEvent}
use Rattle.mem_base.specs.declared.views.listening.RangeEvent.TheVariants.{Delete, Add, Keep}
use Rattle.mem_base.specs.lists.Booleans.{bool_eq}
use Rattle.mem_base.specs.lists.Every.{Every}
use Rattle.mem_base.specs.views.View.{IsRanges}
use Rattle.mem_base.specs.views.Walk.{is_same_range, added_or_kept, deleted, shown_again, walk}
use Rattle.mem_base.proofs.BoolLaws.{number_swap}
use Rattle.mem_base.proofs.ViewLaws.{ranges_past, same_itself, not_same}
use Rattle.mem_base.proofs.EveryLaws.{weaker}

-- each range begins before all later ones
abbrev pub Rises : List FlatRange → Type 0
Rises [] = Unit {0}
Rises (r ∷ rs) = Every (λ q. r.start < q.start) rs × Rises rs

pub rises : (from end : ℕ) (rs : List FlatRange) → IsRanges from end rs → Rises rs
rises from end [] h = tt
rises from end (r ∷ rs) h = let n = h.1 in (ranges_past (r.last + 1) end r.start rs (omega arith) h.3, rises (r.last + 1) end rs h.3)

before : (r q : FlatRange) → r.start < q.start → is_same_range r q ≡ false
before r q l = not_same r q (λ e. omega arith)

after : (r q : FlatRange) → q.start < r.start → is_same_range r q ≡ false
after r q l = not_same r q (λ e. omega arith)

-- an old range that is no new one
old_deleted : (o : FlatRange) (os ns : List FlatRange) → Every (λ n. is_same_range o n ≡ false) ns → deleted (o ∷ os) ns ≡ Delete o ∷ deleted os ns
old_deleted o os ns h = rw (none_same o ns h) refl
  where
    none_same : (o : FlatRange) (ns : List FlatRange) → Every (λ n. is_same_range o n ≡ false) ns → list_any (is_same_range o) ns ≡ false
    none_same o [] h = refl
    none_same o (n ∷ ns) h = rw h.0 (none_same o ns h.1)

-- ranges of the new view look past an old range that is none of them
look_past : (o : FlatRange) (os ns : List FlatRange) → Every (λ n. is_same_range n o ≡ false) ns → shown_again (o ∷ os) ns ≡ shown_again os ns
look_past o os [] h = refl
look_past o os (n ∷ ns) h = rw h.0 (ap (λ es. added_or_kept n (find (is_same_range n) os) ++ es) (look_past o os ns h.1))

-- old ranges of which none is the new one
delete_past : (n : FlatRange) (os ns : List FlatRange) → Every (λ o. is_same_range o n ≡ false) os → deleted os (n ∷ ns) ≡ deleted os ns
delete_past n [] ns h = refl
delete_past n (o ∷ os) ns h =
    rw h.0 (kept_or_deleted o (list_any (is_same_range o) ns) (filter (λ r. not (list_any (is_same_range r) (n ∷ ns))) os)
    (filter (λ r. not (list_any (is_same_range r) ns)) os) (delete_past n os ns h.1))
  where
    kept_or_deleted : (o : FlatRange) (b : Bool) (xs ys : List FlatRange) → map (λ r. Delete r) xs ≡ map (λ r. Delete r) ys →
        map (λ r. Delete r) (cond (not b) (o ∷ xs) xs) ≡ map (λ r. Delete r) (cond (not b) (o ∷ ys) ys)
    kept_or_deleted o true xs ys e = e
    kept_or_deleted o false xs ys e = ap (λ es. Delete o ∷ es) e

-- a new range that is no old one
new_added : (n : FlatRange) (os ns : List FlatRange) → Every (λ o. is_same_range n o ≡ false) os → shown_again os (n ∷ ns) ≡ Add n ∷ shown_again os ns
new_added n os ns h = rw (none_found n os h) refl
  where
    none_found : (n : FlatRange) (os : List FlatRange) → Every (λ o. is_same_range n o ≡ false) os → find (is_same_range n) os ≡ None
    none_found n [] h = refl
    none_found n (o ∷ os) h = rw h.0 (none_found n os h.1)

-- a range of both views
both_kept : (o n : FlatRange) (os ns : List FlatRange) → is_same_range o n ≡ true → deleted (o ∷ os) (n ∷ ns) ≡ deleted os (n ∷ ns)
both_kept o n os ns e = rw e refl

both_found : (o n : FlatRange) (os ns : List FlatRange) → is_same_range n o ≡ true → shown_again (o ∷ os) (n ∷ ns) ≡ added_or_kept n (Some o)
    ++ shown_again (o ∷ os) ns
both_found o n os ns e = rw e refl

bool_eq_sym : (a b : Bool) → bool_eq a b ≡ bool_eq b a
bool_eq_sym true true = refl
bool_eq_sym true false = refl
bool_eq_sym false true = refl
bool_eq_sym false false = refl

same_sym : (r q : FlatRange) → is_same_range r q ≡ is_same_range q r
same_sym r q =
    let a = number_swap r.start q.start in
    let b = number_swap r.last q.last in
    let c = number_swap r.leaf.0 q.leaf.0 in
    let d = number_swap r.offset q.offset in
    let e = bool_eq_sym r.attrs.readonly q.attrs.readonly in
    let f = bool_eq_sym r.attrs.nonvolatile q.attrs.nonvolatile in
    let g = bool_eq_sym r.attrs.romd q.attrs.romd in
    let h = bool_eq_sym r.attrs.unmergeable q.attrs.unmergeable in
    rw (a, b, c, d, e, f, g, h) refl

same_start : (r q : FlatRange) → is_same_range r q ≡ true → r.start ≡ q.start
same_start r q h = go (eqb r.start q.start) refl
  where
    go : (b : Bool) → eqb r.start q.start ≡ b → r.start ≡ q.start
    go true e = eqb-true r.start q.start e
    go false e = absurd (let no : false ≡ true =
        subst (λ b. (b && (r.last == q.last) && (r.leaf.0 == q.leaf.0) && (r.offset == q.offset) && is_same_flags r.attrs q.attrs) ≡ true) e h in grind arith)

-- a range whose logging mask stays is kept, and that is all
or_self : (n : ℕ) → bit_or n n ≡ n
or_self n = same_from_bits (bit_or n n) n (λ i. let e = bit_at_or n n i in e ∙ max_self (bit_at n i))
  where
    max_self : (a : ℕ) → max a a ≡ a
    max_self a = omega arith

pub kept_alone : (r : FlatRange) → added_or_kept r (Some r) ≡ Keep r ∷ []
kept_alone r = rw (or_self r.attrs.log, eq-eqb r.attrs.log r.attrs.log refl) refl

-- how far a walk is: what was told, and the ranges of each view that are left
pub record IsWalking (old new : List FlatRange) (steps shown : List RangeEvent) (os ns : List FlatRange) : Type 0 where
  pub deletes : steps ++ deleted os ns ≡ deleted old new
  pub rest : shown ++ shown_again os ns ≡ shown_again old new
  pub rising_old : Rises os
  pub rising_new : Rises ns

pub walking_first : (old new : List FlatRange) → IsRanges 0 (2 ^ 64) old → IsRanges 0 (2 ^ 64) new → IsWalking old new [] [] old new
walking_first old new h k = record { deletes = refl; rest = refl; rising_old = rises 0 (2 ^ 64) old h; rising_new = rises 0 (2 ^ 64) new k }

pub walking_last : (old new : List FlatRange) (steps shown : List RangeEvent) → IsWalking old new steps shown [] [] → steps ++ shown ≡ walk old new
walking_last old new steps shown w =
    let a : steps ≡ deleted old new = sym (append-nil steps) ∙ w.deletes in
    let b : shown ≡ shown_again old new = sym (append-nil shown) ∙ w.rest in
    rw (a, b) refl

-- the next range of the old view is no new one where no new range is left, or where the next one is another and does not
-- begin before it
pub walking_old : (old new : List FlatRange) (steps shown : List RangeEvent) (o : FlatRange) (os ns : List FlatRange) →
    Every (λ n. is_same_range o n ≡ false) ns → IsWalking old new steps shown (o ∷ os) ns → IsWalking old new (steps ++ Delete o ∷ []) shown os ns
walking_old old new steps shown o os ns none w = record {
  deletes = append_assoc steps (Delete o ∷ []) (deleted os ns) ∙ ap (λ es. steps ++ es) (sym (old_deleted o os ns none)) ∙ w.deletes;
  rest = ap (λ es. shown ++ es) (sym (look_past o os ns
      (weaker (λ n. is_same_range o n ≡ false) (λ n. is_same_range n o ≡ false) (λ n e. same_sym n o ∙ e) ns none))) ∙ w.rest;
  rising_old = w.rising_old.1;
  rising_new = w.rising_new;
}

pub walking_new : (old new : List FlatRange) (steps shown : List RangeEvent) (n : FlatRange) (os ns : List FlatRange) →
    Every (λ o. is_same_range o n ≡ false) os → IsWalking old new steps shown os (n ∷ ns) → IsWalking old new steps (shown ++ Add n ∷ []) os ns
walking_new old new steps shown n os ns none w = record {
  deletes = ap (λ es. steps ++ es) (sym (delete_past n os ns none)) ∙ w.deletes;
  rest = append_assoc shown (Add n ∷ []) (shown_again os ns)
      ∙ ap (λ es. shown ++ es) (sym (new_added n os ns
      (weaker (λ o. is_same_range o n ≡ false) (λ o. is_same_range n o ≡ false) (λ o e. same_sym n o ∙ e) os none))) ∙ w.rest;
  rising_old = w.rising_old;
  rising_new = w.rising_new.1;
}

pub walking_both : (old new : List FlatRange) (steps shown : List RangeEvent) (o n : FlatRange) (os ns : List FlatRange) → is_same_range o n ≡ true →
    IsWalking old new steps shown (o ∷ os) (n ∷ ns) → IsWalking old new steps (shown ++ added_or_kept n (Some o)) os ns
walking_both old new steps shown o n os ns e w =
    let start = same_start o n e in
    let olds = weaker (λ p. o.start < p.start) (λ p. is_same_range p n ≡ false) (λ p l. after p n (subst (λ k. k < p.start) start l)) os w.rising_old.0 in
    let news = weaker (λ m. n.start < m.start) (λ m. is_same_range m o ≡ false) (λ m l. after m o (subst (λ k. k < m.start) (sym start) l)) ns w.rising_new.0 in
    record {
      deletes = ap (λ es. steps ++ es) (sym (both_kept o n os ns e ∙ delete_past n os ns olds)) ∙ w.deletes;
      rest = append_assoc shown (added_or_kept n (Some o)) (shown_again os ns)
          ∙ ap (λ es. shown ++ es) (sym (both_found o n os ns (same_sym n o ∙ e) ∙ ap (λ es. added_or_kept n (Some o) ++ es) (look_past o os ns news)))
          ∙ w.rest;
      rising_old = w.rising_old.1;
      rising_new = w.rising_new.1;
    }

-- the next range of one and the same view
pub walking_kept : (view : List FlatRange) (shown : List RangeEvent) (i : ℕ) (r d : FlatRange) → i < length view → r ≡ get_or view i d
    → IsWalking view view [] shown (drop i view) (drop i view)
    → IsWalking view view [] (shown ++ added_or_kept r (Some r)) (drop (i + 1) view) (drop (i + 1) view)
walking_kept view shown i r d l e w =
    let next : drop i view ≡ r ∷ drop (i + 1) view =
    drop-cons view i d l ∙ (λ k. sym e k ∷ drop (sym (add-one i) k) view) in
    walking_both view view [] shown r r (drop (i + 1) view) (drop (i + 1) view) (same_itself r)
    (subst (λ rs. IsWalking view view [] shown rs rs) next w)

-- an old range that does not begin after the next new one, and is another, is no new one
pub none_after : (o n : FlatRange) (ns : List FlatRange) → is_same_range o n ≡ false → o.start ≤ n.start → Rises (n ∷ ns) →
    Every (λ m. is_same_range o m ≡ false) (n ∷ ns)
none_after o n ns e l h = (e, weaker (λ m. n.start < m.start) (λ m. is_same_range o m ≡ false) (λ m k. before o m (omega arith)) ns h.0)

pub none_before : (n o : FlatRange) (os : List FlatRange) → is_same_range o n ≡ false → n.start < o.start → Rises (o ∷ os) →
    Every (λ p. is_same_range p n ≡ false) (o ∷ os)
none_before n o os e l h = (e, weaker (λ p. o.start < p.start) (λ p. is_same_range p n ≡ false) (λ p k. after p n (omega arith)) os h.0)

-- the first of the ranges that are left
pub first_at : (i : ℕ) (xs : List FlatRange) → slice_get xs i ≡ first_of (drop i xs)
first_at i [] = nothing i
  where
    nothing : (i : ℕ) → slice_get {X = FlatRange} [] i ≡ first_of (drop i [])
    nothing zero = refl
    nothing (suc i) = refl
first_at zero (x ∷ xs) = refl
first_at (suc i) (x ∷ xs) = first_at i xs

-- what is left after the first
pub record IsFirst (o : FlatRange) (os : List FlatRange) : Type 0 where
  pub rest : List FlatRange
  pub are : os ≡ o ∷ rest

module _ (o n : FlatRange) (os ns : List FlatRange) (ro : Rises (o ∷ os)) (rn : Rises (n ∷ ns)) where
  abbrev picked : Bool → Bool → Option Side
  picked same first = if same then Some (Both o n) else if first then Some (OldOnly o) else Some (NewOnly n)

  old_of_two : (r : FlatRange) (same first : Bool) → is_same_range o n ≡ same → nat_le o.start n.start ≡ first → picked same first ≡ Some (OldOnly r) →
      (o ≡ r) × Every (λ m. is_same_range o m ≡ false) (n ∷ ns)
  old_of_two r true first e l h = absurd (let no = h in cc)
  old_of_two r false true e l h = (let q = h in cc, none_after o n ns e (let t = l in grind (arith, nat_tests)) rn)
  old_of_two r false false e l h = absurd (let no = h in cc)

  new_of_two : (r : FlatRange) (same first : Bool) → is_same_range o n ≡ same → nat_le o.start n.start ≡ first → picked same first ≡ Some (NewOnly r) →
      (n ≡ r) × Every (λ p. is_same_range p n ≡ false) (o ∷ os)
  new_of_two r true first e l h = absurd (let no = h in cc)
  new_of_two r false true e l h = absurd (let no = h in cc)
  new_of_two r false false e l h = (let q = h in cc, none_before n o os e (let t = l in grind (arith, nat_tests)) ro)

  both_of_two : (r q : FlatRange) (same first : Bool) → is_same_range o n ≡ same → picked same first ≡ Some (Both r q) → (o ≡ r) × (n ≡ q)
      × (is_same_range o n ≡ true)
  both_of_two r q true first e h = (let w = h in cc, let w = h in cc, e)
  both_of_two r q false true e h = absurd (let no = h in cc)
  both_of_two r q false false e h = absurd (let no = h in cc)

-- a turn of the walk, by the side on which the next range stands

-- what the old view's next range, in it only, is
old_next : (r : FlatRange) (os ns : List FlatRange) → Rises os → Rises ns → side_of (first_of os) (first_of ns) ≡ Some (OldOnly r) → (os ≡ r ∷ drop 1 os)
    × Every (λ m. is_same_range r m ≡ false) ns
old_next r [] [] ro rn h = absurd (let no = h in cc)
old_next r [] (n ∷ ns) ro rn h = absurd (let no = h in cc)
old_next r (o ∷ os) [] ro rn h = (let q = h in cc, tt)
old_next r (o ∷ os) (n ∷ ns) ro rn h =
    let w = old_of_two o n os ns ro rn r (is_same_range o n) (nat_le o.start n.start) refl refl h in
    (ap (λ x. x ∷ os) w.0, subst (λ x. Every (λ m. is_same_range x m ≡ false) (n ∷ ns)) w.0 w.1)

new_next : (r : FlatRange) (os ns : List FlatRange) → Rises os → Rises ns → side_of (first_of os) (first_of ns) ≡ Some (NewOnly r) → (ns ≡ r ∷ drop 1 ns)
    × Every (λ p. is_same_range p r ≡ false) os
new_next r [] [] ro rn h = absurd (let no = h in cc)
new_next r (o ∷ os) [] ro rn h = absurd (let no = h in cc)
new_next r [] (n ∷ ns) ro rn h = (let q = h in cc, tt)
new_next r (o ∷ os) (n ∷ ns) ro rn h =
    let w = new_of_two o n os ns ro rn r (is_same_range o n) (nat_le o.start n.start) refl refl h in
    (ap (λ x. x ∷ ns) w.0, subst (λ x. Every (λ p. is_same_range p x ≡ false) (o ∷ os)) w.0 w.1)

both_next : (r q : FlatRange) (os ns : List FlatRange) → Rises os → Rises ns → side_of (first_of os) (first_of ns) ≡ Some (Both r q) → (os ≡ r ∷ drop 1 os)
    × (ns ≡ q ∷ drop 1 ns) × (is_same_range r q ≡ true)
both_next r q [] [] ro rn h = absurd (let no = h in cc)
both_next r q (o ∷ os) [] ro rn h = absurd (let no = h in cc)
both_next r q [] (n ∷ ns) ro rn h = absurd (let no = h in cc)
both_next r q (o ∷ os) (n ∷ ns) ro rn h =
    let w = both_of_two o n os ns ro rn r q (is_same_range o n) (nat_le o.start n.start) refl h in
    (ap (λ x. x ∷ os) w.0, ap (λ x. x ∷ ns) w.1, subst (λ x. is_same_range x q ≡ true) w.0 (subst (λ y. is_same_range o y ≡ true) w.1 w.2))

-- no side is left where no range is
none_next : (os ns : List FlatRange) → side_of (first_of os) (first_of ns) ≡ None → (os ≡ []) × (ns ≡ [])
none_next [] [] h = (refl, refl)
none_next [] (n ∷ ns) h = absurd (let no = h in cc)
none_next (o ∷ os) [] h = absurd (let no = h in cc)
none_next (o ∷ os) (n ∷ ns) h = absurd (go (is_same_range o n) (nat_le o.start n.start) h)
  where
    go : (same first : Bool) → (if same then Some (Both o n) else if first then Some (OldOnly o) else Some (NewOnly n)) ≡ None → ⊥
    go true first h = cc
    go false true h = cc
    go false false h = cc

-- a range that is left stands at an index within the list
shorter : (i : ℕ) (xs : List FlatRange) (r : FlatRange) → drop i xs ≡ r ∷ drop 1 (drop i xs) → i + 1 ≤ length xs
shorter zero [] r e = absurd (let no = e in cc)
shorter zero (x ∷ xs) r e = omega arith
shorter (suc i) [] r e = absurd (let no = e in cc)
shorter (suc i) (x ∷ xs) r e = let l = shorter i xs r e in omega arith

further : (i : ℕ) (xs : List FlatRange) → drop 1 (drop i xs) ≡ drop (i + 1) xs
further i xs = drop-drop 1 i xs

module _ (old new : List FlatRange) (steps shown : List RangeEvent) (i j : ℕ) (w : IsWalking old new steps shown (drop i old) (drop j new)) where
  pub turn_old : (r : FlatRange) → side_of (first_of (drop i old)) (first_of (drop j new)) ≡ Some (OldOnly r) →
      IsWalking old new (steps ++ Delete r ∷ []) shown (drop (i + 1) old) (drop j new) × (i + 1 ≤ length old)
  turn_old r h =
      let next = old_next r (drop i old) (drop j new) w.rising_old w.rising_new h in
      let here = subst (λ os. IsWalking old new steps shown os (drop j new)) next.0 w in (
        subst (λ os. IsWalking old new (steps ++ Delete r ∷ []) shown os (drop j new)) (further i old)
            (walking_old old new steps shown r (drop 1 (drop i old)) (drop j new) next.1 here),
        shorter i old r next.0,
      )

  pub turn_new : (r : FlatRange) → side_of (first_of (drop i old)) (first_of (drop j new)) ≡ Some (NewOnly r) →
      IsWalking old new steps (shown ++ Add r ∷ []) (drop i old) (drop (j + 1) new) × (j + 1 ≤ length new)
  turn_new r h =
      let next = new_next r (drop i old) (drop j new) w.rising_old w.rising_new h in
      let here = subst (λ ns. IsWalking old new steps shown (drop i old) ns) next.0 w in (
        subst (λ ns. IsWalking old new steps (shown ++ Add r ∷ []) (drop i old) ns) (further j new)
            (walking_new old new steps shown r (drop i old) (drop 1 (drop j new)) next.1 here),
        shorter j new r next.0,
      )

  pub turn_both : (r q : FlatRange) → side_of (first_of (drop i old)) (first_of (drop j new)) ≡ Some (Both r q) →
      IsWalking old new steps (shown ++ added_or_kept q (Some r)) (drop (i + 1) old) (drop (j + 1) new) × (i + 1 ≤ length old) × (j + 1 ≤ length new)
  turn_both r q h =
      let next = both_next r q (drop i old) (drop j new) w.rising_old w.rising_new h in
      let here = subst (λ ns. IsWalking old new steps shown (r ∷ drop 1 (drop i old)) ns) next.1
      (subst (λ os. IsWalking old new steps shown os (drop j new)) next.0 w) in
      let step = walking_both old new steps shown r q (drop 1 (drop i old)) (drop 1 (drop j new)) next.2 here in (
        subst (λ ns. IsWalking old new steps (shown ++ added_or_kept q (Some r)) (drop (i + 1) old) ns) (further j new)
            (subst (λ os. IsWalking old new steps (shown ++ added_or_kept q (Some r)) os (drop 1 (drop j new))) (further i old) step),
        shorter i old r next.0,
        shorter j new q next.1,
      )

  pub turns_end : side_of (first_of (drop i old)) (first_of (drop j new)) ≡ None → steps ++ shown ≡ walk old new
  turns_end h =
      let none = none_next (drop i old) (drop j new) h in
      walking_last old new steps shown (subst (λ ns. IsWalking old new steps shown [] ns) none.1
      (subst (λ os. IsWalking old new steps shown os (drop j new)) none.0 w))
