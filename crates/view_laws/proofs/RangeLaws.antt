-- Ranges that stand apart, and which of them are the same.
use Rattle.std.proofs.Common.{◌≡◌, ℕ, ◌+◌, ◌<◌, ◌≤◌, eq-eqb, Bool, true, false, ◌||◌, List, [], ◌∷◌, ◌++◌, sym, refl, ap, arith}
use Rattle.std.specs.Prelude.{filter, not}
use Rattle.std.specs.List.{list_any}
use Rattle.std.proofs.lemmas.Bool.{eqb-true, and_parts}
use Rattle.mem_base.specs.declared.views.flat.FlatRange.{FlatRange}
use Rattle.mem_base.specs.lists.Every.{Every}
use Rattle.mem_base.specs.views.View.{IsRanges}
use Rattle.mem_base.specs.views.Walk.{is_same_range}
use Rattle.mem_base.specs.views.Replay.{is_equal_range, with_log}
use Rattle.mem_base.proofs.BoolLaws.{bool_same}
use Rattle.mem_base.proofs.ViewLaws.{ranges_past, same_itself, not_same}

-- each range is nonempty and ends before all after it
abbrev pub Apart : List FlatRange → Type 0
Apart [] = Unit {0}
Apart (r ∷ rs) = (r.start ≤ r.last) × Every (λ q. r.last < q.start) rs × Apart rs

pub apart : (from end : ℕ) (rs : List FlatRange) → IsRanges from end rs → Apart rs
apart from end [] h = tt
apart from end (r ∷ rs) h = (h.1, ranges_past (r.last + 1) end r.last rs (omega arith) h.3, apart (r.last + 1) end rs h.3)

-- what two ranges that are the same have in common
pub record Same (r q : FlatRange) : Type 0 where
  pub start : r.start ≡ q.start
  pub last : r.last ≡ q.last
  pub leaf : r.leaf.0 ≡ q.leaf.0
  pub offset : r.offset ≡ q.offset
  pub readonly : r.attrs.readonly ≡ q.attrs.readonly
  pub nonvolatile : r.attrs.nonvolatile ≡ q.attrs.nonvolatile
  pub romd : r.attrs.romd ≡ q.attrs.romd
  pub unmergeable : r.attrs.unmergeable ≡ q.attrs.unmergeable

pub same_of : (r q : FlatRange) → is_same_range r q ≡ true → Same r q
same_of r q h =
    let a = and_parts _ _ h in let b = and_parts _ _ a.0 in let c = and_parts _ _ b.0 in let d = and_parts _ _ c.0 in
    let e = and_parts _ _ a.1 in let f = and_parts _ _ e.0 in let g = and_parts _ _ f.0 in record {
      start = eqb-true _ _ d.0;
      last = eqb-true _ _ d.1;
      leaf = eqb-true _ _ c.1;
      offset = eqb-true _ _ b.1;
      readonly = bool_same _ _ g.0;
      nonvolatile = bool_same _ _ g.1;
      romd = bool_same _ _ f.1;
      unmergeable = bool_same _ _ e.1;
    }

pub equal_itself : (r : FlatRange) → is_equal_range r r ≡ true
equal_itself r = rw (same_itself r, eq-eqb r.attrs.log r.attrs.log refl) refl

pub not_equal : (r q : FlatRange) → (r.start ≡ q.start → ⊥) → is_equal_range r q ≡ false
not_equal r q ne = rw (not_same r q ne) refl

-- the same range with the other's log is the other
pub with_its_log : (r q : FlatRange) → Same r q → with_log r.attrs.log q ≡ r
with_its_log r q s = λ i. record {
  start = sym s.start i;
  last = sym s.last i;
  leaf = record { 0 = sym s.leaf i };
  offset = sym s.offset i;
  attrs = record { readonly = sym s.readonly i; nonvolatile = sym s.nonvolatile i; romd = sym s.romd i; unmergeable = sym s.unmergeable i; log = r.attrs.log };
}

-- lists with an element in the middle

pub any_middle : {A : Type 0} (test : A → Bool) (xs : List A) (y : A) (ys : List A) → test y ≡ true → list_any test (xs ++ y ∷ ys) ≡ true
any_middle test [] y ys h = rw h refl
any_middle test (x ∷ xs) y ys h = go (test x) (any_middle test xs y ys h)
  where
    go : (b : Bool) → list_any test (xs ++ y ∷ ys) ≡ true → (b || list_any test (xs ++ y ∷ ys)) ≡ true
    go true rest = refl
    go false rest = rest

pub none_any : {A : Type 0} (test : A → Bool) (xs ys : List A) → Every (λ x. test x ≡ false) xs → Every (λ x. test x ≡ false) ys
    → list_any test (xs ++ ys) ≡ false
none_any test [] [] h k = refl
none_any test [] (y ∷ ys) h k = rw k.0 (none_any test [] ys tt k.1)
none_any test (x ∷ xs) ys h k = rw h.0 (none_any test xs ys h.1 k)

pub keeps_all : {A : Type 0} (test : A → Bool) (xs : List A) → Every (λ x. test x ≡ false) xs → filter (λ x. not (test x)) xs ≡ xs
keeps_all test [] h = refl
keeps_all test (x ∷ xs) h = rw h.0 (ap (λ zs. x ∷ zs) (keeps_all test xs h.1))

pub takes_out : {A : Type 0} (test : A → Bool) (xs : List A) (y : A) (ys : List A) → Every (λ x. test x ≡ false) xs → test y ≡ true
    → Every (λ x. test x ≡ false) ys → filter (λ x. not (test x)) (xs ++ y ∷ ys) ≡ xs ++ ys
takes_out test [] y ys h e k = rw e (keeps_all test ys k)
takes_out test (x ∷ xs) y ys h e k = rw h.0 (ap (λ zs. x ∷ zs) (takes_out test xs y ys h.1 e k))
