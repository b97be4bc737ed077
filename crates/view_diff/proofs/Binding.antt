-- A label that gets a number, and ranges that get the numbers of their labels.
use Rattle.std.proofs.Common.{◌≡◌, ℕ, ◌+◌, ◌-◌, ◌<◌, ◌≤◌, ◌^◌, Bool, true, false, cond, List, []}
use Rattle.std.proofs.Common.{◌∷◌, ◌++◌, length, take, get_or, Option, Some, None, refl, sym, ap, ◌∙◌, subst, arith}
use Rattle.std.specs.Str.{bytes_eq}
use Rattle.std.proofs.lemmas.List.{length-append, take_more}
use Rattle.std.proofs.lemmas.Option.{none-some, same_Some}
use Rattle.std.proofs.lemmas.Slice.Eq.{bytes_eq-Decides}
use Rattle.std.proofs.Math.ListN.{get_or-append}
use Rattle.std.proofs.Math.Seq.{get_or-append_seam}
use Rattle.mem_base.specs.declared.views.flat.FlatRange.{FlatRange}
use Rattle.mem_base.specs.script.Spelling.{Text}
use Rattle.mem_base.specs.script.Named.{Names, name_at}
use Rattle.mem_base.specs.views.View.{IsRanges}
use Rattle.script_names.specs.Tables.{Table, number_of}
use Rattle.view_diff.specs.Numbers.{Grows, Numbers, Renumbered, Stands, label_of}

-- the number of a label in a table that has one entry more
abbrev or_this : Option ℕ → Text → Text → ℕ → Option ℕ
or_this (Some i) label name n = Some i
or_this None label name n = cond (bytes_eq label name) (Some n) None

one_more : (bound : List (Text × ℕ)) (name : Text) (n : ℕ) (label : Text)
    → number_of (bound ++ (name, n) ∷ []) label ≡ or_this (number_of bound label) label name n
one_more [] name n label = refl
one_more (e ∷ bound) name n label = by (bytes_eq label e.0) (one_more bound name n label)
  where
    by : (b : Bool) → number_of (bound ++ (name, n) ∷ []) label ≡ or_this (number_of bound label) label name n
        → cond b (Some e.1) (number_of (bound ++ (name, n) ∷ []) label) ≡ or_this (cond b (Some e.1) (number_of bound label)) label name n
    by true rest = refl
    by false rest = rest

pub grown : (old new : List (Text × ℕ)) (name : Text) (n : ℕ) → new ≡ old ++ (name, n) ∷ [] → Grows old new
grown old new name n e label i h =
    ap (λ b. number_of b label) e ∙ one_more old name n label ∙ ap (λ o. or_this o label name n) h

pub bound_now : (old new : List (Text × ℕ)) (name : Text) (n : ℕ) → new ≡ old ++ (name, n) ∷ [] → number_of old name ≡ None → number_of new name ≡ Some n
bound_now old new name n e h =
    ap (λ b. number_of b name) e ∙ one_more old name n name ∙ ap (λ o. or_this o name name n) h
    ∙ ap (λ b. cond b (Some n) None) ((bytes_eq-Decides name name).1 refl)

told_more : (made : List Text) (name label : Text) (i : ℕ) (o : Option ℕ)
    → ((j : ℕ) → o ≡ Some j → (j < length made) × (name_at made j ≡ label))
    → or_this o label name (length made) ≡ Some i → (i < length (made ++ name ∷ [])) × (name_at (made ++ name ∷ []) i ≡ label)
told_more made name label i (Some j) told h =
    let at = told j refl in
    let same : j ≡ i = same_Some j i h in
    let below : i < length made = subst (λ (k : ℕ). k < length made) same at.0 in (
      omega (arith, below, length-append made (name ∷ [])),
      get_or-append made (name ∷ []) [] i below ∙ ap (λ k. get_or made k []) (sym same) ∙ at.1,
    )
told_more made name label i None told h = by (bytes_eq label name) refl h
  where
    by : (b : Bool) → bytes_eq label name ≡ b → cond b (Some (length made)) None ≡ Some i
        → (i < length (made ++ name ∷ [])) × (name_at (made ++ name ∷ []) i ≡ label)
    by true e h =
        let same : length made ≡ i = same_Some (length made) i h in (
          omega (arith, same, length-append made (name ∷ [])),
          ap (λ k. get_or (made ++ name ∷ []) k []) (sym same) ∙ get_or-append_seam made name [] [] ∙ sym ((bytes_eq-Decides label name).0 e),
        )
    by false e h = absurd (none-some i h)

pub told : (old new : Table) (name : Text) (n : ℕ) → new.bound ≡ old.bound ++ (name, n) ∷ [] → new.made ≡ old.made ++ name ∷ [] → n ≡ length old.made
    → Numbers old → Numbers new
told old new name n bound made is h label i e =
    let at : or_this (number_of old.bound label) label name (length old.made) ≡ Some i =
    ap (λ k. or_this (number_of old.bound label) label name k) (sym is) ∙ sym (one_more old.bound name n label)
    ∙ ap (λ b. number_of b label) (sym bound) ∙ e in
    let r = told_more old.made name label i (number_of old.bound label) (h label) at in
    subst (λ (m : List Text). (i < length m) × (name_at m i ≡ label)) (sym made) r

pub told_same : (old new : Table) → new ≡ old → Numbers old → Numbers new
told_same old new e h = subst Numbers (sym e) h

pub grows_same : (old new : Table) → new ≡ old → Grows old.bound new.bound
grows_same old new e label i h = ap (λ (t : Table). number_of t.bound label) e ∙ h

-- Ranges

later : (old new : List (Text × ℕ)) (names : Names) → Grows old new → (rs qs : List FlatRange) → Renumbered old names rs qs → Renumbered new names rs qs
later old new names g [] [] h = tt
later old new names g (r ∷ rs) (q ∷ qs) h =
    (record { number = g (label_of names r.leaf) q.leaf.0 h.0.number; same = h.0.same }, later old new names g rs qs h.1)
later old new names g [] (q ∷ qs) h = absurd h
later old new names g (r ∷ rs) [] h = absurd h

pub kept : (old new : List (Text × ℕ)) (names : Names) (rs qs : List FlatRange) → Grows old new → Renumbered old names rs qs → Renumbered new names rs qs
kept old new names rs qs g h = later old new names g rs qs h

snoc : (bound : List (Text × ℕ)) (names : Names) (rs qs : List FlatRange) (r q : FlatRange) → Renumbered bound names rs qs → Stands bound names r q
    → Renumbered bound names (rs ++ r ∷ []) (qs ++ q ∷ [])
snoc bound names [] [] r q h s = (s, tt)
snoc bound names (a ∷ rs) (b ∷ qs) r q h s = (h.0, snoc bound names rs qs r q h.1 s)
snoc bound names [] (b ∷ qs) r q h s = absurd h
snoc bound names (a ∷ rs) [] r q h s = absurd h

pub one_range_more : (old new : List (Text × ℕ)) (names : Names) (ranges items after : List FlatRange) (i : ℕ) (q : FlatRange) (d : FlatRange)
    → i < length ranges
    → Grows old new → Renumbered old names (take i ranges) items → number_of new (label_of names (get_or ranges i d).leaf) ≡ Some q.leaf.0
    → q ≡ record (get_or ranges i d) { leaf = q.leaf } → after ≡ items ++ q ∷ [] → Renumbered new names (take (i + 1) ranges) after
one_range_more old new names ranges items after i q d below g h number same is =
    subst (λ xs. Renumbered new names xs after) (sym (take_more ranges i d below))
    (subst (λ ys. Renumbered new names (take i ranges ++ get_or ranges i d ∷ []) ys) (sym is)
    (snoc new names (take i ranges) items (get_or ranges i d) q (kept old new names (take i ranges) items g h)
    (record { number = number; same = same })))

-- the addresses are the same
pub ranges_again : (bound : List (Text × ℕ)) (names : Names) (from end : ℕ) (rs qs : List FlatRange) → Renumbered bound names rs qs → IsRanges from end rs
    → IsRanges from end qs
ranges_again bound names from end [] [] h is = is
ranges_again bound names from end (r ∷ rs) (q ∷ qs) h is =
    let start : q.start ≡ r.start = ap (λ (x : FlatRange). x.start) h.0.same in
    let last : q.last ≡ r.last = ap (λ (x : FlatRange). x.last) h.0.same in
    let offset : q.offset ≡ r.offset = ap (λ (x : FlatRange). x.offset) h.0.same in
    let at : (from ≤ r.start) × (r.start ≤ r.last) × (r.offset + (r.last - r.start) < 2 ^ 64) × IsRanges (r.last + 1) end rs = is in (
      omega (arith, at.0, start),
      omega (arith, at.1, start, last),
      subst (λ (n : ℕ). n < 2 ^ 64) (ap (λ n. n + (r.last - r.start)) (sym offset) ∙ ap (λ n. q.offset + (n - r.start)) (sym last)
          ∙ ap (λ n. q.offset + (q.last - n)) (sym start)) at.2,
      subst (λ (n : ℕ). IsRanges (n + 1) end qs) (sym last) (ranges_again bound names (r.last + 1) end rs qs h.1 at.3),
    )
ranges_again bound names from end [] (q ∷ qs) h is = absurd h
ranges_again bound names from end (r ∷ rs) [] h is = absurd h
