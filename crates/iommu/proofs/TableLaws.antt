-- Translations in order: which covers an offset, how far it does, and how far none does.
use Rattle.std.proofs.Common.{◌≡◌, ℕ, zero, suc, ◌+◌, ◌<◌, ◌≤◌, Bool, true, false, cond, ◌&&◌, List, [], ◌∷◌, length, drop, get_or}
use Rattle.std.proofs.Common.{drop_of_length-le, Option, Some, None, sym, refl, ap, ◌∙◌, subst, arith, ◌⊎◌, inl, inr}
use Rattle.std.specs.Prelude.{nat_lt, nat_le}
use Rattle.std.proofs.Math.Seq.{drop-cons}
use Rattle.std.specs.List.Sorted.{IsPartitionPoint}
use Rattle.std.proofs.lemmas.Bool.{false≢true, cases_lt}
use Rattle.std.proofs.lemmas.Bool.Decides.{nat_tests}
use Rattle.mem_base.specs.declared.map.translations.Entry.{Entry}
use Rattle.mem_base.specs.lists.Every.{Every}
use Rattle.mem_base.specs.map.Entries.{AreEntries}
use Rattle.mem_base.specs.access.Translations.{covers, translation_at, permits, if_permitted}
use Rattle.mem_base.proofs.EntryLaws.{ends_before}
use Rattle.iommu.specs.Pages.{ArePages, is_ahead, next_ahead}
use Rattle.iommu.proofs.PageLaws.{IsPage, are_pages, covers-in, covered, covers-below, covers-above}

-- the search passes an entry that does not cover the offset, and ends at one that does
pub passes : (o : ℕ) (e : Entry) (es : List Entry) → covers o e ≡ false → translation_at (e ∷ es) o ≡ translation_at es o
passes o e es t = ap (λ (b : Bool). cond b (Some e) (translation_at es o)) t

pub takes : (o : ℕ) (e : Entry) (es : List Entry) → covers o e ≡ true → translation_at (e ∷ es) o ≡ Some e
takes o e es t = ap (λ (b : Bool). cond b (Some e) (translation_at es o)) t

-- none covers an offset before all of them
pub none_before : (m o : ℕ) (es : List Entry) → o ≤ m → Every IsPage es → Every (λ x. m < x.iova) es → translation_at es o ≡ None
none_before m o [] l p h = refl
none_before m o (e ∷ es) l p h = let first = h.0 in passes o e es (covers-below e p.0 o (omega arith)) ∙ none_before m o es l p.1 h.1

abbrev pub if_begun : ℕ → List Entry → Option Entry
if_begun o [] = None
if_begun o (e ∷ es) = cond (nat_le e.iova o) (Some e) None

-- the first entry that does not end before the offset is the one to look at
pub found_first : (o : ℕ) (es : List Entry) (i : ℕ) → AreEntries es → Every IsPage es → i ≤ length es
    → IsPartitionPoint (λ e. ends_before o e ≡ true) (λ e. ends_before o e ≡ false) es i → translation_at es o ≡ if_begun o (drop i es)
found_first o [] zero h p n at = refl
found_first o [] (suc i) h p n at = absurd (omega arith)
found_first o (e ∷ es) zero h p n at =
    let ends : e.iova + e.mask < o → ⊥ = λ l.
    let x : ends_before o e ≡ false = at.1 0 e (omega arith) (omega arith) in
    let y : ends_before o e ≡ true = grind (arith, nat_tests) in
    false≢true (sym x ∙ y) in
    by (nat_le e.iova o) refl ends
  where
    by : (b : Bool) → nat_le e.iova o ≡ b → (e.iova + e.mask < o → ⊥) → translation_at (e ∷ es) o ≡ cond (nat_le e.iova o) (Some e) None
    by true t ends =
        let l : e.iova ≤ o = grind (arith, nat_tests) in takes o e es (covers-in e p.0 o l (omega arith)) ∙ sym (ap (λ (b : Bool). cond b (Some e) None) t)
    by false t ends =
        let l : o < e.iova = grind (arith, nat_tests) in
        passes o e es (covers-below e p.0 o l) ∙ none_before (e.iova + e.mask) o es (omega arith) p.1 h.1 ∙ sym (ap (λ (b : Bool). cond b (Some e) None) t)
found_first o (e ∷ es) (suc i) h p n at =
    let x : ends_before o e ≡ true = at.0 0 e (omega arith) (omega arith) in
    let l : e.iova + e.mask < o = grind (arith, nat_tests) in
    passes o e es (covers-above e p.0 o l)
    ∙ found_first o es i h.2 p.1 (omega arith)
    (λ k d a b. at.0 (suc k) d (omega arith) (omega arith), λ k d a b. at.1 (suc k) d (omega arith) (omega arith))

-- what is found covers the offset, is a page, and has what all have
pub found_has : (P : Entry → Type 0) (o : ℕ) (es : List Entry) (e : Entry) → Every P es → translation_at es o ≡ Some e → P e × (covers o e ≡ true)
found_has P o [] e h t = absurd (none_some e t)
  where
    none_some : (e : Entry) → None ≡ Some e → ⊥
    none_some e t = cc
found_has P o (x ∷ es) e h t = by (covers o x) refl (λ u. found_has P o es e h.1 u)
  where
    by : (b : Bool) → covers o x ≡ b → (translation_at es o ≡ Some e → P e × (covers o e ≡ true)) → P e × (covers o e ≡ true)
    by true c ih = let same : x ≡ e = let u = sym (takes o x es c) ∙ t in cc in (subst P same h.0, subst (λ (y : Entry). covers o y ≡ true) same c)
    by false c ih = ih (sym (passes o x es c) ∙ t)

-- the translation that covers one offset covers all of its page
pub found_within : (es : List Entry) (o o' : ℕ) (e : Entry) → AreEntries es → Every IsPage es → translation_at es o ≡ Some e → e.iova ≤ o'
    → o' ≤ e.iova + e.mask → translation_at es o' ≡ Some e
found_within [] o o' e h p t l u = t
found_within (x ∷ es) o o' e h p t l u = by (covers o x) refl (λ v. found_within es o o' e h.2 p.1 v l u)
  where
    by : (b : Bool) → covers o x ≡ b → (translation_at es o ≡ Some e → translation_at es o' ≡ Some e) → translation_at (x ∷ es) o' ≡ Some e
    by true c ih =
        let same : x ≡ e = let v = sym (takes o x es c) ∙ t in cc in
        takes o' x es (covers-in x p.0 o' (subst (λ (y : Entry). y.iova ≤ o') (sym same) l)
        (subst (λ (y : Entry). o' ≤ y.iova + y.mask) (sym same) u)) ∙ ap (λ (y : Entry). let r : Option Entry = Some y in r) same
    by false c ih =
        let there = sym (passes o x es c) ∙ t in
        let after = (found_has (λ y. x.iova + x.mask < y.iova) o es e h.1 there).0 in
        passes o' x es (covers-above x p.0 o' (omega arith)) ∙ ih there

-- after its page it is another, or none
pub found_past : (es : List Entry) (o o' : ℕ) (e y : Entry) → AreEntries es → Every IsPage es → translation_at es o ≡ Some e → e.iova + e.mask < o'
    → translation_at es o' ≡ Some y → e.iova + e.mask < y.iova
found_past [] o o' e y h p t l u = absurd (none_some e t)
  where
    none_some : (e : Entry) → None ≡ Some e → ⊥
    none_some e t = cc
found_past (x ∷ es) o o' e y h p t l u = by (covers o x) refl (λ v w. found_past es o o' e y h.2 p.1 v l w)
  where
    by : (b : Bool) → covers o x ≡ b → (translation_at es o ≡ Some e → translation_at es o' ≡ Some y → e.iova + e.mask < y.iova) → e.iova + e.mask < y.iova
    by true c ih =
        let same : x ≡ e = let v = sym (takes o x es c) ∙ t in cc in
        let past : x.iova + x.mask < o' = subst (λ (z : Entry). z.iova + z.mask < o') (sym same) l in
        let after = (found_has (λ z. x.iova + x.mask < z.iova) o' es y h.1 (sym (passes o' x es (covers-above x p.0 o' past)) ∙ u)).0 in
        subst (λ (z : Entry). z.iova + z.mask < y.iova) same after
    by false c ih =
        let there = sym (passes o x es c) ∙ t in
        let after = (found_has (λ z. x.iova + x.mask < z.iova) o es e h.1 there).0 in
        ih there (sym (passes o' x es (covers-above x p.0 o' (omega arith))) ∙ u)

-- ---- where none is used

-- how far none is used: up to the next that lets the access through
pub record IsShut (w : Bool) (es : List Entry) (o : ℕ) (next : Option Entry) : Type 0 where
  pub none : next ≡ None → (o' : ℕ) → o ≤ o' → if_permitted w (translation_at es o') ≡ None
  pub until : (e : Entry) → next ≡ Some e → (o' : ℕ) → o ≤ o' → o' < e.iova → if_permitted w (translation_at es o') ≡ None
  pub then_used : (e : Entry) → next ≡ Some e → (o < e.iova) × (if_permitted w (translation_at es e.iova) ≡ Some e)

forbidden : (w : Bool) (x : Entry) → permits w x.perm ≡ false → if_permitted w (Some x) ≡ None
forbidden w x t = ap (λ (b : Bool). cond b (Some x) None) t

permitted : (w : Bool) (x : Entry) → permits w x.perm ≡ true → if_permitted w (Some x) ≡ Some x
permitted w x t = ap (λ (b : Bool). cond b (Some x) None) t

no_some : (x : Entry) → Some x ≡ None → ⊥
no_some x t = cc

-- an entry that is not ahead, and where none is used, forbids the access wherever it covers an offset from there on
shut_here : (w : Bool) (x : Entry) (es : List Entry) (o o' : ℕ) → IsPage x → if_permitted w (translation_at (x ∷ es) o) ≡ None
    → is_ahead w o x ≡ false → o ≤ o' → covers o' x ≡ true → if_permitted w (Some x) ≡ None
shut_here w x es o o' p t a l c = by (permits w x.perm) refl (cases_lt o x.iova)
  where
    by : (b : Bool) → permits w x.perm ≡ b → (o < x.iova) ⊎ (x.iova ≤ o) → if_permitted w (Some x) ≡ None
    by false q k = forbidden w x q
    by true q (inl below) =
        let y : nat_lt o x.iova ≡ true = grind (arith, nat_tests) in
        let both : is_ahead w o x ≡ true = ap (λ (b : Bool). b && permits w x.perm) y ∙ q in
        absurd (false≢true (sym a ∙ both))
    by true q (inr above) =
        let k = covered x p o' c in
        let end = k.1 in
        let here = takes o x es (covers-in x p o above (omega arith)) in
        absurd (no_some x (sym (permitted w x q) ∙ ap (if_permitted w) (sym here) ∙ t))

next_skips : (w : Bool) (x : Entry) (es : List Entry) (o : ℕ) → is_ahead w o x ≡ false → next_ahead w o (x ∷ es) ≡ next_ahead w o es
next_skips w x es o a = ap (λ (b : Bool). cond b (Some x) (next_ahead w o es)) a

next_takes : (w : Bool) (x : Entry) (es : List Entry) (o : ℕ) → is_ahead w o x ≡ true → next_ahead w o (x ∷ es) ≡ Some x
next_takes w x es o a = ap (λ (b : Bool). cond b (Some x) (next_ahead w o es)) a

-- what was shut stays shut when an entry that forbids the access stands before
shut_more : (w : Bool) (x : Entry) (es : List Entry) (o' : ℕ) → (covers o' x ≡ true → if_permitted w (Some x) ≡ None)
    → if_permitted w (translation_at es o') ≡ None → if_permitted w (translation_at (x ∷ es) o') ≡ None
shut_more w x es o' f h = by (covers o' x) refl
  where
    by : (b : Bool) → covers o' x ≡ b → if_permitted w (translation_at (x ∷ es) o') ≡ None
    by true c = ap (if_permitted w) (takes o' x es c) ∙ f c
    by false c = ap (if_permitted w) (passes o' x es c) ∙ h

ahead_lt : (w : Bool) (x : Entry) (o : ℕ) → is_ahead w o x ≡ true → (o < x.iova) × (permits w x.perm ≡ true)
ahead_lt w x o a = by (nat_lt o x.iova) refl (permits w x.perm) refl
  where
    by : (b : Bool) → nat_lt o x.iova ≡ b → (q : Bool) → permits w x.perm ≡ q → (o < x.iova) × (permits w x.perm ≡ true)
    by false e q d = absurd (false≢true (sym (ap (λ (b : Bool). b && permits w x.perm) e) ∙ a))
    by true e q d = (grind (arith, nat_tests), sym (ap (λ (b : Bool). b && permits w x.perm) e) ∙ a)

shut_at : (w : Bool) (x : Entry) (es : List Entry) (o : ℕ) → AreEntries (x ∷ es) → Every IsPage (x ∷ es) → is_ahead w o x ≡ true
    → IsShut w (x ∷ es) o (Some x)
shut_at w x es o h p a =
    let k = ahead_lt w x o a in
    let lt = k.0 in
    record {
      none = λ t. absurd (no_some x t);
      until = λ e t o' l u.
          let same : x ≡ e = cc in
          let below : o' < x.iova = subst (λ (z : Entry). o' < z.iova) (sym same) u in
          ap (if_permitted w) (passes o' x es (covers-below x p.0 o' below) ∙ none_before (x.iova + x.mask) o' es (omega arith) p.1 h.1);
      then_used = λ e t.
          let same : x ≡ e = cc in
          subst (λ (z : Entry). (o < z.iova) × (if_permitted w (translation_at (x ∷ es) z.iova) ≡ Some z)) same
          (lt, ap (if_permitted w) (takes x.iova x es (covers-in x p.0 x.iova (omega arith) (omega arith))) ∙ permitted w x k.1);
    }

used_in_rest : (w : Bool) (x : Entry) (es : List Entry) (o : ℕ) → AreEntries (x ∷ es) → Every IsPage (x ∷ es)
    → if_permitted w (translation_at (x ∷ es) o) ≡ None → if_permitted w (translation_at es o) ≡ None
used_in_rest w x es o h p t = by (covers o x) refl
  where
    by : (b : Bool) → covers o x ≡ b → if_permitted w (translation_at es o) ≡ None
    by true c = let k = covered x p.0 o c in ap (if_permitted w) (none_before (x.iova + x.mask) o es k.1 p.1 h.1)
    by false c = ap (if_permitted w) (sym (passes o x es c)) ∙ t

found_later : (w : Bool) (o : ℕ) (P : Entry → Type 0) (es : List Entry) (e : Entry) → Every P es → next_ahead w o es ≡ Some e → P e
found_later w o P [] e h t = absurd (no_some e (sym t))
found_later w o P (x ∷ es) e h t = by (is_ahead w o x) refl (λ u. found_later w o P es e h.1 u)
  where
    by : (b : Bool) → is_ahead w o x ≡ b → (next_ahead w o es ≡ Some e → P e) → P e
    by true c ih = let same : x ≡ e = let v = sym (next_takes w x es o c) ∙ t in cc in subst P same h.0
    by false c ih = ih (sym (next_skips w x es o c) ∙ t)

pub shut_until : (w : Bool) (es : List Entry) (o : ℕ) → AreEntries es → Every IsPage es → if_permitted w (translation_at es o) ≡ None
    → IsShut w es o (next_ahead w o es)
shut_until w [] o h p t = record { none = λ e o' l. refl; until = λ e n o' l u. refl; then_used = λ e n. absurd (no_some e (sym n)) }
shut_until w (x ∷ es) o h p t = by (is_ahead w o x) refl (shut_until w es o h.2 p.1 (used_in_rest w x es o h p t))
  where
    by : (b : Bool) → is_ahead w o x ≡ b → IsShut w es o (next_ahead w o es) → IsShut w (x ∷ es) o (next_ahead w o (x ∷ es))
    by true a ih = subst (IsShut w (x ∷ es) o) (sym (next_takes w x es o a)) (shut_at w x es o h p a)
    by false a ih = subst (IsShut w (x ∷ es) o) (sym (next_skips w x es o a)) (record {
      none = λ n o' l. shut_more w x es o' (shut_here w x es o o' p.0 t a l) (ih.none n o' l);
      until = λ e n o' l u. shut_more w x es o' (shut_here w x es o o' p.0 t a l) (ih.until e n o' l u);
      then_used = λ e n.
          let k = ih.then_used e n in
          let after = found_later w o (λ z. x.iova + x.mask < z.iova) es e h.1 n in
          (k.0, ap (if_permitted w) (passes e.iova x es (covers-above x p.0 e.iova after)) ∙ k.1);
    })

-- ---- by index

pub drop_at : {A : Type 0} (xs : List A) (i : ℕ) (x : A) → i < length xs → x ≡ get_or xs i x → drop i xs ≡ x ∷ drop (suc i) xs
drop_at xs i x l e = drop-cons xs i x l ∙ ap (λ (y : _). y ∷ drop (suc i) xs) (sym e)

pub found_end : (o : ℕ) (es : List Entry) (i : ℕ) → AreEntries es → ArePages es → i ≤ length es → length es ≤ i
    → IsPartitionPoint (λ e. ends_before o e ≡ true) (λ e. ends_before o e ≡ false) es i → translation_at es o ≡ None
found_end o es i h p n m at = found_first o es i h (are_pages es p) n at ∙ ap (if_begun o) (drop_of_length-le es m)

pub found_index : (o : ℕ) (es : List Entry) (i : ℕ) (e : Entry) → AreEntries es → ArePages es → i < length es → e ≡ get_or es i e
    → IsPartitionPoint (λ e. ends_before o e ≡ true) (λ e. ends_before o e ≡ false) es i → translation_at es o ≡ cond (nat_le e.iova o) (Some e) None
found_index o es i e h p n is at = found_first o es i h (are_pages es p) (omega arith) at ∙ ap (if_begun o) (drop_at es i e n is)
