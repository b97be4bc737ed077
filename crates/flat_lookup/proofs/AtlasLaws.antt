-- What the last range that starts at an address or before it says of the address.
use Rattle.std.proofs.Common.{◌≡◌, ℕ, zero, suc, ◌+◌, ◌-◌, ◌*◌, ◌^◌, ◌<◌, ◌≤◌, Bool, true, false, eqb, cond, List, [], ◌∷◌, length, get_or}
use Rattle.std.proofs.Common.{None, sym, refl, ap, ◌∙◌, subst, arith, ◌⊎◌, inl, inr}
use Rattle.std.specs.Prelude.{nat_lt, nat_le}
use Rattle.std.proofs.lemmas.Bool.{cases_lt}
use Rattle.std.proofs.lemmas.Bool.Decides.{nat_tests}
use Rattle.mem_base.specs.declared.views.flat.FlatRange.{FlatRange}
use Rattle.mem_base.specs.views.View.{seen, shown, IsRanges}
use Rattle.mem_base.proofs.ViewLaws.{seen-after, seen-within, shown-before, shown-first, shown-later}
use Rattle.flat_lookup.specs.Levels.{IsPlace, AreFew}
use Rattle.flat_lookup.specs.Atlases.{run_end, starts_of, AreProbes, HasLevels, end_at, no_range}

pub starts_length : (rs : List FlatRange) → length (starts_of rs) ≡ length rs
starts_length [] = refl
starts_length (r ∷ rs) = let h = starts_length rs in omega arith

pub starts_at : (rs : List FlatRange) (i : ℕ) (d : FlatRange) → i < length rs → get_or (starts_of rs) i 0 ≡ (get_or rs i d).start
starts_at [] i d l = absurd (omega arith)
starts_at (r ∷ rs) zero d l = refl
starts_at (r ∷ rs) (suc i) d l = starts_at rs i d (omega arith)

starts_from : (from end : ℕ) (rs : List FlatRange) (j : ℕ) → IsRanges from end rs → j < length rs → from ≤ get_or (starts_of rs) j 0
starts_from from end [] j h l = absurd (omega arith)
starts_from from end (r ∷ rs) zero h l = h.0
starts_from from end (r ∷ rs) (suc j) h l = let k = starts_from (r.last + 1) end rs j h.3 (omega arith) in let x = h.0 in let y = h.1 in omega arith

pub starts_ascend : (from end : ℕ) (rs : List FlatRange) → IsRanges from end rs → (i j : ℕ) → i < j → j < length rs →
    get_or (starts_of rs) i 0 < get_or (starts_of rs) j 0
starts_ascend from end [] h i j l k = absurd (omega arith)
starts_ascend from end (r ∷ rs) h i zero l k = absurd (omega arith)
starts_ascend from end (r ∷ rs) h zero (suc j) l k = let x = starts_from (r.last + 1) end rs j h.3 (omega arith) in let y = h.1 in omega arith
starts_ascend from end (r ∷ rs) h (suc i) (suc j) l k = starts_ascend (r.last + 1) end rs h.3 i j (omega arith) (omega arith)

before_next : (end from : ℕ) (qs : List FlatRange) (a : ℕ) → IsRanges from end qs → (0 < length qs → a < get_or (starts_of qs) 0 0) → shown qs a ≡ None
before_next end from [] a h n = refl
before_next end from (q ∷ qs) a h n = let l = n (omega arith) in shown-before q.start end (q ∷ qs) a (omega arith, h.1, h.2, h.3) l

-- what the place shows
pub place_shown : (from end : ℕ) (rs : List FlatRange) (a p : ℕ) (d : FlatRange) → IsRanges from end rs → p < length rs → get_or (starts_of rs) p 0 ≤ a →
    ((j : ℕ) → p < j → j < length rs → a < get_or (starts_of rs) j 0) → shown rs a ≡ seen (get_or rs p d) a
place_shown from end [] a p d h l r n = absurd (omega arith)
place_shown from end (q ∷ qs) a zero d h l r n = by (cases_lt q.last a)
  where
    by : (q.last < a) ⊎ (a ≤ q.last) → shown (q ∷ qs) a ≡ seen q a
    by (inl past) = shown-later q qs a past ∙ before_next end (q.last + 1) qs a h.3 (λ k. n 1 (omega arith) (omega arith)) ∙ sym (seen-after q a past)
    by (inr within) = shown-first q qs a r within ∙ sym (seen-within q a r within)
place_shown from end (q ∷ qs) a (suc p) d h l r n =
    let up = starts_from (q.last + 1) end qs p h.3 (omega arith) in
    shown-later q qs a (omega arith) ∙ place_shown (q.last + 1) end qs a p d h.3 (omega arith) r (λ j k m. n (suc j) (omega arith) (omega arith))

pub run_past : (q : FlatRange) (qs : List FlatRange) (a : ℕ) → q.start ≤ q.last → q.last < a → run_end (q ∷ qs) a ≡ run_end qs a
run_past q qs a s l =
    let x : nat_lt a q.start ≡ false = grind (arith, nat_tests) in
    let y : nat_le a q.last ≡ false = grind (arith, nat_tests) in
    simp (x, y)

pub run_within : (q : FlatRange) (qs : List FlatRange) (a : ℕ) → q.start ≤ a → a ≤ q.last → run_end (q ∷ qs) a ≡ q.last
run_within q qs a s l =
    let x : nat_lt a q.start ≡ false = grind (arith, nat_tests) in
    let y : nat_le a q.last ≡ true = grind (arith, nat_tests) in
    simp (x, y)

pub run_before : (q : FlatRange) (qs : List FlatRange) (a : ℕ) → a < q.start → run_end (q ∷ qs) a ≡ q.start - 1
run_before q qs a l = let x : nat_lt a q.start ≡ true = grind (arith, nat_tests) in simp x

run_next : (qs : List FlatRange) (a : ℕ) → (0 < length qs → a < get_or (starts_of qs) 0 0) →
    run_end qs a ≡ cond (nat_lt 0 (length qs)) (get_or (starts_of qs) 0 0 - 1) (2 ^ 64 - 1)
run_next [] a n = refl
run_next (q ∷ qs) a n = let e : nat_lt 0 (suc (length qs)) ≡ true = grind (arith, nat_tests) in run_before q qs a (n (omega arith))
    ∙ sym (ap (λ b. cond b (q.start - 1) (2 ^ 64 - 1)) e)

same_test : (p n : ℕ) → nat_lt (p + 1) n ≡ nat_lt (suc p + 1) (suc n)
same_test p n = by (cases_lt (p + 1) n)
  where
    by : (p + 1 < n) ⊎ (n ≤ p + 1) → nat_lt (p + 1) n ≡ nat_lt (suc p + 1) (suc n)
    by (inl l) = let x : nat_lt (p + 1) n ≡ true = grind (arith, nat_tests) in let y : nat_lt (suc p + 1) (suc n) ≡ true = grind (arith, nat_tests) in x ∙ sym y
    by (inr l) = let x : nat_lt (p + 1) n ≡ false = grind (arith, nat_tests) in let y : nat_lt (suc p + 1) (suc n) ≡ false = grind (arith, nat_tests) in x
        ∙ sym y

-- a look-up takes no more probes than levels, and these are few
pub few_probes : (count n keys : ℕ) → keys ≡ n → 0 < n → AreFew count keys → AreProbes count n
few_probes count n keys e some few = by
  where
    by : (k : ℕ) → 2 * n + 1 ≤ 16 ^ k → count ≤ k
    by zero l = absurd (omega arith)
    by (suc k) l = few (suc k) (omega arith) (omega arith)

pub atlas_place : (rs rs' : List FlatRange) (levels ls : List (List ℕ)) (a p : ℕ) → HasLevels rs levels → ls ≡ levels → rs' ≡ rs → 0 < length rs' →
    IsPlace (get_or ls 0 []) a p → IsPlace (starts_of rs') a p
atlas_place rs rs' levels ls a p h e f l k =
    let some : 0 < length rs = subst (λ (x : List FlatRange). 0 < length x) f l in
    subst (λ (x : List FlatRange). IsPlace (starts_of x) a p) (sym f)
    (subst (λ (x : List ℕ). IsPlace x a p) (h.built some).lowest (subst (λ (x : List (List ℕ)). IsPlace (get_or x 0 []) a p) e k))

pub shown_at_place : (rs : List FlatRange) (a p : ℕ) (d : FlatRange) (end : ℕ) → IsRanges 0 end rs → IsPlace (starts_of rs) a p →
    shown rs a ≡ seen (get_or rs p d) a
shown_at_place rs a p d end h k =
    let n = starts_length rs in
    let inside = k.inside in
    place_shown 0 end rs a p d h (omega arith) k.reached (λ j l m. k.after j l (omega arith))

shift_test : (m : ℕ) → nat_lt 0 m ≡ nat_lt 1 (suc m)
shift_test m = by (cases_lt 0 m)
  where
    by : (0 < m) ⊎ (m ≤ 0) → nat_lt 0 m ≡ nat_lt 1 (suc m)
    by (inl l) = let x : nat_lt 0 m ≡ true = grind (arith, nat_tests) in let y : nat_lt 1 (suc m) ≡ true = grind (arith, nat_tests) in x ∙ sym y
    by (inr l) = let x : nat_lt 0 m ≡ false = grind (arith, nat_tests) in let y : nat_lt 1 (suc m) ≡ false = grind (arith, nat_tests) in x ∙ sym y

pub run_at_place : (from end : ℕ) (rs : List FlatRange) (a p : ℕ) (d : FlatRange) → IsRanges from end rs → p < length rs → get_or (starts_of rs) p 0 ≤ a →
    ((j : ℕ) → p < j → j < length rs → a < get_or (starts_of rs) j 0) → run_end rs a ≡ end_at rs a p d
run_at_place from end [] a p d h l r n = absurd (omega arith)
run_at_place from end (q ∷ qs) a zero d h l r n = by (cases_lt q.last a)
  where
    by : (q.last < a) ⊎ (a ≤ q.last) → run_end (q ∷ qs) a ≡ end_at (q ∷ qs) a 0 d
    by (inl past) =
        let y : nat_le a q.last ≡ false = grind (arith, nat_tests) in
        run_past q qs a h.1 past ∙ run_next qs a (λ k. n 1 (omega arith) (omega arith))
        ∙ ap (λ b. cond b (get_or (starts_of qs) 0 0 - 1) (2 ^ 64 - 1)) (shift_test (length qs))
        ∙ sym (ap (λ b. cond b q.last (cond (nat_lt 1 (suc (length qs))) (get_or (starts_of qs) 0 0 - 1) (2 ^ 64 - 1))) y)
    by (inr within) =
        let y : nat_le a q.last ≡ true = grind (arith, nat_tests) in
        run_within q qs a r within ∙ sym (ap (λ b. cond b q.last (cond (nat_lt 1 (suc (length qs))) (get_or (starts_of qs) 0 0 - 1) (2 ^ 64 - 1))) y)
run_at_place from end (q ∷ qs) a (suc p) d h l r n =
    let up = starts_from (q.last + 1) end qs p h.3 (omega arith) in
    let at : p + 1 ≡ suc p = omega arith in
    let at' : suc p + 1 ≡ suc (suc p) = omega arith in
    run_past q qs a h.1 (omega arith)
    ∙ run_at_place (q.last + 1) end qs a p d h.3 (omega arith) r (λ j k m. n (suc j) (omega arith) (omega arith))
    ∙ ap (λ b. cond (nat_le a (get_or qs p d).last) (get_or qs p d).last (cond b (get_or (starts_of qs) (p + 1) 0 - 1) (2 ^ 64 - 1))) (same_test p (length qs))
    ∙ ap (λ (j : ℕ). cond (nat_le a (get_or qs p d).last) (get_or qs p d).last
    (cond (nat_lt (suc p + 1) (suc (length qs))) (get_or (starts_of qs) j 0 - 1) (2 ^ 64 - 1))) at
    ∙ ap (λ (j : ℕ). cond (nat_le a (get_or qs p d).last) (get_or qs p d).last
    (cond (nat_lt (suc p + 1) (suc (length qs))) (get_or (starts_of (q ∷ qs)) j 0 - 1) (2 ^ 64 - 1))) (sym at')

pub shown_before_first : (rs : List FlatRange) (a : ℕ) (d : FlatRange) (end : ℕ) → IsRanges 0 end rs → 0 < length rs → a < (get_or rs 0 d).start →
    shown rs a ≡ None
shown_before_first [] a d end h l k = refl
shown_before_first (r ∷ rs) a d end h l k = shown-before r.start end (r ∷ rs) a (omega arith, h.1, h.2, h.3) k

pub range_fits : (from end : ℕ) (rs : List FlatRange) (p : ℕ) (d : FlatRange) → IsRanges from end rs → p < length rs →
    (get_or rs p d).offset + ((get_or rs p d).last - (get_or rs p d).start) < 2 ^ 64
range_fits from end [] p d h l = absurd (omega arith)
range_fits from end (r ∷ rs) zero d h l = h.2
range_fits from end (r ∷ rs) (suc p) d h l = range_fits (r.last + 1) end rs p d h.3 (omega arith)

pub not_empty : (n : ℕ) (b : Bool) → b ≡ eqb n 0 → b ≡ false → 0 < n
not_empty n b e f = let t : eqb n 0 ≡ false = sym e ∙ f in grind (arith, nat_tests)

pub run_of_place : (rs : List FlatRange) (a p end : ℕ) → IsRanges 0 end rs → IsPlace (starts_of rs) a p → run_end rs a ≡ end_at rs a p no_range
run_of_place rs a p end h k =
    let n = starts_length rs in
    let inside = k.inside in
    run_at_place 0 end rs a p no_range h (omega arith) k.reached (λ j l m. k.after j l (omega arith))

pub run_before_first : (rs : List FlatRange) (a : ℕ) → 0 < length rs → a < (get_or rs 0 no_range).start → run_end rs a ≡ (get_or rs 0 no_range).start - 1
run_before_first [] a l k = absurd (omega arith)
run_before_first (r ∷ rs) a l k = run_before r rs a k

pub run_none : (rs : List FlatRange) (a : ℕ) → length rs ≡ 0 → run_end rs a ≡ 2 ^ 64 - 1
run_none [] a e = refl
run_none (r ∷ rs) a e = absurd (omega arith)

pub atlas_probes : (rs rs' now : List FlatRange) (levels ls : List (List ℕ)) (before after : ℕ) → HasLevels rs levels → ls ≡ levels → rs' ≡ rs → rs ≡ now →
    0 < length rs' → after ≡ before + length ls → AreProbes (after - before) (length now)
atlas_probes rs rs' now levels ls before after h e f v l up =
    let some : 0 < length rs = subst (λ (x : List FlatRange). 0 < length x) f l in
    let n = starts_length rs in
    let count : after - before ≡ length levels = (let d : after - before ≡ length ls = omega arith in d) ∙ ap (λ (x : List (List ℕ)). length x) e in
    let few = few_probes (length levels) (length rs) (length (starts_of rs)) n some (h.built some).few in
    subst (λ (x : List FlatRange). AreProbes (after - before) (length x)) v (subst (λ (x : ℕ). AreProbes x (length rs)) (sym count) few)
