-- Tests and options, taken apart.
use Rattle.std.proofs.Common.{◌≡◌, ℕ, zero, suc, ◌+◌, ◌<◌, Bool, true, false, List, [], ◌∷◌, length, get_or, map, refl, ap}
use Rattle.std.proofs.Common.{arith, Option, Some, None}
use Rattle.std.specs.Prelude.{is_none, is_some}
use Rattle.std.specs.List.{list_all}
use Rattle.std.specs.Option.{unwrap_or}
use Rattle.mem_base.specs.declared.map.ids.RegionId.{RegionId}
use Rattle.mem_base.specs.declared.access.cells.Place.{Place}
use Rattle.std.proofs.lemmas.Bool.{and_parts}

pub none_is_no_number : (a : ℕ) → None ≡ Some a → ⊥
none_is_no_number a e = absurd (omega (arith, ap (λ (r : Option ℕ). unwrap_or r (a + 1)) e))

pub same_number : (a b : ℕ) → Some a ≡ Some b → a ≡ b
same_number a b e = ap (λ (r : Option ℕ). unwrap_or r 0) e

pub none_is_not_some : {A B : Type 0} (x : A) → None ≡ Some x → B
none_is_not_some {A = A} x e = absurd (omega (arith, ap (λ (o : Option A). elim o as (λ _. ℕ) [ None ↦ 0 | Some y ↦ 1 ]) e))

pub none_of : {A : Type 0} (o : Option A) → is_none o ≡ true → o ≡ None
none_of None e = refl
none_of (Some x) e = absurd (grind arith)

pub some_of : {A : Type 0} (o : Option A) → is_some o ≡ true → (x : A) × (o ≡ Some x)
some_of None e = absurd (grind arith)
some_of (Some x) e = (x, refl)

pub all_at : (bs : List Bool) (v : ℕ) → list_all (λ b. b) bs ≡ true → v < length bs → get_or bs v false ≡ true
all_at [] v h l = absurd (omega arith)
all_at (b ∷ bs) zero h l = (and_parts _ _ h).0
all_at (b ∷ bs) (suc v) h l = all_at bs v (and_parts _ _ h).1 (omega arith)

pub none_set : {A : Type 0} (xs : List A) (v : ℕ) → get_or (map (λ x. false) xs) v false ≡ false
none_set [] v = refl
none_set (x ∷ xs) zero = refl
none_set (x ∷ xs) (suc v) = none_set xs v

pub same_place : (p q : Place) → Some p ≡ Some q → p ≡ q
same_place p q e = ap (λ (o : Option Place). elim o as (λ _. Place) [ None ↦ p | Some x ↦ x ]) e

pub same_region : (r s : RegionId) → r.0 ≡ s.0 → r ≡ s
same_region r s e = ap (λ (n : ℕ). let x : RegionId = record { 0 = n } in x) e
