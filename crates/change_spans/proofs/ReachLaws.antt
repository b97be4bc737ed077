-- Laws of spans of offsets in regions.
use Rattle.std.proofs.Common.{◌≡◌, ◌⊎◌, ℕ, zero, suc, ◌+◌, ◌<◌, ◌≤◌, min, max, Bool, true, ◌&&◌, ◌||◌, List, [], ◌∷◌, ◌++◌, length, get_or, take}
use Rattle.std.proofs.Common.{refl, sym, ap, ◌∙◌, subst, arith, inl, inr, ⊎_elim}
use Rattle.std.specs.Prelude.{◌==◌, nat_le}
use Rattle.std.proofs.lemmas.List.{take_more, take_all}
use Rattle.std.proofs.lemmas.Bool.Decides.{nat_tests}
use Rattle.std.proofs.lemmas.Bool.{eqb-true, or_cases, or_right, or_left, and_parts}
use Rattle.mem_base.specs.declared.map.ids.RegionId.{RegionId}
use Rattle.view_laws.proofs.Tests.{same_region}
use Rattle.view_laws.proofs.LiveLaws.{In}
use Rattle.change_spans.specs.declared.reaches.Reach.{Reach}
use Rattle.change_spans.specs.Reaches.{is_in_reach, has_in}
use Rattle.mem_base.proofs.BoolLaws.{or_joins, or_nothing}

-- what stands in for a span that is not there
abbrev pub no_reach : Reach
no_reach = record { region = record { 0 = 0 }; first = 0; last = 0 }

-- one of the spans has it
pub has_at : (xs : List Reach) (i : ℕ) (d : Reach) (r : RegionId) (a : ℕ) → i < length xs → is_in_reach (get_or xs i d) r a ≡ true → has_in xs r a ≡ true
has_at [] i d r a l h = absurd (omega arith)
has_at (x ∷ xs) zero d r a l h = or_left (is_in_reach x r a) (has_in xs r a) h
has_at (x ∷ xs) (suc i) d r a l h = or_right (is_in_reach x r a) (has_in xs r a) (has_at xs i d r a (omega arith) h)

pub reach_has : (x : Reach) (r : RegionId) (first last a : ℕ) → (x.region.0 == r.0) ≡ true → x.first ≤ first → last ≤ x.last → first ≤ a → a ≤ last →
    is_in_reach x r a ≡ true
reach_has x r first last a e l k m o = let t : (nat_le x.first a && nat_le a x.last) ≡ true = grind (arith, nat_tests) in rw (e, t) refl

has_push : (xs : List Reach) (y : Reach) (r : RegionId) (a : ℕ) → has_in (xs ++ y ∷ []) r a ≡ (has_in xs r a || is_in_reach y r a)
has_push [] y r a = or_nothing (is_in_reach y r a)
has_push (x ∷ xs) y r a = ap (λ (b : Bool). is_in_reach x r a || b) (has_push xs y r a) ∙ or_joins (is_in_reach x r a) (has_in xs r a) (is_in_reach y r a)

-- an offset that some of one more span have is one of those before or of the last
pub next_has : (xs : List Reach) (i : ℕ) (d : Reach) (r : RegionId) (a : ℕ) → i < length xs → has_in (take (i + 1) xs) r a ≡ true →
    (has_in (take i xs) r a ≡ true) ⊎ (is_in_reach (get_or xs i d) r a ≡ true)
next_has xs i d r a l h =
    or_cases _ _ (sym (has_push (take i xs) (get_or xs i d) r a) ∙ subst (λ (ys : List Reach). has_in ys r a ≡ true) (take_more xs i d l) h)

pub all_have : (xs : List Reach) (i : ℕ) (r : RegionId) (a : ℕ) → length xs ≤ i → has_in xs r a ≡ true → has_in (take i xs) r a ≡ true
all_have xs i r a l h = subst (λ (ys : List Reach). has_in ys r a ≡ true) (sym (take_all i xs l)) h

pub in_reach : (x : Reach) (r : RegionId) (a : ℕ) → is_in_reach x r a ≡ true → (x.region.0 ≡ r.0) × (x.first ≤ a) × (a ≤ x.last)
in_reach x r a h =
    let p = and_parts _ _ h in
    let inside = p.1 in
    (eqb-true x.region.0 r.0 p.0, grind (arith, nat_tests, inside), grind (arith, nat_tests, inside))

-- an offset that the spans have of a region is in one of them, which is of that region
pub has_one : (xs : List Reach) (r : RegionId) (a : ℕ) → has_in xs r a ≡ true → (x : Reach) × In x xs × (x.region ≡ r)
has_one [] r a h = absurd (grind arith)
has_one (x ∷ xs) r a h =
    ⊎_elim (λ k. (x, inl refl, same_region x.region r (in_reach x r a k).0)) (λ k. let p = has_one xs r a k in (p.0, inr p.1, p.2))
    (or_cases (is_in_reach x r a) (has_in xs r a) h)

-- one span further
pub hull_then : (xs : List Reach) (i : ℕ) (r : RegionId) (first last first' last' : ℕ) → i < length xs →
    ((a : ℕ) → has_in (take i xs) r a ≡ true → (first ≤ a) × (a ≤ last)) → first' ≡ min first (get_or xs i no_reach).first →
    last' ≡ max last (get_or xs i no_reach).last → (a : ℕ) → has_in (take (i + 1) xs) r a ≡ true → (first' ≤ a) × (a ≤ last')
hull_then xs i r first last first' last' l over e f a h =
    ⊎_elim
    (λ k. let o = over a k in let low = o.0 in let high = o.1 in (omega arith, omega arith))
    (λ k. let p = in_reach (get_or xs i no_reach) r a k in let low = p.1 in let high = p.2 in (omega arith, omega arith))
    (next_has xs i no_reach r a l h)

pub hull_else : (xs : List Reach) (i : ℕ) (r : RegionId) (first last first' last' : ℕ) → i < length xs →
    ((a : ℕ) → has_in (take i xs) r a ≡ true → (first ≤ a) × (a ≤ last)) → ((get_or xs i no_reach).region.0 ≡ r.0 → ⊥) → first' ≡ first →
    last' ≡ last → (a : ℕ) → has_in (take (i + 1) xs) r a ≡ true → (first' ≤ a) × (a ≤ last')
hull_else xs i r first last first' last' l over other e f a h =
    ⊎_elim
    (λ k. let o = over a k in let low = o.0 in let high = o.1 in (omega arith, omega arith))
    (λ k. absurd (other (in_reach (get_or xs i no_reach) r a k).0))
    (next_has xs i no_reach r a l h)
