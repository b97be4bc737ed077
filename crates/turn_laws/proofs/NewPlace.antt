-- A place for a new region, between those that stand and the notifiers'.
use Rattle.std.proofs.Common.{◌≡◌, ◌⊎◌, ℕ, zero, suc, ◌+◌, ◌<◌, ◌≤◌, ne_eqb, eq-eqb, Bool, true, false, List, [], ◌∷◌, ◌++◌, length, map}
use Rattle.std.proofs.Common.{sym, refl, ap, ◌∙◌, subst, inl, inr, arith, if◌then◌else◌, Option, Some, None}
use Rattle.std.specs.Prelude.{slice_index, ◌==◌}
use Rattle.std.specs.List.{range_with_len}
use mathlib.Core.Logic.{dite}
use native.Mathlib.Decide.{ℕ_discrete}
use lib.ListN.{length-replicate}
use Rattle.mem_base.specs.declared.map.ids.RegionId.{RegionId}
use Rattle.mem_base.specs.declared.access.cells.Place.{Place}
use Rattle.mem_base.specs.lists.Every.{Every}
use Rattle.mem_base.specs.access.PlacesByRegion.{place_in}
use Rattle.mem_base.specs.access.Cells.{cell, Block, has_block, cells_in}
use Rattle.mem_base.specs.machine.Desk.{cells_of}
use Rattle.mem_base.specs.machine.World.{block_for}
use Rattle.view_laws.proofs.Tests.{none_is_not_some, same_region, same_place}
use Rattle.turn_laws.proofs.Backed.{IsBacked, waits}
use Rattle.turn_laws.proofs.Replaced.{block_words, words_stay}
use Rattle.mem_base.proofs.BoolLaws.{true_is_not_false}

-- each cell of the place waits
waits_in : (r : RegionId) (a n i : ℕ) → a ≤ i → i < a + n → waits (map (cell r) (range_with_len a n)) r i ≡ true
waits_in r a zero i l h = absurd (omega arith)
waits_in r a (suc n) i l h = dite (ℕ_discrete i a)
    (λ e. rw (eq-eqb r.0 r.0 refl, eq-eqb i a e) refl)
    (λ ne. rw (eq-eqb r.0 r.0 refl, ne_eqb i a ne) (waits_in r (a + 1) n i (omega arith) (omega arith)))

-- no other cell does
pub others_rest : (r s : RegionId) (i : ℕ) (xs : List ℕ) → (r.0 ≡ s.0 → ⊥) → waits (map (cell r) xs) s i ≡ false
others_rest r s i [] ne = refl
others_rest r s i (x ∷ xs) ne = rw (ne_eqb s.0 r.0 (λ e. ne (sym e))) (others_rest r s i xs ne)

pub between_new : (ps : List Place) (p np : Place) (r : RegionId) → (p.region.0 ≡ r.0 → ⊥) → place_in ((ps ++ p ∷ []) ++ np ∷ []) r ≡ place_in (ps ++ np ∷ []) r
between_new [] p np r ne = rw (ne_eqb p.region.0 r.0 ne) refl
between_new (q ∷ qs) p np r ne = ap (λ (o : Option Place). if q.region.0 == r.0 then Some q else o) (between_new qs p np r ne)

pub found_new : (ps : List Place) (p np : Place) → place_in (ps ++ np ∷ []) p.region ≡ None → place_in ((ps ++ p ∷ []) ++ np ∷ []) p.region ≡ Some p
found_new [] p np h = rw (eq-eqb p.region.0 p.region.0 refl) refl
found_new (q ∷ qs) p np h = go (q.region.0 == p.region.0) (found_new qs p np) h
  where
    go : (b : Bool) → (place_in (qs ++ np ∷ []) p.region ≡ None → place_in ((qs ++ p ∷ []) ++ np ∷ []) p.region ≡ Some p)
        → (if b then Some q else place_in (qs ++ np ∷ []) p.region) ≡ None
        → (if b then Some q else place_in ((qs ++ p ∷ []) ++ np ∷ []) p.region) ≡ Some p
    go true rest e = none_is_not_some q (sym e)
    go false rest e = rest e

pub last_of : (P : Place → Type 0) (ps : List Place) (p : Place) → Every P (ps ++ p ∷ []) → P p
last_of P [] p e = e.0
last_of P (q ∷ qs) p e = last_of P qs p e.1

pub first_of : (P : Place → Type 0) (ps : List Place) (p : Place) → Every P (ps ++ p ∷ []) → Every P ps
first_of P [] p e = tt
first_of P (q ∷ qs) p e = (e.0, first_of P qs p e.1)

pub put_in : (P : Place → Type 0) (ps : List Place) (p np : Place) → P p → Every P (ps ++ np ∷ []) → Every P ((ps ++ p ∷ []) ++ np ∷ [])
put_in P [] p np h e = (h, e)
put_in P (q ∷ qs) p np h e = (e.0, put_in P qs p np h e.1)

-- the new place, with the cells of all places
pub backs_new : (ps : List Place) (np : Place) (blocks : List Block) (words : List ℕ) (p : Place) → IsBacked (ps ++ np ∷ []) [] blocks words
    → place_in (ps ++ np ∷ []) p.region ≡ None → has_block blocks p.region ≡ false → p.start + p.words ≤ length words
    → ((r : RegionId) (q : Place) → place_in (ps ++ np ∷ []) r ≡ Some q → (p.start + p.words ≤ q.start) ⊎ (q.start + q.words ≤ p.start))
    → IsBacked ((ps ++ p ∷ []) ++ np ∷ []) (cells_of p) (map (block_for blocks) ((ps ++ p ∷ []) ++ np ∷ [])) words
backs_new ps np blocks words p k none bare wide clear = record {
  same = λ r q i is l filled. dite (ℕ_discrete p.region.0 r.0)
      (λ e. absurd (let x = same_region p.region r e in
      let z = its_place r q e is in
      let t : waits (cells_of p) r i ≡ true = subst (λ (z : RegionId). waits (cells_of p) z i ≡ true) x
      (waits_in p.region 0 p.words i (omega arith) (subst (λ (v : Place). i < 0 + v.words) (sym z) (omega arith))) in
      true_is_not_false (waits (cells_of p) r i) t filled))
      (λ ne. subst (λ (ws : List ℕ). slice_index ws i ≡ slice_index words (q.start + i)) (sym (kept r q ne is)) (k.same r q i (before r q ne is) l refl));
  long = λ r q is. dite (ℕ_discrete p.region.0 r.0)
      (λ e. ap (λ (ws : List ℕ). length ws) (block_words blocks ((ps ++ p ∷ []) ++ np ∷ []) r q is)
      ∙ subst (λ (v : Place). length (block_for blocks v).words ≡ v.words) (its_place r q e is) (rw bare (length-replicate p.words 0)))
      (λ ne. ap (λ (ws : List ℕ). length ws) (kept r q ne is) ∙ k.long r q (before r q ne is));
  inside = λ r q is. dite (ℕ_discrete p.region.0 r.0)
      (λ e. subst (λ (v : Place). v.start + v.words ≤ length words) (its_place r q e is) wide)
      (λ ne. k.inside r q (before r q ne is));
  apart = λ r s a b is at ne. dite (ℕ_discrete p.region.0 r.0)
      (λ e. subst (λ (v : Place). (v.start + v.words ≤ b.start) ⊎ (b.start + b.words ≤ v.start)) (its_place r a e is)
      (clear s b (before s b (λ x. ne (sym e ∙ x)) at)))
      (λ other. dite (ℕ_discrete p.region.0 s.0)
      (λ e. subst (λ (v : Place). (a.start + a.words ≤ v.start) ⊎ (v.start + v.words ≤ a.start)) (its_place s b e at) (swap (clear r a (before r a other is))))
      (λ too. k.apart r s a b (before r a other is) (before s b too at) ne));
}
  where
    before : (r : RegionId) (q : Place) → (p.region.0 ≡ r.0 → ⊥) → place_in ((ps ++ p ∷ []) ++ np ∷ []) r ≡ Some q → place_in (ps ++ np ∷ []) r ≡ Some q
    before r q ne is = sym (between_new ps p np r ne) ∙ is

    its_place : (r : RegionId) (q : Place) → p.region.0 ≡ r.0 → place_in ((ps ++ p ∷ []) ++ np ∷ []) r ≡ Some q → p ≡ q
    its_place r q e is = same_place p q (sym (found_new ps p np none) ∙ ap (λ (z : RegionId). place_in ((ps ++ p ∷ []) ++ np ∷ []) z)
        (same_region p.region r e) ∙ is)

    kept : (r : RegionId) (q : Place) → (p.region.0 ≡ r.0 → ⊥) → place_in ((ps ++ p ∷ []) ++ np ∷ []) r ≡ Some q
        → cells_in (map (block_for blocks) ((ps ++ p ∷ []) ++ np ∷ [])) r ≡ cells_in blocks r
    kept r q ne is = words_stay blocks ((ps ++ p ∷ []) ++ np ∷ []) r q is (k.long r q (before r q ne is))

    swap : {A B : Type 0} → A ⊎ B → B ⊎ A
    swap (inl x) = inr x
    swap (inr x) = inl x
