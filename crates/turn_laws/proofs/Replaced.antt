-- The cells of the pure machine after a private event, which makes them anew by the places that stand.
use Rattle.std.proofs.Common.{◌≡◌, ℕ, ◌+◌, ne_eqb, Bool, true, false, List, [], ◌∷◌, ◌++◌, length, map, replicate, sym, refl, ap, ◌∙◌}
use Rattle.std.proofs.Common.{subst, arith, if◌then◌else◌, Option, Some, None}
use Rattle.std.specs.Prelude.{slice_index, filter, ◌==◌}
use Rattle.std.proofs.lemmas.Bool.{eqb-true}
use mathlib.Core.Logic.{dite}
use native.Mathlib.Decide.{ℕ_discrete}
use Rattle.mem_base.specs.declared.map.ids.RegionId.{RegionId}
use Rattle.mem_base.specs.declared.access.cells.Place.{Place}
use Rattle.mem_base.specs.declared.access.cells.Cell.{Cell}
use Rattle.mem_base.specs.access.PlacesByRegion.{place_in}
use Rattle.mem_base.specs.access.Cells.{Block, has_block, cells_in}
use Rattle.mem_base.specs.machine.World.{block_for}
use Rattle.view_laws.proofs.Tests.{none_is_not_some, same_region, same_place}
use Rattle.turn_laws.proofs.Backed.{IsBacked}
use Rattle.mem_base.proofs.BoolLaws.{true_is_not_false}

-- a block that is not there has no cells
no_block : (blocks : List Block) (r : RegionId) → has_block blocks r ≡ false → cells_in blocks r ≡ []
no_block [] r h = refl
no_block (b ∷ bs) r h = go (b.region.0 == r.0) (no_block bs r) h
  where
    go : (t : Bool) → (has_block bs r ≡ false → cells_in bs r ≡ []) → (if t then true else has_block bs r) ≡ false → (if t then b.words else cells_in bs r) ≡ []
    go true rest h = absurd (grind arith)
    go false rest h = rest h

pub its_region : (ps : List Place) (r : RegionId) (p : Place) → place_in ps r ≡ Some p → p.region.0 ≡ r.0
its_region [] r p h = none_is_not_some p h
its_region (q ∷ qs) r p h = go (q.region.0 == r.0) refl (its_region qs r p) h
  where
    go : (b : Bool) → (q.region.0 == r.0) ≡ b → (place_in qs r ≡ Some p → p.region.0 ≡ r.0) → (if b then Some q else place_in qs r) ≡ Some p → p.region.0 ≡ r.0
    go true e rest h = subst (λ (z : Place). z.region.0 ≡ r.0) (same_place q p h) (eqb-true _ _ e)
    go false e rest h = rest h

-- the cells of a place
pub block_words : (blocks : List Block) (ps : List Place) (r : RegionId) (p : Place) → place_in ps r ≡ Some p → cells_in (map (block_for blocks) ps) r
    ≡ (block_for blocks p).words
block_words blocks [] r p h = none_is_not_some p h
block_words blocks (q ∷ qs) r p h = go (q.region.0 == r.0) (block_words blocks qs r p) h
  where
    go : (b : Bool) → (place_in qs r ≡ Some p → cells_in (map (block_for blocks) qs) r ≡ (block_for blocks p).words)
        → (if b then Some q else place_in qs r) ≡ Some p
        → (if b then (block_for blocks q).words else cells_in (map (block_for blocks) qs) r) ≡ (block_for blocks p).words
    go true rest h = ap (λ (z : Place). (block_for blocks z).words) (same_place q p h)
    go false rest h = rest h

-- a region without a place has no cells
pub no_cells : (blocks : List Block) (ps : List Place) (r : RegionId) → place_in ps r ≡ None → has_block (map (block_for blocks) ps) r ≡ false
no_cells blocks [] r h = refl
no_cells blocks (q ∷ qs) r h = go (q.region.0 == r.0) (no_cells blocks qs r) h
  where
    go : (b : Bool) → (place_in qs r ≡ None → has_block (map (block_for blocks) qs) r ≡ false) → (if b then Some q else place_in qs r) ≡ None
        → (if b then true else has_block (map (block_for blocks) qs) r) ≡ false
    go true rest h = none_is_not_some q (sym h)
    go false rest h = rest h

-- cells that were there stay
pub stays : (blocks : List Block) (p : Place) → length (cells_in blocks p.region) ≡ p.words → (block_for blocks p).words ≡ cells_in blocks p.region
stays blocks p l = go (has_block blocks p.region) refl
  where
    go : (b : Bool) → has_block blocks p.region ≡ b → (if b then cells_in blocks p.region else replicate p.words 0) ≡ cells_in blocks p.region
    go true e = refl
    go false e = let n = no_block blocks p.region e in let z : p.words ≡ 0 = sym l ∙ ap (λ (ws : List ℕ). length ws) n in rw (z, n) refl

pub words_stay : (blocks : List Block) (ps : List Place) (r : RegionId) (p : Place) → place_in ps r ≡ Some p → length (cells_in blocks r) ≡ p.words
    → cells_in (map (block_for blocks) ps) r ≡ cells_in blocks r
words_stay blocks ps r p is l = let same = same_region p.region r (its_region ps r p is) in
    block_words blocks ps r p is ∙ stays blocks p (subst (λ (z : RegionId). length (cells_in blocks z) ≡ p.words) (sym same) l)
    ∙ ap (λ (z : RegionId). cells_in blocks z) same

-- the same places
pub renew : (ps : List Place) (unfilled : List Cell) (blocks : List Block) (words : List ℕ) → IsBacked ps unfilled blocks words
    → IsBacked ps unfilled (map (block_for blocks) ps) words
renew ps unfilled blocks words k = record {
  same = λ r p i is l filled. subst (λ (ws : List ℕ). slice_index ws i ≡ slice_index words (p.start + i))
      (sym (words_stay blocks ps r p is (k.long r p is))) (k.same r p i is l filled);
  long = λ r p is. ap (λ (ws : List ℕ). length ws) (words_stay blocks ps r p is (k.long r p is)) ∙ k.long r p is;
  inside = k.inside;
  apart = k.apart;
}

-- fewer places, kept by region

pub kept_place : (kept : RegionId → Bool) (ps qs : List Place) (r : RegionId) → kept r ≡ true → place_in (filter (λ p. kept p.region) ps ++ qs) r
    ≡ place_in (ps ++ qs) r
kept_place kept [] qs r h = refl
kept_place kept (p ∷ ps) qs r h = go (kept p.region) refl (kept_place kept ps qs r h)
  where
    go : (b : Bool) → kept p.region ≡ b → place_in (filter (λ p. kept p.region) ps ++ qs) r ≡ place_in (ps ++ qs) r
        → place_in ((if b then p ∷ filter (λ p. kept p.region) ps else filter (λ p. kept p.region) ps) ++ qs) r
        ≡ (if p.region.0 == r.0 then Some p else place_in (ps ++ qs) r)
    go true e rest = ap (λ (o : Option Place). if p.region.0 == r.0 then Some p else o) rest
    go false e rest = dite (ℕ_discrete p.region.0 r.0)
        (λ same. true_is_not_false (kept r) h (subst (λ (z : RegionId). kept z ≡ false) (same_region p.region r same) e))
        (λ other. rw (ne_eqb p.region.0 r.0 other) rest)

-- what is found among fewer places was kept, or stands after them
found_kept : (kept : RegionId → Bool) (ps qs : List Place) (r : RegionId) (p : Place) → ((q : Place) → place_in qs r ≡ Some q → kept r ≡ true)
    → place_in (filter (λ p. kept p.region) ps ++ qs) r ≡ Some p → kept r ≡ true
found_kept kept [] qs r p f h = f p h
found_kept kept (q ∷ ps) qs r p f h = go (kept q.region) refl (found_kept kept ps qs r p f) h
  where
    go : (b : Bool) → kept q.region ≡ b → (place_in (filter (λ p. kept p.region) ps ++ qs) r ≡ Some p → kept r ≡ true)
        → place_in ((if b then q ∷ filter (λ p. kept p.region) ps else filter (λ p. kept p.region) ps) ++ qs) r ≡ Some p → kept r ≡ true
    go true e rest h = dite (ℕ_discrete q.region.0 r.0)
        (λ same. subst (λ (z : RegionId). kept z ≡ true) (same_region q.region r same) e)
        (λ other. rest (subst (λ (b : Bool). (if b then Some q else place_in (filter (λ p. kept p.region) ps ++ qs) r) ≡ Some p)
        (ne_eqb q.region.0 r.0 other) h))
    go false e rest h = rest h

-- the cells of the places that are left
pub fewer : (kept : RegionId → Bool) (ps qs : List Place) (unfilled : List Cell) (blocks : List Block) (words : List ℕ)
    → ((r : RegionId) (q : Place) → place_in qs r ≡ Some q → kept r ≡ true) → IsBacked (ps ++ qs) unfilled blocks words
    → IsBacked (filter (λ p. kept p.region) ps ++ qs) unfilled (map (block_for blocks) (filter (λ p. kept p.region) ps ++ qs)) words
fewer kept ps qs unfilled blocks words f k = record {
  same = λ r p i is l filled. subst (λ (ws : List ℕ). slice_index ws i ≡ slice_index words (p.start + i)) (sym (cells r p is))
      (k.same r p i (before r p is) l filled);
  long = λ r p is. ap (λ (ws : List ℕ). length ws) (cells r p is) ∙ k.long r p (before r p is);
  inside = λ r p is. k.inside r p (before r p is);
  apart = λ r s p q a b ne. k.apart r s p q (before r p a) (before s q b) ne;
}
  where
    before : (r : RegionId) (p : Place) → place_in (filter (λ p. kept p.region) ps ++ qs) r ≡ Some p → place_in (ps ++ qs) r ≡ Some p
    before r p is = sym (kept_place kept ps qs r (found_kept kept ps qs r p (f r) is)) ∙ is

    cells : (r : RegionId) (p : Place) → place_in (filter (λ p. kept p.region) ps ++ qs) r ≡ Some p
        → cells_in (map (block_for blocks) (filter (λ p. kept p.region) ps ++ qs)) r ≡ cells_in blocks r
    cells r p is = words_stay blocks (filter (λ p. kept p.region) ps ++ qs) r p is (k.long r p (before r p is))
