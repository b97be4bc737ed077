-- The cells of the pure machine beside the words that back them, and what a step on one does to both.
use Rattle.std.proofs.Common.{◌≡◌, ◌⊎◌, ℕ, ◌+◌, ◌<◌, ◌≤◌, ne_eqb, eq-eqb, Bool, true, false, List, [], ◌∷◌, length, sym, refl, ap, ◌∙◌}
use Rattle.std.proofs.Common.{subst, inl, inr, arith, length-set, get_or-set_other, get_or-set_same, if◌then◌else◌, Some}
use Rattle.std.specs.Prelude.{slice_index, ◌==◌}
use Rattle.std.specs.List.{list_any}
use mathlib.Core.Logic.{dite}
use native.Mathlib.Decide.{ℕ_discrete}
use Rattle.mem_base.specs.declared.map.ids.RegionId.{RegionId}
use Rattle.mem_base.specs.declared.access.cells.Place.{Place}
use Rattle.mem_base.specs.declared.access.cells.Cell.{Cell}
use Rattle.mem_base.specs.declared.access.cells.WordStep.{WordStep}
use Rattle.mem_base.specs.access.PlacesByRegion.{place_in}
use Rattle.mem_base.specs.access.Words.{word_after}
use Rattle.mem_base.specs.access.Cells.{cell, is_same_cell, Block, has_block, cells_in, blocks_after, words_after}
use Rattle.view_laws.proofs.Tests.{same_region, same_place}

-- the cell waits to be cleared
abbrev pub waits : List Cell → RegionId → ℕ → Bool
waits cells r i = list_any (is_same_cell (cell r i)) cells

-- each cell that waits for nothing has the value of the word that backs it; each region has as many cells as its place
-- has words; each place lies within the words, and no two meet
pub record IsBacked (places : List Place) (unfilled : List Cell) (blocks : List Block) (words : List ℕ) : Type 0 where
  pub same : (r : RegionId) (p : Place) (i : ℕ) → place_in places r ≡ Some p → i < p.words → waits unfilled r i ≡ false
      → slice_index (cells_in blocks r) i ≡ slice_index words (p.start + i)
  pub long : (r : RegionId) (p : Place) → place_in places r ≡ Some p → length (cells_in blocks r) ≡ p.words
  pub inside : (r : RegionId) (p : Place) → place_in places r ≡ Some p → p.start + p.words ≤ length words
  pub apart : (r s : RegionId) (p q : Place) → place_in places r ≡ Some p → place_in places s ≡ Some q → (r.0 ≡ s.0 → ⊥)
      → (p.start + p.words ≤ q.start) ⊎ (q.start + q.words ≤ p.start)

-- the cells of another region stay, and those of this one are changed at one place
others : (blocks : List Block) (r s : RegionId) (i : ℕ) (step : WordStep) → (r.0 ≡ s.0 → ⊥) → cells_in (blocks_after blocks r i step) s ≡ cells_in blocks s
others [] r s i step ne = refl
others (b ∷ bs) r s i step ne = dite (ℕ_discrete b.region.0 r.0)
    (λ e. rw (eq-eqb b.region.0 r.0 e, ne_eqb b.region.0 s.0 (λ z. ne (sym e ∙ z))) refl)
    (λ n. rw (ne_eqb b.region.0 r.0 n) (ap (λ (ws : List ℕ). if b.region.0 == s.0 then b.words else ws) (others bs r s i step ne)))

pub its_own : (blocks : List Block) (r : RegionId) (i : ℕ) (step : WordStep) → i < length (cells_in blocks r)
    → cells_in (blocks_after blocks r i step) r ≡ words_after (cells_in blocks r) i step
its_own [] r i step l = absurd (omega arith)
its_own (b ∷ bs) r i step l = dite (ℕ_discrete b.region.0 r.0)
    (λ e. rw (eq-eqb b.region.0 r.0 e) (rw (eq-eqb b.region.0 r.0 e) refl))
    (λ n. let x = ne_eqb b.region.0 r.0 n in rw x (rw x (its_own bs r i step (subst (λ (c : Bool). i < length (if c then b.words else cells_in bs r)) x l))))

-- one word of a list, after a step on one
pub at_same : (ws : List ℕ) (i : ℕ) (step : WordStep) → i < length ws → slice_index (words_after ws i step) i ≡ word_after step (slice_index ws i)
at_same ws i step l = get_or-set_same ws i (word_after step (slice_index ws i)) 0 l

pub at_other : (ws : List ℕ) (i j : ℕ) (step : WordStep) → (j ≡ i → ⊥) → slice_index (words_after ws i step) j ≡ slice_index ws j
at_other ws i j step ne = get_or-set_other ws i j (word_after step (slice_index ws i)) 0 ne

pub length_after : (ws : List ℕ) (i : ℕ) (step : WordStep) → length (words_after ws i step) ≡ length ws
length_after ws i step = length-set ws i (word_after step (slice_index ws i))

-- the cells of the region itself
its_words : (places : List Place) (unfilled : List Cell) (blocks : List Block) (words : List ℕ) → IsBacked places unfilled blocks words
    → (r : RegionId) (p : Place) (i : ℕ) (step : WordStep) → place_in places r ≡ Some p → i < p.words
    → (j : ℕ) → j < p.words → waits unfilled r j ≡ false → slice_index (cells_in (blocks_after blocks r i step) r) j ≡ slice_index
    (words_after words (p.start + i) step) (p.start + j)
its_words places unfilled blocks words k r p i step at near j l filled =
    let long = k.long r p at in let wide = k.inside r p at in let inside : i < length (cells_in blocks r) = omega arith in
    let far : p.start + i < length words = omega arith in
    rw (its_own blocks r i step inside) (dite (ℕ_discrete j i)
    (λ e. subst (λ (z : ℕ). slice_index (words_after (cells_in blocks r) i step) z ≡ slice_index (words_after words (p.start + i) step) (p.start + z)) (sym e)
    (at_same (cells_in blocks r) i step inside
    ∙ ap (λ (z : ℕ). word_after step z) (k.same r p i at near (subst (λ (z : ℕ). waits unfilled r z ≡ false) e filled))
    ∙ sym (at_same words (p.start + i) step far)))
    (λ ne. at_other (cells_in blocks r) i j step ne ∙ k.same r p j at l filled ∙ sym (at_other words (p.start + i) (p.start + j) step (λ z. ne (omega arith)))))

-- a step on a cell, and on the word that backs it
pub steps_both : (places : List Place) (unfilled : List Cell) (blocks : List Block) (words : List ℕ) → IsBacked places unfilled blocks words
    → (r : RegionId) (p : Place) (i : ℕ) (step : WordStep) → place_in places r ≡ Some p → i < p.words
    → IsBacked places unfilled (blocks_after blocks r i step) (words_after words (p.start + i) step)
steps_both places unfilled blocks words k r p i step at near = record {
  same = λ s q j is l filled. dite (ℕ_discrete r.0 s.0)
      (λ e. let x = same_region r s e in
      subst (λ (z : RegionId). place_in places z ≡ Some q → waits unfilled z j ≡ false → slice_index (cells_in (blocks_after blocks r i step) z) j
      ≡ slice_index (words_after words (p.start + i) step) (q.start + j)) x
      (λ is filled. let y = same_place p q (sym at ∙ is) in
      subst (λ (z : Place). j < z.words → slice_index (cells_in (blocks_after blocks r i step) r) j ≡ slice_index
      (words_after words (p.start + i) step) (z.start + j)) y
      (λ l. its_words places unfilled blocks words k r p i step at near j l filled) l) is filled)
      (λ ne. subst (λ (ws : List ℕ). slice_index ws j ≡ slice_index (words_after words (p.start + i) step) (q.start + j)) (sym (others blocks r s i step ne))
      (k.same s q j is l filled ∙ sym (at_other words (p.start + i) (q.start + j) step (λ z. away q j (k.apart r s p q at is ne) l z))));
  long = λ s q is. dite (ℕ_discrete r.0 s.0)
      (λ e. subst (λ (z : RegionId). place_in places z ≡ Some q → length (cells_in (blocks_after blocks r i step) z) ≡ q.words) (same_region r s e)
      (λ is. let long = k.long r p at in let inside : i < length (cells_in blocks r) = omega arith in
      ap (λ (ws : List ℕ). length ws) (its_own blocks r i step inside) ∙ length_after (cells_in blocks r) i step ∙ k.long r q is) is)
      (λ ne. ap (λ (ws : List ℕ). length ws) (others blocks r s i step ne) ∙ k.long s q is);
  inside = λ s q is. subst (λ (z : ℕ). q.start + q.words ≤ z) (sym (length_after words (p.start + i) step)) (k.inside s q is);
  apart = k.apart;
}
  where
    away : (q : Place) (j : ℕ) → (p.start + p.words ≤ q.start) ⊎ (q.start + q.words ≤ p.start) → j < q.words → q.start + j ≡ p.start + i → ⊥
    away q j (inl h) l z = absurd (omega arith)
    away q j (inr h) l z = absurd (omega arith)

-- a step makes no cells
pub same_blocks : (blocks : List Block) (r s : RegionId) (i : ℕ) (step : WordStep) → has_block (blocks_after blocks r i step) s ≡ has_block blocks s
same_blocks [] r s i step = refl
same_blocks (b ∷ bs) r s i step = go (b.region.0 == r.0) (same_blocks bs r s i step)
  where
    go : (t : Bool) → has_block (blocks_after bs r i step) s ≡ has_block bs s
        → has_block (if t then (record b { words = words_after b.words i step }) ∷ bs else b ∷ blocks_after bs r i step) s
        ≡ (if b.region.0 == s.0 then true else has_block bs s)
    go true rest = refl
    go false rest = ap (λ (t : Bool). if b.region.0 == s.0 then true else t) rest
