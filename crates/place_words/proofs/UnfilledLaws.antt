-- Laws of the cells that are not cleared yet, by the flags of their words.
use Rattle.std.proofs.Common.{◌≡◌, ℕ, zero, suc, ◌+◌, ◌<◌, Bool, true, false, List, [], ◌∷◌, map, set, get_or, length, filter}
use Rattle.std.proofs.Common.{refl, sym, ap, ◌∙◌, arith}
use Rattle.std.specs.Prelude.{not, ◌&&◌, ◌==◌, replicate}
use Rattle.std.specs.List.{list_any, range_with_len}
use Rattle.std.proofs.Common.{eq-eqb, ne_eqb}
use Rattle.mem_base.specs.declared.map.ids.RegionId.{RegionId}
use Rattle.mem_base.specs.declared.access.cells.Cell.{Cell}
use Rattle.mem_base.specs.access.Cells.{cell, is_same_cell}
use Rattle.place_words.specs.Unfilled.{cells_left}
use Rattle.std.proofs.lemmas.Bool.{and_parts}
use Rattle.mem_base.proofs.BoolLaws.{and_nothing, or_nothing}

-- a word before the first one is none of them
none_before : (q r : RegionId) (word at : ℕ) (flags : List Bool) → word < at → list_any (is_same_cell (cell q word)) (cells_left r at flags) ≡ false
none_before q r word at [] l = refl
none_before q r word at (true ∷ flags) l =
    let other : (word == at) ≡ false = ne_eqb word at (λ e. omega arith) in
    rw other (rw (and_nothing (q.0 == r.0)) (none_before q r word (at + 1) flags (omega arith)))
none_before q r word at (false ∷ flags) l = none_before q r word (at + 1) flags (omega arith)

any_from : (q r : RegionId) (at i : ℕ) (flags : List Bool)
    → list_any (is_same_cell (cell q (at + i))) (cells_left r at flags) ≡ (q.0 == r.0) && get_or flags i false
any_from q r at i [] = sym (and_nothing (q.0 == r.0))
any_from q r at zero (true ∷ flags) =
    let same : (at + 0 == at) ≡ true = eq-eqb (at + 0) at (omega arith) in
    rw same (rw (none_before q r (at + 0) (at + 1) flags (omega arith)) (or_nothing ((q.0 == r.0) && true)))
any_from q r at zero (false ∷ flags) = none_before q r (at + 0) (at + 1) flags (omega arith) ∙ sym (and_nothing (q.0 == r.0))
any_from q r at (suc i) (true ∷ flags) =
    let other : (at + suc i == at) ≡ false = ne_eqb (at + suc i) at (λ e. omega arith) in
    let next : at + suc i ≡ at + 1 + i = omega arith in
    rw other (rw (and_nothing (q.0 == r.0))
    (ap (λ (n : ℕ). list_any (is_same_cell (cell q n)) (cells_left r (at + 1) flags)) next ∙ any_from q r (at + 1) i flags))
any_from q r at (suc i) (false ∷ flags) =
    let next : at + suc i ≡ at + 1 + i = omega arith in
    ap (λ (n : ℕ). list_any (is_same_cell (cell q n)) (cells_left r (at + 1) flags)) next ∙ any_from q r (at + 1) i flags

-- a cell is one of them where it is of the region and its flag is on
pub any_left : (c : Cell) (r : RegionId) (flags : List Bool)
    → list_any (is_same_cell c) (cells_left r 0 flags) ≡ (c.region.0 == r.0) && get_or flags c.word false
any_left c r flags = let first : c.word ≡ 0 + c.word = omega arith in
    ap (λ (n : ℕ). list_any (is_same_cell (cell c.region n)) (cells_left r 0 flags)) first ∙ any_from c.region r 0 c.word flags

-- those after a word are others
keeps_after : (q r : RegionId) (word at : ℕ) (flags : List Bool) → word < at
    → filter (λ x. not (is_same_cell (cell q word) x)) (cells_left r at flags) ≡ cells_left r at flags
keeps_after q r word at [] l = refl
keeps_after q r word at (true ∷ flags) l =
    let other : (word == at) ≡ false = ne_eqb word at (λ e. omega arith) in
    rw other (rw (and_nothing (q.0 == r.0)) (ap (λ (cs : List Cell). cell r at ∷ cs) (keeps_after q r word (at + 1) flags (omega arith))))
keeps_after q r word at (false ∷ flags) l = keeps_after q r word (at + 1) flags (omega arith)

less_from : (q r : RegionId) (at i : ℕ) (flags : List Bool) → (q.0 == r.0) ≡ true
    → filter (λ x. not (is_same_cell (cell q (at + i)) x)) (cells_left r at flags) ≡ cells_left r at (set flags i false)
less_from q r at i [] same = refl
less_from q r at zero (true ∷ flags) same =
    let here : (at + 0 == at) ≡ true = eq-eqb (at + 0) at (omega arith) in
    rw same (rw here (keeps_after q r (at + 0) (at + 1) flags (omega arith)))
less_from q r at zero (false ∷ flags) same = keeps_after q r (at + 0) (at + 1) flags (omega arith)
less_from q r at (suc i) (true ∷ flags) same =
    let other : (at + suc i == at) ≡ false = ne_eqb (at + suc i) at (λ e. omega arith) in
    let next : at + suc i ≡ at + 1 + i = omega arith in
    rw other (rw (and_nothing (q.0 == r.0)) (ap (λ (cs : List Cell). cell r at ∷ cs)
    (ap (λ (n : ℕ). filter (λ x. not (is_same_cell (cell q n) x)) (cells_left r (at + 1) flags)) next ∙ less_from q r (at + 1) i flags same)))
less_from q r at (suc i) (false ∷ flags) same =
    let next : at + suc i ≡ at + 1 + i = omega arith in
    ap (λ (n : ℕ). filter (λ x. not (is_same_cell (cell q n) x)) (cells_left r (at + 1) flags)) next ∙ less_from q r (at + 1) i flags same

-- a cell is cleared by its flag
pub less_left : (c : Cell) (r : RegionId) (flags : List Bool) → (c.region.0 == r.0) ≡ true
    → filter (λ x. not (is_same_cell c x)) (cells_left r 0 flags) ≡ cells_left r 0 (set flags c.word false)
less_left c r flags same = let first : c.word ≡ 0 + c.word = omega arith in
    ap (λ (n : ℕ). filter (λ x. not (is_same_cell (cell c.region n) x)) (cells_left r 0 flags)) first ∙ less_from c.region r 0 c.word flags same

-- and there is one less
pub one_less : (r : RegionId) (at i : ℕ) (flags : List Bool) → get_or flags i false ≡ true
    → suc (length (cells_left r at (set flags i false))) ≡ length (cells_left r at flags)
one_less r at i [] on = absurd (grind arith)
one_less r at zero (true ∷ flags) on = refl
one_less r at zero (false ∷ flags) on = absurd (grind arith)
one_less r at (suc i) (true ∷ flags) on = ap suc (one_less r (at + 1) i flags on)
one_less r at (suc i) (false ∷ flags) on = one_less r (at + 1) i flags on

-- a word whose flag is on has one
on_within : (flags : List Bool) (i : ℕ) → get_or flags i false ≡ true → i < length flags
on_within [] i on = absurd (grind arith)
on_within (f ∷ flags) zero on = omega arith
on_within (f ∷ flags) (suc i) on = let l : i < length flags = on_within flags i on in omega (arith, l)

module _ (c : Cell) (r : RegionId) (flags : List Bool) where
  -- a cell of another region is none of them
  pub none_of_other : (c.region.0 == r.0) ≡ false → list_any (is_same_cell c) (cells_left r 0 flags) ≡ false
  none_of_other other = any_left c r flags ∙ ap (λ (b : Bool). b && get_or flags c.word false) other

  -- a cell of the region is one by its flag
  pub one_by_flag : (c.region.0 == r.0) ≡ true → list_any (is_same_cell c) (cells_left r 0 flags) ≡ get_or flags c.word false
  one_by_flag same = any_left c r flags ∙ ap (λ (b : Bool). b && get_or flags c.word false) same

  -- what is told by a cell that is one of them
  pub record IsLeft : Type 0 where
    pub same : (c.region.0 == r.0) ≡ true
    pub on : get_or flags c.word false ≡ true
    pub within : c.word < length flags

  pub is_left : list_any (is_same_cell c) (cells_left r 0 flags) ≡ true → IsLeft
  is_left waits =
      let t = and_parts (c.region.0 == r.0) (get_or flags c.word false) (sym (any_left c r flags) ∙ waits) in
      record { same = t.0; on = t.1; within = on_within flags c.word t.1 }

-- all flags are on
all_from : (r : RegionId) (at n : ℕ) → cells_left r at (replicate n true) ≡ map (cell r) (range_with_len at n)
all_from r at zero = refl
all_from r at (suc n) = ap (λ (cs : List Cell). cell r at ∷ cs) (all_from r (at + 1) n)

pub all_left : (r : RegionId) (n : ℕ) (flags : List Bool) → flags ≡ replicate n true → cells_left r 0 flags ≡ map (cell r) (range_with_len 0 n)
all_left r n flags is = ap (λ (fs : List Bool). cells_left r 0 fs) is ∙ all_from r 0 n

count_from : (r : RegionId) (at n : ℕ) → n ≡ length (cells_left r at (replicate n true))
count_from r at zero = refl
count_from r at (suc n) = ap suc (count_from r (at + 1) n)

pub all_count : (r : RegionId) (n : ℕ) (flags : List Bool) → flags ≡ replicate n true → n ≡ length (cells_left r 0 flags)
all_count r n flags is = count_from r 0 n ∙ ap (λ (fs : List Bool). length (cells_left r 0 fs)) (sym is)

-- there is no cell where there are no flags
pub none_left : (r : RegionId) (flags : List Bool) → flags ≡ [] → cells_left r 0 flags ≡ []
none_left r flags is = ap (λ (fs : List Bool). cells_left r 0 fs) is
