-- What a cut of numbers in a row into runs is.
use Rattle.std.specs.Prelude.{◌≡◌, ℕ, ◌+◌, ◌-◌, ◌<◌, Bool, true, false, List, [], ◌∷◌, flat_map}
use Rattle.std.specs.List.{range_with_len}
use Rattle.mem_base.specs.lists.Runs.{Run, runs}

-- the numbers of a run
abbrev pub numbers_in : Run → List ℕ
numbers_in r = range_with_len r.start r.length

-- a run has a number, and each number in it but the last belongs to the next
pub record IsRun (with_next : ℕ → Bool) (r : Run) : Type 0 where
  pub nonempty : 0 < r.length
  pub together : (i : ℕ) → i + 1 < r.length → with_next (r.start + i) ≡ true

-- the first of these runs begins where one ends, whose last number does not belong to it
abbrev pub EndsBefore : (ℕ → Bool) → Run → List Run → Type 0
EndsBefore with_next r [] = Unit {0}
EndsBefore with_next r (q ∷ qs) = (q.start ≡ r.start + r.length) × (with_next (r.start + r.length - 1) ≡ false)

abbrev pub AreRuns : (ℕ → Bool) → List Run → Type 0
AreRuns with_next [] = Unit {0}
AreRuns with_next (r ∷ rs) = IsRun with_next r × EndsBefore with_next r rs × AreRuns with_next rs

-- runs cover the numbers, each once and in order, and are the longest in which neighbours belong together
pub record IsCut (with_next : ℕ → Bool) (a n : ℕ) : Type 0 where
  pub covers : flat_map numbers_in (runs with_next a n) ≡ range_with_len a n
  pub longest : AreRuns with_next (runs with_next a n)

abbrev pub RunsCut : Type 0
RunsCut = (with_next : ℕ → Bool) (a n : ℕ) → IsCut with_next a n
