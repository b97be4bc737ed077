-- Numbers in a row, cut into runs where two neighbours do not belong together. An access is cut into chunks by it,
-- a chunk of memory into words and pages, and the pool into holes and taken parts.
use Rattle.std.specs.Prelude.{ℕ, zero, suc, ◌+◌, ◌%◌, ◌==◌, not, Bool, true, List, [], ◌∷◌}

-- the `length` numbers from `start` on
pub record Run : Type 0 where
  pub start : ℕ
  pub length : ℕ

-- such a run, by its start and its length
abbrev pub run : ℕ → ℕ → Run
run start length = record { start = start; length = length }

-- a number before the runs that follow: it lengthens the first of them where the two belong together
abbrev pub put_before : Bool → ℕ → List Run → List Run
put_before true a (r ∷ rs) = run a (r.length + 1) ∷ rs
put_before _ a rs = run a 1 ∷ rs

-- the longest runs of the `n` numbers from `a` on in which each number belongs to the next
abbrev pub runs : (ℕ → Bool) → ℕ → ℕ → List Run
runs with_next a zero = []
runs with_next a (suc n) = put_before (with_next a) a (runs with_next (a + 1) n)

-- the offset and the next one lie in one unit of `unit` bytes, a word or a page
abbrev pub is_in_unit : ℕ → ℕ → Bool
is_in_unit unit offset = not ((offset + 1) % unit == 0)

-- the units that the `bytes` bytes from an offset on touch, each as the bytes touched in it
abbrev pub touched : ℕ → ℕ → ℕ → List Run
touched unit offset bytes = runs (is_in_unit unit) offset bytes
