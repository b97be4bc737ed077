-- Laws of lists that several of these proofs use.
use Rattle.std.proofs.Common.{◌≡◌, ℕ, zero, suc, ◌+◌, ◌<◌, Bool, true, false, List, [], ◌∷◌, subst}
use Rattle.std.proofs.Common.{arith}
use Rattle.mem_base.specs.lists.Every.{Every}
use Rattle.mem_base.specs.lists.Runs.{Run, runs, put_before}

-- each run starts among the numbers
pub starts_below : (with_next : ℕ → Bool) (a n : ℕ) → Every (λ r. r.start < a + n) (runs with_next a n)
starts_below with_next a zero = tt
starts_below with_next a (suc n) = put (with_next a) (runs with_next (a + 1) n) (starts_below with_next (a + 1) n)
  where
    wider : (rs : List Run) → Every (λ r. r.start < a + 1 + n) rs → Every (λ r. r.start < a + suc n) rs
    wider rs h = let more : a + 1 + n ≡ a + suc n = omega arith in subst (λ m. Every (λ r. r.start < m) rs) more h

    put : (b : Bool) (rs : List Run) → Every (λ r. r.start < a + 1 + n) rs → Every (λ r. r.start < a + suc n) (put_before b a rs)
    put true [] h = (omega arith, tt)
    put true (r ∷ rs) h = (omega arith, wider rs h.1)
    put false rs h = (omega arith, wider rs h)
