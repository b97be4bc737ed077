-- Runs cover their numbers once and in order, and are the longest.
use Rattle.std.proofs.Common.{◌≡◌, ℕ, zero, suc, ◌+◌, ◌-◌, ◌<◌, Bool, true, false, List, [], ◌∷◌, ◌++◌, sym, refl, ap, ◌∙◌, subst, arith}
use Rattle.std.specs.Prelude.{flat_map}
use Rattle.std.specs.List.{range_with_len}
use Rattle.mem_base.specs.lists.Runs.{Run, run, runs, put_before}
use Rattle.view_laws.specs.Cuts.{numbers_in, IsRun, EndsBefore, AreRuns, IsCut}

-- the first of these runs, if any, begins here
abbrev pub Begins : ℕ → List Run → Type 0
Begins a [] = Unit {0}
Begins a (r ∷ rs) = r.start ≡ a

begins_put : (b : Bool) (a : ℕ) (rs : List Run) → Begins a (put_before b a rs)
begins_put true a [] = refl
begins_put true a (r ∷ rs) = refl
begins_put false a rs = refl

pub begins : (with_next : ℕ → Bool) (a n : ℕ) → Begins a (runs with_next a n)
begins with_next a zero = tt
begins with_next a (suc n) = begins_put (with_next a) a (runs with_next (a + 1) n)

-- one number more in front
pub one_more : (a n : ℕ) → range_with_len a (n + 1) ≡ a ∷ range_with_len (a + 1) n
one_more a n = let e : n + 1 ≡ suc n = omega arith in ap (range_with_len a) e

covers_put : (b : Bool) (a : ℕ) (rs : List Run) → Begins (a + 1) rs → flat_map numbers_in (put_before b a rs) ≡ a ∷ flat_map numbers_in rs
covers_put true a [] h = refl
covers_put true a (r ∷ rs) h = ap (λ (xs : List ℕ). xs ++ flat_map numbers_in rs) (one_more a r.length ∙ ap (λ (z : ℕ). a ∷ range_with_len z r.length) (sym h))
covers_put false a rs h = refl

pub covers : (with_next : ℕ → Bool) (a n : ℕ) → flat_map numbers_in (runs with_next a n) ≡ range_with_len a n
covers with_next a zero = refl
covers with_next a (suc n) =
    covers_put (with_next a) a (runs with_next (a + 1) n) (begins with_next (a + 1) n) ∙ ap (λ (xs : List ℕ). a ∷ xs) (covers with_next (a + 1) n)

-- a run by itself
lone : (with_next : ℕ → Bool) (a : ℕ) → IsRun with_next (run a 1)
lone with_next a = record { nonempty = omega arith; together = λ i l. absurd (omega arith) }

ends_alone : (with_next : ℕ → Bool) (a : ℕ) (rs : List Run) → with_next a ≡ false → Begins (a + 1) rs → EndsBefore with_next (run a 1) rs
ends_alone with_next a [] off h = tt
ends_alone with_next a (r ∷ rs) off h = (h, let e : a ≡ a + 1 - 1 = omega arith in subst (λ (z : ℕ). with_next z ≡ false) e off)

longer : (with_next : ℕ → Bool) (a : ℕ) (r : Run) → with_next a ≡ true → r.start ≡ a + 1 → IsRun with_next r → IsRun with_next (run a (r.length + 1))
longer with_next a r on h k = record {
  nonempty = omega arith;
  together = λ i l. go i l;
}
  where
    go : (i : ℕ) → i + 1 < r.length + 1 → with_next (a + i) ≡ true
    go zero l = let e : a ≡ a + 0 = omega arith in subst (λ (z : ℕ). with_next z ≡ true) e on
    go (suc i) l = let e : r.start + i ≡ a + suc i = omega arith in subst (λ (z : ℕ). with_next z ≡ true) e (k.together i (omega arith))

ends_longer : (with_next : ℕ → Bool) (a : ℕ) (r : Run) (rs : List Run) → r.start ≡ a + 1 → 0 < r.length → EndsBefore with_next r rs
    → EndsBefore with_next (run a (r.length + 1)) rs
ends_longer with_next a r [] h l k = tt
ends_longer with_next a r (q ∷ qs) h l k =
    let e : r.start + r.length ≡ a + (r.length + 1) = omega arith in
    let d : r.start + r.length - 1 ≡ a + (r.length + 1) - 1 = omega arith in
    (k.0 ∙ e, subst (λ (z : ℕ). with_next z ≡ false) d k.1)

longest_put : (with_next : ℕ → Bool) (b : Bool) (a : ℕ) (rs : List Run) → with_next a ≡ b → Begins (a + 1) rs → AreRuns with_next rs
    → AreRuns with_next (put_before b a rs)
longest_put with_next true a [] e h k = (lone with_next a, tt, tt)
longest_put with_next true a (r ∷ rs) e h k = (longer with_next a r e h k.0, ends_longer with_next a r rs h k.0.nonempty k.1, k.2)
longest_put with_next false a rs e h k = (lone with_next a, ends_alone with_next a rs e h, k)

pub longest : (with_next : ℕ → Bool) (a n : ℕ) → AreRuns with_next (runs with_next a n)
longest with_next a zero = tt
longest with_next a (suc n) = longest_put with_next (with_next a) a (runs with_next (a + 1) n) refl (begins with_next (a + 1) n) (longest with_next (a + 1) n)

pub runs_cut : (with_next : ℕ → Bool) (a n : ℕ) → IsCut with_next a n
runs_cut with_next a n = record { covers = covers with_next a n; longest = longest with_next a n }
