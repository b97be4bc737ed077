-- What a sink took of a text, line after line.
use Rattle.std.proofs.Common.{◌≡◌, ◌≤◌, ℕ, List, ◌++◌, Option, sym, ◌∙◌, arith, append_assoc}
use Rattle.std.specs.Prelude.{drop, take}
use Rattle.std.proofs.lemmas.List.{take-append-drop}
use Rattle.outside.specs.Sink.{Takes, TakesPrefix}
use Rattle.outside.proofs.Took.{Takes-append, TakesPrefix-after}

-- a text, cut
pub cut_text : (text front back : List ℕ) (n : ℕ) → front ≡ take n text → back ≡ drop n text → text ≡ front ++ back
cut_text text front back n first rest = sym (take-append-drop n text) ∙ (λ i. sym first i ++ sym rest i)

-- of a whole text all but this rest was written
pub record Through {K : Type 0} (written : K → Option (List ℕ)) (holds : K → List ℕ → Type 0) (faults : K → ℕ) (start now : K)
    (whole rest : List ℕ) : Type 0 where
  pub done : List ℕ
  pub took : Takes written holds start now done
  pub splits : whole ≡ done ++ rest
  pub later : faults start ≤ faults now

-- the next part
pub through_next : {K : Type 0} (written : K → Option (List ℕ)) (holds : K → List ℕ → Type 0) (faults : K → ℕ) (a b c : K)
    (whole part rest : List ℕ) → Through written holds faults a b whole (part ++ rest) → Takes written holds b c part → faults b ≤ faults c
    → Through written holds faults a c whole rest
through_next written holds faults a b c whole part rest k t l = record {
  done = k.done ++ part;
  took = Takes-append written holds a b c k.done part k.took t;
  splits = k.splits ∙ sym (append_assoc k.done part rest);
  later = let m = k.later in omega arith;
}

-- a prefix of the next part
pub through_prefix : {K : Type 0} (written : K → Option (List ℕ)) (holds : K → List ℕ → Type 0) (faults : K → ℕ) (a b c : K)
    (whole part rest : List ℕ) → Through written holds faults a b whole (part ++ rest) → TakesPrefix written holds b c part
    → TakesPrefix written holds a c whole
through_prefix written holds faults a b c whole part rest k t = TakesPrefix-after written holds a b c whole k.done part rest k.took t k.splits
