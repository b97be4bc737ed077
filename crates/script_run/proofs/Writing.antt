-- What a sink took of a text, part after part.
use Rattle.std.proofs.Common.{◌≡◌, ◌≤◌, ℕ, List, [], ◌++◌, sym, ap, subst, ◌∙◌, arith, append_assoc, take, drop, Option, Result, Ok, Err, OnOk}
use Rattle.std.proofs.lemmas.List.{append-nil, take-append-drop}
use Rattle.outside.specs.Sink.{Takes, TakesPrefix}
use Rattle.outside.proofs.Took.{Takes-append, Takes-nil, TakesPrefix-after}

pub on_ok : {T E P Q : Type 0} (r : Result T E) → OnOk r P → (P → Q) → OnOk r Q
on_ok (Ok x) p f = f p
on_ok (Err e) p f = tt

-- a text cut in two
pub cut_at : (text front back : List ℕ) (n : ℕ) → front ≡ take n text → back ≡ drop n text → front ++ back ≡ text
cut_at text front back n e f = (λ i. e i ++ f i) ∙ take-append-drop n text

-- a text that was added to nothing
pub alone_added : (text whole old added : List ℕ) → text ≡ whole → whole ≡ old ++ added → old ≡ [] → text ≡ added
alone_added text whole old added e f g = e ∙ f ∙ ap (λ (t : List ℕ). t ++ added) g

module _ {K : Type 0} (written : K → Option (List ℕ)) (holds : K → List ℕ → Type 0) (faults : K → ℕ) where
  -- of a whole text all but this rest was written
  pub record Through (start now : K) (whole rest : List ℕ) : Type 0 where
    pub done : List ℕ
    pub took : Takes written holds start now done
    pub splits : whole ≡ done ++ rest
    pub later : faults start ≤ faults now

  pub through_start : (a : K) (whole rest : List ℕ) → whole ≡ rest → Through a a whole rest
  through_start a whole rest e = record { done = []; took = Takes-nil written holds a; splits = e; later = omega arith }

  pub through_all : (a b : K) (whole rest : List ℕ) → Through a b whole rest → rest ≡ [] → Takes written holds a b whole
  through_all a b whole rest k e =
      subst (Takes written holds a b) (sym (k.splits ∙ ap (λ (r : List ℕ). k.done ++ r) e ∙ append-nil k.done)) k.took

  pub through_next : (a b c : K) (whole part rest : List ℕ) → Through a b whole (part ++ rest) → Takes written holds b c part → faults b ≤ faults c
      → Through a c whole rest
  through_next a b c whole part rest k t l = record {
    done = k.done ++ part;
    took = Takes-append written holds a b c k.done part k.took t;
    splits = k.splits ∙ sym (append_assoc k.done part rest);
    later = let m = k.later in omega arith;
  }

  -- no more than that
  pub through_prefix : (a b : K) (whole rest : List ℕ) → Through a b whole rest → TakesPrefix written holds a b whole
  through_prefix a b whole rest k = (k.done, rest, k.splits, k.took)

  -- and a prefix of the next part
  pub through_part : (a b c : K) (whole part rest : List ℕ) → Through a b whole (part ++ rest) → TakesPrefix written holds b c part
      → TakesPrefix written holds a c whole
  through_part a b c whole part rest k t = TakesPrefix-after written holds a b c whole k.done part rest k.took t k.splits
