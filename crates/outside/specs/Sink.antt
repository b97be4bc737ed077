-- What a sink took, by the bytes that it tells and the texts that it holds.
use Rattle.std.specs.Prelude.{ℕ, ◌≡◌, ◌↔◌, None, Some, ⊤, List, Result, ◌++◌, take, ◌≤◌, MatchResult, OnOk, OnErr, IsErrOf}
use Rattle.std.specs.declared.option.Option.{Option}
use Rattle.outside.specs.Causes.{Rose}

-- told bytes grow by these, or are told no longer; what is not told stays so
abbrev pub Grows : Option (List ℕ) → Option (List ℕ) → List ℕ → Type 0
Grows None None bytes = ⊤
Grows None (Some now) bytes = ⊥
Grows (Some before) None bytes = ⊤
Grows (Some before) (Some now) bytes = now ≡ before ++ bytes

-- the sink took these bytes, after each text that it held
pub record Takes {K : Type 0} (written : K → Option (List ℕ)) (holds : K → List ℕ → Type 0) (old new : K) (bytes : List ℕ) : Type 0 where
  pub told : Grows (written old) (written new) bytes
  pub held : (text : List ℕ) → holds old text → holds new (text ++ bytes)

-- what the sink tells and holds stays
pub record Stays {K : Type 0} (written : K → Option (List ℕ)) (holds : K → List ℕ → Type 0) (old new : K) : Type 0 where
  pub told : written new ≡ written old
  pub held : (text : List ℕ) → holds old text → holds new text

-- a write took the first n bytes of the piece at `Ok(n)`, and nothing at `Err`
abbrev pub TakesCount : {K E : Type 0} → (K → Option (List ℕ)) → (K → List ℕ → Type 0) → K → K → Result ℕ E → List ℕ → Type 0
TakesCount written holds old new result piece =
    MatchResult result (λ n. Takes written holds old new (take n piece)) (λ _. Stays written holds old new)

-- the sink took a prefix of this text
abbrev pub TakesPrefix : {K : Type 0} → (K → Option (List ℕ)) → (K → List ℕ → Type 0) → K → K → List ℕ → Type 0
TakesPrefix written holds old new text = (front rest : List ℕ) × (text ≡ front ++ rest) × Takes written holds old new front

-- a call wrote a text: all of it where it answers Ok, and a prefix of it otherwise; it answers this fault only where a write failed,
-- and no fault is forgotten
pub record Writes {K T E : Type 0} (written : K → Option (List ℕ)) (holds : K → List ℕ → Type 0) (faults : K → ℕ) (old new : K) (text : List ℕ)
    (fault : E) (result : Result T E) : Type 0 where
  pub all : OnOk result (Takes written holds old new text)
  pub prefix : OnErr result (TakesPrefix written holds old new text)
  pub failed : IsErrOf result fault → Rose (faults old) (faults new)
  pub later : faults old ≤ faults new

-- a sink that tells what it took holds that text alone
abbrev pub HoldsWhatIsTold : Option (List ℕ) → (List ℕ → Type 0) → Type 0
HoldsWhatIsTold None holds = ⊤
HoldsWhatIsTold (Some bytes) holds = (text : List ℕ) → holds text ↔ (text ≡ bytes)
