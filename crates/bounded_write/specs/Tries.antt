-- What is tried at most n times, and why it was given up.
use Rattle.std.specs.Prelude.{◌≡◌, ◌≢◌, ℕ, ◌+◌, Bool, true, false, ◌||◌, List, [], ◌∷◌, ◌++◌, length}
use Rattle.mem_base.specs.declared.machine.events.Event.{Event}
use Rattle.mem_base.specs.declared.machine.events.HistoryEntry.{HistoryEntry}
use Rattle.mem_base.specs.lists.Every.{Every}
use Rattle.generation.specs.Published.{Published}
use Rattle.epoch_rule.specs.declared.views.Sizes.{Sizes}
use Rattle.epoch_rule.specs.Values.{PassValue}
use Rattle.epoch_rule.specs.Wrote.{WordWas}
use Rattle.vcpu_pass.specs.Steps.{HasMade}

-- each value is another than the one next to it
abbrev pub Changes : List ℕ → Type 0
Changes [] = Unit {0}
Changes (x ∷ []) = Unit {0}
Changes (x ∷ y ∷ ys) = (x ≢ y) × Changes (y ∷ ys)

-- A word of the cabinet was found with these values, the last one first, after all that was seen: it changed each time
pub record FoundChanged (z : Sizes) (seen : List HistoryEntry) (word : ℕ) (found : List ℕ) : Type 0 where
  pub each : Every (WordWas z seen word) found
  pub changes : Changes found

-- others changed a word `tries` times, after all that was seen
abbrev pub IsContended : Sizes → List HistoryEntry → ℕ → ℕ → Type 0
IsContended z seen word tries = (found : List ℕ) × (length found ≡ tries + 1) × FoundChanged z seen word found

-- others changed some word `tries` times, after all that the pass has seen
abbrev pub WasContended : PassValue Published → ℕ → Type 0
WasContended v tries = (word : ℕ) × IsContended v.sizes v.seen word tries

abbrev pub has_some : {A : Type 0} → List A → Bool
has_some [] = false
has_some (x ∷ xs) = true

-- Of these events the pass made the first ones, in order, each with its reply: all of them, unless it stopped, since a word was changed each
-- time that it tried. One that had stopped before made none. It has begun once it made one
pub record HasTried (tries : ℕ) (was_stopped was_begun : Bool) (v : PassValue Published) (es : List Event) (replies : List ℕ) (stopped begun : Bool)
    (w : PassValue Published) : Type 0 where
  pub done : List Event
  pub rest : List Event
  pub said : List ℕ
  pub unsaid : List ℕ
  pub events : es ≡ done ++ rest
  pub told : replies ≡ said ++ unsaid
  pub each : length said ≡ length done
  pub made : HasMade v done said w
  pub all : stopped ≡ false → (rest ≡ []) × (unsaid ≡ [])
  pub still : was_stopped ≡ true → (done ≡ []) × (said ≡ []) × (w ≡ v) × (stopped ≡ true)
  pub begins : begun ≡ (was_begun || has_some done)
  pub contended : was_stopped ≡ false → stopped ≡ true → WasContended w tries
