-- Histories of a machine: entries one after another, each an event with the reply that it got. The pure machine and
-- the running one each have theirs.
use Rattle.std.specs.Prelude.{◌≡◌, Bool, true, List, [], ◌∷◌, Option, Some, None}

-- the state after some entries, by the state after each one
abbrev pub after_each : {S E : Type 0} → (S → E → S) → S → List E → S
after_each after s [] = s
after_each after s (x ∷ xs) = after_each after (after s x) xs

-- each entry is possible where it stands, and its reply is the machine's
abbrev pub IsLegalBy : {S E : Type 0} → (S → E → Bool) → (S → E → Type 0) → (S → E → S) → S → List E → Type 0
IsLegalBy may IsReplied after s [] = Unit {0}
IsLegalBy may IsReplied after s (x ∷ xs) = (may s x ≡ true) × IsReplied s x × IsLegalBy may IsReplied after (after s x) xs

-- the last element, if there is one
abbrev pub last_of : {A : Type 0} → List A → Option A
last_of [] = None
last_of (x ∷ []) = Some x
last_of (x ∷ y ∷ ys) = last_of (y ∷ ys)

-- the first one
abbrev pub first_of : {A : Type 0} → List A → Option A
first_of [] = None
first_of (x ∷ xs) = Some x
