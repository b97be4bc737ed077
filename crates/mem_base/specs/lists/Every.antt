-- What holds of each element of a list, one after another.
use Rattle.std.specs.Prelude.{◌≡◌, ◌⊎◌, List, [], ◌∷◌}

-- it holds of each element
abbrev pub Every : {A : Type 0} → (A → Type 0) → List A → Type 0
Every P [] = Unit {0}
Every P (x ∷ xs) = P x × Every P xs

-- what holds between each element of a list and each that follows it
abbrev pub EveryPair : {A : Type 0} → (A → A → Type 0) → List A → Type 0
EveryPair R [] = Unit {0}
EveryPair R (x ∷ xs) = Every (R x) xs × EveryPair R xs

-- some element of the list is this one
abbrev pub HasElement : {A : Type 0} → List A → A → Type 0
HasElement [] x = ⊥
HasElement (y ∷ ys) x = (y ≡ x) ⊎ HasElement ys x
