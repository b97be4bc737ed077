-- The regions that a search looks into.
use Rattle.std.specs.Prelude.{◌≡◌, ◌⊎◌, ℕ, ◌++◌, Bool, true, false, List, [], ◌∷◌, map, filter, Some}
use Rattle.mem_base.specs.declared.map.ids.RegionId.{RegionId}
use Rattle.mem_base.specs.declared.map.forests.Node.{Node}
use Rattle.mem_base.specs.declared.map.forests.Forest.{Forest}
use Rattle.mem_base.specs.lists.Every.{Every}
use Rattle.mem_base.specs.map.Region.{node_of}
use Rattle.find_why.specs.declared.looks.Look.{Look}
use Rattle.find_why.specs.declared.looks.Outcome.{Outcome}
use Rattle.find_why.specs.declared.looks.Outcome.TheVariants.{Answers, Hole}
use Rattle.find_why.specs.declared.looks.Tried.{Tried}
use Rattle.find_why.specs.Reasons.{places, HoldsOffset, IsFound, AreTried}

-- one of these is such
abbrev pub Some_of : {A : Type 0} → (A → Type 0) → List A → Type 0
Some_of P [] = ⊥
Some_of P (x ∷ xs) = P x ⊎ Some_of P xs

-- this region was looked into at this offset, and something was found there, or nothing
abbrev pub IsLook : RegionId → ℕ → Bool → Look → Type 0
IsLook r a answers l = (l.region ≡ r) × (l.at ≡ a) × (l.answers ≡ answers)

-- a region into which the search goes is among those that were looked into
abbrev pub IsFollowed : List Look → RegionId → Outcome → Type 0
IsFollowed looks r (Answers a) = Some_of (IsLook r a true) looks
IsFollowed looks r (Hole a) = Some_of (IsLook r a false) looks
IsFollowed looks r _ = Unit {0}

-- what is told of each region inside one
abbrev pub AreFollowed : List Look → List Tried → Type 0
AreFollowed looks tried = Every (λ t. IsFollowed looks t.region t.outcome) tried

-- a region that was looked into, among all that were
pub record IsLooked (f : Forest) (looks : List Look) (l : Look) : Type 0 where
  pub node : Node
  pub known : node_of f.nodes l.region ≡ Some node
  -- it is enabled, and the address lies in it
  pub holds : HoldsOffset f l.region l.at
  -- each region inside it is told, in the order of search, with a reason that holds
  pub tried : AreTried f false (places f.nodes node.kind node l.at) l.trials
  -- each of these into which the search goes was looked into too
  pub followed : AreFollowed looks l.trials
  pub found : IsFound f l.region l.at l.answers

-- this holds of each that was looked into
abbrev pub AreLooked : Forest → List Look → Type 0
AreLooked f looks = Every (IsLooked f looks) looks

-- the regions in which something was found
abbrev pub answering : List Look → List RegionId
answering looks = map (λ l. l.region) (filter (λ l. l.answers) looks)

-- more was looked into
abbrev pub Grows : List Look → List Look → Type 0
Grows old new = (more : List Look) × (new ≡ old ++ more)
