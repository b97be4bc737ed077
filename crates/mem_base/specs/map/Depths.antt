-- Depth, weight and reaching as relations, with no bound on the length of a path.
use Rattle.std.specs.Prelude.{◌≡◌, ℕ, ◌+◌, List, [], ◌∷◌}
use Rattle.mem_base.specs.declared.map.ids.RegionId.{RegionId}
use Rattle.mem_base.specs.lists.Every.{HasElement}
use Rattle.mem_base.specs.map.Steps.{Steps, greatest, total}

-- steps lead from one region to another, or the two are one
pub data Leads : Steps → RegionId → RegionId → Type 0 where
  stays : {steps : Steps} {r : RegionId} → Leads steps r r
  onward : {steps : Steps} {r to : RegionId} (q : RegionId) → HasElement (steps r) q → Leads steps q to → Leads steps r to

mutual
  -- a region's measure is 1 more than what the measures of all that one step leads to come to together
  pub data Measures : (List ℕ → ℕ) → Steps → RegionId → ℕ → Type 0 where
    above : {together : List ℕ → ℕ} {steps : Steps} {r : RegionId} {n : ℕ} (ns : List ℕ) → MeasureAll together steps (steps r) ns → n ≡ together ns + 1 →
        Measures together steps r n

  -- the measures of some regions, one for each
  pub data MeasureAll : (List ℕ → ℕ) → Steps → List RegionId → List ℕ → Type 0 where
    none : {together : List ℕ → ℕ} {steps : Steps} → MeasureAll together steps [] []
    each : {together : List ℕ → ℕ} {steps : Steps} {r : RegionId} {rs : List RegionId} {n : ℕ} {ns : List ℕ} → Measures together steps r n →
        MeasureAll together steps rs ns → MeasureAll together steps (r ∷ rs) (n ∷ ns)

-- the regions on the longest path from a region
abbrev pub HasDepth : Steps → RegionId → ℕ → Type 0
HasDepth = Measures greatest

-- 1 plus the weights of all that one step leads to
abbrev pub HasWeight : Steps → RegionId → ℕ → Type 0
HasWeight = Measures total
