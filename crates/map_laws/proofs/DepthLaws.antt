-- The depth, weight and reach of a region over bounded paths are those without a bound, where no path is too long.
use Rattle.std.proofs.Common.{◌≡◌, ℕ, zero, suc, Bool, true, false, ◌||◌, List, [], ◌∷◌, map, refl, sym, subst, inl, inr, eq-eqb, arith}
use Rattle.std.specs.Prelude.{◌==◌, ◌↔◌}
use Rattle.std.specs.List.{list_any}
use Rattle.mem_base.specs.declared.map.ids.RegionId.{RegionId}
use Rattle.mem_base.specs.declared.map.forests.Forest.{Forest}
use Rattle.mem_base.specs.lists.Every.{Every, HasElement}
use Rattle.mem_base.specs.map.Steps.{longest, Steps, depth_by, weight_by, reaches_by, steps_of, depth_of, weight_of, reaches}
use Rattle.mem_base.specs.map.Depths.{Leads, stays, onward, Measures, MeasureAll, above, none, each, HasDepth, HasWeight}
use Rattle.mem_base.specs.map.Forest.{IsOrderedForest}
use Rattle.mem_base.proofs.StepLaws.{IsWithin}
use Rattle.mem_base.proofs.JoinLaws.{within_forest}
use Rattle.mem_base.proofs.SamePaths.{same_region}
use Rattle.mem_base.proofs.EveryLaws.{weaker}

-- more paths may be looked at
IsWithin-longer : (s : Steps) (most : ℕ) (r : RegionId) → IsWithin s most r → IsWithin s (suc most) r
unfolding IsWithin
IsWithin-longer s zero r h = absurd h
IsWithin-longer s (suc most) r h = weaker (IsWithin s most) (IsWithin s (suc most)) (IsWithin-longer s most) (s r) h

-- measures of some regions, each by one function
measured : {together : List ℕ → ℕ} {steps : Steps} (g : RegionId → ℕ) (rs : List RegionId) → Every (λ q. Measures together steps q (g q)) rs →
    MeasureAll together steps rs (map g rs)
measured g [] h = none
measured g (r ∷ rs) h = each h.0 (measured g rs h.1)

HasDepth-depth_by : (s : Steps) (most : ℕ) (r : RegionId) → IsWithin s most r → HasDepth s r (depth_by s most r)
unfolding depth_by IsWithin
HasDepth-depth_by s zero r h = absurd h
HasDepth-depth_by s (suc most) r h =
    above (map (depth_by s most) (s r)) (measured (depth_by s most) (s r)
    (weaker (IsWithin s most) (λ q. HasDepth s q (depth_by s most q)) (HasDepth-depth_by s most) (s r) h)) refl

HasWeight-weight_by : (s : Steps) (most : ℕ) (r : RegionId) → IsWithin s most r → HasWeight s r (weight_by s most r)
unfolding weight_by IsWithin
HasWeight-weight_by s zero r h = absurd h
HasWeight-weight_by s (suc most) r h =
    above (map (weight_by s most) (s r)) (measured (weight_by s most) (s r)
    (weaker (IsWithin s most) (λ q. HasWeight s q (weight_by s most q)) (HasWeight-weight_by s most) (s r) h)) refl

any_of : (g : RegionId → Bool) (qs : List RegionId) (q : RegionId) → HasElement qs q → g q ≡ true → list_any g qs ≡ true
any_of g [] q h t = absurd h
any_of g (x ∷ xs) q (inl e) t = let at : g x ≡ true = subst (λ y. g y ≡ true) (sym e) t in rw at refl
any_of g (x ∷ xs) q (inr h) t = let rest = any_of g xs q h t in later (g x) rest
  where
    later : (b : Bool) → list_any g xs ≡ true → (b || list_any g xs) ≡ true
    later true rest = refl
    later false rest = rest

member : {A : Type 0} (P : A → Type 0) (xs : List A) (x : A) → HasElement xs x → Every P xs → P x
member P [] x w h = absurd w
member P (y ∷ ys) x (inl e) h = subst P e h.0
member P (y ∷ ys) x (inr w) h = member P ys x w h.1

record AnyOf (g : RegionId → Bool) (qs : List RegionId) : Type 0 where
  region : RegionId
  among : HasElement qs region
  passes : g region ≡ true

first_or_later : (g : RegionId → Bool) (x : RegionId) (xs : List RegionId) → (list_any g xs ≡ true → AnyOf g xs) → (g x || list_any g xs) ≡ true →
    AnyOf g (x ∷ xs)
first_or_later g x xs later h = go (g x) refl h
  where
    go : (b : Bool) → g x ≡ b → (b || list_any g xs) ≡ true → AnyOf g (x ∷ xs)
    go true e t = record { region = x; among = inl refl; passes = e }
    go false e t = let found = later t in record { region = found.region; among = inr found.among; passes = found.passes }

of_any : (g : RegionId → Bool) (qs : List RegionId) → list_any g qs ≡ true → AnyOf g qs
of_any g [] h = absurd (grind arith)
of_any g (x ∷ xs) h = first_or_later g x xs (of_any g xs) h

-- no step, or a first step to where the rest of the path is known
first_step : (s : Steps) (r to : RegionId) (rest : RegionId → Bool) → ((q : RegionId) → rest q ≡ true → Leads s q to) →
    ((r.0 == to.0) || list_any rest (s r)) ≡ true → Leads s r to
first_step s r to rest leads h = go (r.0 == to.0) refl h
  where
    go : (b : Bool) → (r.0 == to.0) ≡ b → (b || list_any rest (s r)) ≡ true → Leads s r to
    go true e t = subst (λ (q : RegionId). Leads s r q) (same_region r to e) stays
    go false e t = let found = of_any rest (s r) t in onward found.region found.among (leads found.region found.passes)

-- a path that was looked at is a path
Leads-reaches_by : (s : Steps) (most : ℕ) (r to : RegionId) → reaches_by s most r to ≡ true → Leads s r to
unfolding reaches_by
Leads-reaches_by s zero r to h = absurd (grind arith)
Leads-reaches_by s (suc most) r to h = first_step s r to (λ q. reaches_by s most q to) (λ q e. Leads-reaches_by s most q to e) h

-- no path is longer than those that were looked at
reaches_by-Leads : (s : Steps) (most : ℕ) (r to : RegionId) → IsWithin s most r → Leads s r to → reaches_by s most r to ≡ true
unfolding reaches_by IsWithin
reaches_by-Leads s zero r to h l = absurd h
reaches_by-Leads s (suc most) r to h stays = rw (eq-eqb r.0 r.0 refl) refl
reaches_by-Leads s (suc most) r to h (onward q among l) =
    later (r.0 == to.0) (any_of (λ x. reaches_by s most x to) (s r) q among (reaches_by-Leads s most q to (member (IsWithin s most) (s r) q among h) l))
  where
    later : (b : Bool) → list_any (λ x. reaches_by s most x to) (s r) ≡ true → (b || list_any (λ x. reaches_by s most x to) (s r)) ≡ true
    later true t = refl
    later false t = t

-- of each forest that keeps its bounds
pub depth_is : (f : Forest) → IsOrderedForest f → (r : RegionId) → HasDepth (steps_of f.nodes) r (depth_of f.nodes r)
depth_is f h r = HasDepth-depth_by (steps_of f.nodes) longest r (IsWithin-longer (steps_of f.nodes) 63 r (within_forest f h r))

pub weight_is : (f : Forest) → IsOrderedForest f → (r : RegionId) → HasWeight (steps_of f.nodes) r (weight_of f.nodes r)
weight_is f h r = HasWeight-weight_by (steps_of f.nodes) longest r (IsWithin-longer (steps_of f.nodes) 63 r (within_forest f h r))

pub reaches_is : (f : Forest) → IsOrderedForest f → (r to : RegionId) → (reaches f.nodes r to ≡ true) ↔ Leads (steps_of f.nodes) r to
reaches_is f h r to =
    (Leads-reaches_by (steps_of f.nodes) longest r to, reaches_by-Leads (steps_of f.nodes) longest r to (IsWithin-longer (steps_of f.nodes) 63 r (within_forest f h r)))
