-- Laws of depth and weight over any steps.
use Rattle.std.proofs.Common.{◌≡◌, ◌≢◌, ℕ, zero, suc, ◌+◌, ◌*◌, ◌<◌, ◌≤◌, Bool, true, false, eqb, cond, List, [], ◌∷◌, ◌++◌, map, max}
use Rattle.std.proofs.Common.{refl, ap, ◌∙◌, arith}
use Rattle.std.specs.List.{list_any}
use Rattle.std.proofs.lemmas.Bool.Decides.{nat_tests}
use Rattle.std.specs.declared.cmp.Ordering.{Ordering}
use Rattle.std.specs.Ordering.{is_lt}
use Rattle.mem_base.specs.declared.map.ids.RegionId.{RegionId}
use Rattle.mem_base.specs.declared.map.forests.Node.{Node}
use Rattle.mem_base.specs.lists.Every.{Every}
use Rattle.mem_base.specs.lists.Sorting.{put_by, sorted_by}
use Rattle.mem_base.specs.map.Steps.{Steps, greatest, total, depth_by, weight_by, reaches_by}
use Rattle.mem_base.proofs.EveryLaws.{weaker}
use Rattle.std.proofs.lemmas.Bool.{or_parts}

pub map_agree : {A : Type 0} (g h : A → ℕ) (xs : List A) → Every (λ x. g x ≡ h x) xs → map g xs ≡ map h xs
map_agree g h [] e = refl
map_agree g h (x ∷ xs) e = let t = map_agree g h xs e.1 in let u = e.0 in cc

pub every_of : {A : Type 0} (P : A → Type 0) → ((x : A) → P x) → (xs : List A) → Every P xs
every_of P h [] = tt
every_of P h (x ∷ xs) = (h x, every_of P h xs)

-- two lists of regions with one greatest value and one sum
abbrev pub Alike : List RegionId → List RegionId → Type 0
Alike xs ys = (g : RegionId → ℕ) → (greatest (map g xs) ≡ greatest (map g ys)) × (total (map g xs) ≡ total (map g ys))

pub depth_by-alike : (s t : Steps) → ((q : RegionId) → Alike (s q) (t q)) → (most : ℕ) (r : RegionId) → depth_by s most r ≡ depth_by t most r
unfolding depth_by
depth_by-alike s t h zero r = refl
depth_by-alike s t h (suc most) r =
    ap (λ k. k + 1) ((h r (depth_by s most)).0
    ∙ ap greatest (map_agree (depth_by s most) (depth_by t most) (t r) (every_of _ (depth_by-alike s t h most) (t r))))

pub weight_by-alike : (s t : Steps) → ((q : RegionId) → Alike (s q) (t q)) → (most : ℕ) (r : RegionId) → weight_by s most r ≡ weight_by t most r
unfolding weight_by
weight_by-alike s t h zero r = refl
weight_by-alike s t h (suc most) r =
    ap (λ k. k + 1) ((h r (weight_by s most)).1
    ∙ ap total (map_agree (weight_by s most) (weight_by t most) (t r) (every_of _ (weight_by-alike s t h most) (t r))))

abbrev ids : List Node → List RegionId
ids nodes = map (λ n. n.id) nodes

-- an element that is put in order adds what it would add as the first
pub alike-put_by : (R : Node → Node → Ordering) (x : Node) (l : List Node) → Alike (ids (put_by R x l)) (x.id ∷ ids l)
alike-put_by R x [] g = (refl, refl)
alike-put_by R x (y ∷ ys) g =
    let ih = alike-put_by R x ys g in
    let d = ih.0 in
    let w = ih.1 in
    elim (is_lt (R x y)) as (λ b. (greatest (map g (ids (cond b (x ∷ y ∷ ys) (y ∷ put_by R x ys)))) ≡ greatest (map g (x.id ∷ y.id ∷ ids ys)))
    × (total (map g (ids (cond b (x ∷ y ∷ ys) (y ∷ put_by R x ys)))) ≡ total (map g (x.id ∷ y.id ∷ ids ys)))) [
      | true ↦ (refl, refl)
      | false ↦ (ap (max (g y.id)) d ∙ omega arith, ap (λ k. g y.id + k) w ∙ omega arith)
    ]

-- a list in order has what the list has
pub alike-sorted_by : (R : Node → Node → Ordering) (l : List Node) → Alike (ids (sorted_by R l)) (ids l)
alike-sorted_by R [] g = (refl, refl)
alike-sorted_by R (x ∷ xs) g =
    let front = alike-put_by R x (sorted_by R xs) g in
    let rest = alike-sorted_by R xs g in
    (front.0 ∙ ap (max (g x.id)) rest.0, front.1 ∙ ap (λ k. g x.id + k) rest.1)

-- what is at most the greatest is at most each
each_below : (g : RegionId → ℕ) (k : ℕ) (xs : List RegionId) → greatest (map g xs) < k → Every (λ x. g x < k) xs
each_below g k [] h = tt
each_below g k (x ∷ xs) h = (omega arith, each_below g k xs (omega arith))

-- each path from a region has at most n regions
unfoldable pub IsWithin : Steps → ℕ → RegionId → Type 0
IsWithin steps zero r = ⊥
IsWithin steps (suc most) r = Every (IsWithin steps most) (steps r)

each_at_most : (g : RegionId → ℕ) (k : ℕ) (xs : List RegionId) → greatest (map g xs) ≤ k → Every (λ x. g x ≤ k) xs
each_at_most g k [] h = tt
each_at_most g k (x ∷ xs) h = (omega arith, each_at_most g k xs (omega arith))

-- no path is longer than the depth, where longer paths were looked at too
pub IsWithin-depth_at_most : (s : Steps) (most : ℕ) (r : RegionId) → depth_by s (suc most) r ≤ most → IsWithin s most r
unfolding depth_by IsWithin
IsWithin-depth_at_most s zero r h = absurd (omega arith)
IsWithin-depth_at_most s (suc most) r h =
    let below : greatest (map (depth_by s (suc most)) (s r)) ≤ most = omega arith in
    weaker (λ q. depth_by s (suc most) q ≤ most) (IsWithin s most) (λ q l. IsWithin-depth_at_most s most q l) (s r)
    (each_at_most (depth_by s (suc most)) most (s r) below)

-- a depth that is less than what was looked at is the whole depth
pub IsWithin-depth_by : (s : Steps) (most : ℕ) (r : RegionId) → depth_by s most r < most → IsWithin s most r
unfolding depth_by IsWithin
IsWithin-depth_by s zero r h = omega arith
IsWithin-depth_by s (suc most) r h =
    let below : greatest (map (depth_by s most) (s r)) < most = omega arith in
    weaker (λ q. depth_by s most q < most) (IsWithin s most) (λ q l. IsWithin-depth_by s most q l) (s r) (each_below (depth_by s most) most (s r) below)

pub depth_by-further : (s : Steps) (most more : ℕ) (r : RegionId) → most ≤ more → IsWithin s most r → depth_by s more r ≡ depth_by s most r
unfolding depth_by IsWithin
depth_by-further s zero more r l h = absurd h
depth_by-further s (suc most) zero r l h = absurd (omega arith)
depth_by-further s (suc most) (suc more) r l h =
    ap (λ xs. greatest xs + 1) (map_agree (depth_by s more) (depth_by s most) (s r)
    (weaker (IsWithin s most) (λ q. depth_by s more q ≡ depth_by s most q) (λ q w. depth_by-further s most more q (omega arith) w) (s r) h))

pub weight_by-further : (s : Steps) (most more : ℕ) (r : RegionId) → most ≤ more → IsWithin s most r → weight_by s more r ≡ weight_by s most r
unfolding weight_by IsWithin
weight_by-further s zero more r l h = absurd h
weight_by-further s (suc most) zero r l h = absurd (omega arith)
weight_by-further s (suc most) (suc more) r l h =
    ap (λ xs. total xs + 1) (map_agree (weight_by s more) (weight_by s most) (s r)
    (weaker (IsWithin s most) (λ q. weight_by s more q ≡ weight_by s most q) (λ q w. weight_by-further s most more q (omega arith) w) (s r) h))

-- with fewer steps no region is deeper or wider
abbrev pub Fewer : List RegionId → List RegionId → Type 0
Fewer xs ys = (g : RegionId → ℕ) → (greatest (map g xs) ≤ greatest (map g ys)) × (total (map g xs) ≤ total (map g ys))

greatest_le : (g h : RegionId → ℕ) (xs : List RegionId) → Every (λ x. g x ≤ h x) xs → greatest (map g xs) ≤ greatest (map h xs)
greatest_le g h [] e = omega arith
greatest_le g h (x ∷ xs) e = let t = greatest_le g h xs e.1 in let u = e.0 in omega arith

total_le : (g h : RegionId → ℕ) (xs : List RegionId) → Every (λ x. g x ≤ h x) xs → total (map g xs) ≤ total (map h xs)
total_le g h [] e = omega arith
total_le g h (x ∷ xs) e = let t = total_le g h xs e.1 in let u = e.0 in omega arith

pub depth_by-fewer : (s t : Steps) → ((q : RegionId) → Fewer (s q) (t q)) → (most : ℕ) (r : RegionId) → depth_by s most r ≤ depth_by t most r
unfolding depth_by
depth_by-fewer s t h zero r = omega arith
depth_by-fewer s t h (suc most) r =
    let here = (h r (depth_by s most)).0 in
    let below = greatest_le (depth_by s most) (depth_by t most) (t r) (every_of _ (depth_by-fewer s t h most) (t r)) in
    omega arith

pub weight_by-fewer : (s t : Steps) → ((q : RegionId) → Fewer (s q) (t q)) → (most : ℕ) (r : RegionId) → weight_by s most r ≤ weight_by t most r
unfolding weight_by
weight_by-fewer s t h zero r = omega arith
weight_by-fewer s t h (suc most) r =
    let here = (h r (weight_by s most)).1 in
    let below = total_le (weight_by s most) (weight_by t most) (t r) (every_of _ (weight_by-fewer s t h most) (t r)) in
    omega arith

-- steps with one more, from the parent to the child
abbrev pub joined_steps : Steps → RegionId → RegionId → Steps
joined_steps s parent child q = cond (eqb q.0 parent.0) (child ∷ s q) (s q)

none_reaches : (p : RegionId → Bool) (xs : List RegionId) → list_any p xs ≡ false → Every (λ x. p x ≡ false) xs
none_reaches p [] e = tt
none_reaches p (x ∷ xs) e = let q = or_parts (p x) (list_any p xs) e in (q.0, none_reaches p xs q.1)

-- one more step
module _ (s : Steps) (parent child : RegionId) where
  -- a region that does not lead to the parent stays as it is
  pub weight_by-apart : (most : ℕ) (q : RegionId) → reaches_by s most q parent ≡ false → weight_by (joined_steps s parent child) most q ≡ weight_by s most q
  unfolding reaches_by weight_by
  weight_by-apart zero q e = refl
  weight_by-apart (suc most) q e =
      let no = or_parts (eqb q.0 parent.0) (list_any (λ x. reaches_by s most x parent) (s q)) e in
      let t = no.0 in
      let below = map_agree (weight_by (joined_steps s parent child) most) (weight_by s most) (s q)
      (weaker (λ x. reaches_by s most x parent ≡ false) _ (λ x w. weight_by-apart most x w) (s q)
      (none_reaches (λ x. reaches_by s most x parent) (s q) no.1)) in
      rw t (ap (λ xs. total xs + 1) below)

  -- no weight grows by more than the child's weight times
  sum_scaled : (g h : RegionId → ℕ) (w : ℕ) (xs : List RegionId) → Every (λ x. g x ≤ h x * w) xs → total (map g xs) ≤ total (map h xs) * w
  sum_scaled g h w [] e = omega arith
  sum_scaled g h w (x ∷ xs) e = let t = sum_scaled g h w xs e.1 in let u = e.0 in grind arith

  pub weight_by-joined-to : (w top : ℕ) → ((k : ℕ) → k ≤ top → weight_by (joined_steps s parent child) k child ≤ w) → (most : ℕ) (q : RegionId) →
      most ≤ top → weight_by (joined_steps s parent child) most q ≤ weight_by s most q * (w + 1)
  unfolding weight_by
  weight_by-joined-to w top h zero q l = omega arith
  weight_by-joined-to w top h (suc most) q l =
      let below = sum_scaled (weight_by (joined_steps s parent child) most) (weight_by s most) (w + 1) (s q)
      (every_of _ (λ r. weight_by-joined-to w top h most r (omega arith)) (s q)) in
      let c = h most (omega arith) in
      elim (eqb q.0 parent.0) as (λ b. total (map (weight_by (joined_steps s parent child) most) (cond b (child ∷ s q) (s q))) + 1 ≤
      (total (map (weight_by s most) (s q)) + 1) * (w + 1)) [
        | true ↦ grind arith
        | false ↦ grind arith
      ]

times_le : (a b c : ℕ) → a ≤ b → a * c ≤ b * c
times_le a b c l = grind arith

-- no weight falls where longer paths are looked at
pub weight_by-longer : (s : Steps) (few most : ℕ) (r : RegionId) → few ≤ most → weight_by s few r ≤ weight_by s most r
unfolding weight_by
weight_by-longer s zero most r l = omega arith
weight_by-longer s (suc few) zero r l = absurd (omega arith)
weight_by-longer s (suc few) (suc most) r l =
    let below = total_le (weight_by s few) (weight_by s most) (s r) (every_of _ (λ q. weight_by-longer s few most q (omega arith)) (s r)) in
    omega arith

pub no_any : (p : RegionId → Bool) (xs : List RegionId) → Every (λ x. p x ≡ false) xs → list_any p xs ≡ false
no_any p [] h = refl
no_any p (x ∷ xs) h = let t = no_any p xs h.1 in let u = h.0 in rw u t

-- what longer paths do not reach, shorter ones do not
pub reaches_by-shorter : (s : Steps) (few most : ℕ) (r to : RegionId) → few ≤ most → reaches_by s most r to ≡ false → reaches_by s few r to ≡ false
unfolding reaches_by
reaches_by-shorter s zero most r to l e = refl
reaches_by-shorter s (suc few) zero r to l e = absurd (omega arith)
reaches_by-shorter s (suc few) (suc most) r to l e =
    let no = or_parts (eqb r.0 to.0) (list_any (λ x. reaches_by s most x to) (s r)) e in
    let a = no.0 in
    let b = no_any (λ x. reaches_by s few x to) (s r)
    (weaker (λ x. reaches_by s most x to ≡ false) _ (λ x w. reaches_by-shorter s few most x to (omega arith) w) (s r)
    (none_reaches (λ x. reaches_by s most x to) (s r) no.1)) in
    rw a b

-- a region reaches itself
pub reaches_by-apart : (s : Steps) (most : ℕ) (r to : RegionId) → 1 ≤ most → reaches_by s most r to ≡ false → r.0 ≢ to.0
unfolding reaches_by
reaches_by-apart s zero r to l e = absurd (omega arith)
reaches_by-apart s (suc most) r to l e = let t = (or_parts (eqb r.0 to.0) _ e).0 in λ k. grind (arith, nat_tests)

-- with one more step that makes no loop, no weight passes this
pub weight_by-bounded : (s : Steps) (parent child : RegionId) (w most : ℕ) → ((r : RegionId) → weight_by s most r ≤ w) →
    reaches_by s most child parent ≡ false → (k : ℕ) (q : RegionId) → k ≤ most → weight_by (joined_steps s parent child) k q ≤ w * (w + 1)
weight_by-bounded s parent child w most h e k q l =
    let low : (j : ℕ) → j ≤ most → weight_by (joined_steps s parent child) j child ≤ w = λ j m.
    let same = weight_by-apart s parent child j child (reaches_by-shorter s j most child parent m e) in
    let up = weight_by-longer s j most child m in
    let top = h child in
    omega arith in
    let grown = weight_by-joined-to s parent child w most low k q l in
    let up = weight_by-longer s k most q l in
    let top = h q in
    let scaled = times_le (weight_by s k q) w (w + 1) (omega arith) in
    omega arith

-- steps that agree on regions that they do not leave
module _ (s t : Steps) (P : RegionId → Type 0) (same : (q : RegionId) → P q → s q ≡ t q) (closed : (q : RegionId) → P q → Every P (t q)) where
  pub depth_by-inside : (most : ℕ) (q : RegionId) → P q → depth_by s most q ≡ depth_by t most q
  unfolding depth_by
  depth_by-inside zero q p = refl
  depth_by-inside (suc most) q p =
      ap (λ xs. greatest (map (depth_by s most) xs) + 1) (same q p)
      ∙ ap (λ xs. greatest xs + 1) (map_agree (depth_by s most) (depth_by t most) (t q) (weaker P _ (λ x w. depth_by-inside most x w) (t q) (closed q p)))

  pub weight_by-inside : (most : ℕ) (q : RegionId) → P q → weight_by s most q ≡ weight_by t most q
  unfolding weight_by
  weight_by-inside zero q p = refl
  weight_by-inside (suc most) q p =
      ap (λ xs. total (map (weight_by s most) xs) + 1) (same q p)
      ∙ ap (λ xs. total xs + 1) (map_agree (weight_by s most) (weight_by t most) (t q) (weaker P _ (λ x w. weight_by-inside most x w) (t q) (closed q p)))

pub depth_by-end : (s : Steps) (most : ℕ) (r : RegionId) → s r ≡ [] → depth_by s most r ≤ 1
unfolding depth_by
depth_by-end s zero r e = omega arith
depth_by-end s (suc most) r e = rw e (omega arith)

pub weight_by-end : (s : Steps) (most : ℕ) (r : RegionId) → s r ≡ [] → weight_by s most r ≤ 1
unfolding weight_by
weight_by-end s zero r e = omega arith
weight_by-end s (suc most) r e = rw e (omega arith)

pub greatest_push : {A : Type 0} (w : A → ℕ) (xs : List A) (y : A) → greatest (map w (xs ++ y ∷ [])) ≡ max (greatest (map w xs)) (w y)
greatest_push w [] y = omega arith
greatest_push w (x ∷ xs) y = let h = greatest_push w xs y in omega arith

pub depth_by-longer : (s : Steps) (few most : ℕ) (r : RegionId) → few ≤ most → depth_by s few r ≤ depth_by s most r
unfolding depth_by
depth_by-longer s zero most r l = omega arith
depth_by-longer s (suc few) zero r l = absurd (omega arith)
depth_by-longer s (suc few) (suc most) r l =
    let below = greatest_le (depth_by s few) (depth_by s most) (s r) (every_of _ (λ q. depth_by-longer s few most q (omega arith)) (s r)) in
    omega arith

pub depth_by-one : (s : Steps) (most : ℕ) (r t : RegionId) → s r ≡ t ∷ [] → depth_by s (suc most) r ≡ depth_by s most t + 1
unfolding depth_by
depth_by-one s most r t e = ap (λ xs. greatest (map (depth_by s most) xs) + 1) e ∙ omega arith

pub weight_by-one : (s : Steps) (most : ℕ) (r t : RegionId) → s r ≡ t ∷ [] → weight_by s (suc most) r ≡ weight_by s most t + 1
unfolding weight_by
weight_by-one s most r t e = ap (λ xs. total (map (weight_by s most) xs) + 1) e ∙ omega arith
