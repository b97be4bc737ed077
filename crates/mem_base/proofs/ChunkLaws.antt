-- Regions by ascending id that stand in chunks.
use Rattle.std.proofs.Common.{◌≡◌, ℕ, zero, suc, ◌+◌, ◌-◌, ◌<◌, ◌≤◌, Bool, true, false, ◌||◌, cond, List, [], ◌∷◌, ◌++◌, length, get_or, take, drop}
use Rattle.std.proofs.Common.{Some, None}
use Rattle.std.proofs.Common.{refl, sym, ap, subst, ◌∙◌, arith}
use Rattle.std.specs.Prelude.{flat_map, nat_le}
use Rattle.std.specs.List.{list_any}
use Rattle.std.proofs.lemmas.List.Folds.{list_any-append}
use Rattle.std.specs.List.Sorted.{IsPartitionedBy, IsPartitionPoint}
use Rattle.std.proofs.lemmas.Bool.Decides.{nat_tests}
use Rattle.std.proofs.lemmas.List.{append-nil, append_assoc, take_more}
use Rattle.std.proofs.lemmas.List.Concat.{flat_map-append}
use Rattle.mem_base.specs.declared.map.ids.RegionId.{RegionId}
use Rattle.mem_base.specs.declared.map.forests.Node.{Node}
use Rattle.mem_base.specs.lists.Every.{Every}
use Rattle.mem_base.specs.map.Region.{has_id, node_of, IsAscending}
use Rattle.mem_base.specs.map.Chunks.{first_id}
use Rattle.mem_base.proofs.EveryLaws.{weaker, every_at, every_append, every_first, every_rest}
use Rattle.mem_base.proofs.ForestLaws.{node_of-itself, IsAbsent}

pub none_there : (r : RegionId) (xs : List Node) → IsAbsent r xs → node_of xs r ≡ None
none_there r [] h = refl
none_there r (x ∷ xs) h = let e = h.0 in rw e (none_there r xs h.1)

pub none_above : (r : RegionId) (xs : List Node) → Every (λ n. r.0 < n.id.0) xs → IsAbsent r xs
none_above r xs h = weaker (λ n. r.0 < n.id.0) (λ n. has_id r n ≡ false) (λ n l. grind (arith, nat_tests)) xs h

pub none_below : (r : RegionId) (xs : List Node) → Every (λ n. n.id.0 < r.0) xs → IsAbsent r xs
none_below r xs h = weaker (λ n. n.id.0 < r.0) (λ n. has_id r n ≡ false) (λ n l. grind (arith, nat_tests)) xs h

-- a region that is not among the last ones is among the first ones
pub front_only : (r : RegionId) (xs ys : List Node) → IsAbsent r ys → node_of (xs ++ ys) r ≡ node_of xs r
front_only r [] ys h = none_there r ys h
front_only r (x ∷ xs) ys h = let t = front_only r xs ys h in
    elim (has_id r x) as (λ b. cond b (Some x) (node_of (xs ++ ys) r) ≡ cond b (Some x) (node_of xs r)) [ true ↦ refl | false ↦ t ]

pub back_only : (r : RegionId) (xs ys : List Node) → IsAbsent r xs → node_of (xs ++ ys) r ≡ node_of ys r
back_only r [] ys h = refl
back_only r (x ∷ xs) ys h = let e = h.0 in rw e (back_only r xs ys h.1)

pub ascending_first : (xs ys : List Node) → IsAscending (xs ++ ys) → IsAscending xs
ascending_first [] ys h = tt
ascending_first (x ∷ xs) ys h = (every_first (λ m. x.id.0 < m.id.0) xs ys h.0, ascending_first xs ys h.1)

pub ascending_rest : (xs ys : List Node) → IsAscending (xs ++ ys) → IsAscending ys
ascending_rest [] ys h = h
ascending_rest (x ∷ xs) ys h = ascending_rest xs ys h.1

-- each of the first ones is below each of the last ones
pub below_rest : (xs ys : List Node) → IsAscending (xs ++ ys) → Every (λ n. Every (λ m. n.id.0 < m.id.0) ys) xs
below_rest [] ys h = tt
below_rest (x ∷ xs) ys h = (every_rest (λ m. x.id.0 < m.id.0) xs ys h.0, below_rest xs ys h.1)

-- none is below the first one
pub from_first : (xs : List Node) → IsAscending xs → Every (λ n. first_id xs ≤ n.id.0) xs
from_first [] h = tt
from_first (x ∷ xs) h = (omega arith, weaker (λ m. x.id.0 < m.id.0) (λ m. x.id.0 ≤ m.id.0) (λ m l. omega arith) xs h.0)

pub first_has : (P : ℕ → Type 0) (xs : List Node) → 0 < length xs → Every (λ n. P n.id.0) xs → P (first_id xs)
first_has P [] l h = absurd (omega arith)
first_has P (x ∷ xs) l h = h.0

-- different numbers from one on and below another are no more than lie between
length_between : (low high : ℕ) (xs : List Node) → low ≤ high → IsAscending xs → Every (λ n. low ≤ n.id.0) xs → Every (λ n. n.id.0 < high) xs
    → low + length xs ≤ high
length_between low high [] l h a b = omega arith
length_between low high (x ∷ xs) l h a b =
    let above = weaker (λ m. x.id.0 < m.id.0) (λ m. x.id.0 + 1 ≤ m.id.0) (λ m k. omega arith) xs h.0 in
    let at = a.0 in
    let top = b.0 in
    let rest : (x.id.0 + 1) + length xs ≤ high = length_between (x.id.0 + 1) high xs (omega arith) h.1 above b.1 in
    omega arith

module _ {A : Type 0} (f : A → List Node) where
  every_piece : (P : Node → Type 0) (cs : List A) (i : ℕ) (d : A) → i < length cs → Every P (flat_map f cs) → Every P (f (get_or cs i d))
  every_piece P [] i d l h = absurd (omega arith)
  every_piece P (c ∷ cs) zero d l h = every_first P (f c) (flat_map f cs) h
  every_piece P (c ∷ cs) (suc i) d l h = every_piece P cs i d (omega arith) (every_rest P (f c) (flat_map f cs) h)

  pub ascending_piece : (cs : List A) (i : ℕ) (d : A) → i < length cs → IsAscending (flat_map f cs) → IsAscending (f (get_or cs i d))
  ascending_piece [] i d l h = absurd (omega arith)
  ascending_piece (c ∷ cs) zero d l h = ascending_first (f c) (flat_map f cs) h
  ascending_piece (c ∷ cs) (suc i) d l h = ascending_piece cs i d (omega arith) (ascending_rest (f c) (flat_map f cs) h)

  -- the regions of earlier chunks are below a chunk's first one
  before_piece : (cs : List A) (i : ℕ) (d : A) → i < length cs → Every (λ c. 0 < length (f c)) cs → IsAscending (flat_map f cs)
      → Every (λ n. n.id.0 < first_id (f (get_or cs i d))) (flat_map f (take i cs))
  before_piece [] i d l k h = absurd (omega arith)
  before_piece (c ∷ cs) zero d l k h = tt
  before_piece (c ∷ cs) (suc i) d l k h =
      let within : i < length cs = omega arith in
      let some : 0 < length (f (get_or cs i d)) = every_at (λ c. 0 < length (f c)) cs i d within k.1 in
      every_append (λ n. n.id.0 < first_id (f (get_or cs i d))) (f c) (flat_map f (take i cs))
      (weaker (λ n. Every (λ m. n.id.0 < m.id.0) (flat_map f cs)) (λ n. n.id.0 < first_id (f (get_or cs i d)))
      (λ n b. first_has (λ v. n.id.0 < v) (f (get_or cs i d)) some (every_piece (λ m. n.id.0 < m.id.0) cs i d within b))
      (f c) (below_rest (f c) (flat_map f cs) h))
      (before_piece cs i d within k.1 (ascending_rest (f c) (flat_map f cs) h))

  flat_parts : (cs : List A) (i : ℕ) → flat_map f cs ≡ flat_map f (take i cs) ++ flat_map f (drop i cs)
  flat_parts cs zero = refl
  flat_parts [] (suc i) = refl
  flat_parts (c ∷ cs) (suc i) = let t = flat_parts cs i in ap (λ xs. f c ++ xs) t ∙ sym (append_assoc (f c) (flat_map f (take i cs)) (flat_map f (drop i cs)))

  -- the regions of one more chunk
  pub flat_more : (cs : List A) (i : ℕ) (d : A) → i < length cs → flat_map f (take (i + 1) cs) ≡ flat_map f (take i cs) ++ f (get_or cs i d)
  flat_more cs i d l =
      ap (flat_map f) (take_more cs i d l) ∙ flat_map-append f (take i cs) (get_or cs i d ∷ [])
      ∙ ap (λ ns. flat_map f (take i cs) ++ ns) (append-nil (f (get_or cs i d)))

  -- the regions before a chunk are no more than its first one's number
  pub count_before : (cs : List A) (i : ℕ) (d : A) → i < length cs → Every (λ c. 0 < length (f c)) cs → IsAscending (flat_map f cs)
      → length (flat_map f (take i cs)) ≤ first_id (f (get_or cs i d))
  count_before cs i d l k h =
      let xs = flat_map f (take i cs) in
      let ascending : IsAscending xs = ascending_first xs (flat_map f (drop i cs)) (subst IsAscending (flat_parts cs i) h) in
      let counted : 0 + length xs ≤ first_id (f (get_or cs i d)) =
      length_between 0 (first_id (f (get_or cs i d))) xs (omega arith) ascending (every_zero xs) (before_piece cs i d l k h) in
      omega arith
    where
      every_zero : (ys : List Node) → Every (λ n. 0 ≤ n.id.0) ys
      every_zero [] = tt
      every_zero (y ∷ ys) = (omega arith, every_zero ys)

  -- the first regions of chunks ascend
  firsts_rise : (cs : List A) (i j : ℕ) (d : A) → i < j → j < length cs → Every (λ c. 0 < length (f c)) cs → IsAscending (flat_map f cs)
      → first_id (f (get_or cs i d)) < first_id (f (get_or cs j d))
  firsts_rise [] i j d l m k h = absurd (omega arith)
  firsts_rise (c ∷ cs) i zero d l m k h = absurd (omega arith)
  firsts_rise (c ∷ cs) zero (suc j) d l m k h =
      let within : j < length cs = omega arith in
      let some : 0 < length (f (get_or cs j d)) = every_at (λ c. 0 < length (f c)) cs j d within k.1 in
      first_has (λ v. v < first_id (f (get_or cs j d))) (f c) k.0
      (weaker (λ n. Every (λ m. n.id.0 < m.id.0) (flat_map f cs)) (λ n. n.id.0 < first_id (f (get_or cs j d)))
      (λ n b. first_has (λ v. n.id.0 < v) (f (get_or cs j d)) some (every_piece (λ m. n.id.0 < m.id.0) cs j d within b))
      (f c) (below_rest (f c) (flat_map f cs) h))
  firsts_rise (c ∷ cs) (suc i) (suc j) d l m k h =
      firsts_rise cs i j d (omega arith) (omega arith) k.1 (ascending_rest (f c) (flat_map f cs) h)

  pub firsts_parted : (r : RegionId) (cs : List A) → Every (λ c. 0 < length (f c)) cs → IsAscending (flat_map f cs)
      → IsPartitionedBy (λ c. nat_le (first_id (f c)) r.0) cs
  firsts_parted r cs k h i j d le l t =
      let rise : first_id (f (get_or cs i d)) ≤ first_id (f (get_or cs j d)) =
      grind (arith, firsts_rise cs i j d, l, k, h, λ (same : i ≡ j). ap (λ k. first_id (f (get_or cs k d))) same) in
      grind (arith, nat_tests)

  -- all regions are above a number that is below the first chunk's first one
  pub all_above : (r : RegionId) (cs : List A) → Every (λ c. 0 < length (f c)) cs → IsAscending (flat_map f cs)
      → ((d : A) → 0 < length cs → r.0 < first_id (f (get_or cs 0 d))) → IsAbsent r (flat_map f cs)
  all_above r [] k h b = tt
  all_above r (c ∷ cs) k h b =
      let low : r.0 < first_id (f c) = b c (omega arith) in
      let least : first_id (f c ++ flat_map f cs) ≡ first_id (f c) = same_first (f c) k.0 in
      none_above r (f c ++ flat_map f cs)
      (weaker (λ n. first_id (f c ++ flat_map f cs) ≤ n.id.0) (λ n. r.0 < n.id.0) (λ n l. omega arith) (f c ++ flat_map f cs)
      (from_first (f c ++ flat_map f cs) h))
    where
      same_first : (xs : List Node) → 0 < length xs → first_id (xs ++ flat_map f cs) ≡ first_id xs
      same_first [] l = absurd (omega arith)
      same_first (x ∷ xs) l = refl

  -- a region is looked for in the last chunk that begins at it or before it
  pub only_piece : (r : RegionId) (cs : List A) (i : ℕ) (d : A) → i < length cs → Every (λ c. 0 < length (f c)) cs → IsAscending (flat_map f cs)
      → first_id (f (get_or cs i d)) ≤ r.0 → ((k : ℕ) (e : A) → i < k → k < length cs → r.0 < first_id (f (get_or cs k e)))
      → node_of (flat_map f cs) r ≡ node_of (f (get_or cs i d)) r
  only_piece r [] i d l k h a b = absurd (omega arith)
  only_piece r (c ∷ cs) zero d l k h a b =
      front_only r (f c) (flat_map f cs)
      (all_above r cs k.1 (ascending_rest (f c) (flat_map f cs) h) (λ e m. b 1 e (omega arith) (omega arith)))
  only_piece r (c ∷ cs) (suc i) d l k h a b =
      let within : i < length cs = omega arith in
      let some : 0 < length (f (get_or cs i d)) = every_at (λ c. 0 < length (f c)) cs i d within k.1 in
      let below = weaker (λ n. Every (λ m. n.id.0 < m.id.0) (flat_map f cs)) (λ n. n.id.0 < first_id (f (get_or cs i d)))
      (λ n q. first_has (λ v. n.id.0 < v) (f (get_or cs i d)) some (every_piece (λ m. n.id.0 < m.id.0) cs i d within q))
      (f c) (below_rest (f c) (flat_map f cs) h) in
      let under : Every (λ n. n.id.0 < r.0) (f c) =
      weaker (λ n. n.id.0 < first_id (f (get_or cs i d))) (λ n. n.id.0 < r.0) (λ n q. omega arith) (f c) below in
      back_only r (f c) (flat_map f cs) (none_below r (f c) under)
      ∙ only_piece r cs i d within k.1 (ascending_rest (f c) (flat_map f cs) h) a (λ j e m n. b (suc j) e (omega arith) (omega arith))

  -- a region that stands in a chunk is the one with its id
  pub found_in_piece : (r : RegionId) (cs : List A) (i j : ℕ) (d : A) (e : Node) → i < length cs → j < length (f (get_or cs i d)) → IsAscending (flat_map f cs)
      → (get_or (f (get_or cs i d)) j e).id.0 ≡ r.0 → node_of (flat_map f cs) r ≡ Some (get_or (f (get_or cs i d)) j e)
  found_in_piece r cs i j d e l m h t =
      let n = get_or (f (get_or cs i d)) j e in
      let same : n.id ≡ r = ap (λ (v : ℕ). let q : RegionId = record { 0 = v } in q) t in
      ap (node_of (flat_map f cs)) (sym same)
      ∙ every_at (λ n. node_of (flat_map f cs) n.id ≡ Some n) (f (get_or cs i d)) j e m
      (every_piece (λ n. node_of (flat_map f cs) n.id ≡ Some n) cs i d l (node_of-itself (flat_map f cs) h))

  -- and that is the one before the point that halving finds
  pub halved : (r : RegionId) (cs : List A) (after : ℕ) (d : A) → 0 < after → after ≤ length cs → Every (λ c. 0 < length (f c)) cs → IsAscending (flat_map f cs)
      → IsPartitionPoint (λ c. nat_le (first_id (f c)) r.0 ≡ true) (λ c. nat_le (first_id (f c)) r.0 ≡ false) cs after
      → node_of (flat_map f cs) r ≡ node_of (f (get_or cs (after - 1) d)) r
  halved r cs after d l m k h point =
      let t : nat_le (first_id (f (get_or cs (after - 1) d))) r.0 ≡ true = point.0 (after - 1) d (omega arith) (omega arith) in
      only_piece r cs (after - 1) d (omega arith) k h (grind (arith, nat_tests, t))
      (λ j e b c. let u : nat_le (first_id (f (get_or cs j e))) r.0 ≡ false = point.1 j e (omega arith) c in grind (arith, nat_tests, u))

  -- one region of all passes a test where one region of some chunk does
  pub any_flat : (p : Node → Bool) (cs : List A) → list_any (λ c. list_any p (f c)) cs ≡ list_any p (flat_map f cs)
  any_flat p [] = refl
  any_flat p (c ∷ cs) = ap (λ b. list_any p (f c) || b) (any_flat p cs) ∙ sym (list_any-append p (f c) (flat_map f cs))
