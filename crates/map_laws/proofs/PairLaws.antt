-- Laws of what holds between each two elements of a list, and of the regions that a change leaves.
use Rattle.std.proofs.Common.{◌≡◌, ◌+◌, ◌≤◌, Bool, true, false, cond, List, [], ◌∷◌, ◌++◌, length, filter, Some, refl, sym, subst, arith}
use Rattle.mem_base.specs.declared.map.ids.RegionId.{RegionId}
use Rattle.mem_base.specs.declared.map.forests.Node.{Node}
use Rattle.mem_base.specs.lists.Every.{Every, EveryPair}
use Rattle.mem_base.specs.map.Region.{has_id, node_of, IsAscending}
use Rattle.mem_base.specs.map.Changes.{changed_at}
use Rattle.mem_base.proofs.EveryLaws.{weaker, every_push}
use Rattle.mem_base.proofs.ForestLaws.{changed_at-absent, absent_after, every_changed_at}
use Rattle.map_laws.proofs.MoveLaws.{every_changed_one}

-- a change that a relation does not see
pub pairs_changed : (R : Node → Node → Type 0) (r : RegionId) (g : Node → Node) → ((x y : Node) → R x y → R (g x) y) → ((x y : Node) → R x y → R x (g y)) →
    (nodes : List Node) → EveryPair R nodes → EveryPair R (changed_at r g nodes)
pairs_changed R r g left right [] h = tt
pairs_changed R r g left right (n ∷ ns) h =
    let later = every_changed_at (R n) r g (λ m w. right n m w) ns h.0 in (
      elim (has_id r n) as (λ b. Every (R (cond b (g n) n)) (changed_at r g ns)) [
        | true ↦ weaker (R n) (R (g n)) (λ m w. left n m w) (changed_at r g ns) later
        | false ↦ later
      ],
      pairs_changed R r g left right ns h.1,
    )

-- a change of one region, from what holds of each other
pub pairs_fresh : (P : Node → Type 0) (R : Node → Node → Type 0) (r : RegionId) (g : Node → Node) (m : Node) → ((x : Node) → P x → R x (g m)) →
    ((x : Node) → P x → R (g m) x) → (nodes : List Node) → IsAscending nodes → Every P nodes → Every (λ n. has_id r n ≡ true → n ≡ m) nodes →
    EveryPair R nodes → EveryPair R (changed_at r g nodes)
pairs_fresh P R r g m to from [] up p only h = tt
pairs_fresh P R r g m to from (n ∷ ns) up p only h =
    let rest = pairs_fresh P R r g m to from ns up.1 p.1 only.1 h.1 in
    elim (has_id r n) as (λ b. has_id r n ≡ b → EveryPair R (cond b (g n) n ∷ changed_at r g ns)) [
      | true ↦ λ e.
          let same = only.0 e in
          let others = changed_at-absent r g ns (absent_after r n ns e up.0) in
          let here : Every (R (g n)) ns = subst (λ x. Every (R (g x)) ns) (sym same) (weaker P (R (g m)) from ns p.1) in
          (subst (Every (R (g n))) (sym others) here, rest)
      | false ↦ λ e. (every_changed_one (R n) r g m (to n p.0) ns only.1 h.0, rest)
    ] refl

pub pairs_push : {A : Type 0} (R : A → A → Type 0) (xs : List A) (y : A) → Every (λ x. R x y) xs → EveryPair R xs → EveryPair R (xs ++ y ∷ [])
pairs_push R [] y e h = (tt, tt)
pairs_push R (x ∷ xs) y e h = (every_push (R x) xs y h.0 e.0, pairs_push R xs y e.1 h.1)

pub length-push : {A : Type 0} (xs : List A) (y : A) → length (xs ++ y ∷ []) ≡ length xs + 1
length-push [] y = omega arith
length-push (x ∷ xs) y = let h = length-push xs y in omega arith

pub length-filter : {A : Type 0} (p : A → Bool) (xs : List A) → length (filter p xs) ≤ length xs
length-filter p [] = omega arith
length-filter p (x ∷ xs) = let h = length-filter p xs in
    elim (p x) as (λ b. length (cond b (x ∷ filter p xs) (filter p xs)) ≤ length (x ∷ xs)) [ true ↦ omega arith | false ↦ omega arith ]

pub length-changed_at : (r : RegionId) (g : Node → Node) (nodes : List Node) → length (changed_at r g nodes) ≡ length nodes
length-changed_at r g [] = refl
length-changed_at r g (n ∷ ns) = let h = length-changed_at r g ns in omega arith

-- a region that is there is there with one more
pub node_of-more : (nodes : List Node) (n : Node) (q : RegionId) (m : Node) → node_of nodes q ≡ Some m → node_of (nodes ++ n ∷ []) q ≡ Some m
node_of-more [] n q m e = cc
node_of-more (x ∷ xs) n q m e =
    elim (has_id q x) as (λ b. cond b (Some x) (node_of xs q) ≡ Some m → cond b (Some x) (node_of (xs ++ n ∷ []) q) ≡ Some m)
    [ true ↦ λ w. w | false ↦ λ w. node_of-more xs n q m w ] e
