-- Laws of what looks wrong.
use Rattle.std.proofs.Common.{◌≡◌, ℕ, zero, suc, ◌+◌, ◌<◌, ◌≤◌, Bool, true, false, cond, List, [], ◌∷◌, ◌++◌, length, get_or, take, drop, Some, refl, sym, ap, subst}
use Rattle.std.proofs.Common.{◌∙◌, arith, add-one}
use Rattle.std.specs.Prelude.{find, flat_map, map, option_map}
use Rattle.std.proofs.lemmas.Option.{same_Some}
use Rattle.mem_base.specs.declared.map.ids.RegionId.{RegionId}
use Rattle.mem_base.specs.declared.map.forests.Node.{Node}
use Rattle.mem_base.specs.lists.Every.{Every}
use Rattle.mem_base.specs.map.Region.{node_of, is_child_of, IsAscending}
use Rattle.mem_base.specs.map.Order.{children_of}
use Rattle.mem_base.proofs.EveryLaws.{weaker}
use Rattle.mem_base.proofs.ForestLaws.{every_child, node_of-itself}
use Rattle.child_lists.specs.declared.siblings.Sibling.{Sibling}
use Rattle.child_lists.specs.Siblings.{siblings_of}
use Rattle.std.proofs.lemmas.List.{append_assoc, append-nil, take_more}
use Rattle.mem_base.proofs.ListLaws.{drop_past}

-- five lists one after another
pub joined : {A : Type 0} (xs a b c d e : List A) → xs ++ a ++ b ++ c ++ d ++ e ≡ xs ++ (a ++ b ++ c ++ d ++ e)
joined xs a b c d e =
    append_assoc (xs ++ a ++ b ++ c) d e ∙ append_assoc (xs ++ a ++ b) c (d ++ e) ∙ append_assoc (xs ++ a) b (c ++ (d ++ e))
    ∙ append_assoc xs a (b ++ (c ++ (d ++ e)))
    ∙ ap (λ ys. xs ++ ys) (sym (append_assoc a b (c ++ (d ++ e))) ∙ sym (append_assoc (a ++ b) c (d ++ e)) ∙ sym (append_assoc (a ++ b ++ c) d e))

flat_push : {A B : Type 0} (f : A → List B) (xs : List A) (x : A) → flat_map f (xs ++ x ∷ []) ≡ flat_map f xs ++ f x
flat_push f [] x = append-nil (f x)
flat_push f (y ∷ ys) x = ap (λ zs. f y ++ zs) (flat_push f ys x) ∙ sym (append_assoc (f y) (flat_map f ys) (f x))

-- one element more
pub flat_next : {A B : Type 0} (f : A → List B) (xs : List A) (i : ℕ) (d : A) → i < length xs →
    flat_map f (take i xs) ++ f (get_or xs i d) ≡ flat_map f (take (i + 1) xs)
flat_next f xs i d l = sym (ap (flat_map f) (take_more xs i d l) ∙ flat_push f (take i xs) (get_or xs i d))

-- a child is a region
children_there : (nodes : List Node) (r : RegionId) → IsAscending nodes → Every (λ c. node_of nodes c.id ≡ Some c) (children_of nodes r)
children_there nodes r ascending =
    let known : Node → Type 0 = λ n. node_of nodes n.id ≡ Some n in
    every_child known r nodes (weaker known (λ n. is_child_of r n ≡ true → known n) (λ n e t. e) nodes (node_of-itself nodes ascending))

-- the child at a place in the list
child_at : (P : Node → Type 0) (cs : List Node) (i : ℕ) (d : Sibling) → i < length (siblings_of cs) → Every P cs →
    (c : Node) × ((get_or (siblings_of cs) i d).id ≡ c.id) × (drop i cs ≡ c ∷ drop (i + 1) cs) × P c
child_at P cs i d l h =
    let here = go cs i l h in (here.0, here.1, subst (λ j. drop i cs ≡ here.0 ∷ drop j cs) (sym (add-one i)) here.2, here.3)
  where
    go : (cs : List Node) (i : ℕ) → i < length (siblings_of cs) → Every P cs →
        (c : Node) × ((get_or (siblings_of cs) i d).id ≡ c.id) × (drop i cs ≡ c ∷ drop (suc i) cs) × P c
    go [] i l h = absurd (omega arith)
    go (c ∷ cs) zero l h = (c, refl, refl, h.0)
    go (c ∷ cs) (suc i) l h = go cs i (omega arith) h.1

-- the child at a place in the list is there
pub next_at : (nodes : List Node) (r : RegionId) (items : List Sibling) (i : ℕ) (d : Sibling) → IsAscending nodes → items ≡ siblings_of (children_of nodes r) →
    i < length items → (c : Node) × ((get_or items i d).id ≡ c.id) × (drop i (children_of nodes r) ≡ c ∷ drop (i + 1) (children_of nodes r))
    × (node_of nodes c.id ≡ Some c)
next_at nodes r items i d ascending e l =
    let cs = children_of nodes r in
    let here = child_at (λ c. node_of nodes c.id ≡ Some c) cs i d (subst (λ (xs : List Sibling). i < length xs) e l) (children_there nodes r ascending) in
    (here.0, ap (λ (xs : List Sibling). (get_or xs i d).id) e ∙ here.1, here.2, here.3)

-- what is found among values that are seen as regions
pub found_mapped : {A : Type 0} (f : A → Node) (p : Node → Bool) (xs : List A)
    → option_map (λ m. (f m).id) (find (λ m. p (f m)) xs) ≡ option_map (λ (m : Node). m.id) (find p (map f xs))
found_mapped f p [] = refl
found_mapped f p (x ∷ xs) = by (p (f x)) (found_mapped f p xs) where
  by : (b : Bool) → option_map (λ m. (f m).id) (find (λ m. p (f m)) xs) ≡ option_map (λ (m : Node). m.id) (find p (map f xs))
      → option_map (λ m. (f m).id) (cond b (Some x) (find (λ m. p (f m)) xs))
      ≡ option_map (λ (m : Node). m.id) (cond b (Some (f x)) (find p (map f xs)))
  by true rest = refl
  by false rest = rest

pushed : {A B : Type 0} (f : A → B) (done : List A) (x : A) (rest : List B) → map f (done ++ x ∷ []) ++ rest ≡ map f done ++ (f x ∷ rest)
pushed f [] x rest = refl
pushed f (y ∷ ys) x rest = ap (λ zs. f y ∷ zs) (pushed f ys x rest)

-- one child more
pub listed_next : {A : Type 0} (f : A → Node) (nodes : List Node) (r : RegionId) (items : List Sibling) (i : ℕ) (d : Sibling) (done : List A) (x : A)
    → IsAscending nodes → items ≡ siblings_of (children_of nodes r) → i < length items → Some (f x) ≡ node_of nodes (get_or items i d).id
    → map f done ++ drop i (children_of nodes r) ≡ children_of nodes r
    → map f (done ++ x ∷ []) ++ drop (i + 1) (children_of nodes r) ≡ children_of nodes r
listed_next f nodes r items i d done x ascending e l found h =
    let cs = children_of nodes r in
    let here = next_at nodes r items i d ascending e l in
    let same : f x ≡ here.0 = same_Some (f x) here.0 (found ∙ ap (node_of nodes) here.1 ∙ here.3) in
    pushed f done x (drop (i + 1) cs) ∙ ap (λ y. map f done ++ (y ∷ drop (i + 1) cs)) same ∙ ap (λ ys. map f done ++ ys) (sym here.2) ∙ h

as_many : (cs : List Node) → length (siblings_of cs) ≡ length cs
as_many [] = refl
as_many (c ∷ cs) = ap suc (as_many cs)

-- all children
pub all_listed : {A : Type 0} (f : A → Node) (nodes : List Node) (r : RegionId) (items : List Sibling) (i : ℕ) (done : List A)
    → items ≡ siblings_of (children_of nodes r) → length items ≤ i → map f done ++ drop i (children_of nodes r) ≡ children_of nodes r
    → map f done ≡ children_of nodes r
all_listed f nodes r items i done e l h =
    let cs = children_of nodes r in
    let few : length cs ≤ i = let n : length items ≡ length cs = ap length e ∙ as_many cs in omega (arith, l, n) in
    sym (append-nil (map f done)) ∙ ap (λ ys. map f done ++ ys) (sym (drop_past cs i few)) ∙ h
