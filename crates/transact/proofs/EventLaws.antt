-- Whether a forest shows an ioeventfd, by its regions.
use Rattle.std.proofs.Common.{◌≡◌, ◌<◌, ◌&&◌, ◌||◌, if◌then◌else◌, Bool, true, false, not, eqb, ltb, List, [], ◌∷◌, length, Option, Some, None, refl}
use Rattle.std.proofs.Common.{sym, ap, subst, ◌∙◌, arith}
use Rattle.std.specs.Prelude.{find, filter, nat_lt, unwrap_or, option_map}
use Rattle.std.specs.List.{list_any}
use Rattle.std.proofs.lemmas.Bool.Decides.{nat_tests}
use Rattle.mem_base.specs.declared.map.ids.RegionId.{RegionId}
use Rattle.mem_base.specs.declared.map.forests.Node.{Node}
use Rattle.mem_base.specs.declared.map.forests.Forest.{Forest}
use Rattle.mem_base.specs.lists.Every.{Every}
use Rattle.mem_base.specs.map.Region.{IsAscending, node_of, has_id}
use Rattle.mem_base.specs.map.Order.{ids_of}
use Rattle.mem_base.specs.views.LiveEvents.{events_of}
use Rattle.mem_base.specs.views.Naming.{names, shows_events}
use Rattle.mem_base.proofs.ForestLaws.{node_of-itself, every_node_of}
use Rattle.view_laws.proofs.Tests.{none_is_not_some, same_region}
use Rattle.view_laws.proofs.NamingLaws.{names_leaves}
use Rattle.view_laws.proofs.ShownEvents.{events_shown}
use Rattle.std.proofs.lemmas.Bool.{and_parts}
use Rattle.mem_base.proofs.BoolLaws.{both_ways, or_true}

-- a region of the forest that it names and that has an ioeventfd
abbrev pub is_shown : Forest → Node → Bool
is_shown f n = nat_lt 0 (length n.events) && names f n.id

every_unit : {A : Type 0} (xs : List A) → Every (λ x. Unit {0}) xs
every_unit [] = tt
every_unit (x ∷ xs) = (tt, every_unit xs)

-- some member passes a test, and what holds of all of them holds of it
any_with : {A : Type 0} (q : A → Bool) (P : A → Type 0) (xs : List A) → Every P xs → list_any q xs ≡ true → (x : A) × P x × (q x ≡ true)
any_with {A = A} q P [] h e = absurd (grind arith)
any_with {A = A} q P (x ∷ xs) h e = go (any_with q P xs h.1) (q x) refl e
  where
    go : (list_any q xs ≡ true → (x : A) × P x × (q x ≡ true)) → (b : Bool) → q x ≡ b → list_any q (x ∷ xs) ≡ true → (x : A) × P x × (q x ≡ true)
    go rest true t e = (x, h.0, t)
    go rest false t e = rest (subst (λ b. (b || list_any q xs) ≡ true) t e)

-- a member that is found passes a test
found_any : {A : Type 0} (p q : A → Bool) (xs : List A) (x : A) → find p xs ≡ Some x → q x ≡ true → list_any q xs ≡ true
found_any p q [] x e t = none_is_not_some x e
found_any p q (y ∷ ys) x e t = go (found_any p q ys x) (p y) refl e t
  where
    go : (find p ys ≡ Some x → q x ≡ true → list_any q ys ≡ true) → (b : Bool) → p y ≡ b → find p (y ∷ ys) ≡ Some x → q x ≡ true → list_any q (y ∷ ys) ≡ true
    go rest true h e t =
        let same : y ≡ x = ap (λ o. unwrap_or o y) (subst (λ b. (if b then Some y else find p ys) ≡ Some x) h e) in
        rw (ap q same ∙ t) refl
    go rest false h e t =
        let more : list_any q ys ≡ true = rest (subst (λ b. (if b then Some y else find p ys) ≡ Some x) h e) t in
        rw more (or_true (q y))

-- a forest shows an ioeventfd exactly where one of its regions is such
pub events_named : (f : Forest) → IsAscending f.nodes → list_any (is_shown f) f.nodes ≡ shows_events f
events_named f ascending = both_ways (list_any (is_shown f) f.nodes) (shows_events f) there back
  where
    there : list_any (is_shown f) f.nodes ≡ true → shows_events f ≡ true
    there e =
        let one = any_with (is_shown f) (λ n. node_of f.nodes n.id ≡ Some n) f.nodes (node_of-itself f.nodes ascending) e in
        let n = one.0 in
        let t = and_parts (ltb 0 (length n.events)) (names f n.id) one.2 in
        let some : 0 < length n.events = let h = t.0 in grind (arith, nat_tests) in
        (events_shown f).1 (n.id, (names_leaves f n.id).0 t.1, subst (λ o. 0 < length (unwrap_or (option_map (λ (m : Node). m.events) o) [])) (sym one.1) some)

    shown : (region : RegionId) → names f region ≡ true → 0 < length (events_of f region) → (o : Option Node) → node_of f.nodes region ≡ o
        → list_any (is_shown f) f.nodes ≡ true
    shown region named some None e = absurd (let none : 0 < length (unwrap_or (option_map (λ (m : Node). m.events) None) []) = subst (λ o. 0 < length (unwrap_or (option_map (λ (m : Node). m.events) o) [])) e some in omega arith)
    shown region named some (Some n) e =
        let it : has_id region n ≡ true = (every_node_of (λ n. Unit {0}) f.nodes region n e (every_unit f.nodes)).1 in
        let same : n.id ≡ region = same_region n.id region (grind (arith, nat_tests, it)) in
        let has : 0 < length n.events = subst (λ o. 0 < length (unwrap_or (option_map (λ (m : Node). m.events) o) [])) e some in
        let less : ltb 0 (length n.events) ≡ true = grind (arith, nat_tests) in
        found_any (has_id region) (is_shown f) f.nodes n e (rw (less, same) named)

    back : shows_events f ≡ true → list_any (is_shown f) f.nodes ≡ true
    back e =
        let s = (events_shown f).0 e in
        shown s.0 ((names_leaves f s.0).1 s.1) s.2 (node_of f.nodes s.0) refl

-- tests that agree
pub any_same : {A : Type 0} (p q : A → Bool) → ((x : A) → p x ≡ q x) → (xs : List A) → list_any p xs ≡ list_any q xs
any_same p q same [] = refl
any_same p q same (x ∷ xs) = rw (same x, any_same p q same xs) refl

-- one of the ids of those that pass a test
pub any_id : (p : Node → Bool) (q : RegionId → Bool) (nodes : List Node) → list_any q (ids_of (filter p nodes)) ≡ list_any (λ n. p n && q n.id) nodes
any_id p q [] = refl
any_id p q (n ∷ ns) = go (any_id p q ns) (p n)
  where
    go : list_any q (ids_of (filter p ns)) ≡ list_any (λ n. p n && q n.id) ns → (b : Bool)
        → list_any q (ids_of (if b then n ∷ filter p ns else filter p ns)) ≡ ((b && q n.id) || list_any (λ n. p n && q n.id) ns)
    go rest true = ap (λ b. q n.id || b) rest
    go rest false = rest

-- some region passes a test where the list of those that do is not empty
pub some_listed : (p : Node → Bool) (nodes : List Node) → list_any p nodes ≡ ltb 0 (length (ids_of (filter p nodes)))
some_listed p [] = refl
some_listed p (n ∷ ns) = go (p n) (some_listed p ns)
  where
    go : (b : Bool) → list_any p ns ≡ ltb 0 (length (ids_of (filter p ns)))
        → (b || list_any p ns) ≡ ltb 0 (length (ids_of (if b then n ∷ filter p ns else filter p ns)))
    go true e = grind (arith, nat_tests)
    go false e = e

pub not_empty : (rs : List RegionId) → not (eqb (length rs) 0) ≡ ltb 0 (length rs)
not_empty [] = refl
not_empty (r ∷ rs) = grind (arith, nat_tests)
