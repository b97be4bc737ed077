-- Laws of refusals: what is known where none stands.
use Rattle.std.proofs.Common.{◌≡◌, ◌≤◌, Bool, true, false, cond, List, [], ◌∷◌, Option, Some, None, refl, ap, ◌∙◌, arith}
use Rattle.std.specs.Prelude.{is_some, option_map, find, filter, nat_lt, option_and_then}
use Rattle.std.specs.Option.{option_or}
use Rattle.std.proofs.lemmas.Bool.Decides.{nat_tests}
use Rattle.mem_base.specs.declared.map.ids.RegionId.{RegionId}
use Rattle.mem_base.specs.declared.map.ids.SpaceId.{SpaceId}
use Rattle.mem_base.specs.declared.map.forests.Node.{Node}
use Rattle.mem_base.specs.declared.map.forests.Forest.{Forest}
use Rattle.mem_base.specs.declared.map.kinds.Kind.{Kind}
use Rattle.mem_base.specs.declared.map.kinds.Kind.TheVariants.{Alias}
use Rattle.mem_base.specs.declared.map.refusals.Refusal.{Refusal}
use Rattle.mem_base.specs.declared.map.refusals.Refusal.TheVariants.{Unknown, TooDeep, TooWide, HasContainer, InUse}
use Rattle.mem_base.specs.declared.map.refusals.What.TheVariants as what
use Rattle.mem_base.specs.lists.Every.{Every}
use Rattle.mem_base.specs.map.Region.{node_of, is_child_of}
use Rattle.mem_base.specs.map.Forest.{IsOrderedForest, IsTargetBefore}
use Rattle.mem_base.specs.declared.map.refusals.User.TheVariants as user
use Rattle.mem_base.specs.map.Refusals.{first_refusal, refuse_if, refuse_where, unknown_region, unknown_target, has_container}
use Rattle.mem_base.specs.map.Refusals.{in_use, first_id, targets, has_root, least_space}
use Rattle.mem_base.specs.map.Refusals.{too_deep, too_wide}
use Rattle.mem_base.specs.map.Steps.{greatest_depth, greatest_weight}
use Rattle.mem_base.proofs.ForestLaws.{known_below}
use Rattle.mem_base.specs.map.Limits.{most_depth, most_weight}

pub first_none : (x y : Option Refusal) → option_or x y ≡ None → (x ≡ None) × (y ≡ None)
first_none None y e = (refl, e)
first_none (Some why) y e = cc

-- where none is the first, none stands
pub each_none : (l : List (Option Refusal)) → first_refusal l ≡ None → Every (λ x. x ≡ None) l
each_none [] e = tt
each_none (x ∷ xs) e = let both = first_none x (first_refusal xs) e in (both.0, each_none xs both.1)

pub refuse_if-none : (test : Bool) (why : Refusal) → refuse_if test why ≡ None → test ≡ false
refuse_if-none true why e = cc
refuse_if-none false why e = refl

-- the region that is there does not pass the test
pub refuse_where-none : (test : Node → Bool) (why : Refusal) (o : Option Node) (n : Node) → o ≡ Some n → refuse_where test why o ≡ None → test n ≡ false
refuse_where-none test why None n e h = cc
refuse_where-none test why (Some m) n e h = let same : m ≡ n = cc in ap test (let back : n ≡ m = cc in back) ∙ refuse_if-none (test m) why h

pub some_of : (o : Option Node) → is_some o ≡ true → (n : Node) × (o ≡ Some n)
some_of None e = cc
some_of (Some n) e = (n, refl)

-- the region is there
pub is_known : (f : Forest) (r : RegionId) → unknown_region f r ≡ None → is_some (node_of f.nodes r) ≡ true
is_known f r e = elim (is_some (node_of f.nodes r)) as
    (λ b. cond b None (Some (Unknown (what.Region r))) ≡ None → b ≡ true) [ true ↦ λ w. refl | false ↦ λ w. cc ] e

pub known_node : (f : Forest) (r : RegionId) → unknown_region f r ≡ None → (n : Node) × (node_of f.nodes r ≡ Some n)
known_node f r e = some_of (node_of f.nodes r) (is_known f r e)

-- the target of an alias is there
pub target_made : (f : Forest) (k : Kind) → IsOrderedForest f → unknown_target f k ≡ None → IsTargetBefore f.made k
target_made f (Alias target offset) h e = known_below f target h (is_known f target e)
target_made f _ h e = tt

-- what nothing is made of is not there
pub unmapped : {A B : Type 0} (make : A → B) (o : Option A) → option_map make o ≡ None → o ≡ None
unmapped make None e = refl
unmapped make (Some x) e = cc

-- the region is in no container
pub has_container-none : (f : Forest) (r : RegionId) (n : Node) → node_of f.nodes r ≡ Some n → has_container f r ≡ None → n.parent ≡ None
has_container-none f r n e h = unmapped (λ p. HasContainer p) n.parent
    (ap (option_and_then (λ (m : Node). option_map (λ p. HasContainer p) m.parent)) (let back : Some n ≡ node_of f.nodes r = cc in back) ∙ h)

pub too_deep-none : (nodes : List Node) → too_deep nodes ≡ None → greatest_depth nodes ≤ most_depth
too_deep-none nodes e = let t = refuse_if-none (nat_lt most_depth (greatest_depth nodes)) (TooDeep (greatest_depth nodes)) e in grind (arith, nat_tests)

pub too_wide-none : (nodes : List Node) → too_wide nodes ≡ None → greatest_weight nodes ≤ most_weight
too_wide-none nodes e = let t = refuse_if-none (nat_lt most_weight (greatest_weight nodes)) (TooWide (greatest_weight nodes)) e in grind (arith, nat_tests)

-- what is not found passes no test
pub find-none : {A : Type 0} (p : A → Bool) (xs : List A) → find p xs ≡ None → Every (λ x. p x ≡ false) xs
find-none p [] e = tt
find-none p (x ∷ xs) e =
    elim (p x) as (λ b. p x ≡ b → cond b (Some x) (find p xs) ≡ None → (p x ≡ false) × Every (λ y. p y ≡ false) xs)
    [ true ↦ λ t w. cc | false ↦ λ t w. (t, find-none p xs w) ] refl e

no_least : (ps : List (SpaceId × RegionId)) → least_space ps ≡ None → ps ≡ []
no_least [] e = refl
no_least (p ∷ ps) e = cc

filter-empty : {A : Type 0} (p : A → Bool) (xs : List A) → filter p xs ≡ [] → Every (λ x. p x ≡ false) xs
filter-empty p [] e = tt
filter-empty p (x ∷ xs) e =
    elim (p x) as (λ b. p x ≡ b → cond b (x ∷ filter p xs) (filter p xs) ≡ [] → (p x ≡ false) × Every (λ y. p y ≡ false) xs)
    [ true ↦ λ t w. cc | false ↦ λ t w. (t, filter-empty p xs w) ] refl e

-- a region that is not in use is no container, no target and no root
pub record IsUnused (f : Forest) (r : RegionId) : Type 0 where
  pub no_children : Every (λ n. is_child_of r n ≡ false) f.nodes
  pub no_aliases : Every (λ n. targets r n.kind ≡ false) f.nodes
  pub no_spaces : Every (λ p. has_root r p ≡ false) f.spaces

pub in_use-none : (f : Forest) (r : RegionId) → in_use f r ≡ None → IsUnused f r
in_use-none f r e =
    let region : RegionId → Refusal = λ q. InUse (user.Region q) in
    let child = first_id (is_child_of r) f in
    let alias = first_id (λ n. targets r n.kind) f in
    let space = least_space (filter (has_root r) f.spaces) in
    let each = each_none (option_map region child ∷ option_map region alias ∷ option_map (λ s. InUse (user.Space s)) space ∷ []) e in
    record {
      no_children = find-none (is_child_of r) f.nodes (unmapped (λ n. n.id) (find (is_child_of r) f.nodes) (unmapped region child each.0));
      no_aliases = find-none (λ (n : Node). targets r n.kind) f.nodes
          (unmapped (λ n. n.id) (find (λ (n : Node). targets r n.kind) f.nodes) (unmapped region alias each.1.0));
      no_spaces = filter-empty (has_root r) f.spaces
          (no_least (filter (has_root r) f.spaces) (unmapped (λ s. InUse (user.Space s)) space each.1.1.0));
    }
