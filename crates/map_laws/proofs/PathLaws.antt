-- The search of every forest of accepted calls is the manual's: no path is longer than the search goes down.
use Rattle.std.proofs.Common.{◌≡◌, ℕ, zero, suc, List, [], ◌∷◌, map, Some, subst, sym}
use Rattle.std.specs.Prelude.{option_and_then}
use Rattle.mem_base.specs.declared.map.ids.RegionId.{RegionId}
use Rattle.mem_base.specs.declared.map.ids.SpaceId.{SpaceId}
use Rattle.mem_base.specs.declared.map.forests.Node.{Node}
use Rattle.mem_base.specs.declared.map.forests.Forest.{Forest}
use Rattle.mem_base.specs.declared.map.kinds.Kind.{Kind}
use Rattle.mem_base.specs.declared.map.kinds.Kind.TheVariants.{Alias}
use Rattle.mem_base.specs.lists.Every.{Every}
use Rattle.mem_base.specs.map.Limits.{most_depth}
use Rattle.mem_base.specs.map.Order.{children_of}
use Rattle.mem_base.specs.map.Search.{found_in, found_at, root_of}
use Rattle.mem_base.specs.map.Paths.{Finds}
use Rattle.mem_base.specs.map.Forest.{IsOrderedForest}
use Rattle.mem_base.specs.map.Steps.{steps_of, steps_from, steps_at}
use Rattle.mem_base.proofs.EveryLaws.{weaker}
use Rattle.mem_base.proofs.StepLaws.{IsWithin}
use Rattle.mem_base.proofs.JoinLaws.{within_most_depth}
use Rattle.map_laws.proofs.SearchLaws.{StepsWithin, HasPathsWithin, Finds-found_in}

every_id : (P : RegionId → Type 0) (cs : List Node) → Every P (map (λ (c : Node). c.id) cs) → Every (λ c. P c.id) cs
every_id P [] h = tt
every_id P (c ∷ cs) h = (h.0, every_id P cs h.1)

steps_within : (f : Forest) (P : RegionId → Type 0) (k : Kind) (n : Node) → Every P (steps_at f.nodes k n) → StepsWithin f P k n
steps_within f P (Alias target offset) n h = h.0
steps_within f P _ n h = every_id P (children_of f.nodes n.id) h

weaker_steps : (f : Forest) (P Q : RegionId → Type 0) → ((r : RegionId) → P r → Q r) → (k : Kind) (n : Node) → StepsWithin f P k n → StepsWithin f Q k n
weaker_steps f P Q g (Alias target offset) n h = g target h
weaker_steps f P Q g _ n h = weaker (λ c. P c.id) (λ c. Q c.id) (λ c w. g c.id w) (children_of f.nodes n.id) h

-- paths by steps are the paths of the search
pub paths_within : (f : Forest) (most : ℕ) (r : RegionId) → IsWithin (steps_of f.nodes) most r → HasPathsWithin f most r
unfolding IsWithin
paths_within f zero r h = h
paths_within f (suc most) r h = λ n e.
    let here : Every (IsWithin (steps_of f.nodes) most) (steps_at f.nodes n.kind n) =
    subst (λ o. Every (IsWithin (steps_of f.nodes) most) (steps_from f.nodes o)) e h in
    weaker_steps f (IsWithin (steps_of f.nodes) most) (HasPathsWithin f most) (λ q w. paths_within f most q w) n.kind n
    (steps_within f (IsWithin (steps_of f.nodes) most) n.kind n here)

-- from any region, at any offset, the search finds what the manual's rules find
pub Finds-most_depth : (f : Forest) (r : RegionId) (a : ℕ) → IsOrderedForest f → Finds f r a (found_in f most_depth r a)
Finds-most_depth f r a h = Finds-found_in f most_depth r a (paths_within f most_depth r (within_most_depth f h r))

-- in any space, at any address, the search finds what the manual's rules find from its root
pub Finds-found_at : (f : Forest) (s : SpaceId) (r : RegionId) (a : ℕ) → IsOrderedForest f → root_of f s ≡ Some r → Finds f r a (found_at f s a)
Finds-found_at f s r a h e = subst (λ o. Finds f r a (option_and_then (λ q. found_in f most_depth q a) o)) (sym e) (Finds-most_depth f r a h)
