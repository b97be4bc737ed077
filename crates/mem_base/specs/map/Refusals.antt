-- Why a call is refused: each condition by itself, as the refusal that it gives where it stands. But for Unknown, a
-- condition on a region that is not there does not stand. What QEMU's core asserts, or leaves undefined, is a refusal
-- with a name here; the names and the bounds are this project's own.
use Rattle.std.specs.Prelude.{ℕ, ◌%◌, ◌==◌, ◌&&◌, ◌||◌, not, Bool, false, nat_lt, if◌then◌else◌, List, [], ◌∷◌, Option, Some, None, is_some}
use Rattle.std.specs.Prelude.{is_none, option_map, option_and_then, find, filter, Result, Ok, Err}
use Rattle.std.specs.Option.{option_or}
use Rattle.mem_base.specs.declared.map.ids.RegionId.{RegionId}
use Rattle.mem_base.specs.declared.map.ids.SpaceId.{SpaceId}
use Rattle.mem_base.specs.declared.map.forests.Node.{Node}
use Rattle.mem_base.specs.declared.map.forests.Forest.{Forest}
use Rattle.mem_base.specs.declared.map.kinds.Kind.{Kind}
use Rattle.mem_base.specs.declared.map.kinds.Kind.TheVariants.{Alias}
use Rattle.mem_base.specs.declared.map.refusals.Refusal.{Refusal}
use Rattle.mem_base.specs.declared.map.refusals.Refusal.TheVariants.{Unknown, NameTaken, HasContainer, NotChild, AliasParent, Loop, TooDeep}
use Rattle.mem_base.specs.declared.map.refusals.Refusal.TheVariants.{TooWide, BadSize, WrongKind, InUse}
use Rattle.mem_base.specs.declared.map.refusals.What.TheVariants as what
use Rattle.mem_base.specs.declared.map.refusals.User.TheVariants as user
use Rattle.mem_base.specs.map.Limits.{most_depth, most_weight, page_size, most_bytes}
use Rattle.mem_base.specs.map.Region.{node_of, is_child_of}
use Rattle.mem_base.specs.map.Kinds.{is_alias, is_memory, has_bytes}
use Rattle.mem_base.specs.map.Search.{root_of}
use Rattle.mem_base.specs.map.Steps.{reaches, greatest_depth, greatest_weight}

-- the first refusal that stands
abbrev pub first_refusal : List (Option Refusal) → Option Refusal
first_refusal [] = None
first_refusal (x ∷ xs) = option_or x (first_refusal xs)

-- what an accepted call gives, unless a refusal stands
abbrev pub or_refused : {A : Type 0} → Option Refusal → A → Result A Refusal
or_refused None x = Ok x
or_refused (Some why) x = Err why

-- a refusal where a test says so
abbrev pub refuse_if : Bool → Refusal → Option Refusal
refuse_if test why = if test then Some why else None

-- a refusal where a region that is there passes a test
abbrev pub refuse_where : (Node → Bool) → Refusal → Option Node → Option Refusal
refuse_where test why region = option_and_then (λ n. refuse_if (test n) why) region

-- Unknown: a region or space that the call names is not there

-- there is no region with this id
abbrev pub unknown_region : Forest → RegionId → Option Refusal
unknown_region f r = if is_some (node_of f.nodes r) then None else Some (Unknown (what.Region r))

-- there is no space with this id
abbrev pub unknown_space : Forest → SpaceId → Option Refusal
unknown_space f s = refuse_if (is_none (root_of f s)) (Unknown (what.Space s))

-- the target of an alias that is to be made
abbrev pub unknown_target : Forest → Kind → Option Refusal
unknown_target f (Alias target offset) = unknown_region f target
unknown_target f _ = None

-- NameTaken: the space is there already

-- a space with this id is there
abbrev pub taken_space : Forest → SpaceId → Option Refusal
taken_space f s = refuse_if (is_some (root_of f s)) (NameTaken (what.Space s))

-- WrongKind: a region of another kind than the call is for

-- the region is not of the kind that is wanted
abbrev pub wrong_kind : (Kind → Bool) → Forest → RegionId → Option Refusal
wrong_kind wanted f r = refuse_where (λ n. not (wanted n.kind)) (WrongKind r) (node_of f.nodes r)

-- BadSize: no bytes; memory that is not whole pages; RAM, ROM or a ROM device that is too large

-- a size of no bytes
abbrev pub zero_size : ℕ → Option Refusal
zero_size size = refuse_if (size == 0) BadSize

-- a size that a new region of this kind may not have
abbrev pub bad_size : Kind → ℕ → Option Refusal
bad_size kind size =
    refuse_if ((size == 0) || is_memory kind && not (size % page_size == 0) || has_bytes kind && nat_lt most_bytes size) BadSize

-- HasContainer: the region is in a container, which is named

-- the region is in a container, whichever it is
abbrev pub has_container : Forest → RegionId → Option Refusal
has_container f r = option_and_then (λ n. option_map (λ p. HasContainer p) n.parent) (node_of f.nodes r)

-- NotChild: the region is in another container than the one named, or in none

-- the region is not in this container
abbrev pub not_child_of : Forest → RegionId → RegionId → Option Refusal
not_child_of f parent child = refuse_where (λ n. not (is_child_of parent n)) (NotChild child) (node_of f.nodes child)

-- the region is in no container
abbrev pub not_in_container : Forest → RegionId → Option Refusal
not_in_container f child = refuse_where (λ n. is_none n.parent) (NotChild child) (node_of f.nodes child)

-- AliasParent: an alias takes no children

-- the region that is to be a container is an alias
abbrev pub alias_parent : Forest → RegionId → Option Refusal
alias_parent f parent = refuse_where (λ n. is_alias n.kind) (AliasParent parent) (node_of f.nodes parent)

-- InUse: the child of least id, else the alias of least id, else the space of least id

-- a region of this kind is an alias of the region
abbrev pub targets : RegionId → Kind → Bool
targets r (Alias target offset) = target.0 == r.0
targets r _ = false

-- regions stand by ascending id: the first that passes the test is the least
abbrev pub first_id : (Node → Bool) → Forest → Option RegionId
first_id test f = option_map (λ n. n.id) (find test f.nodes)

-- the space has this root
abbrev pub has_root : RegionId → SpaceId × RegionId → Bool
has_root r p = p.1.0 == r.0

-- the lesser of a space and another one, if there is another
abbrev pub lesser_space : SpaceId → Option SpaceId → SpaceId
lesser_space s None = s
lesser_space s (Some t) = if nat_lt t.0 s.0 then t else s

-- spaces stand in order of making, so the least is looked for
abbrev pub least_space : List (SpaceId × RegionId) → Option SpaceId
least_space [] = None
least_space (p ∷ ps) = Some (lesser_space p.0 (least_space ps))

-- the region has a child or an alias, or is the root of a space
abbrev pub in_use : Forest → RegionId → Option Refusal
in_use f r = first_refusal
    (option_map (λ q. InUse (user.Region q)) (first_id (is_child_of r) f)
    ∷ option_map (λ q. InUse (user.Region q)) (first_id (λ n. targets r n.kind) f)
    ∷ option_map (λ s. InUse (user.Space s)) (least_space (filter (has_root r) f.spaces)) ∷ [])

-- Loop: the region to be the container is the child, or is reached from it by children and alias targets

-- the child leads to the region that is to be its container
abbrev pub makes_loop : Forest → RegionId → RegionId → Option Refusal
makes_loop f parent child = refuse_if (reaches f.nodes child parent) (Loop parent)

-- TooDeep, TooWide: the greatest depth or weight of these regions is above its limit

-- some region's depth is above the limit
abbrev pub too_deep : List Node → Option Refusal
too_deep nodes = refuse_if (nat_lt most_depth (greatest_depth nodes)) (TooDeep (greatest_depth nodes))

-- some region's weight is above the limit
abbrev pub too_wide : List Node → Option Refusal
too_wide nodes = refuse_if (nat_lt most_weight (greatest_weight nodes)) (TooWide (greatest_weight nodes))
