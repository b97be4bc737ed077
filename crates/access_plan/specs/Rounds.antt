-- How the list of an access grows by the rounds of QEMU's core.
use Rattle.std.specs.Prelude.{◌≡◌, ℕ, ◌+◌, ◌<◌, ◌≤◌, Bool, true, false, List, Option, Some, None, IsSome, IsSomeAnd}
use Rattle.mem_base.specs.declared.map.ids.RegionId.{RegionId}
use Rattle.mem_base.specs.declared.map.ids.SpaceId.{SpaceId}
use Rattle.mem_base.specs.declared.map.forests.Forest.{Forest}
use Rattle.mem_base.specs.declared.access.accesses.Piece.{Piece}
use Rattle.mem_base.specs.map.Kinds.{device_of}
use Rattle.mem_base.specs.map.Region.{node_of}
use Rattle.mem_base.specs.access.AccessSteps.{Transfer, length_of, part}
use Rattle.mem_base.specs.declared.map.kinds.Ops.{Ops}
use Rattle.mem_base.specs.declared.map.spots.Spot.{Spot}
use Rattle.mem_base.specs.declared.access.accesses.Target.{Target}
use Rattle.mem_base.specs.declared.access.accesses.Target.TheVariants.{Leaf}
use Rattle.mem_base.specs.views.LiveEvents.{events_of}
use Rattle.mem_base.specs.access.Trails.{Hop, trail_of}
use Rattle.mem_base.specs.access.Plans.{Answerer, Reached, by_device, in_piece, reached}
use Rattle.mem_base.specs.access.CorePlans.{taken_by, reached_at_once}
use Rattle.access_cut.specs.Conditions.{AreGood, IsCut}
use Rattle.access_base.specs.Leaves.{IsTargetRun}
use Rattle.access_base.specs.Sizes.{IsSize}
use Rattle.access_plan.specs.Answering.{IsDeviceRegion}
use Rattle.access_plan.specs.declared.lists.Reach.{Reach}
use Rattle.access_plan.specs.declared.rounds.Round.{Round}
use Rattle.access_plan.specs.declared.rounds.Round.TheVariants as rounds
use Rattle.access_plan.specs.HostPlans.{IsNearEnd, MeetsEnd, answerer_with_host, core_answerer_with_host, round_at, rounds_with_host, taken_at}
use Rattle.access_plan.specs.Lists.{Adds}

-- where a route ends at no device, a round takes what shares the route, and reaches what a chunk does
pub record IsNoDevice (who : Answerer) : Type 0 where
  pub taken : (hops : List Hop) (shared left : ℕ) → taken_by who hops shared left ≡ shared
  pub reached : (t : Transfer) → reached_at_once who t ≡ reached who t

-- it ends at a device of these access sizes, from a spot on
pub record IsDeviceOf (f : Forest) (write : Bool) (target : Target) (spot : Spot) (ops : Ops) : Type 0 where
  pub leaf : target ≡ Leaf spot
  pub who : answerer_with_host f write target ≡ by_device spot.leaf spot.offset ops (events_of f spot.leaf)
  pub good : AreGood ops
  pub kind : IsSomeAnd (node_of f.nodes spot.leaf) (λ n. IsSome (device_of n.kind))

abbrev pub IsDeviceAt : Forest → Bool → Target → Option (Spot × Ops) → Type 0
IsDeviceAt f write target None = IsNoDevice (answerer_with_host f write target)
IsDeviceAt f write target (Some (spot, ops)) = IsDeviceOf f write target spot ops

-- how many bytes a round takes
abbrev pub bytes_in : Round → ℕ
bytes_in (rounds.Route leads count) = count
bytes_in (rounds.Piece region ops piece) = piece.size

-- what it reaches with a transfer of these bytes
abbrev pub reached_in : Forest → Bool → Round → Transfer → List Reached
reached_in f write (rounds.Route leads count) t = reached (answerer_with_host f write leads) t
reached_in f write (rounds.Piece region ops piece) t = in_piece region ops (events_of f region) piece t

-- the piece is one of a region's device, which a part of an access may be cut to
pub record IsSoundPiece (f : Forest) (region : RegionId) (ops : Ops) (piece : Piece) : Type 0 where
  pub device : IsDeviceRegion f region
  pub good : AreGood ops
  pub cut : IsCut ops piece
  pub sized : IsSize piece.size

-- its bytes lie in the regions that they lead to
abbrev pub IsSoundRound : Forest → Round → Type 0
IsSoundRound f (rounds.Route leads count) = IsTargetRun f leads count
IsSoundRound f (rounds.Piece region ops piece) = IsSoundPiece f region ops piece

-- it is the next round at an address
pub record IsRoundAt (f : Forest) (write : Bool) (s : SpaceId) (a left : ℕ) (round : Round) : Type 0 where
  pub taken : bytes_in round ≡ taken_at (core_answerer_with_host f write) f write s a left
  pub some : 0 < bytes_in round
  pub most : bytes_in round ≤ left
  pub sound : IsSoundRound f round
  pub is : (t : Transfer) → length_of t ≡ bytes_in round → reached_in f write round t ≡ round_at (core_answerer_with_host f write) f write s a t

-- it is, or the next round meets the last offsets of a device
abbrev pub TakesRound : Forest → Bool → SpaceId → ℕ → ℕ → Option Round → Type 0
TakesRound f write s a left None = IsNearEnd (trail_of f write s a).target
TakesRound f write s a left (Some round) = IsRoundAt f write s a left round

-- a round took this number of bytes, and the list grew by what it reaches
pub record IsRound (f : Forest) (write : Bool) (s : SpaceId) (a left : ℕ) (t : Transfer) (before after : List Reach) (at taken : ℕ) : Type 0 where
  pub taken_is : taken ≡ taken_at (core_answerer_with_host f write) f write s a left
  pub some : 0 < taken
  pub most : taken ≤ left
  pub adds : Adds t before after (round_at (core_answerer_with_host f write) f write s a (part at taken t)) at (at + taken)

-- it did, or it meets the last offsets of a device
abbrev pub AddsRound : Forest → Bool → SpaceId → ℕ → ℕ → Transfer → List Reach → List Reach → ℕ → Option ℕ → Type 0
AddsRound f write s a left t before after at None = IsNearEnd (trail_of f write s a).target
AddsRound f write s a left t before after at (Some taken) = IsRound f write s a left t before after at taken

-- all rounds did, or one meets the last offsets of a device
abbrev pub AddsRounds : Forest → Bool → SpaceId → ℕ → ℕ → Transfer → List Reach → List Reach → Bool → Type 0
AddsRounds f write s a bytes t before after false = MeetsEnd f write s a bytes
AddsRounds f write s a bytes t before after true = Adds t before after (rounds_with_host f write s a bytes t) 0 bytes
