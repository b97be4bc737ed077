-- The plan of an access where memory of the host answers too: as RAM does, since a monitor has its bytes. All else is as in the plan of
-- a machine that has not, and each definition here is that one's with another answerer.
use Rattle.std.specs.Prelude.{ℕ, zero, suc, ◌+◌, ◌-◌, ◌^◌, ◌<◌, ◌&&◌, Bool, true, false, if◌then◌else◌, List, [], ◌++◌, flat_map, Option, Some, None}
use Rattle.mem_base.specs.declared.map.ids.SpaceId.{SpaceId}
use Rattle.mem_base.specs.declared.map.forests.Node.{Node}
use Rattle.mem_base.specs.declared.map.forests.Forest.{Forest}
use Rattle.mem_base.specs.declared.map.kinds.Kind.{Kind}
use Rattle.mem_base.specs.declared.map.kinds.Kind.TheVariants.{Host}
use Rattle.mem_base.specs.declared.access.accesses.Target.{Target}
use Rattle.mem_base.specs.declared.access.accesses.Target.TheVariants.{Leaf, Unassigned}
use Rattle.mem_base.specs.map.Region.{node_of}
use Rattle.mem_base.specs.lists.Runs.{Run}
use Rattle.mem_base.specs.access.AccessSteps.{Transfer, is_write, length_of, part}
use Rattle.mem_base.specs.access.Trails.{trail_of, chunks, first_length}
use Rattle.mem_base.specs.access.Plans.{Reached, Answerer, by_nobody, by_memory_unless, answerer, reached}
use Rattle.mem_base.specs.access.CorePlans.{own_target, taken_by, reached_at_once}

abbrev pub is_host_kind : Kind → Bool
is_host_kind Host = true
is_host_kind _ = false

-- a region is memory of the host
abbrev pub is_host : Option Node → Bool
is_host None = false
is_host (Some n) = is_host_kind n.kind

-- who answers: memory of the host as RAM does, and all else as in a machine that has not its bytes
abbrev pub answerer_with_host : Forest → Bool → Target → Answerer
answerer_with_host f write Unassigned = by_nobody
answerer_with_host f write (Leaf spot) =
    if is_host (node_of f.nodes spot.leaf) then by_memory_unless (write && spot.attrs.readonly) spot else answerer f write (Leaf spot)

-- who answers, by whether the machine has the bytes of the host's memory
abbrev pub answerer_by : Bool → Forest → Bool → Target → Answerer
answerer_by true = answerer_with_host
answerer_by false = answerer

-- the plan by who answers: one chunk, and all of the first `bytes` addresses
abbrev pub chunk_by : (Target → Answerer) → Forest → Bool → SpaceId → ℕ → Transfer → Run → List Reached
chunk_by who f write s a transfer r = reached (who (trail_of f write s r.start).target) (part (r.start - a) r.length transfer)

abbrev pub chunks_by : (Target → Answerer) → Forest → Bool → SpaceId → ℕ → ℕ → Transfer → List Reached
chunks_by who f write s a bytes transfer = flat_map (chunk_by who f write s a transfer) (chunks f write s a bytes)

abbrev pub chunks_with_host : Forest → Bool → SpaceId → ℕ → ℕ → Transfer → List Reached
chunks_with_host f write s a bytes transfer = chunks_by (answerer_with_host f write) f write s a bytes transfer

-- an access to a space at an address
abbrev pub plan_with_host : Forest → SpaceId → ℕ → Transfer → List Reached
plan_with_host f s a transfer = chunks_with_host f (is_write transfer) s a (length_of transfer) transfer

-- the same by whether the machine has the bytes of the host's memory: where it has not, this is the defined plan
abbrev pub plan_by : Bool → Forest → SpaceId → ℕ → Transfer → List Reached
plan_by host f s a transfer = chunks_by (answerer_by host f (is_write transfer)) f (is_write transfer) s a (length_of transfer) transfer

-- the plan of QEMU's core by who answers: how many bytes a round takes, what it reaches, and all rounds
abbrev pub taken_at : (Target → Answerer) → Forest → Bool → SpaceId → ℕ → ℕ → ℕ
taken_at who f write s a left =
    taken_by (who (trail_of f write s a).target) (trail_of f write s a).hops (first_length (chunks f write s a left)) left

abbrev pub round_at : (Target → Answerer) → Forest → Bool → SpaceId → ℕ → Transfer → List Reached
round_at who f write s a transfer = reached_at_once (who (trail_of f write s a).target) transfer

abbrev pub rounds_by : (Target → Answerer) → Forest → Bool → SpaceId → ℕ → Transfer → ℕ → ℕ → ℕ → List Reached
rounds_by who f write s first transfer a zero inside = []
rounds_by who f write s first transfer a (suc left) (suc inside) = rounds_by who f write s first transfer (a + 1) left inside
rounds_by who f write s first transfer a (suc left) zero = let n = taken_at who f write s a (suc left) in
    round_at who f write s a (part (a - first) n transfer) ++ rounds_by who f write s first transfer (a + 1) left (n - 1)

-- who answers in QEMU's core: a region is read-only by its own flag there
abbrev pub core_answerer_with_host : Forest → Bool → Target → Answerer
core_answerer_with_host f write target = answerer_with_host f write (own_target f target)

abbrev pub rounds_with_host : Forest → Bool → SpaceId → ℕ → ℕ → Transfer → List Reached
rounds_with_host f write s a bytes transfer = rounds_by (core_answerer_with_host f write) f write s a transfer a bytes 0

-- an access to a space at an address
abbrev pub core_plan_with_host : Forest → SpaceId → ℕ → Transfer → List Reached
core_plan_with_host f s a transfer = rounds_with_host f (is_write transfer) s a (length_of transfer) transfer

-- where the route of an address ends at a device at most 7 bytes from the last offset that there is
abbrev pub IsNearEnd : Target → Type 0
IsNearEnd Unassigned = ⊥
IsNearEnd (Leaf spot) = 2 ^ 64 < spot.offset + 8

-- one of some addresses does
abbrev pub MeetsEnd : Forest → Bool → SpaceId → ℕ → ℕ → Type 0
MeetsEnd f write s a bytes = (i : ℕ) × (i < bytes) × IsNearEnd (trail_of f write s (a + i)).target
