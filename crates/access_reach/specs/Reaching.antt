-- What a machine was asked of an access.
use Rattle.std.specs.Prelude.{◌≡◌, ℕ, ◌++◌, ◌+◌, ◌/◌, ◌%◌, ◌<◌, ◌≤◌, Bool, true, List, length, map, IfSome, IsSomeAnd}
use Rattle.mem_base.specs.declared.map.ids.RegionId.{RegionId}
use Rattle.mem_base.specs.declared.map.kinds.Client.{Client}
use Rattle.mem_base.specs.declared.map.forests.Forest.{Forest}
use Rattle.mem_base.specs.declared.map.ids.SpaceId.{SpaceId}
use Rattle.mem_base.specs.access.AccessSteps.{Transfer, is_write}
use Rattle.mem_base.specs.lists.Every.{Every}
use Rattle.mem_base.specs.map.Limits.{page_size}
use Rattle.mem_base.specs.map.Region.{node_of}
use Rattle.mem_base.specs.views.Naming.{names}
use Rattle.mem_base.specs.lists.Runs.{Run}
use Rattle.mem_base.specs.access.Plans.{Reached, mark}
use Rattle.access_plan.specs.HostPlans.{answerer_by, chunk_by, chunks_by}
use Rattle.access_plan.specs.Answering.{has_memory}
use Rattle.access_reach.specs.Asking.{Asked, asked, Reply, Outcome, outcome_of}

-- from one state of a machine to another it was asked these, in order, with these replies
abbrev pub Asks : Type 0 → Type 1
Asks S = S → List Asked → List Reply → S → Type 0

-- the machine was asked all of these, in order and no others, and its replies give this outcome
pub record HasReached {S : Type 0} (asks : Asks S) (before : S) (rs : List Reached) (end : Outcome) (after : S) : Type 0 where
  pub replies : List Reply
  pub made : asks before (asked rs) replies after
  pub each : length replies ≡ length (asked rs)
  pub told : end ≡ outcome_of rs replies

-- of the whole list the rest is still to come: what comes before it is done, with this outcome
pub record IsUnderway {S : Type 0} (asks : Asks S) (before : S) (whole rest : List Reached) (end : Outcome) (now : S) : Type 0 where
  pub first : List Reached
  pub done : HasReached asks before first end now
  pub parts : whole ≡ first ++ rest

-- the region is memory whose bytes the machine has: all memory, or all but the host's
abbrev pub IsMemoryBy : Bool → Forest → RegionId → Type 0
IsMemoryBy host f region = IsSomeAnd (node_of f.nodes region) (λ n. has_memory host n.kind ≡ true)

-- the forest names the region, and the bytes from an offset on lie in its memory, which the machine has
pub record IsInMemoryBy (host : Bool) (f : Forest) (region : RegionId) (offset bytes : ℕ) : Type 0 where
  pub named : names f region ≡ true
  pub kind : IsMemoryBy host f region
  pub within : IfSome (node_of f.nodes region) (λ n. offset + bytes ≤ n.size)

-- the same of a machine that has the bytes of the host's memory
abbrev pub IsInMemory : Forest → RegionId → ℕ → ℕ → Type 0
IsInMemory f region offset bytes = IsInMemoryBy true f region offset bytes

-- what a plan asks is taken
abbrev pub AllTaken : {S : Type 0} → (S → Asked → Type 0) → S → List Reached → Type 0
AllTaken takes x rs = Every (takes x) (asked rs)

-- the page is one of the region's
abbrev pub IsPageOf : Forest → RegionId → ℕ → Type 0
IsPageOf f region page = IfSome (node_of f.nodes region) (λ n. page < n.size / page_size)

abbrev pub ArePagesOf : Forest → RegionId → List (ℕ × Client) → Type 0
ArePagesOf f region ms = Every (λ m. IsPageOf f region m.0) ms

-- some bytes of the region, from an offset on, lie in it, and it is whole pages
abbrev pub AreInPages : Forest → RegionId → ℕ → ℕ → Type 0
AreInPages f region offset bytes = IfSome (node_of f.nodes region) (λ n. (offset + bytes ≤ n.size) × (n.size % page_size ≡ 0))

-- the marks of some pages of a region
abbrev pub marks_in : RegionId → List (ℕ × Client) → List Reached
marks_in region ms = map (λ m. mark region m.1 m.0) ms

-- what one chunk of an access reaches
abbrev pub in_chunk : Bool → Forest → SpaceId → ℕ → Transfer → Run → List Reached
in_chunk host f s a transfer r = chunk_by (answerer_by host f (is_write transfer)) f (is_write transfer) s a transfer r

-- what an access reaches with its first `bytes` bytes, by the chunks of these alone
abbrev pub plan_below : Bool → Forest → SpaceId → ℕ → Transfer → ℕ → List Reached
plan_below host f s a transfer bytes = chunks_by (answerer_by host f (is_write transfer)) f (is_write transfer) s a bytes transfer
