-- Where no memory is the host's, the plans here are those of a machine.
use Rattle.std.specs.Prelude.{◌≡◌, ℕ, false}
use Rattle.mem_base.specs.declared.map.ids.RegionId.{RegionId}
use Rattle.mem_base.specs.declared.map.ids.SpaceId.{SpaceId}
use Rattle.mem_base.specs.declared.map.forests.Forest.{Forest}
use Rattle.mem_base.specs.map.Region.{node_of}
use Rattle.mem_base.specs.access.AccessSteps.{Transfer}
use Rattle.mem_base.specs.access.Plans.{plan}
use Rattle.mem_base.specs.access.CorePlans.{plan_of_core}
use Rattle.access_plan.specs.HostPlans.{is_host, plan_with_host, core_plan_with_host}

-- no region is memory of the host
abbrev pub HasNoHost : Forest → Type 0
HasNoHost f = (region : RegionId) → is_host (node_of f.nodes region) ≡ false

abbrev pub PlanIsDefined : Type 0
PlanIsDefined = (f : Forest) → HasNoHost f → (s : SpaceId) (a : ℕ) (t : Transfer) → plan_with_host f s a t ≡ plan f s a t

abbrev pub CorePlanIsDefined : Type 0
CorePlanIsDefined = (f : Forest) → HasNoHost f → (s : SpaceId) (a : ℕ) (t : Transfer) → core_plan_with_host f s a t ≡ plan_of_core f s a t
