-- What accesses reach, as numbers.
use Rattle.std.specs.Prelude.{
  ◌≡◌,
  ◌⊎◌,
  ℕ,
  ◌+◌,
  ◌^◌,
  ◌<◌,
  ◌==◌,
  Bool,
  true,
  false,
  if◌then◌else◌,
  List,
  length,
  Option,
  Some,
  None,
  Result,
  Ok,
  Err,
  IfOk,
  Vec,
  option_map,
}
use Rattle.std.specs.declared.alloc.AllocError.{AllocError}
use Rattle.std.specs.declared.alloc.Global.{Global}
use Rattle.mem_base.specs.declared.map.forests.Forest.{Forest}
use Rattle.mem_base.specs.declared.map.ids.SpaceId.{SpaceId}
use Rattle.mem_base.specs.declared.map.kinds.Client.{Client}
use Rattle.mem_base.specs.declared.map.kinds.Client.TheVariants.{Vga, Code, Migration}
use Rattle.mem_base.specs.declared.map.refusals.Refusal.TheVariants as refusal
use Rattle.mem_base.specs.access.AccessSteps.{Transfer, is_write, length_of}
use Rattle.mem_base.specs.access.Plans.{Reached}
use Rattle.mem_base.specs.machine.World.{World}
use Rattle.access_plan.specs.declared.lists.Reach.{Reach}
use Rattle.access_plan.specs.declared.lists.Reach.TheVariants.{Memory, Callback, Notifier, Mark, Nothing}
use Rattle.access_plan.specs.declared.requests.Request.{Request}
use Rattle.access_plan.specs.declared.requests.Request.TheVariants.{Answers, Takes}
use Rattle.access_plan.specs.HostPlans.{MeetsEnd, core_plan_with_host, plan_with_host}
use Rattle.access_plan.specs.Lists.{IsPlanned}
use Rattle.libvobrekan.specs.declared.answers.Answer.{Answer}
use Rattle.libvobrekan.specs.declared.plans.ReachedNumbers.{ReachedNumbers}
use Rattle.libvobrekan.specs.Answers.{done, no_machine, refusal_told}
use Rattle.libvobrekan.specs.Buffers.{put_each}
use Rattle.libvobrekan.specs.Shown.{current_forest}

-- a thing that has no number but these
abbrev pub plain_told : ℕ → ℕ → ℕ → ReachedNumbers
plain_told what at len = record {
  offset = 0;
  value = 0;
  at = at;
  len = len;
  what = what;
  region = 0;
  number = 0;
  size = 0;
  takes = false;
  big = false;
}

abbrev pub client_told : Client → ℕ
client_told Vga = 0
client_told Code = 1
client_told Migration = 2

-- a callback, with what it is to do
abbrev pub with_request : ReachedNumbers → Request → ReachedNumbers
with_request n (Answers len big) = record {
  offset = n.offset;
  value = n.value;
  at = n.at;
  len = n.len;
  what = n.what;
  region = n.region;
  number = n.number;
  size = n.size;
  takes = n.takes;
  big = big;
}
with_request n (Takes value) = record {
  offset = n.offset;
  value = value;
  at = n.at;
  len = n.len;
  what = n.what;
  region = n.region;
  number = n.number;
  size = n.size;
  takes = true;
  big = n.big;
}

-- a thing of a region, at an offset of it
abbrev pub region_told : ℕ → ℕ → ℕ → ℕ → ℕ → ℕ → ReachedNumbers
region_told what region offset size at len = record {
  offset = offset;
  value = 0;
  at = at;
  len = len;
  what = what;
  region = region;
  number = 0;
  size = size;
  takes = false;
  big = false;
}

-- one thing that an access reaches
abbrev pub reach_told : Reach → ReachedNumbers
reach_told (Memory region offset at len) = region_told 0 region.0 offset 0 at len
reach_told (Callback region offset size request at len) = with_request (region_told 1 region.0 offset size at len) request
reach_told (Notifier number at len) = record {
  offset = 0;
  value = 0;
  at = at;
  len = len;
  what = 2;
  region = 0;
  number = number;
  size = 0;
  takes = false;
  big = false;
}
reach_told (Mark region client page) = record {
  offset = page;
  value = 0;
  at = 0;
  len = 0;
  what = 3;
  region = region.0;
  number = client_told client;
  size = 0;
  takes = false;
  big = false;
}
reach_told (Nothing at len) = plain_told 4 at len

-- 1 is QEMU's way
abbrev pub is_core : ℕ → Bool
is_core way = way == 1

-- the plan of an access: in QEMU's way, or by chunks
abbrev pub plan_of : Bool → Forest → SpaceId → ℕ → Transfer → List Reached
plan_of core f s a t = if core then core_plan_with_host f s a t else plan_with_host f s a t

-- the access goes on past the last address, or meets the last offsets of a device in QEMU's way
abbrev pub IsPast : Bool → Forest → SpaceId → ℕ → Transfer → Type 0
IsPast core f s a t = (2 ^ 64 < a + length_of t) ⊎ ((core ≡ true) × MeetsEnd f (is_write t) s a (length_of t))

-- the list of an access: none where it is past
abbrev pub IsListOf : Bool → Forest → SpaceId → ℕ → Transfer → Option (List Reach) → Type 0
IsListOf core f s a t None = IsPast core f s a t
IsListOf core f s a t (Some list) = IsPlanned t list (plan_of core f s a t)

-- the list of a `Vec`, and of an answer that has one
abbrev pub items_of : Option (Vec Reach Global) → Option (List Reach)
items_of o = option_map (λ v. v.items) o

abbrev pub lists_of : Result (Option (Vec Reach Global)) AllocError → Result (Option (List Reach)) AllocError
lists_of (Ok o) = Ok (items_of o)
lists_of (Err e) = Err e

-- a list, in a buffer: it is refused where there is none, and where memory ran out
abbrev pub IsTold : Result (Option (List Reach)) AllocError → ℕ → List ReachedNumbers → Answer → List ReachedNumbers → Type 0
IsTold (Ok (Some list)) number before answer out = (answer ≡ done (length list) number) × (out ≡ put_each reach_told list before)
IsTold (Ok None) number before answer out = (answer ≡ refusal_told refusal.BadSize) × (out ≡ before)
IsTold (Err e) number before answer out = (answer ≡ refusal_told refusal.Memory) × (out ≡ before)

-- what an access reaches in a generation of this number: the buffer has it, unless memory ran out
pub record HasPlan (f : Forest) (number : ℕ) (core : Bool) (s : SpaceId) (a : ℕ) (t : Transfer) (before : List ReachedNumbers) (answer : Answer)
    (out : List ReachedNumbers) : Type 0 where
  pub list : Result (Option (List Reach)) AllocError
  pub is : IfOk list (IsListOf core f s a t)
  pub told : IsTold list number before answer out

-- the same of the current generation of a handle's machine
abbrev pub ShowsPlan : Option World → Bool → SpaceId → ℕ → Transfer → List ReachedNumbers → Answer → List ReachedNumbers → Type 0
ShowsPlan None core s a t before answer out = (answer ≡ no_machine) × (out ≡ before)
ShowsPlan (Some w) core s a t before answer out = HasPlan (current_forest w) w.writer.generations.current core s a t before answer out
