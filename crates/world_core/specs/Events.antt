-- One event of the machine, as a contract states it.
use Rattle.std.specs.Prelude.{◌≡◌, Bool, true, false, Result}
use Rattle.mem_base.specs.declared.map.calls.Applied.{Applied}
use Rattle.mem_base.specs.declared.map.calls.Call.TheVariants as calls
use Rattle.mem_base.specs.declared.map.calls.Config.{Config}
use Rattle.mem_base.specs.declared.map.calls.Config.TheVariants as configs
use Rattle.mem_base.specs.declared.map.refusals.Refusal.{Refusal}
use Rattle.mem_base.specs.declared.machine.events.Event.{Event}
use Rattle.mem_base.specs.declared.machine.events.Event.TheVariants as events
use Rattle.mem_base.specs.declared.machine.events.Reply.{Reply}
use Rattle.mem_base.specs.machine.Configs.{configured}
use Rattle.mem_base.specs.machine.World.{World, reply, world_after}

-- the event is a private one that changes the map or the listeners
abbrev pub IsConfig : Event → Type 0
IsConfig (events.Config k) = Unit {0}
IsConfig e = ⊥

-- the event leads to this world, and this is its reply
pub record IsStepped (w : World) (e : Event) (answer : Result Reply Refusal) (v : World) : Type 0 where
  pub world : v ≡ world_after w e
  pub answer_is : answer ≡ reply w e

-- the same of a private event, by what the writer's desk answers
pub record IsChanged (w : World) (k : Config) (answer : Result Applied Refusal) (v : World) : Type 0 where
  pub world : v ≡ world_after w (events.Config k)
  pub answer_is : answer ≡ (configured w.writer.generations w.writer.desk k).answer

-- a region is to be made
abbrev pub makes_region : Config → Bool
makes_region (configs.Call (calls.Region kind size)) = true
makes_region k = false
