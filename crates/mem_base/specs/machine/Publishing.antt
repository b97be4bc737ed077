-- A publish: which private events make one due, what holds it up, and what it tells the listeners.
-- QEMU's core, `memory_region_transaction_commit`. That a publish is refused while a pass may use the generation eight
-- before the one to be published is this project's own rule.
use Rattle.std.specs.Prelude.{ℕ, ◌+◌, ◌-◌, Bool, true, false, ◌==◌, ◌&&◌, nat_le, if◌then◌else◌, List, [], ◌∷◌, Option, Some, None, Result, Ok, Err}
use Rattle.mem_base.specs.map.PassIds.{PassId}
use Rattle.mem_base.specs.declared.map.forests.Forest.{Forest}
use Rattle.mem_base.specs.declared.map.calls.Applied.{Applied}
use Rattle.mem_base.specs.declared.map.calls.Config.{Config}
use Rattle.mem_base.specs.declared.map.calls.Config.TheVariants as configs
use Rattle.mem_base.specs.declared.map.refusals.Refusal.{Refusal}
use Rattle.mem_base.specs.declared.map.refusals.Refusal.TheVariants.{Held}
use Rattle.mem_base.specs.map.Limits.{most_generations}
use Rattle.mem_base.specs.map.Calls.{empty}
use Rattle.mem_base.specs.machine.Committed.{is_change}
use Rattle.mem_base.specs.views.Listening.{delivered, changes_between}
use Rattle.mem_base.specs.machine.Generations.{Generation, Generations, PassTrack}
use Rattle.mem_base.specs.machine.Desk.{Desk}

-- the desk after a private event, and its answer
pub record Settled : Type 0 where
  pub desk : Desk
  pub answer : Result Applied Refusal

-- an event that is accepted leaves this desk and answers this
abbrev pub settled : Desk → Applied → Settled
settled d answer = record { desk = d; answer = Ok answer }

-- a refused event leaves the desk as it is
abbrev pub refused_desk : Desk → Refusal → Settled
refused_desk d why = record { desk = d; answer = Err why }

-- what an event leaves, unless it is refused
abbrev pub unless_refused : Option Refusal → Desk → Settled → Settled
unless_refused None d otherwise = otherwise
unless_refused (Some why) d otherwise = refused_desk d why

-- a private event would publish: a change outside all transactions that is accepted, or the outermost commit with a
-- change pending
abbrev pub would_publish : Desk → Config → Bool
would_publish d (configs.Call call) = (d.depth == 0) && is_change d.forest call
would_publish d configs.Commit = (d.depth == 1) && d.pending
would_publish d _ = false

-- the pass was found at a number so old that it may use the generation eight before the next one
abbrev pub holds_up : ℕ → Option ℕ → Bool
holds_up current None = false
holds_up current (Some number) = nat_le (number + (most_generations - 1)) current

-- the refusal of a publish that this pass holds up, with the number that it was found at
abbrev pub held_at : PassId → Option ℕ → Option Refusal
held_at pass None = None
held_at pass (Some number) = Some (Held pass number)

-- the least pass that holds a publish up, with the number that it was found at; passes are counted from `first`
abbrev pub held_from : ℕ → ℕ → List PassTrack → Option Refusal
held_from current first [] = None
held_from current first (k ∷ ks) =
    if holds_up current k.found then held_at (record { 0 = first }) k.found else held_from current (first + 1) ks

-- why a publish is held up, if it is
abbrev pub held_up : Generations → Option Refusal
held_up g = held_from g.current 0 g.passes

-- the forest of the first of these generations
abbrev pub forest_in : List Generation → Forest
forest_in [] = empty
forest_in (x ∷ xs) = x.forest

-- the forest of the current generation
abbrev pub current_forest : Generations → Forest
current_forest g = forest_in g.kept

-- all is ready for a publish of a forest: the listeners have their calls, from the current generation to this one
abbrev pub readied : Generations → Desk → Forest → Desk
readied g d f = record d {
  forest = f;
  depth = 0;
  pending = false;
  due = true;
  listening = delivered d.listening (changes_between (current_forest g) f);
}

-- a publish, unless it is held up
abbrev pub publishing : Generations → Desk → Forest → Applied → Settled
publishing g d f answer = unless_refused (held_up g) d (settled (readied g d f) answer)
