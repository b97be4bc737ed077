-- What a pass of the world does in an access.
use Rattle.std.specs.Prelude.{◌≡◌, ℕ, true, List, [], Option, Some, None, is_some, unwrap_or}
use Rattle.mem_base.specs.map.PassIds.{PassId}
use Rattle.mem_base.specs.declared.machine.events.Event.{Event}
use Rattle.mem_base.specs.map.Calls.{empty}
use Rattle.mem_base.specs.machine.Passes.{pass_of}
use Rattle.mem_base.specs.machine.Generations.{Generation, entered_generation}
use Rattle.mem_base.specs.machine.World.{World}
use Rattle.mem_base.specs.machine.History.{run_events}
use Rattle.mem_base.specs.machine.Composites.{numbers_of}
use Rattle.generation.specs.Published.{Published, published}

abbrev pub published_as : ℕ → Option Generation → Published
published_as number None = published number empty []
published_as number (Some x) = published number x.forest x.places

-- the generation in which a pass is entered, with its number
abbrev pub shown_to : World → PassId → Published
shown_to w pass = published_as (unwrap_or (pass_of w.passes pass).entered 0) (entered_generation w.writer.generations w.passes pass)

-- the pass is entered in a generation that is kept
abbrev pub IsInside : World → PassId → Type 0
IsInside w pass = is_some (entered_generation w.writer.generations w.passes pass) ≡ true

-- from one world to another just these events were made, with these replies; and the pass is in the same generation
pub record HasRun (pass : PassId) (v : World) (es : List Event) (replies : List ℕ) (w : World) : Type 0 where
  pub world : w ≡ (run_events v es).world
  pub replies_are : replies ≡ numbers_of (run_events v es).entries
  pub shows : shown_to w pass ≡ shown_to v pass
  pub inside : entered_generation w.writer.generations w.passes pass ≡ entered_generation v.writer.generations v.passes pass
