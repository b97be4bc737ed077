-- The calls of the pure machine, as the events that they make and what they answer.
use Rattle.std.specs.Prelude.{ℕ, Bool, false, if◌then◌else◌, List, [], ◌∷◌, ◌++◌, map, Option, Some, None, is_some, unwrap_or}
use Rattle.mem_base.specs.map.PassIds.{PassId}
use Rattle.mem_base.specs.declared.map.ids.SpaceId.{SpaceId}
use Rattle.mem_base.specs.declared.map.forests.Forest.{Forest}
use Rattle.mem_base.specs.declared.access.accesses.Access.{Access}
use Rattle.mem_base.specs.declared.machine.events.Event.{Event}
use Rattle.mem_base.specs.declared.machine.events.Event.TheVariants.{Look, Announce, Enter, Leave}
use Rattle.mem_base.specs.map.Calls.{empty}
use Rattle.mem_base.specs.map.Limits.{word_size}
use Rattle.mem_base.specs.access.Words.{bytes_of}
use Rattle.mem_base.specs.access.AccessSteps.{Transfer, writing, AccessStep, events_of_steps, result_of, bytes_read, has_partial}
use Rattle.mem_base.specs.access.Access.{access}
use Rattle.mem_base.specs.machine.Passes.{pass_of}
use Rattle.mem_base.specs.machine.Generations.{Generation, entered_generation}
use Rattle.mem_base.specs.machine.World.{World, number_in}
use Rattle.mem_base.specs.machine.History.{PureEntry, run_events}
use Rattle.mem_base.specs.machine.Orders.{Order, events_before, private_of, events_after}
use Rattle.mem_base.specs.machine.Answers.{Answer, answer_to}

-- the numbers in the replies
abbrev pub numbers_of : List PureEntry → List ℕ
numbers_of xs = map (λ x. number_in x.reply) xs

-- a call of the writer: the world after it, its entries, and its answer
pub record Completed : Type 0 where
  pub world : World
  pub entries : List PureEntry
  pub answer : Answer

-- a call of the writer: its events in order, each with the world's own reply
abbrev pub completed : World → Order → Completed
completed w k =
    let before = run_events w (events_before w.writer k) in
    let private = run_events before.world (private_of k) in
    let later = run_events private.world (events_after private.world.writer k) in record {
      world = later.world;
      entries = before.entries ++ (private.entries ++ later.entries);
      answer = answer_to before.world.writer private.world.writer k (numbers_of later.entries);
    }

-- a pass looks at the current number, announces it, and enters
abbrev pub enters : PassId → List Event
enters pass = Look pass ∷ Announce pass ∷ Enter pass ∷ []

-- a pass leaves the generation in which it is entered
abbrev pub leaves : PassId → List Event
leaves pass = Leave pass ∷ []

-- a virtual CPU that enters anew leaves first where it was entered
abbrev pub enters_anew : Bool → PassId → List Event
enters_anew entered pass = if entered then leaves pass ++ enters pass else enters pass

-- a pass that is entered stays so; any other enters before an access and leaves after it
abbrev pub enters_unless : Bool → PassId → List Event
enters_unless entered pass = if entered then [] else enters pass

-- a pass that was entered before an access stays so; any other leaves after it
abbrev pub leaves_unless : Bool → PassId → List Event
leaves_unless entered pass = if entered then [] else leaves pass

-- all events of an access by a pass, which was entered before or not, to a space of a forest
abbrev pub access_events : Bool → PassId → Forest → SpaceId → ℕ → Transfer → List Event
access_events entered pass f s a transfer =
    enters_unless entered pass ++ (events_of_steps pass (access f s a transfer) ++ leaves_unless entered pass)

-- a write of one word, whose bytes stand in the order of addresses, the lowest first
abbrev pub word_write : ℕ → Transfer
word_write value = writing (bytes_of value word_size false)

-- such a write would replace only a part of some word, so it can't be done by stores of whole words
abbrev pub is_not_whole : Forest → SpaceId → ℕ → ℕ → Bool
is_not_whole f s a value = has_partial (access f s a (word_write value))

-- its events: those of the access, or none of them where it is not whole
abbrev pub word_write_events : Bool → PassId → Forest → SpaceId → ℕ → ℕ → List Event
word_write_events entered pass f s a value =
    if is_not_whole f s a value then enters_unless entered pass ++ leaves_unless entered pass
    else access_events entered pass f s a (word_write value)

-- the forest of a generation; the empty one where there is none
abbrev pub forest_at : Option Generation → Forest
forest_at None = empty
forest_at (Some x) = x.forest

-- the pass is entered in some generation
abbrev pub is_entered : World → PassId → Bool
is_entered w pass = is_some (pass_of w.passes pass).entered

-- the steps of an access in a world in which the pass is entered
abbrev pub steps_in : World → PassId → SpaceId → ℕ → Transfer → List AccessStep
steps_in w pass s a transfer = access (forest_at (entered_generation w.writer.generations w.passes pass)) s a transfer

-- an access of a pass: the world after it, its entries, how it ended in which generation, and the bytes read
pub record Accessed : Type 0 where
  pub world : World
  pub entries : List PureEntry
  pub answer : Access
  pub bytes : List ℕ

-- an access of a pass, which enters before it and leaves after it where it was not entered
abbrev pub accessed : World → PassId → SpaceId → ℕ → Transfer → Accessed
accessed w pass s a transfer =
    let before = run_events w (enters_unless (is_entered w pass) pass) in
    let steps = steps_in before.world pass s a transfer in
    let during = run_events before.world (events_of_steps pass steps) in
    let later = run_events during.world (leaves_unless (is_entered w pass) pass) in record {
      world = later.world;
      entries = before.entries ++ (during.entries ++ later.entries);
      answer = record { result = result_of steps; number = unwrap_or (pass_of before.world.passes pass).entered 0 };
      bytes = bytes_read steps (numbers_of during.entries);
    }
