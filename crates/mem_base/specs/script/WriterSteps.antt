-- The commands that are calls of the writer: what each asks for, and the lines of its answer.
-- This project's own: a line of the script is one call, and its refusal is a line.
use Rattle.std.specs.Prelude.{ℕ, ◌+◌, true, false, is_some, unwrap_or, [], ◌∷◌, ◌++◌, length, Option, Some, None, Ok, Err, ℤ}
use Rattle.mem_base.specs.declared.map.ids.RegionId.{RegionId}
use Rattle.mem_base.specs.declared.map.ids.SpaceId.{SpaceId}
use Rattle.mem_base.specs.map.PassIds.{PassId}
use Rattle.mem_base.specs.declared.map.ioevents.Ioevent.{Ioevent}
use Rattle.mem_base.specs.declared.map.kinds.Client.{Client}
use Rattle.mem_base.specs.declared.map.kinds.Kind.{Kind}
use Rattle.mem_base.specs.declared.map.calls.Call.{Call}
use Rattle.mem_base.specs.declared.map.calls.Call.TheVariants as calls
use Rattle.mem_base.specs.declared.map.calls.Config.TheVariants as configs
use Rattle.mem_base.specs.declared.map.refusals.Refusal.{Refusal}
use Rattle.mem_base.specs.declared.script.changes.MapChange.{MapChange}
use Rattle.mem_base.specs.declared.script.changes.MapChange.TheVariants as changes
use Rattle.mem_base.specs.machine.World.{World}
use Rattle.mem_base.specs.machine.Orders.{Order, configure}
use Rattle.mem_base.specs.machine.Answers.{Answer, call_answer, commit_answer, plain_answer, reap_answer, harvest_answer, notifier_answer}
use Rattle.mem_base.specs.machine.Composites.{completed}
use Rattle.mem_base.specs.script.Spelling.{Text}
use Rattle.mem_base.specs.script.Named.{Names}
use Rattle.mem_base.specs.script.RefusalLines.{refusal_text, refused_line}
use Rattle.mem_base.specs.script.Output.{dirty_line, do_line, notified_line, released_lines}
use Rattle.mem_base.specs.script.States.{Outcome, region_named, space_named, listener_named, outcome, with_region, with_space, where_new, State}

-- why a call was refused, if it was
abbrev pub refusal_in : Answer → Option Refusal
refusal_in (call_answer (Err why)) = Some why
refusal_in (commit_answer (Err why)) = Some why
refusal_in (plain_answer (Err why)) = Some why
refusal_in (reap_answer (Err why)) = Some why
refusal_in (harvest_answer (Err why)) = Some why
refusal_in _ = None

-- a call that was answered: the line of its refusal, or its own lines and the names after it
abbrev pub answered : State → ℕ → Names → World → Option Refusal → Text → Outcome
answered state line names world None text = outcome state names world text
answered state line names world (Some why) text = outcome state state.names world (refused_line line (refusal_text state.names why))

-- a call of the writer: the names after it where it is accepted, and the lines that it then writes
abbrev pub ordered : State → ℕ → Names → Order → (Answer → Text) → Outcome
ordered state line names order text =
    let c = completed state.world order in answered state line names c.world (refusal_in c.answer) (text c.answer)

-- no line
abbrev pub silent : Answer → Text
silent answer = []

-- a call that makes no name and writes no line of its own
abbrev pub does : State → ℕ → Order → Outcome
does state line order = ordered state line state.names order silent

-- a call to the map
abbrev pub calls_map : State → ℕ → Call → Outcome
calls_map state line call = does state line (configure (configs.Call call))

-- a region with a new name is made
abbrev pub make_region : State → ℕ → Text → Kind → ℕ → Outcome
make_region state line name kind size =
    where_new state line name (region_named state name)
    (ordered state line (record state.names { regions = state.names.regions ++ name ∷ []; kinds = state.names.kinds ++ kind ∷ [] })
    (configure (configs.Call (calls.Region kind size))) silent)

-- spaces and listeners are numbered in order of making
abbrev pub make_space : State → ℕ → Text → RegionId → Outcome
make_space state line name root =
    where_new state line name (space_named state name)
    (ordered state line (record state.names { spaces = state.names.spaces ++ name ∷ [] })
    (configure (configs.Call (calls.Space (record { 0 = length state.names.spaces }) root))) silent)

-- a listener with a new name joins a space
abbrev pub listen : State → ℕ → Text → SpaceId → ℤ → Outcome
listen state line name space priority =
    where_new state line name (listener_named state name)
    (ordered state line (record state.names { listeners = state.names.listeners ++ name ∷ [] })
    (configure (configs.Listen (record { 0 = length state.names.listeners }) space priority)) silent)

-- an ioeventfd, by what its line says
abbrev pub ioevent : ℕ → ℕ → Option ℕ → ℕ → Ioevent
ioevent offset size data_value number = record {
  offset = offset;
  size = size;
  matched = is_some data_value;
  value = unwrap_or data_value 0;
  number = number;
}

-- the rest of a line that changes the map, with its call
abbrev pub with_call : State → ℕ → MapChange → (Call → Outcome) → Outcome
with_call state line (changes.Add parent offset child priority) rest =
    with_region state line parent (λ p. with_region state line child (λ c. rest (calls.Add p offset c priority)))
with_call state line (changes.Del parent child) rest =
    with_region state line parent (λ p. with_region state line child (λ c. rest (calls.Del p c)))
with_call state line (changes.Move child offset) rest = with_region state line child (λ r. rest (calls.Move r offset))
with_call state line (changes.Resize region size) rest = with_region state line region (λ r. rest (calls.Resize r size))
with_call state line (changes.Retarget alias offset) rest = with_region state line alias (λ r. rest (calls.Retarget r offset))
with_call state line (changes.Enable region) rest = with_region state line region (λ r. rest (calls.Enable r true))
with_call state line (changes.Disable region) rest = with_region state line region (λ r. rest (calls.Enable r false))
with_call state line (changes.Readonly region on) rest = with_region state line region (λ r. rest (calls.Readonly r on))
with_call state line (changes.Nonvolatile region on) rest = with_region state line region (λ r. rest (calls.Nonvolatile r on))
with_call state line (changes.Unmergeable region on) rest = with_region state line region (λ r. rest (calls.Unmergeable r on))
with_call state line (changes.Romd region on) rest = with_region state line region (λ r. rest (calls.Romd r on))
with_call state line (changes.Log region client on) rest = with_region state line region (λ r. rest (calls.Log r client on))
with_call state line (changes.Global on) rest = rest (calls.Global on)
with_call state line (changes.Map region iova size space translated perm) rest =
    with_region state line region (λ r. with_space state line space (λ s. rest (calls.Map r iova size s translated perm)))
with_call state line (changes.Unmap region iova) rest = with_region state line region (λ r. rest (calls.Unmap r iova))
with_call state line (changes.Event region offset size number value) rest =
    with_region state line region (λ r. rest (calls.Event r (ioevent offset size value number)))
with_call state line (changes.Unevent region offset size value) rest =
    with_region state line region (λ r. rest (calls.Unevent r offset size (is_some value) (unwrap_or value 0)))

-- Answers of the writer

-- the lines of the regions that a reap released
abbrev pub released_in : Names → Answer → Text
released_in names (reap_answer (Ok regions)) = released_lines names regions
released_in names _ = []

-- the line of the pages that a harvest found marked
abbrev pub pages_in : Text → Client → Answer → Text
pages_in region client (harvest_answer (Ok pages)) = dirty_line region client pages
pages_in region client _ = []

-- the line of a notifier's value
abbrev pub value_in : ℕ → Answer → Text
value_in number (notifier_answer value) = notified_line number value
value_in number _ = []

-- the line of a virtual CPU's call
abbrev pub published_in : PassId → Answer → Text
published_in pass (call_answer (Ok applied)) = do_line pass applied.1
published_in pass _ = []
