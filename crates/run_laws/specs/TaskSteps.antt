-- What a command of a script does by its task, which is what it asks for once its names are resolved. The machine is there in
-- what is known of names and watchers, and in a world.
use Rattle.std.specs.Prelude.{ℕ, ◌++◌, [], Ok, Err}
use Rattle.mem_base.specs.map.PassIds.{PassId}
use Rattle.mem_base.specs.declared.machine.records.DeskOrder.{DeskOrder}
use Rattle.mem_base.specs.map.Search.{look}
use Rattle.mem_base.specs.access.AccessSteps.{reading, writing}
use Rattle.mem_base.specs.views.Flattened.{view_of}
use Rattle.mem_base.specs.machine.World.{World}
use Rattle.mem_base.specs.machine.Composites.{completed}
use Rattle.mem_base.specs.machine.Records.{call_of, told}
use Rattle.mem_base.specs.script.Spelling.{Text}
use Rattle.mem_base.specs.script.Named.{space_name}
use Rattle.mem_base.specs.script.RefusalLines.{refused_line}
use Rattle.mem_base.specs.script.SpotLines.{at_line, range_lines, view_line}
use Rattle.mem_base.specs.script.Watching.{watch_refusal}
use Rattle.mem_base.specs.script.States.{Outcome, State, outcome, writes}
use Rattle.mem_base.specs.script.Shows.{joins_unless, shown_forest, unwatch}
use Rattle.mem_base.specs.script.PassSteps.{copy, enter, leave, read, write}
use Rattle.mem_base.specs.script.Tasks.{Known, Resolved, Task, after_order, accessed, copied, entered, found, left, ordered, shown, unwatched, watched}
use Rattle.mem_base.specs.script.RaceLines.{answer_text, do_text, new_watcher}

-- the state of a run in which this is known
abbrev pub known_state : Known → World → State
known_state k w = record { names = k.names; world = w; watchers = k.watchers }

-- an order of the desk: what is known after it, and what it writes by its answer
abbrev pub desk_order : Known → World → ℕ → DeskOrder → Text → Outcome
desk_order k w line order name =
    let c = completed w (call_of order) in
    let names = (after_order k name order (told c.answer)).names in
    outcome (known_state k w) names c.world (answer_text names line order (told c.answer))

-- a task of the desk
abbrev pub desk_step : Known → World → ℕ → Resolved Task → Outcome
desk_step k w line (Ok (ordered order name)) = desk_order k w line order name
desk_step k w line (Ok (shown s)) =
    let state = known_state k w in
    writes state (view_line (space_name k.names s) w.writer.generations.current ++ range_lines k.names (view_of (shown_forest state) s))
desk_step k w line (Ok (found s addr)) =
    let state = known_state k w in writes state (at_line k.names (space_name k.names s) addr (look (shown_forest state) s addr))
desk_step k w line (Ok (watched name region first last)) =
    joins_unless (known_state k w) line (watch_refusal k.watchers first last) name (new_watcher k region first last)
desk_step k w line (Ok (unwatched id)) = unwatch (known_state k w) id
desk_step k w line (Ok task) = writes (known_state k w) []
desk_step k w line (Err why) = writes (known_state k w) (refused_line line why)

-- an order of a pass: no name is made by it
abbrev pub pass_order : Known → World → PassId → ℕ → DeskOrder → Outcome
pass_order k w pass line order =
    let c = completed w (call_of order) in outcome (known_state k w) k.names c.world (do_text k.names line pass (told c.answer))

-- a task of a pass
abbrev pub pass_step : Known → World → PassId → ℕ → Resolved Task → Outcome
pass_step k w pass line (Ok (ordered order name)) = pass_order k w pass line order
pass_step k w pass line (Ok entered) = enter (known_state k w) pass
pass_step k w pass line (Ok left) = leave (known_state k w) pass
pass_step k w pass line (Ok (accessed s addr (reading n))) = read (known_state k w) pass s addr n
pass_step k w pass line (Ok (accessed s addr (writing bytes))) = write (known_state k w) pass s addr bytes
pass_step k w pass line (Ok (copied from addr n to to_addr)) = copy (known_state k w) pass from addr n to to_addr
pass_step k w pass line (Ok task) = writes (known_state k w) []
pass_step k w pass line (Err why) = writes (known_state k w) (refused_line line why)
