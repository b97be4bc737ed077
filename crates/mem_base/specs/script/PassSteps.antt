-- The commands of passes: enter, leave, read, write, and a copy from one space to another.
-- This project's own: an access of a pass that is not entered enters it before and leaves it afterwards.
use Rattle.std.specs.Prelude.{if◌then◌else◌, ℕ, unwrap_or, List, []}
use Rattle.mem_base.specs.declared.map.ids.SpaceId.{SpaceId}
use Rattle.mem_base.specs.map.PassIds.{PassId}
use Rattle.mem_base.specs.declared.access.accesses.Access.{Access}
use Rattle.mem_base.specs.access.AccessSteps.{reading, writing, either}
use Rattle.mem_base.specs.machine.Passes.{pass_of}
use Rattle.mem_base.specs.machine.World.{World}
use Rattle.mem_base.specs.machine.History.{run_events}
use Rattle.mem_base.specs.machine.Composites.{accessed, is_entered, enters_anew, enters_unless, leaves, leaves_unless}
use Rattle.mem_base.specs.script.Output.{dma_line, enter_line, leave_line, read_line, write_line}
use Rattle.mem_base.specs.script.States.{Outcome, outcome, State}

-- the number of the generation in which a pass is entered; 0 where it is in none
abbrev pub entered_number : World → PassId → ℕ
entered_number w pass = unwrap_or (pass_of w.passes pass).entered 0

-- a pass enters the current generation, and leaves its own one first where it is in one
abbrev pub enter : State → PassId → Outcome
enter state pass =
    let ran = run_events state.world (enters_anew (is_entered state.world pass) pass) in
    outcome state state.names ran.world (enter_line pass (entered_number ran.world pass))

-- a pass that is not entered stays so
abbrev pub leave : State → PassId → Outcome
leave state pass =
    let ran = run_events state.world (if is_entered state.world pass then leaves pass else []) in
    outcome state state.names ran.world (leave_line pass)

-- a pass reads a number of bytes
abbrev pub read : State → PassId → SpaceId → ℕ → ℕ → Outcome
read state pass space addr len =
    let x = accessed state.world pass space addr (reading len) in
    outcome state state.names x.world (read_line pass x.answer x.bytes)

-- a pass writes these bytes
abbrev pub write : State → PassId → SpaceId → ℕ → List ℕ → Outcome
write state pass space addr bytes =
    let x = accessed state.world pass space addr (writing bytes) in
    outcome state state.names x.world (write_line pass x.answer)

-- the answer of a copy, by those of its read and its write
abbrev pub joined : Access → Access → Access
joined x y = record { result = either x.result y.result; number = x.number }

-- bytes are read and written in one generation: a pass that is not entered enters before and leaves afterwards
abbrev pub copy : State → PassId → SpaceId → ℕ → ℕ → SpaceId → ℕ → Outcome
copy state pass space addr len to_space to_addr =
    let entered = is_entered state.world pass in
    let before = run_events state.world (enters_unless entered pass) in
    let x = accessed before.world pass space addr (reading len) in
    let y = accessed x.world pass to_space to_addr (writing x.bytes) in
    let after = run_events y.world (leaves_unless entered pass) in
    outcome state state.names after.world (dma_line pass (joined x.answer y.answer))
