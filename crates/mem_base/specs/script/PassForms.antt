-- The lines of a pass, from their second word on.
use Rattle.std.specs.Prelude.{ℕ, List, [], ◌∷◌, codes}
use Rattle.mem_base.specs.map.PassIds.{PassId}
use Rattle.mem_base.specs.declared.script.commands.Command.{Command}
use Rattle.mem_base.specs.declared.script.commands.Command.TheVariants as commands
use Rattle.mem_base.specs.declared.script.commands.PassCommand.TheVariants as pass_commands
use Rattle.mem_base.specs.script.Spelling.{Text}
use Rattle.mem_base.specs.script.Operands.{◌>>=◌, Form, address, bytes, ends, keyword, len, made_by, name, one_of}
use Rattle.mem_base.specs.script.ChangeForms.{change}

-- vN read SPACE ADDR LEN
abbrev pub pass_read : PassId → Form Command
pass_read pass = do ends (commands.Pass pass (pass_commands.Read (← name) (← address) (← len)))

-- vN write SPACE ADDR BYTES
abbrev pub pass_write : PassId → Form Command
pass_write pass = do ends (commands.Pass pass (pass_commands.Write (← name) (← address) (← bytes)))

-- vN dma SPACE ADDR LEN to SPACE ADDR
abbrev pub pass_dma : PassId → Form Command
pass_dma pass = do
  space ← name
  addr ← address
  n ← len
  _ ← keyword (codes "to")
  ends (commands.Pass pass (pass_commands.Dma space addr n (← name) (← address)))

-- vN do COMMAND
abbrev pub pass_do : PassId → Form Command
pass_do pass tokens = made_by (λ c. commands.Pass pass (pass_commands.Do c)) (change tokens)

-- each second word of a pass's line, with the form of what follows
abbrev pub pass_forms : PassId → List (Text × Form Command)
pass_forms pass =
    (codes "enter", ends (commands.Pass pass pass_commands.Enter)) ∷ (codes "leave", ends (commands.Pass pass pass_commands.Leave))
    ∷ (codes "read", pass_read pass) ∷ (codes "write", pass_write pass) ∷ (codes "do", pass_do pass)
    ∷ (codes "dma", pass_dma pass) ∷ []

-- vN, and what the pass does
abbrev pub pass_line : ℕ → Form Command
pass_line n = do
  form ← one_of (pass_forms (record { 0 = n }))
  form
