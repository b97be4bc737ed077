use Rattle.std.proofs.Common.{◌≡◌, ◌++◌, ◌+◌, drop}
use Rattle.mem_base.specs.script.Printing.{numbered_commands, printed}
use Rattle.script_make.proofs.texts.text_of.Given as goal

abbrev pub invariant-loop-command : goal.invariant-loop-command
invariant-loop-command l = l.text.items ++ printed (numbered_commands (l.command-index + 1) (drop l.command-index l.commands)) ≡ printed
    (numbered_commands 1 l.commands)
