use Rattle.std.proofs.Common.{◌≡◌, ◌++◌, drop}
use Rattle.mem_base.specs.script.Printing.{printed}
use Rattle.script_text.proofs.printing.print_lines.Given as goal

abbrev pub invariant-loop-command : goal.invariant-loop-command
invariant-loop-command l = l.text.items ++ printed (drop l.command-index l.lines) ≡ printed l.lines
