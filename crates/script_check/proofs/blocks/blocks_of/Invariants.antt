use Rattle.std.proofs.Common.{◌≡◌, drop}
use Rattle.script_check.specs.Blocks.{behind, blocks_of, cut}
use Rattle.script_check.proofs.blocks.blocks_of.Given as goal

abbrev pub invariant-loop-line : goal.invariant-loop-line
invariant-loop-line l = behind l.done.items l.last (cut (drop l.line-index l.lines)) ≡ blocks_of l.lines
