use Rattle.std.proofs.Common.{◌≡◌, drop}
use Rattle.script_check.specs.Checks.{compared_with, has_view}
use Rattle.script_check.proofs.missed.has_view.Given as goal

abbrev pub invariant-loop-space : goal.invariant-loop-space
invariant-loop-space l =
    let x = compared_with l.map l.memory l.blocks in
    has_view x l.block (drop l.space-index l.spaces) ≡ has_view x l.block l.spaces
