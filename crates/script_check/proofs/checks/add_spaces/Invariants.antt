use Rattle.std.proofs.Common.{◌≡◌, ◌++◌, ◌||◌, drop}
use Rattle.script_check.specs.Checks.{compared_with, some_differs, spaces_text}
use Rattle.script_check.proofs.checks.add_spaces.Given as goal

abbrev pub invariant-loop-space : goal.invariant-loop-space
invariant-loop-space l =
    let x = compared_with l.map l.memory l.blocks in
    (l.text ++ spaces_text x (drop l.space-index l.spaces) ≡ l.fn.text ++ spaces_text x l.spaces)
    × ((l.differs || some_differs x (drop l.space-index l.spaces)) ≡ some_differs x l.spaces)
