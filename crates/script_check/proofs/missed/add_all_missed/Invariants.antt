use Rattle.std.proofs.Common.{◌≡◌, ◌++◌, ◌||◌, drop}
use Rattle.script_check.specs.Checks.{compared_with, missed_text, some_missed}
use Rattle.script_check.proofs.missed.add_all_missed.Given as goal

abbrev pub invariant-loop-block : goal.invariant-loop-block
invariant-loop-block l =
    let x = compared_with l.map l.memory l.blocks in
    (l.text ++ missed_text x l.spaces (drop l.block-index l.blocks) ≡ l.fn.text ++ missed_text x l.spaces l.blocks)
    × ((l.missed || some_missed x l.spaces (drop l.block-index l.blocks)) ≡ some_missed x l.spaces l.blocks)
