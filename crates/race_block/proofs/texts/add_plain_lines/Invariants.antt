use Rattle.std.proofs.Common.{◌≡◌, ◌++◌, drop, length}
use Rattle.race_block.specs.Texts.{plain_texts}
use Rattle.race_block.proofs.texts.add_plain_lines.Given as goal

abbrev pub invariant-loop-i : goal.invariant-loop-i
invariant-loop-i l =
    (l.text ++ plain_texts l.pass (drop l.i l.lines) (drop l.i l.got) ≡ l.fn.text ++ plain_texts l.pass l.lines l.got) × (l.i-end ≡ length l.got)
