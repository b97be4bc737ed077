use Rattle.std.proofs.Common.{◌≡◌, length}
use Rattle.race_block.specs.Lines.{IsTold}
use Rattle.race_block.proofs.plain.do_all_plain.Given as goal

abbrev pub invariant-loop-at : goal.invariant-loop-at
invariant-loop-at g l = IsTold l.names l.lines l.fn.clerk l.fn.vcpu l.at l.clerk l.vcpu l.text × (l.bounce ≡ l.fn.bounce)
    × (g.O.Orderly.cabinet l.desk ≡ l.fn.vcpu.cabinet) × (l.at-end ≡ length l.lines)
    × (l.spaces ≡ l.names)
