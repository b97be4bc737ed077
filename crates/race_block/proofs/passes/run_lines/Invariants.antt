use Rattle.std.proofs.Common.{◌≡◌, length}
use Rattle.race_block.specs.Lines.{IsUnderway}
use Rattle.race_block.proofs.passes.run_lines.Given as goal

abbrev pub invariant-loop-at : goal.invariant-loop-at
invariant-loop-at g l = IsUnderway l.fn.lines.items l.fn.clerk l.fn.vcpu l.at l.clerk l.vcpu l.got.items × (l.bounce ≡ l.fn.bounce)
    × (g.O.Orderly.cabinet l.desk ≡ l.fn.vcpu.cabinet) × (l.at-end ≡ length l.fn.lines.items)
