use Rattle.std.proofs.Common.{◌≡◌, ◌≤◌, length, drop, false}
use Rattle.std.specs.Fmt.{digits_onto, digits}
use Rattle.script_lines.proofs.numbers.fill_hex.Given as goal

abbrev pub invariant-loop-start : goal.invariant-loop-start
invariant-loop-start l = (l.start ≤ 64) × (length l.digits ≡ 64) × (digits_onto l.start 16 false l.rest (drop l.start l.digits) ≡ digits 16 false l.number)

abbrev pub decreases-loop-start : goal.decreases-loop-start
decreases-loop-start l = l.start
