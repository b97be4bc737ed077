use Rattle.std.proofs.Common.{◌≡◌, ◌+◌, drop}
use Rattle.std.specs.List.{prefix_len}
use Rattle.race_phases.specs.Plain.{is_plain}
use Rattle.race_phases.proofs.parts.plain_lines.Given as goal

abbrev pub invariant-loop-line : goal.invariant-loop-line
invariant-loop-line l =
    (l.count ≡ l.line-index) × (l.count + prefix_len (λ line. is_plain line.1) (drop l.line-index l.lines) ≡ prefix_len (λ line. is_plain line.1) l.lines)
