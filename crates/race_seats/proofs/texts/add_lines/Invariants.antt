use Rattle.std.proofs.Common.{◌≡◌, ◌≤◌, ◌++◌, drop, length}
use Rattle.std.specs.Prelude.{flat_map}
use Rattle.mem_base.specs.script.RaceLines.{said_text}
use Rattle.script_names.specs.Tables.{printed_names}
use Rattle.race_block.specs.Texts.{lines_said}
use Rattle.race_seats.proofs.texts.add_lines.Given as goal

abbrev pub invariant-loop-i : goal.invariant-loop-i
invariant-loop-i l =
    (l.text ++ flat_map (said_text (printed_names l.names) l.journal)
    (lines_said (printed_names l.names) l.pass (drop l.i l.lines) (drop l.i l.got) (drop l.at l.entries))
    ≡ l.fn.text ++ flat_map (said_text (printed_names l.names) l.journal) (lines_said (printed_names l.names) l.pass l.lines l.got l.entries))
    × (l.at ≤ l.i) × (l.i-end ≡ length l.got)
