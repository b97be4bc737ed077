use Rattle.std.proofs.Common.{◌≡◌, ◌++◌, drop}
use Rattle.std.specs.Prelude.{flat_map}
use Rattle.mem_base.specs.script.RaceLines.{said_text}
use Rattle.script_names.specs.Tables.{printed_names}
use Rattle.race_seats.proofs.texts.add_said.Given as goal

abbrev pub invariant-loop-line : goal.invariant-loop-line
invariant-loop-line l = l.text ++ flat_map (said_text (printed_names l.names) l.journal) (drop l.line-index l.said)
    ≡ l.fn.text ++ flat_map (said_text (printed_names l.names) l.journal) l.said
