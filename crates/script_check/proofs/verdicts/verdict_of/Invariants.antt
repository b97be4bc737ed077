use Rattle.std.proofs.Common.{◌≡◌, drop}
use Rattle.script_names.specs.Tables.{printed_names}
use Rattle.script_check.specs.Verdicts.{first_verdict, verdict_from}
use Rattle.script_check.proofs.verdicts.verdict_of.Given as goal

abbrev pub invariant-loop-number : goal.invariant-loop-number
invariant-loop-number l =
    let from = verdict_from (printed_names l.names) l.memory l.name l.view in
    first_verdict l.verdict (from l.number (drop l.number l.blocks)) ≡ from 0 l.blocks
