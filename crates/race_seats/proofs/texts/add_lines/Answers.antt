use Rattle.std.proofs.Common.{rules, ◌≤◌, length, drop}
use Rattle.script_names.specs.Tables.{printed_names}
use Rattle.race_seats.proofs.TextLists.{all_done}
use Rattle.race_seats.proofs.texts.add_lines.Goals as goal

pub returns : goal.returns
returns c =
    let done : length c.args.got.now ≤ c.loop-i.i = search rules in
    all_done (printed_names c.args.names.now) c.args.journal.now c.args.pass c.loop-i.i (drop c.loop-i.i c.args.lines.now) c.args.got.now
    (drop c.loop-i.at c.args.entries.now) c.loop-i.text _ done c.loop-i.invariant.0
