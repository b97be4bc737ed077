use Rattle.std.proofs.Common.{rules, ◌≤◌, length, drop}
use Rattle.script_names.specs.Tables.{printed_names}
use Rattle.race_seats.proofs.TextLists.{no_clerk}
use Rattle.race_seats.proofs.texts.add_actors.Goals as goal

pub returns-then-i-clerks : goal.returns-then-i-clerks
returns-then-i-clerks c =
    let past : length c.args.clerks.now ≤ c.loop-i.i = search rules in
    no_clerk (printed_names c.args.names.now) c.args.journal.now c.loop-i.i (drop c.loop-i.i c.args.actors.now) c.args.clerks.now c.loop-i.text _ past
    c.loop-i.invariant.0
