use Rattle.std.proofs.Common.{rules, ◌≤◌, length, drop}
use Rattle.race_block.proofs.TextLaws.{all_written}
use Rattle.race_block.proofs.texts.add_plain_lines.Goals as goal

pub returns : goal.returns
returns c =
    let done : length c.args.got.now ≤ c.loop-i.i = search rules in
    all_written c.args.pass c.loop-i.i (drop c.loop-i.i c.args.lines.now) c.args.got.now c.loop-i.text _ done c.loop-i.invariant.0
