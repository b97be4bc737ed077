use Rattle.std.proofs.Common.{codes}
use Rattle.script_lint.proofs.TextLaws.{line_added}
use Rattle.script_lint.proofs.transactions.add_open.Goals as goal

pub returns : goal.returns
returns c = line_added c.end.result c.args.out.now c.counted.new.self c.text.new.self c.end.new.self (codes "line ")
    (codes " opens a transaction that no commit closes, so no change after it is published") c.args.number c.from.result c.from.ensures
    c.in_ok-counted.ensures c.in_ok-text.ensures c.end.ensures
