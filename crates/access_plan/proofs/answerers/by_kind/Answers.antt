use Rattle.std.proofs.Common.{sym, ◌∙◌}
use Rattle.access_plan.proofs.WhoLaws.{by_any, by_nobody_own}
use Rattle.access_plan.proofs.answerers.by_kind.Goals as goal

pub returns-then-lacks_bytes : goal.returns-then-lacks_bytes
returns-then-lacks_bytes c =
    by_nobody_own c.args.g.now.forest c.args.spot.now c.args.write c.in-Some.node.now c.in-Some.ensures.some c.args.host
    (sym c.lacks_bytes.ensures ∙ c.if-lacks_bytes.true)

pub returns : goal.returns
returns c =
    by_any c.args.g.now.forest c.args.spot.now c.args.write c.in-Some.node.now c.in-Some.ensures.some c.args.host c.at_node.result
    (sym c.lacks_bytes.ensures ∙ c.if-lacks_bytes.false) c.at_node.ensures
