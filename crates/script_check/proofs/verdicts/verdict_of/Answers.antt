use Rattle.std.proofs.Common.{◌≤◌, ◌∙◌, arith, length, sym}
use Rattle.script_names.specs.Tables.{printed_names}
use Rattle.script_check.specs.Verdicts.{verdict_from}
use Rattle.script_check.proofs.VerdictLaws.{at_end, same_is_printed}
use Rattle.script_check.proofs.verdicts.verdict_of.Goals as goal

pub returns-clause-same : goal.returns-clause-same
returns-clause-same c =
    let names = printed_names c.args.names.now in
    let all : length c.args.blocks.now ≤ c.loop-number.number = omega (arith, c.loop-number-test.false, c.loop-number.auto.number-end) in
    let whole = at_end names c.args.memory.now c.args.name.now c.args.view.now c.loop-number.verdict c.loop-number.number c.args.blocks.now
    (verdict_from names c.args.memory.now c.args.name.now c.args.view.now 0 c.args.blocks.now) all c.loop-number.invariant in
    λ e. same_is_printed names c.args.memory.now c.args.name.now c.args.view.now 0 c.args.blocks.now (sym whole ∙ e)
