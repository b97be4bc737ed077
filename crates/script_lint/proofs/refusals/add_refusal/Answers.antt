use Rattle.std.proofs.Common.{◌∙◌}
use Rattle.script_lint.specs.Refusals.{taken_along_by}
use Rattle.script_lint.proofs.TextLaws.{refusal_added}
use Rattle.script_lint.proofs.refusals.add_refusal.Goals as goal

pub returns : goal.returns
returns c = refusal_added c.end.result c.args.out.now c.counted.new.self c.named.new.self c.add_since.new.out c.end.new.self c.args.one.now.words
    c.words.result.now (taken_along_by c.args.lines.now c.args.refused.now c.args.one.now) c.taken_along_by.result c.args.one.now.line c.from.result
    (c.from.ensures ∙ c.line.ensures) c.words.ensures c.taken_along_by.ensures c.in_ok-counted.ensures c.in_ok-named.ensures
    c.in_ok-add_since.ensures c.end.ensures
