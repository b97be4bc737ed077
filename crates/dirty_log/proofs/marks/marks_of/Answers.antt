use Rattle.std.proofs.Common.{ap, ◌∙◌, arith}
use Rattle.dirty_log.specs.MarksLeft.{marks_left}
use Rattle.dirty_log.proofs.MarkLaws.{marks_at_first}
use Rattle.dirty_log.proofs.marks.marks_of.Goals as goal

pub returns : goal.returns
returns c = ap (λ m. marks_left c.args.log c.last_page.result m) c.first_mark.ensures
    ∙ marks_at_first c.args.log c.args.offset c.args.len c.last_page.result (omega (arith, c.if-len-eq0.false)) c.last_page.ensures
