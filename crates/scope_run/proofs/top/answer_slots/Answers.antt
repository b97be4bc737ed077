use Rattle.scope_run.proofs.Facts.{both_ok}
use Rattle.scope_run.proofs.FileLaws.{told_as}
use Rattle.scope_run.proofs.top.answer_slots.Goals as goal

pub returns-clause-told : goal.returns-clause-told
returns-clause-told g c =
    let held = g.F.Files.held c.args.files.now in
    let text = told_as held c.args.script.now c.in_ok-text.text.items c.as_slice.result.now c.as_slice.ensures.value c.in_ok-text.ensures.bytes in
    both_ok c.slots.result _ _ _ (λ a t s. ((c.as_slice.result.now, text, t), s)) c.slots.ensures.told c.slots.ensures.nothing
