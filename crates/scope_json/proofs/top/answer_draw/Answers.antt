use Rattle.std.proofs.Common.{subst}
use Rattle.serde_json.specs.View.{view}
use Rattle.mem_base.specs.script.Spelling.{Text}
use Rattle.scope_run.specs.Scripts.{OfScript, told_by}
use Rattle.scope_run.proofs.Facts.{both_ok}
use Rattle.scope_run.proofs.FileLaws.{told_as}
use Rattle.scope_json.specs.Draws.{TellsDraw}
use Rattle.scope_json.proofs.top.answer_draw.Goals as goal

pub returns-clause-told : goal.returns-clause-told
returns-clause-told g c =
    let held = g.F.Files.held c.args.files.now in
    let script = c.as_slice.result.now in
    let text = told_as held c.args.script.now c.in_ok-text.text.items script c.as_slice.ensures.value c.in_ok-text.ensures.bytes in
    both_ok c.draw.result _ _ _ (λ a t s. (
      (
        script,
        text,
        subst (λ (n : Text). OfScript script (λ lines.
            TellsDraw (told_by script lines) n (view a.value))) c.in_ok-space.ensures t,
      ),
      s,
    )) c.draw.ensures.told c.draw.ensures.nothing
