use Rattle.std.proofs.Common.{subst}
use Rattle.scope_run.specs.Files.{Tells}
use Rattle.scope_run.specs.Requests.{Holding}
use Rattle.scope_run.proofs.FileLaws.{told_as}
use Rattle.scope_json.proofs.top.answer_diff.Goals as goal
use Rattle.std.proofs.lemmas.Result.{IfOk-weaker}

pub returns-clause-told : goal.returns-clause-told
returns-clause-told g c =
    let held = g.F.Files.held c.args.files.now in
    let old = told_as held c.args.first.now c.in_ok-old.old.items c.as_slice.result.now c.as_slice.ensures.value c.in_ok-old.ensures.bytes in
    let new = told_as held c.args.second.now c.in_ok-new.new.items c.as_slice-2.result.now c.as_slice-2.ensures.value
    (subst (λ (h : Holding). Tells (h c.args.second.now) c.in_ok-new.new.items) c.in_ok-old.ensures.same c.in_ok-new.ensures.bytes) in
    IfOk-weaker c.diff.result _ _ (λ a t. (c.as_slice.result.now, old, (c.as_slice-2.result.now, new, t))) c.diff.ensures.told
