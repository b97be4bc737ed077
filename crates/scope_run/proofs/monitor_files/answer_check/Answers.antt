use Rattle.std.proofs.Common.{subst}
use Rattle.std.proofs.lemmas.Result.{IfOk-weaker}
use Rattle.scope_run.specs.Files.{Tells}
use Rattle.scope_run.specs.Requests.{Holding}
use Rattle.scope_run.proofs.FileLaws.{told_as}
use Rattle.scope_run.proofs.MonitorLaws.{check_fails}
use Rattle.scope_run.proofs.monitor_files.answer_check.Goals as goal
use Rattle.mem_base.proofs.OptionLaws.{if_err}

pub returns-clause-told : goal.returns-clause-told
returns-clause-told g c =
    let held = g.F.Files.held c.args.files.now in
    let old = told_as held c.args.script.now c.in_ok-first.first.items c.as_slice.result.now c.as_slice.ensures.value c.in_ok-first.ensures.bytes in
    let new = told_as held c.args.flat.now c.in_ok-second.second.items c.as_slice-2.result.now c.as_slice-2.ensures.value
    (subst (λ (h : Holding). Tells (h c.args.flat.now) c.in_ok-second.second.items) c.in_ok-first.ensures.same c.in_ok-second.ensures.bytes) in
    IfOk-weaker c.check.result _ _ (λ a t. (c.as_slice.result.now, old, (c.as_slice-2.result.now, new, t))) c.check.ensures.told

pub returns-clause-fails : goal.returns-clause-fails
returns-clause-fails g c =
    let held = g.F.Files.held c.args.files.now in
    let old = told_as held c.args.script.now c.in_ok-first.first.items c.as_slice.result.now c.as_slice.ensures.value c.in_ok-first.ensures.bytes in
    let new = told_as held c.args.flat.now c.in_ok-second.second.items c.as_slice-2.result.now c.as_slice-2.ensures.value
    (subst (λ (h : Holding). Tells (h c.args.flat.now) c.in_ok-second.second.items) c.in_ok-first.ensures.same c.in_ok-second.ensures.bytes) in
    if_err _ _ c.check.result (λ fault x. check_fails held _ c.args.script.now c.args.flat.now c.as_slice.result.now c.as_slice-2.result.now fault
    old new x) c.check.ensures.fails
