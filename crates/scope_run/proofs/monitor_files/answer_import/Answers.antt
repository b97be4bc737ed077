use Rattle.std.proofs.Common.{subst, option_map, List, sym, ◌∙◌}
use Rattle.mem_base.specs.script.Spelling.{Text}
use Rattle.scope_run.specs.Imports.{FailsImport}
use Rattle.scope_run.specs.Requests.{Holding, TellsIfNamed}
use Rattle.scope_run.proofs.FileLaws.{told_as}
use Rattle.scope_run.proofs.MonitorLaws.{import_fails}
use Rattle.scope_run.proofs.monitor_files.answer_import.Goals as goal
use Rattle.mem_base.proofs.OptionLaws.{if_err}

pub returns-clause-fails : goal.returns-clause-fails
returns-clause-fails g c =
    let held = g.F.Files.held c.args.files.now in
    let name = option_map (λ n. n.now) c.args.flat in
    let old = told_as held c.args.tree.now c.in_ok-first.first.items c.as_slice.result.now c.as_slice.ensures.value c.in_ok-first.ensures.bytes in
    let new = subst (TellsIfNamed held name) (sym c.as_slice-2.ensures.value)
    (subst (λ (h : Holding). TellsIfNamed h name c.in_ok-second.second.items) c.in_ok-first.ensures.same c.in_ok-second.ensures.bytes) in
    let spaces = option_map (λ s. s.now) c.args.spaces in
    let wanted = c.as_slice-3.ensures.value ∙ c.in_ok-wanted.ensures in
    if_err _ _ c.import.result (λ fault x. import_fails held _ c.args.tree.now name spaces c.as_slice.result.now c.as_slice-2.result.now fault
    old new (subst (λ (names : List Text). FailsImport c.as_slice.result.now c.as_slice-2.result.now names fault) wanted x)) c.import.ensures.fails
