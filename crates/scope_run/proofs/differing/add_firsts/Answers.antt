use Rattle.std.proofs.Common.{[], ◌<◌, ap, subst, ◌∙◌, length}
use Rattle.mem_base.specs.script.Named.{Names, name_at}
use Rattle.script_names.specs.Tables.{Table}
use Rattle.scope_run.specs.Diffs.{TellsFirst}
use Rattle.scope_run.proofs.Parts.{grown_more}
use Rattle.scope_run.proofs.differing.add_firsts.Goals as goal

pub loop-number-preserved : goal.loop-number-preserved
loop-number-preserved c =
    let part = c.in_ok-add_first.ensures in
    let near = subst (λ n. c.loop-number.number < n) (c.in_ok-number-end.ensures ∙ ap (λ (n : Names). length n.spaces) c.names-names.ensures)
    c.loop-number-test.true in
    let called = c.name_at.ensures ∙ ap (λ (t : Table). name_at t.made c.loop-number.number) c.spaces-spaces.ensures
    ∙ ap (λ (n : Names). name_at n.spaces c.loop-number.number) c.names-names.ensures in
    grown_more (TellsFirst c.args.first.now.state c.args.second.now.state) c.args.first.now.state.names.spaces c.loop-number.number []
    c.name_at.result.now c.args.text.now c.loop-number.text c.add_first.new.text part.0 near called c.loop-number.invariant part.1 part.2
