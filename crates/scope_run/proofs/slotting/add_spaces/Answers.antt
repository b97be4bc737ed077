use Rattle.std.proofs.Common.{[], ◌<◌, ap, subst, ◌∙◌, length}
use Rattle.mem_base.specs.script.Named.{Names, name_at}
use Rattle.mem_base.specs.script.States.{space_named}
use Rattle.script_map.specs.Left.{all_shown}
use Rattle.script_names.specs.Tables.{Table}
use Rattle.scope_run.specs.Tables.{TellsSlotsOf}
use Rattle.scope_run.proofs.Parts.{grown_more}
use Rattle.scope_run.proofs.slotting.add_spaces.Goals as goal

pub loop-number-preserved : goal.loop-number-preserved
loop-number-preserved c =
    let part = c.in_ok-add_named.ensures in
    let near = subst (λ n. c.loop-number.number < n) (c.in_ok-number-end.ensures ∙ ap (λ (n : Names). length n.spaces) c.names-names.ensures)
    c.loop-number-test.true in
    let called = c.name_at.ensures ∙ ap (λ (t : Table). name_at t.made c.loop-number.number) c.spaces-spaces.ensures
    ∙ ap (λ (n : Names). name_at n.spaces c.loop-number.number) c.names-names.ensures in
    grown_more (λ name here. TellsSlotsOf c.args.map.now.state.names (all_shown c.args.published.now)
    (space_named c.args.map.now.state name) here) c.args.map.now.state.names.spaces c.loop-number.number []
    c.name_at.result.now c.args.text.now c.loop-number.text c.add_named.new.text part.0 near called c.loop-number.invariant part.1 part.2
