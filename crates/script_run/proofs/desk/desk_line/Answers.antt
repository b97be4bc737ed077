use Rattle.std.proofs.Common.{◌++◌, ap, sym, ◌∙◌, length}
use Rattle.mem_base.specs.script.RaceLines.{said_text}
use Rattle.race_lines.specs.LineTasks.{resolved}
use Rattle.script_run.proofs.DeskLaws.{current_shown, desk_adds}
use Rattle.script_run.proofs.RunLaws.{desks_line}
use Rattle.script_run.proofs.Writing.{on_ok}
use Rattle.script_run.proofs.desk.desk_line.Goals as goal

pub returns : goal.returns
returns g c =
    let k = c.args.known.now in
    let w = g.M.Machine.world c.args.machine.now in
    let v = g.M.Machine.world c.own_order.new.machine in
    let after = c.take_line.new.self in
    let shown = current_shown v.writer.generations _ _ c.current.ensures.kept in
    let number = ap (λ x. x.number) c.deref.ensures ∙ c.current.ensures.number in
    let forest = ap (λ x. x.forest) c.deref.ensures ∙ sym shown in
    on_ok c.add_text.result c.add_text.ensures (λ text.
    desk_adds k after w v c.args.number c.args.command.now (resolved c.in_ok-task.task) c.in_ok-got.got _
    (length c.journal-from.result.now) (length c.journal-to.result.now)
    _ _ c.take_line.new.said c.args.text.now c.add_text.new.text c.requires.ready
    (desks_line k w c.args.number c.args.command.now c.requires.ready c.requires.fits c.requires.desk c.requires.par c.requires.end)
    c.in_ok-task.ensures.is c.in_ok-got.ensures.took c.in_ok-got.ensures.rest c.in_ok-got.ensures.passes c.answered.ensures
    (ap length c.journal-from.ensures) (ap length c.journal-to.ensures) number forest
    c.in_ok-take_line.ensures.known c.in_ok-take_line.ensures.said
    (text ∙ (λ i. c.args.text.now ++ said_text (c.names.ensures i) (c.journal.ensures i) c.take_line.new.said)))
