use Rattle.std.proofs.Common.{◌≡◌, ◌++◌, ap, ◌∙◌, length, drop}
use Rattle.mem_base.specs.script.Named.{Names}
use Rattle.mem_base.specs.script.Output.{told_lines}
use Rattle.mem_base.specs.script.RaceLines.{do_text}
use Rattle.mem_base.specs.script.States.{heard}
use Rattle.script_run.proofs.PassLaws.{order_adds}
use Rattle.script_run.proofs.Writing.{on_ok}
use Rattle.script_run.proofs.passes.order_by.Goals as goal

pub returns : goal.returns
returns g c =
    let k = c.args.known.now in
    let w = g.M.Machine.world c.args.machine.now in
    let v = g.M.Machine.world c.ask.new.machine in
    let old = c.args.text.now in
    let answer = c.in_ok-answer.answer in
    let own : c.add_do_answer.new.line ≡ old ++ do_text k.names c.args.number c.args.pass answer =
    c.in_ok-add_do_answer.ensures ∙ ap (λ (names : Names). old ++ do_text names c.args.number c.args.pass answer) c.names.ensures in
    let told : c.later.result.now ≡ heard w v = c.later.ensures ∙ (λ i. drop (length (c.journal-from.ensures i)) (c.journal.ensures i)) in
    on_ok c.add_told_lines.result c.add_told_lines.ensures (λ text.
    order_adds k w v c.args.pass c.args.number c.args.order.now answer old c.add_told_lines.new.line c.requires.ready c.requires.change
    c.in_ok-answer.ensures (text ∙ (λ i. own i ++ told_lines (c.names-2.ensures i) (told i))))
