use Rattle.std.proofs.Common.{sym, length}
use Rattle.mem_base.specs.script.Output.{read_line}
use Rattle.mem_base.specs.script.PassSteps.{read}
use Rattle.mem_base.specs.script.States.{outcome}
use Rattle.run_laws.specs.TaskSteps.{known_state}
use Rattle.script_run.proofs.PassLaws.{pass_adds}
use Rattle.script_run.proofs.Writing.{on_ok}
use Rattle.script_run.proofs.passes.read_into.Goals as goal

pub returns : goal.returns
returns g c =
    let w = g.M.Machine.world c.args.machine.now in
    let v = g.M.Machine.world c.read-access.new.self in
    let a = c.read-access.ensures in
    on_ok c.add_read_line.result c.add_read_line.ensures
    (pass_adds c.args.text.now c.add_read_line.new.line _ w v (λ s. read s c.args.pass c.args.space c.args.addr (length c.args.out.now)) a.keeps
    (λ k i. outcome (known_state k w) k.names (sym a.world i) (read_line c.args.pass (sym a.answer_is i) (sym a.bytes_are i))))
