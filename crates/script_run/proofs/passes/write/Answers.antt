use Rattle.std.proofs.Common.{sym}
use Rattle.mem_base.specs.script.Output.{write_line}
use Rattle.mem_base.specs.script.PassSteps.{write}
use Rattle.mem_base.specs.script.States.{outcome}
use Rattle.run_laws.specs.TaskSteps.{known_state}
use Rattle.script_run.proofs.PassLaws.{pass_adds}
use Rattle.script_run.proofs.Writing.{on_ok}
use Rattle.script_run.proofs.passes.write.Goals as goal

pub returns : goal.returns
returns g c =
    let w = g.M.Machine.world c.args.machine.now in
    let v = g.M.Machine.world c.write-access.new.self in
    let a = c.write-access.ensures in
    on_ok c.add_write_line.result c.add_write_line.ensures
    (pass_adds c.args.text.now c.add_write_line.new.line _ w v (λ s. write s c.args.pass c.args.space c.args.addr c.args.bytes.now) a.keeps
    (λ k i. outcome (known_state k w) k.names (sym a.world i) (write_line c.args.pass (sym a.answer_is i))))
