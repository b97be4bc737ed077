use Rattle.std.proofs.Common.{ap, sym}
use Rattle.mem_base.specs.machine.World.{World}
use Rattle.mem_base.specs.script.Output.{leave_line}
use Rattle.mem_base.specs.script.PassSteps.{leave}
use Rattle.mem_base.specs.script.States.{outcome}
use Rattle.run_laws.specs.TaskSteps.{known_state}
use Rattle.script_run.proofs.PassLaws.{pass_adds}
use Rattle.script_run.proofs.Writing.{on_ok}
use Rattle.script_run.proofs.passes.leave.Goals as goal

pub returns : goal.returns
returns g c =
    let w = g.M.Machine.world c.args.machine.now in
    let v = g.M.Machine.world c.leave_first.new.machine in
    let l = c.leave_first.ensures in
    on_ok c.add_leave_line.result c.add_leave_line.ensures
    (pass_adds c.args.text.now c.add_leave_line.new.line _ w v (λ s. leave s c.args.pass) l.keeps
    (λ k. ap (λ (x : World). outcome (known_state k w) k.names x (leave_line c.args.pass)) (sym l.after)))
