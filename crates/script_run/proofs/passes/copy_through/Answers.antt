use Rattle.std.proofs.Common.{length}
use Rattle.mem_base.specs.access.AccessSteps.{reading, writing}
use Rattle.mem_base.specs.script.PassSteps.{copy}
use Rattle.run_laws.specs.TaskSteps.{known_state}
use Rattle.world_laws.proofs.PassKeeping.{keeps_then}
use Rattle.script_run.proofs.PassLaws.{copied, pass_adds, still_entered}
use Rattle.script_run.proofs.Writing.{on_ok}
use Rattle.script_run.proofs.passes.copy_through.Goals as goal

pub returns : goal.returns
returns g c =
    let w = g.M.Machine.world c.args.machine.now in
    let pass = c.args.pass in
    let u = g.M.Machine.world c.enter_unless-entered.new.machine in
    let v = g.M.Machine.world c.read-read.new.self in
    let q = g.M.Machine.world c.write-written.new.self in
    let z = g.M.Machine.world c.leave_unless.new.machine in
    let e = c.enter_unless-entered.ensures in
    let l = c.leave_unless.ensures in
    on_ok c.add_dma_line.result (rw c.either.ensures at c.add_dma_line.ensures)
    (pass_adds c.args.text.now c.add_dma_line.new.line _ w z
    (λ s. copy s pass c.args.space c.args.addr (length c.args.out.now) c.args.to_space c.args.to_addr)
    (keeps_then w u z e.keeps (keeps_then u v z c.read-read.ensures.keeps (keeps_then v q z c.write-written.ensures.keeps l.keeps)))
    (λ k. copied (known_state k w) pass c.args.space c.args.addr _ c.args.to_space c.args.to_addr _ u v q z _ _ _ _ e.was e.after
    c.read-read.ensures c.write-written.ensures l.after))

pub leave_unless-requires : goal.leave_unless-requires
leave_unless-requires g c =
    let pass = c.args.pass in
    let u = g.M.Machine.world c.enter_unless-entered.new.machine in
    let v = g.M.Machine.world c.read-read.new.self in
    let q = g.M.Machine.world c.write-written.new.self in
    still_entered v q pass c.args.to_space c.args.to_addr (writing c.read-read.new.out) c.write-written.ensures.world
    (still_entered u v pass c.args.space c.args.addr (reading (length c.args.out.now)) c.read-read.ensures.world
    c.enter_unless-entered.ensures.inside)
