use Rattle.std.proofs.Common.{length, take}
use Rattle.io_window.proofs.MoveLaws.{write_run, first_size, opened_most}
use Rattle.io_window.proofs.moves.write_first.Goals as goal

pub returns-clause-run : goal.returns-clause-run
returns-clause-run g c =
    write_run c.args.vcpu c.close-vcpu.result.vcpu c.args.space c.args.addr (length c.args.bytes.now) c.len-len.result _ c.close-vcpu.result.bounce
    c.in-Ok.window c.put.new.self (take c.len-len.result c.args.bytes.now) c.close-vcpu.result.result c.requires.entered c.in-Ok.ensures c.len-len.ensures
    (first_size c.len-len.result c.in-Ok.window.len c.args.bytes.now c.len-len.ensures
    (opened_most c.args.vcpu _ (length c.args.bytes.now) _ c.in-Ok.window c.in-Ok.ensures))
    c.put.ensures c.close-vcpu.ensures
