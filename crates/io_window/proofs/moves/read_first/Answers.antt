use Rattle.std.proofs.Common.{length, ◌∙◌}
use Rattle.io_window.proofs.MoveLaws.{read_run, first_size, opened_most}
use Rattle.io_window.proofs.moves.read_first.Goals as goal

pub returns-clause-run : goal.returns-clause-run
returns-clause-run g c =
    read_run c.args.vcpu c.close-vcpu.result.vcpu c.args.space c.args.addr (length c.args.out.now) 0 c.len-count.result _ c.close-vcpu.result.bounce
    c.in-Ok.window c.get.new.self c.get.new.out _ c.close-vcpu.result.result c.requires.entered c.in-Ok.ensures c.len-count.ensures
    (c.get.auto.out ∙ first_size c.len-count.result c.in-Ok.window.len c.args.out.now c.len-count.ensures
    (opened_most c.args.vcpu _ (length c.args.out.now) _ c.in-Ok.window c.in-Ok.ensures))
    c.get.ensures c.close-vcpu.ensures
