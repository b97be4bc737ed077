use Rattle.std.proofs.Common.{length}
use Rattle.io_window.proofs.MoveLaws.{read_all}
use Rattle.io_window.proofs.moves.+read_by_windows.Goals as goal

pub returns-clause-run : goal.returns-clause-run
returns-clause-run g n c =
    read_all c.args.vcpu c.read_first-first.result.vcpu c.read_by_windows-vcpu.result.0 c.args.space c.args.addr (length c.args.out.now)
    c.read_first-first.result.count c.read_first-first.result.result c.read_by_windows-vcpu.result.2 c.joined.result c.read_first-first.new.out
    c.read_by_windows-vcpu.new.out c.joined.ensures c.read_first-first.ensures.first c.if-count-out.false c.read_first-first.auto.out
    c.read_first-first.ensures.run c.read_by_windows-vcpu.ensures.run
