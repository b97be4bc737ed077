use Rattle.io_window.proofs.MoveLaws.{write_all}
use Rattle.io_window.proofs.moves.+write_by_windows.Goals as goal

pub returns-clause-run : goal.returns-clause-run
returns-clause-run g n c =
    write_all c.args.vcpu c.write_first-first.result.vcpu c.write_by_windows-vcpu.result.0 c.args.space c.args.addr
    c.write_first-first.result.count c.write_first-first.result.result c.write_by_windows-vcpu.result.2 c.joined.result c.args.bytes.now
    c.joined.ensures c.write_first-first.ensures.first c.if-count-bytes.false c.write_first-first.ensures.run c.write_by_windows-vcpu.ensures.run
