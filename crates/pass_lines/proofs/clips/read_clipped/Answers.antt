use Rattle.pass_lines.proofs.ClipLaws.{read_whole}
use Rattle.pass_lines.proofs.clips.read_clipped.Goals as goal

pub returns-then-below-out-clause-run : goal.returns-then-below-out-clause-run
returns-then-below-out-clause-run g c =
    read_whole c.args.vcpu c.in_made_forest-vcpu.result c.read_by_windows-vcpu.result.0 c.args.space c.args.addr c.below_end-below.result c.args.out.now
    c.read_by_windows-vcpu.new.out c.fill.new.self c.read_by_windows-vcpu.result.2 c.joined.result c.in_made_forest-vcpu.ensures.same
    c.in_made_forest-vcpu.ensures.made c.below_end-below.ensures.most c.if-below-out.true c.below_end-below.ensures.all c.below_end-below.ensures.past
    c.read_by_windows-vcpu.auto.out c.read_by_windows-vcpu.ensures.run c.joined.ensures (c.fill.ensures.after (λ y e. cc))
