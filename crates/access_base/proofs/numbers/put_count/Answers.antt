use Rattle.std.proofs.Common.{◌≡◌, length, arith}
use Rattle.access_base.proofs.ByteLaws.{put_more, put_all}
use Rattle.access_base.proofs.numbers.put_count.Goals as goal

pub loop-i-preserved : goal.loop-i-preserved
loop-i-preserved c =
    put_more c.args.number c.args.size c.args.big c.loop-i.out c.loop-i.i c.byte_of.result (omega (arith, c.loop-i-test.true, c.loop-i.auto.out, c.requires.count))
    c.byte_of.ensures c.loop-i.invariant

pub returns : goal.returns
returns c =
    let count : c.args.count ≡ length c.args.out.now = c.requires.count in
    put_all c.args.number c.args.size c.args.big c.loop-i.out (length c.args.out.now) c.loop-i.i c.loop-i.auto.out
    (omega (arith, c.loop-i-test.false, count)) (omega (arith, c.loop-i.auto.i-end, count)) c.requires.fits c.loop-i.invariant
