use Rattle.rand_pcg.specs.Pcg.{pcg32}
use Rattle.script_make.proofs.Steps.{byte_turn, bytes_begun, bytes_ended}
use Rattle.script_make.proofs.accesses.draw_bytes.Goals as goal

pub loop-i-init : goal.loop-i-init
loop-i-init c = bytes_begun pcg32 c.args.count c.new-bytes.result.items c.args.rng.now c.new-bytes.ensures.items

pub loop-i-preserved : goal.loop-i-preserved
loop-i-preserved c =
    byte_turn pcg32 c.args.count c.loop-i.i c.loop-i.bytes.items c.push.new.self.items c.draw_byte-byte.result c.loop-i.rng c.draw_byte-byte.new.rng _
    c.loop-i-test.true c.in_ok-push.ensures.items c.draw_byte-byte.ensures c.loop-i.invariant

pub returns : goal.returns
returns c = bytes_ended pcg32 c.args.count c.loop-i.i c.loop-i.bytes.items c.loop-i.rng _ c.loop-i-test.false c.loop-i.invariant
