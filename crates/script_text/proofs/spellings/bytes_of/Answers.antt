use Rattle.std.proofs.Common.{sym, ◌∙◌}
use Rattle.script_text.proofs.Bytes.{next_pair}
use Rattle.script_text.proofs.spellings.bytes_of.Goals as goal

pub loop-high-preserved : goal.loop-high-preserved
loop-high-preserved c =
    rw c.in_ok-push-in-Some-byte_of.ensures.items
    (next_pair c.loop-high.bytes.items c.loop-high.left.now c.in-Some.rest.now c.args.text.now c.in-Some.high c.in-Some.low c.in-Some-byte_of.byte
    c.in-Some.ensures (sym c.byte_of.ensures ∙ c.in-Some-byte_of.is) c.loop-high.invariant)
