use Rattle.std.proofs.Common.{true, false, ◌∙◌}
use Rattle.vcpu_pass.proofs.CallLaws.{refused_bytes, written_bytes}
use Rattle.vcpu_pass.proofs.HandLaws.{eight, partial_is}
use Rattle.vcpu_pass.proofs.accesses.write8.Goals as goal

pub returns-then-not-whole : goal.returns-then-not-whole
returns-then-not-whole c =
    refused_bytes c.enter_unless-entered.result c.args.pass.now c.enter_unless-entered.new.pass c.leave_unless.new.pass
    c.args.space c.args.addr c.args.value c.leave_unless.result c.to_le_bytes-bytes.result (c.to_le_bytes-bytes.ensures ∙ eight c.args.value)
    c.enter_unless-entered.ensures
    (partial_is c.generation.result.now c.enter_unless-entered.new.pass c.args.space c.args.addr c.to_le_bytes-bytes.result c.is_whole-whole.result false
    c.generation.ensures c.is_whole-whole.ensures c.if-not-whole.true) c.leave_unless.ensures

pub write_whole_entered-result-requires-clause-whole : goal.write_whole_entered-result-requires-clause-whole
write_whole_entered-result-requires-clause-whole c =
    partial_is c.generation.result.now c.enter_unless-entered.new.pass c.args.space c.args.addr c.to_le_bytes-bytes.result c.is_whole-whole.result true
    c.generation.ensures c.is_whole-whole.ensures c.if-not-whole.false

pub returns : goal.returns
returns c =
    written_bytes c.enter_unless-entered.result c.args.pass.now c.enter_unless-entered.new.pass c.write_whole_entered-result.new.pass
    c.leave_unless-number.new.pass
    c.args.space c.args.addr c.args.value c.leave_unless-number.result c.write_whole_entered-result.result c.to_le_bytes-bytes.result
    (c.to_le_bytes-bytes.ensures ∙ eight c.args.value) c.enter_unless-entered.ensures
    (partial_is c.generation.result.now c.enter_unless-entered.new.pass c.args.space c.args.addr c.to_le_bytes-bytes.result c.is_whole-whole.result true
    c.generation.ensures c.is_whole-whole.ensures c.if-not-whole.false)
    c.write_whole_entered-result.ensures.result c.write_whole_entered-result.ensures.done c.leave_unless-number.ensures
