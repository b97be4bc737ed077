use Rattle.std.proofs.Common.{codes}
use Rattle.mem_base.specs.script.Printing.{device_kind_text, flag_tokens, range_tokens, regs_tokens}
use Rattle.script_lines.proofs.Tokens.{six_parts}
use Rattle.script_lines.proofs.commands.push_device.Goals as goal

pub returns : goal.returns
returns c =
    let d = c.args.device in
    rw (
      c.in_ok-push_flag-3.ensures,
      c.in_ok-push_flag-2.ensures,
      c.in_ok-push_flag.ensures,
      c.in_ok-push_range-2.ensures,
      c.in_ok-push_range.ensures,
      c.in_ok-push_regs.ensures,
      c.in_ok-push_word.ensures,
      c.device_kind_text.ensures,
    )
    (six_parts c.args.text.now.items (device_kind_text d.kind) (regs_tokens d.regs) (range_tokens (codes "valid") (d.ops.valid_min, d.ops.valid_max))
    (range_tokens (codes "impl") (d.ops.impl_min, d.ops.impl_max)) (flag_tokens (codes "vunaligned") d.ops.valid_unaligned)
    (flag_tokens (codes "iunaligned") d.ops.impl_unaligned) (flag_tokens (codes "big") d.ops.big))
