use Rattle.script_explain.proofs.LineLaws.{fault_told}
use Rattle.script_explain.proofs.texts.add_fault.Goals as goal

pub returns : goal.returns
returns c = fault_told c.add_parts.result c.args.text.now c.args.bad c.line_at-line.result.now c.in_ok-mark.mark _ c.args.out.now c.add_parts.new.out
    c.line_at-line.ensures c.in_ok-mark.ensures c.add_parts.ensures
