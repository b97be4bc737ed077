use Rattle.script_explain.proofs.LineLaws.{fault_begins}
use Rattle.script_explain.proofs.texts.add_bad.Goals as goal

pub returns : goal.returns
returns c = fault_begins c.add_fault.result c.args.text.now c.args.bad c.args.out.now c.add_fault.new.out c.add_fault.ensures
