use Rattle.script_laws.proofs.ScriptLaws.{printed_again}
use Rattle.script_text.proofs.printing.print.Goals as goal

pub returns-clause-again : goal.returns-clause-again
returns-clause-again c = λ fits. printed_again c.args.script.now c.lines-lines.ensures.sound fits

pub returns-in_err-text-clause-again : goal.returns-in_err-text-clause-again
returns-in_err-text-clause-again c = λ fits. printed_again c.args.script.now c.lines-lines.ensures.sound fits
