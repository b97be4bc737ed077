use Rattle.std.proofs.Common.{rules}
use Rattle.monitor_text.proofs.LineLaws.{takes_fault, takes_next}
use Rattle.monitor_text.proofs.lines.put_flat.Goals as goal

pub returns-in_ok-push-in-Ok : goal.returns-in_ok-push-in-Ok
returns-in_ok-push-in-Ok c = takes_next c.args.number _ c.in-Ok.line c.args.lines.now.items c.push.new.self.items (search rules) (search rules)

pub returns-in-Err-Bad : goal.returns-in-Err-Bad
returns-in-Err-Bad c = takes_fault c.args.number _ c.args.lines.now.items c.args.lines.now.items (search rules)
