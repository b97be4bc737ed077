use Rattle.std.proofs.Common.{Err, ap, refl}
use Rattle.scope_run.proofs.monitor_files.monitor_in.Goals as goal

pub returns-in-Err-Failed-clause-unread : goal.returns-in-Err-Failed-clause-unread
returns-in-Err-Failed-clause-unread g c = c.in-Err-Failed.ensures.failed (ap Err c.in-Err-Failed.field-0-is)

pub returns-in-Err-Long-clause-unread : goal.returns-in-Err-Long-clause-unread
returns-in-Err-Long-clause-unread g c = (refl, c.in-Err-Long.ensures.long (ap Err c.in-Err-Long.field-0-is))
