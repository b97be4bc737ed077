use Rattle.dirty_log.proofs.PageLaws.{apart}
use Rattle.dirty_log.proofs.pages.marks_are_apart.Goals as goal

pub returns : goal.returns
returns c = apart
