use Rattle.std.proofs.Common.{rules}
use Rattle.monitor_import.proofs.DraftLaws.{named_by_text}
use Rattle.monitor_import.proofs.drafts.draft.Goals as goal

pub returns-clause-faults : goal.returns-clause-faults
returns-clause-faults c = c.draft_in-made.ensures.faults c.args.tree.now (search rules)

pub returns-clause-spaces : goal.returns-clause-spaces
returns-clause-spaces c = named_by_text c.draft_in-made.result c.args.tree.now c.args.wanted.now c.deref.result.now (search rules) c.draft_in-made.ensures.spaces
