use Rattle.std.proofs.Common.{rules}
use Rattle.monitor_import.specs.Drafts.{NamesAll}
use Rattle.monitor_import.proofs.DraftLaws.{whenever}
use Rattle.monitor_import.proofs.drafts.draft_by.Goals as goal

pub returns-clause-faults : goal.returns-clause-faults
returns-clause-faults c = λ tree flat e. c.tried-made.ensures.faults tree flat c.args.wanted.now

pub returns-clause-spaces : goal.returns-clause-spaces
returns-clause-spaces c = whenever c.tried-made.result (NamesAll c.args.lines.now c.args.wanted.now) (search rules, search rules)
