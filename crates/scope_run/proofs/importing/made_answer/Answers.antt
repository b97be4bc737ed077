use Rattle.scope_run.proofs.MonitorLaws.{tells_import}
use Rattle.scope_run.proofs.importing.made_answer.Goals as goal

pub returns-clause-told : goal.returns-clause-told
returns-clause-told c = tells_import c.args.made.now.text.items c.in_ok-answer.answer.text c.args.made.now.refused c.in_ok-answer.answer.something
    c.requires c.in_ok-answer.ensures.text c.in_ok-answer.ensures.something
