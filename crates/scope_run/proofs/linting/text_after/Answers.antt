use Rattle.scope_run.proofs.linting.text_after.Goals as goal

pub returns : goal.returns
returns c = c.text_of-text.ensures
