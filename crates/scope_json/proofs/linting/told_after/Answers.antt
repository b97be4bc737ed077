use Rattle.scope_json.proofs.linting.told_after.Goals as goal

pub returns-clause-data : goal.returns-clause-data
returns-clause-data c = c.told_of-told.ensures.data

pub returns-clause-mends : goal.returns-clause-mends
returns-clause-mends c = c.told_of-told.ensures.mends
