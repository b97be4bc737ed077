use Rattle.json_build.specs.Parts.{with_field}
use Rattle.json_build.proofs.fields.Fields.value.Goals as goal

pub returns : goal.returns
unfolding with_field
returns c = c.put.ensures.ok
