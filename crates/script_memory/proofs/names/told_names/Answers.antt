use Rattle.std.proofs.Common.{◌∙◌, ap}
use Rattle.std.proofs.lemmas.Result.{IfOk-weaker}
use Rattle.script_names.specs.Tables.{printed_names}
use Rattle.script_memory.proofs.names.told_names.Goals as goal
use Rattle.script_map.proofs.LeftLaws.{ok_gives}

pub returns : goal.returns
returns c = IfOk-weaker c.finished.result _ _
    (λ told h. ap printed_names h.0 ∙ ok_gives c.add_names-done.result _ h.1 c.add_names-done.ensures) c.finished.ensures
