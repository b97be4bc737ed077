use Rattle.std.proofs.lemmas.Result.{IfOk-weaker}
use Rattle.script_check.proofs.CheckLaws.{memory_explains, told_of_text}
use Rattle.script_check.proofs.checks.check_blocks.Goals as goal
use Rattle.mem_base.proofs.OptionLaws.{if_err}

pub returns-in-Ok-clause-told : goal.returns-in-Ok-clause-told
returns-in-Ok-clause-told c = IfOk-weaker c.check_map-checked.result _ _
    (λ x t. told_of_text c.args.script.now c.in-Ok.map c.args.blocks.now x.text x.differs c.in-Ok.ensures.map t) c.check_map-checked.ensures.told

pub returns-in-Ok-clause-faults : goal.returns-in-Ok-clause-faults
returns-in-Ok-clause-faults c = λ flat.
    if_err _ _ c.check_map-checked.result (λ fault e. memory_explains c.args.script.now flat fault e) c.check_map-checked.ensures.fails
