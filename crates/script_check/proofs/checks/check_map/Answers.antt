use Rattle.script_check.proofs.CheckLaws.{is_told}
use Rattle.script_check.proofs.checks.check_map.Goals as goal

pub returns-clause-told : goal.returns-clause-told
returns-clause-told c = is_told c.args.map.now c.args.blocks.now c.memory.result.now c.in_ok-checked.checked.text
    c.in_ok-checked.checked.differs c.memory.ensures c.in_ok-checked.ensures.text c.in_ok-checked.ensures.differs
