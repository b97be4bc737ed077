use Rattle.script_lines.proofs.commands.push_change.Goals as goal

pub returns-in-Unmergeable : goal.returns-in-Unmergeable
returns-in-Unmergeable c = rw c.in-Unmergeable.is c.push_switched-in-Unmergeable.ensures
