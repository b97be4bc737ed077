use Rattle.race_block.proofs.KeptLaws.{passes_keep_lines}
use Rattle.race_block.proofs.laws.passes_keep_lines.Goals as goal

pub returns : goal.returns
returns c = passes_keep_lines
