use Rattle.std.proofs.Common.{◌≡◌, length}
use Rattle.mem_base.specs.script.Lines.{tokens_of}
use Rattle.script_text.proofs.tokens.first_token.Given as goal

abbrev pub invariant-loop-end : goal.invariant-loop-end
invariant-loop-end l = tokens_of l.left ≡ tokens_of l.text

abbrev pub decreases-loop-end : goal.decreases-loop-end
decreases-loop-end l = length l.left
