use Rattle.std.proofs.Common.{◌≡◌, ◌++◌, length, option_map}
use Rattle.mem_base.specs.script.Spelling.{byte_pairs}
use Rattle.script_text.proofs.spellings.bytes_of.Given as goal

abbrev pub invariant-loop-high : goal.invariant-loop-high
invariant-loop-high l = option_map (λ bs. l.bytes.items ++ bs) (byte_pairs l.left) ≡ byte_pairs l.text

abbrev pub decreases-loop-high : goal.decreases-loop-high
decreases-loop-high l = length l.left
