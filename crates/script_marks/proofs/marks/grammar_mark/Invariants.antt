use Rattle.std.proofs.Common.{◌≡◌, ◌+◌, length}
use Rattle.script_marks.proofs.MarkLaws.{Cut}
use Rattle.script_marks.proofs.marks.grammar_mark.Given as goal

abbrev pub invariant-loop-len : goal.invariant-loop-len
invariant-loop-len l = (l.start + length l.rest ≡ length l.text) × Cut l.text l.start l.rest

abbrev pub decreases-loop-len : goal.decreases-loop-len
decreases-loop-len l = length l.rest
