use Rattle.std.proofs.Common.{◌≡◌, ◌++◌, drop}
use Rattle.std.specs.Prelude.{flat_map}
use Rattle.script_lint.specs.Refusals.{refusal_text, refusals_text}
use Rattle.script_lint.proofs.refusals.add_refusals.Given as goal

abbrev pub invariant-loop-one : goal.invariant-loop-one
invariant-loop-one l = l.out ++ flat_map (refusal_text l.lines l.refused) (drop l.one-index l.refused) ≡ l.fn.out ++ refusals_text l.lines l.refused
