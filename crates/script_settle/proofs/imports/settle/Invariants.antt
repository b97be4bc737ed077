use Rattle.script_settle.specs.Refused.{HasRefused}
use Rattle.script_settle.proofs.imports.settle.Given as goal

abbrev pub invariant-loop : goal.invariant-loop
invariant-loop l = HasRefused l.text.items l.round.refused
