use Rattle.std.proofs.Common.{◌≡◌, ◌++◌, drop}
use Rattle.std.specs.Prelude.{map}
use Rattle.scope_run.proofs.monitor_files.names_of.Given as goal

abbrev pub invariant-loop-word : goal.invariant-loop-word
invariant-loop-word l = l.names.items ++ map (λ w. w.now) (drop l.word-index l.words) ≡ map (λ w. w.now) l.words
