use Rattle.std.proofs.Common.{◌≡◌, ◌++◌, drop}
use Rattle.std.specs.Prelude.{flat_map}
use Rattle.scope_run.specs.Diffs.{second_text}
use Rattle.scope_run.proofs.differing.add_seconds.Given as goal

abbrev pub invariant-loop-number : goal.invariant-loop-number
invariant-loop-number l =
    l.text ++ flat_map (second_text l.first.state) (drop l.number l.second.state.names.spaces)
    ≡ l.fn.text ++ flat_map (second_text l.first.state) l.second.state.names.spaces
