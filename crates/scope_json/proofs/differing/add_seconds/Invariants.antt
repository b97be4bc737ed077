use Rattle.std.proofs.Common.{◌≡◌, ◌++◌, drop}
use Rattle.std.specs.Prelude.{flat_map}
use Rattle.json_build.specs.Held.{values}
use Rattle.scope_json.specs.Diffs.{second_data}
use Rattle.scope_json.proofs.differing.add_seconds.Given as goal

abbrev pub invariant-loop-number : goal.invariant-loop-number
invariant-loop-number l =
    values l.items ++ flat_map (second_data l.first.state) (drop l.number l.second.state.names.spaces)
    ≡ values l.fn.items ++ flat_map (second_data l.first.state) l.second.state.names.spaces
