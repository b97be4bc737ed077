use Rattle.std.proofs.Common.{◌≡◌, ◌++◌, drop}
use Rattle.std.specs.Prelude.{map}
use Rattle.json_build.specs.Held.{values}
use Rattle.scope_json.specs.Lints.{taken_data}
use Rattle.scope_json.proofs.linting.taken_list.Given as goal

abbrev pub invariant-loop-one : goal.invariant-loop-one
invariant-loop-one l =
    values l.items ++ map (taken_data l.lines l.refused) (drop l.one-index l.refused) ≡ map (taken_data l.lines l.refused) l.refused
