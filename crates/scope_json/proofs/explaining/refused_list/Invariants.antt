use Rattle.std.proofs.Common.{◌≡◌, ◌++◌, drop}
use Rattle.std.specs.Prelude.{map}
use Rattle.json_build.specs.Held.{values}
use Rattle.scope_json.specs.Explains.{refused_data}
use Rattle.scope_json.proofs.explaining.refused_list.Given as goal

abbrev pub invariant-loop-one : goal.invariant-loop-one
invariant-loop-one l = values l.items ++ map refused_data (drop l.one-index l.refused) ≡ map refused_data l.refused
