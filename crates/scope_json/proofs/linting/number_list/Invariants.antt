use Rattle.std.proofs.Common.{◌≡◌, ◌++◌, drop}
use Rattle.std.specs.Prelude.{map}
use Rattle.json_build.specs.Held.{values}
use Rattle.scope_json.specs.Lints.{number_data}
use Rattle.scope_json.proofs.linting.number_list.Given as goal

abbrev pub invariant-loop-line : goal.invariant-loop-line
invariant-loop-line l = values l.items ++ map number_data (drop l.line-index l.lines) ≡ map number_data l.lines
