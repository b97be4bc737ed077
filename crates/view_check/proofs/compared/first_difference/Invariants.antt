use Rattle.std.proofs.Common.{◌≡◌, ◌≤◌, ◌-◌, drop, length}
use Rattle.script_names.specs.Tables.{printed_names}
use Rattle.view_check.specs.Shown.{first_difference}
use Rattle.view_check.proofs.compared.first_difference.Given as goal

abbrev pub invariant-loop-at : goal.invariant-loop-at
invariant-loop-at l = record {
  rows : l.at ≤ length l.rows;
  view : l.at ≤ length l.view;
  rest : first_difference (printed_names l.names) l.memory l.at (drop l.at l.rows) (drop l.at l.view)
      ≡ first_difference (printed_names l.names) l.memory 0 l.rows l.view;
}

abbrev pub decreases-loop-at : goal.decreases-loop-at
decreases-loop-at l = length l.rows - l.at
