use Rattle.std.proofs.Common.{take}
use Rattle.script_names.specs.Tables.{printed_names}
use Rattle.view_diff.specs.Numbers.{Grows, Numbers, Renumbered}
use Rattle.view_diff.proofs.numbers.renumbered.Given as goal

abbrev pub invariant-loop-range : goal.invariant-loop-range
invariant-loop-range l = record {
  told : Numbers l.labels;
  grows : Grows l.fn.labels.bound l.labels.bound;
  ranges : Renumbered l.labels.bound (printed_names l.names) (take l.range-index l.ranges) l.items.items;
}
