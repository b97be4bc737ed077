use Rattle.std.proofs.Common.{take}
use Rattle.mem_base.specs.lists.Every.{Every}
use Rattle.change_spans.specs.Reaches.{KeepsIn}
use Rattle.change_spans.proofs.closing.all_changed.Given as goal

abbrev pub invariant-loop-region : goal.invariant-loop-region
invariant-loop-region l = record {
  before : Every (KeepsIn l.before.nodes l.placed l.spans) (take l.region-index l.changed);
  after : Every (KeepsIn l.after.nodes l.placed l.spans) (take l.region-index l.changed);
}
