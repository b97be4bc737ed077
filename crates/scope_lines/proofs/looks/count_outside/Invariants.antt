use Rattle.std.proofs.Common.{◌≡◌, ◌≤◌, ◌+◌, drop}
use Rattle.scope_lines.specs.Whys.{after_count, before_count}
use Rattle.scope_lines.proofs.looks.count_outside.Given as goal

abbrev pub invariant-loop-tried : goal.invariant-loop-tried
invariant-loop-tried l = record {
  few_after : l.after ≤ l.tried-index;
  few_before : l.before ≤ l.tried-index;
  after : l.after + after_count (drop l.tried-index l.trials) ≡ after_count l.trials;
  before : l.before + before_count (drop l.tried-index l.trials) ≡ before_count l.trials;
}
