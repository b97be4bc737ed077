use Rattle.std.proofs.Common.{◌≡◌, ◌-◌, ◌≤◌, ◌++◌, length, take, drop}
use Rattle.mem_base.specs.lists.Sorting.{put_by}
use Rattle.mem_base.specs.machine.Desk.{region_order}
use Rattle.writer_desk.proofs.idle.put.Given as goal

abbrev pub invariant-loop-at : goal.invariant-loop-at
invariant-loop-at l = record {
  goes_on : take l.at l.regions.items ++ put_by region_order l.region (drop l.at l.regions.items) ≡ put_by region_order l.region l.regions.items;
  within : l.at ≤ length l.regions.items;
}

abbrev pub decreases-loop-at : goal.decreases-loop-at
decreases-loop-at l = length l.regions.items - l.at
