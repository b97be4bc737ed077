use Rattle.std.proofs.Common.{◌≡◌, ◌+◌, ◌*◌, length, drop}
use Rattle.std.specs.List.{list_any}
use Rattle.mem_base.specs.map.Steps.{steps_of, reaches_by}
use Rattle.region_extents.specs.Marks.{marked}
use Rattle.region_extents.proofs.paths.+mark.Given as goal

abbrev pub decreases-mark_all : goal.decreases-mark_all
decreases-mark_all l = 2 * l.most + 1

abbrev pub decreases-mark_within : goal.decreases-mark_within
decreases-mark_within l = 2 * l.most

-- what is left to mark gives what all was to give
abbrev pub invariant-mark_all-loop-id : goal.invariant-mark_all-loop-id
invariant-mark_all-loop-id l = record {
  all : length l.marks ≡ length l.initial.marks;
  marked : marked l.slots (λ r. list_any (λ q. reaches_by (steps_of l.slots) l.most q r) (drop l.id-index l.regions)) l.marks ≡ marked l.slots
      (λ r. list_any (λ q. reaches_by (steps_of l.slots) l.most q r) l.regions) l.initial.marks;
}
