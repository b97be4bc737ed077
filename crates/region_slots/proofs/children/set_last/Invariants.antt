use Rattle.std.proofs.Common.{◌≡◌}
use Rattle.region_slots.specs.Slots.{one_resized}
use Rattle.region_slots.proofs.ResizeLaws.{changed_before}
use Rattle.region_slots.proofs.children.set_last.Given as goal

-- the children so far are changed
abbrev pub invariant-loop-child : goal.invariant-loop-child
invariant-loop-child l = l.placed ≡ changed_before (one_resized l.id l.last) l.child-index l.initial.placed
