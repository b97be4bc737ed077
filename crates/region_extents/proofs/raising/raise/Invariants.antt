use Rattle.std.proofs.Common.{◌≡◌, length, false}
use Rattle.mem_base.specs.declared.map.ids.RegionId.{RegionId}
use Rattle.mem_base.specs.lists.Every.{Every}
use Rattle.region_slots.specs.Slots.{nodes_of}
use Rattle.region_extents.specs.Kept.{listed, steps_plus, undone, IsSettledBy, IsShort}
use Rattle.region_extents.proofs.raising.raise.Given as goal

-- each region that does not wait is settled, and the journal notes what was replaced
abbrev pub invariant-loop-turn : goal.invariant-loop-turn
invariant-loop-turn l = record {
  short : Every IsShort l.initial.known → Every IsShort l.known;
  undone : undone l.journal.items l.known ≡ undone l.initial.journal.items l.initial.known;
  all : length l.known ≡ length l.initial.known;
  settled : (v : RegionId) → listed v l.waiting ≡ false → IsSettledBy (steps_plus (nodes_of l.slots) l.extra) l.slots l.known v;
}
