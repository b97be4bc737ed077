use Rattle.std.proofs.Common.{rules, ◌≡◌, false}
use Rattle.region_slots.specs.declared.slots.Slot.{Slot}
use Rattle.node_chunks.specs.Near.{is_below}
use Rattle.node_chunks.proofs.NearLaws.{slots_above}
use Rattle.node_chunks.proofs.near.count_below.Goals as goal

pub returns-then-not-is_below-clause-above : goal.returns-then-not-is_below-clause-above
returns-then-not-is_below-clause-above c =
    let s : Slot = c.index-slots-i.result in
    let other : is_below c.args.bound s.node.id.0 ≡ false = search rules in
    slots_above c.args.bound c.args.slots.now c.loop-i.i s c.loop-i-test.true c.index-slots-i.is c.requires other
