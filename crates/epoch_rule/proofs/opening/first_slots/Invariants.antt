use Rattle.epoch_rule.proofs.Common.{arc_value, AreFirstSlots}
use Rattle.epoch_rule.proofs.opening.first_slots.Given as goal

abbrev pub invariant-loop : goal.invariant-loop
invariant-loop g l = AreFirstSlots (arc_value l.first) l.counter l.slots.items
