use Rattle.std.proofs.Common.{◌∙◌, ap}
use Rattle.mem_base.specs.map.Order.{children_of}
use Rattle.region_slots.specs.Slots.{ids_in}
use Rattle.region_slots.proofs.SlotsLaws.{ids_placed}
use Rattle.region_slots.proofs.slots.Slots.child_ids.Goals as goal

pub returns : goal.returns
returns c = c.ids.ensures ∙ ap ids_in c.children.ensures ∙ ids_placed (children_of c.args.self.now c.args.region)
