use Rattle.std.proofs.Common.{refl}
use Rattle.region_slots.proofs.SlotsLaws.{of_all}
use Rattle.region_slots.proofs.ResizeLaws.{container_place}
use Rattle.region_slots.proofs.slots.place_of_container.Goals as goal

pub returns-in-Some : goal.returns-in-Some
returns-in-Some c = rw c.in-Some.is (container_place c.args.slots.now c.in-Some.container c.place_of.result c.place_of.ensures)

pub returns-in-None : goal.returns-in-None
returns-in-None c = rw c.in-None.is (of_all c.args.slots.now (λ s. refl))
