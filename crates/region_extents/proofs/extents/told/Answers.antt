use Rattle.std.proofs.Common.{sym, ap, get_or}
use Rattle.mem_base.specs.declared.map.ids.RegionId.{RegionId}
use Rattle.mem_base.proofs.ForestLaws.{id_of}
use Rattle.region_slots.specs.Slots.{nodes_of}
use Rattle.region_extents.proofs.SettledLaws.{told_there, told_missing}
use Rattle.region_extents.proofs.extents.told.Goals as goal
use Rattle.region_slots.proofs.SlotsLaws.{some_element}

pub returns-in-Some : goal.returns-in-Some
returns-in-Some c =
    let slots = c.args.slots.now in
    let found = c.in-Some.ensures in
    let d = some_element slots _ found.0 in
    sym (told_there slots c.args.known.now c.in-Some.i d (record { depth = 0; weight = 0 }) c.args.region c.requires.ascending c.requires.all found.0
    (ap (λ (q : RegionId). q.0) (id_of (nodes_of slots) c.args.region (get_or slots c.in-Some.i d).node (found.1 d))))

pub returns-in-None : goal.returns-in-None
returns-in-None c = sym (told_missing c.args.slots.now c.args.known.now c.args.region c.in-None.ensures)
