use Rattle.std.proofs.Common.{◌∙◌, sym, ap, get_or}
use Rattle.region_extents.specs.declared.extents.Extent.{Extent}
use Rattle.region_extents.proofs.ExtentsLaws.{extent_found, extent_missing}
use Rattle.region_extents.proofs.rounds.extent_at.Goals as goal
use Rattle.region_slots.proofs.SlotsLaws.{some_element}

pub returns-in-Some : goal.returns-in-Some
returns-in-Some c =
    let found = c.in-Some.ensures in
    let d = some_element c.args.slots.now _ found.0 in
    let none : Extent = record { depth = 0; weight = 0 } in
    ap (λ xs. get_or xs c.in-Some.i none) c.requires.known ∙ extent_found c.args.slots.now c.args.join c.args.round _ c.args.region none d found.0 (found.1 d)

pub returns-in-None : goal.returns-in-None
returns-in-None c = sym (extent_missing _ c.args.join c.args.round c.args.region c.requires.round c.requires.parent c.in-None.ensures)
