use Rattle.std.proofs.Common.{rules, ◌≡◌, Ok}
use Rattle.mem_base.specs.map.Calls.{after}
use Rattle.mem_base.specs.map.Forest.{IsMade}
use Rattle.transact.proofs.MadeLaws.{made_after}
use Rattle.transact.proofs.PlacedLaws.{places_after}
use Rattle.transact.proofs.desk.Desk.call_prepare.Goals as goal

pub prepare-requires-clause-made : goal.prepare-requires-clause-made
prepare-requires-clause-made g c =
    let f = c.args.self.now.state.forest in
    let made : IsMade f = search rules in
    let done : after f c.args.call.now ≡ Ok c.apply.new.self = search rules in
    made_after f c.apply.new.self c.args.call.now made c.knows_fits.ensures done

pub prepare-requires-clause-places : goal.prepare-requires-clause-places
prepare-requires-clause-places g c =
    let f = c.args.self.now.state.forest in
    let done : after f c.args.call.now ≡ Ok c.apply.new.self = search rules in
    places_after f c.apply.new.self c.args.call.now c.args.places.now done c.requires.change c.requires.places
