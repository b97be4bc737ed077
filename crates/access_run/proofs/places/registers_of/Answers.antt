use Rattle.std.proofs.Common.{sym, ◌∙◌}
use Rattle.access_run.proofs.PlaceLaws.{no_registers, registers_place}
use Rattle.access_run.proofs.places.registers_of.Goals as goal

pub unreachable-requires : goal.unreachable-requires
unreachable-requires c =
    no_registers c.args.g.now c.place_of.ensures.shown c.args.region c.requires.named c.requires.kind (sym c.place_of.ensures.value ∙ c.in_default.is)

pub returns : goal.returns
returns c =
    registers_place c.args.g.now c.place_of.ensures.shown c.args.region c.in-Some-node.node.now c.in-Some-node.ensures.some
    c.in-Some.place c.in-Some-device.device (sym c.place_of.ensures.value ∙ c.in-Some.is) (sym c.device.ensures ∙ c.in-Some-device.is)
