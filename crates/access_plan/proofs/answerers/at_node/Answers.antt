use Rattle.std.proofs.Common.{◌≡◌, ◌&&◌, not, Some, sym, ap, ◌∙◌}
use Rattle.mem_base.specs.map.Region.{node_of}
use Rattle.access_plan.specs.Answering.{memory_unless, rom_device}
use Rattle.access_plan.proofs.WhoLaws.{memory_there, rom_device_there, io_there}
use Rattle.access_plan.proofs.answerers.at_node.Goals.{then-spot, else-spot, then-write, else-write}
use Rattle.access_plan.proofs.answerers.at_node.Goals as goal

pub returns-after-spot : goal.returns-after-spot
returns-after-spot c =
    let f = c.args.g.now.forest in
    let spot = c.args.spot.now in
    let is : node_of f.nodes spot.leaf ≡ Some c.args.node.now = c.requires in
    let direct : c.if-spot.rom_device ≡ (spot.attrs.romd && not c.args.write) = elim c.if-spot.branch as
    (λ _. c.if-spot.rom_device ≡ (spot.attrs.romd && not c.args.write)) [
      | then-spot w ↦ w.rom_device-is ∙ sym (ap (λ b. b && not c.args.write) w.if-spot.true)
      | else-spot w ↦ w.rom_device-is ∙ w.if-spot.false ∙ sym (ap (λ b. b && not c.args.write) w.if-spot.false)
    ] in
    rom_device_there f spot c.args.write c.args.node.now is c.knows_forest.ensures c.in-RomDevice.device c.in-RomDevice.is c.rom_device.result
    (c.rom_device.ensures ∙ ap (λ b. rom_device b c.in-RomDevice.device.ops) direct)

pub returns-in-Io : goal.returns-in-Io
returns-in-Io c =
    io_there c.args.g.now.forest c.args.spot.now c.args.write c.args.node.now c.requires c.knows_forest.ensures c.in-Io.device c.in-Io.is

pub returns-after-write : goal.returns-after-write
returns-after-write c =
    let f = c.args.g.now.forest in
    let spot = c.args.spot.now in
    let is : node_of f.nodes spot.leaf ≡ Some c.args.node.now = c.requires in
    let shut : c.if-write.memory_unless ≡ (c.args.write && spot.attrs.readonly) = elim c.if-write.branch as
    (λ _. c.if-write.memory_unless ≡ (c.args.write && spot.attrs.readonly)) [
      | then-write w ↦ w.memory_unless-is ∙ sym (ap (λ b. b && spot.attrs.readonly) w.if-write.true)
      | else-write w ↦ w.memory_unless-is ∙ w.if-write.false ∙ sym (ap (λ b. b && spot.attrs.readonly) w.if-write.false)
    ] in
    memory_there f spot c.args.write c.args.node.now is c.knows_forest.ensures c.memory_unless.result c.in-Ram.is
    (c.memory_unless.ensures ∙ ap memory_unless shut)
