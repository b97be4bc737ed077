use Rattle.std.proofs.Common.{◌/◌, arith}
use Rattle.std.proofs.Math.Nat.{mod-lt}
use Rattle.access_cut.proofs.Good.{few_registers, some_registers}
use Rattle.access_cut.proofs.registers.register_of.Goals as goal

pub nonzero_rem-result : goal.nonzero_rem-result
nonzero_rem-result c = omega (arith, c.from.ensures, some_registers c.args.device.now c.requires)

pub overflow_cast-result : goal.overflow_cast-result
overflow_cast-result c =
    let some = some_registers c.args.device.now c.requires in
    let few = few_registers c.args.device.now c.requires in
    let least = mod-lt (c.args.offset / 8) {m = c.from.result} (omega (arith, c.from.ensures, some)) in
    omega (arith, c.from.ensures, few, least)
