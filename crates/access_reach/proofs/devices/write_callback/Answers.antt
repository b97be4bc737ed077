use Rattle.std.proofs.Common.{Some, subst, sym}
use Rattle.access_reach.specs.Asking.{calls}
use Rattle.access_reach.proofs.devices.write_callback.Goals as goal

pub write_device-requires-clause-takes : goal.write_device-requires-clause-takes
write_device-requires-clause-takes g c =
    subst (λ v. g.B.Taking.takes c.args.bus.now (calls c.args.region c.args.offset c.args.size (Some v))) (sym c.padded-value.ensures) c.requires.takes.0
