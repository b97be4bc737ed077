use Rattle.std.proofs.Common.{[], ◌∷◌, refl}
use Rattle.bounded_write.proofs.TryingLaws.{tried_still, tried_stop}
use Rattle.bounded_write.proofs.RunLaws.{in_vain}
use Rattle.bounded_write.proofs.devices.TryingPassWrites.write_word.Goals as goal

pub returns-then-self : goal.returns-then-self
returns-then-self c =
    let s = c.args.self.now in (0, (refl, refl, tried_still s.tries s.stopped s.begun s.pass.now _ (0 ∷ []) c.if-self.true))

pub returns-else-step_within : goal.returns-else-step_within
returns-else-step_within c =
    let s = c.args.self.now in
    let v = in_vain _ _ c.step_within.result c.step_within.ensures c.if-step_within.false in
    (0, (refl, refl, tried_stop s.tries s.stopped s.begun s.pass.now c.step_within.new.pass _ 0 c.if-self.false v.0 v.1))
