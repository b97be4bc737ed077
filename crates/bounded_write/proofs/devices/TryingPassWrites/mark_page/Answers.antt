use Rattle.std.proofs.Common.{[], ◌∷◌, refl}
use Rattle.bounded_write.proofs.TryingLaws.{tried_one, tried_still}
use Rattle.bounded_write.proofs.devices.TryingPassWrites.mark_page.Goals as goal

pub returns-then-not-self : goal.returns-then-not-self
returns-then-not-self c =
    let s = c.args.self.now in
    (refl, refl, tried_one s.tries s.stopped s.begun s.pass.now c.mark_step.new.pass _ 0 c.if-not-self.true c.mark_step.ensures)

pub returns-else-not-self : goal.returns-else-not-self
returns-else-not-self c =
    let s = c.args.self.now in (refl, refl, tried_still s.tries s.stopped s.begun s.pass.now _ (0 ∷ []) c.if-not-self.false)
