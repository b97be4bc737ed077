use Rattle.std.proofs.Common.{sym}
use Rattle.kept_generations.proofs.SweepLaws.{held_swept}
use Rattle.kept_generations.proofs.kept.Kept.held_up_if_swept.Goals as goal

pub returns : goal.returns
returns c = rw (c.held_if_swept.ensures, ← c.self.view_is, c.as_slice.ensures.value)
    (sym (held_swept c.self.inside.current 0 c.self.inside.tracks.items c.self.inside.states.items c.self.invariant.0.each_state))
