use Rattle.std.proofs.Common.{rules}
use Rattle.world_core.proofs.WordLaws.{MayReach, may_reach}
use Rattle.world_core.proofs.hands.EnteredPassWrites.mark_page.Goals.{After-mark_page-arg-2-1}
use Rattle.world_core.proofs.hands.EnteredPassWrites.mark_page.Goals as goal

reach : (c : After-mark_page-arg-2-1) → MayReach c.args.self.now.world.now c.args.self.now.pass c.args.place.now
reach c = may_reach c.args.self.now.world.now c.args.self.now.pass c.args.place.now c.is_reached.ensures (search rules) c.requires.placed

pub mark_page-requires-clause-may : goal.mark_page-requires-clause-may
mark_page-requires-clause-may c = ((reach c).steps.marks c.args.client c.args.page c.requires.inside).may

pub mark_page-requires-clause-placed : goal.mark_page-requires-clause-placed
mark_page-requires-clause-placed c = (reach c).stands.stands

pub mark_page-requires-clause-within : goal.mark_page-requires-clause-within
mark_page-requires-clause-within c = (reach c).stands.marks c.args.client c.args.page c.requires.inside
