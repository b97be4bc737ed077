use Rattle.std.proofs.Common.{rules}
use Rattle.world_core.proofs.WordLaws.{MayReach, may_reach, reach_within}
use Rattle.world_core.proofs.hands.EnteredPassWrites.write_word.Goals.{After-step_word-arg-2-1}
use Rattle.world_core.proofs.hands.EnteredPassWrites.write_word.Goals as goal

reach : (c : After-step_word-arg-2-1) → MayReach c.args.self.now.world.now c.args.self.now.pass c.args.place.now
reach c = may_reach c.args.self.now.world.now c.args.self.now.pass c.args.place.now c.is_reached.ensures (search rules) c.requires.placed

pub step_word-requires-clause-may : goal.step_word-requires-clause-may
step_word-requires-clause-may c = ((reach c).steps.words c.args.word c.args.step c.requires.inside).may

pub step_word-requires-clause-placed : goal.step_word-requires-clause-placed
step_word-requires-clause-placed c = (reach c).stands.stands

pub step_word-requires-clause-within : goal.step_word-requires-clause-within
step_word-requires-clause-within c = reach_within c.args.self.now.world.now c.args.self.now.pass c.args.place.now c.args.word (reach c) c.requires.inside
