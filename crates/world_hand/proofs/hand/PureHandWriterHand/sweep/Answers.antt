use Rattle.world_hand.proofs.hand.PureHandWriterHand.sweep.Goals as goal

pub returns-clause-swept : goal.returns-clause-swept
returns-clause-swept c = let s = c.sweep_kept.ensures.swept in (s.0, s.1, s.2 c.args.self.now.words)
