use Rattle.mem_base.proofs.views.notes.+spell.Given as goal

abbrev pub decreases-spell : goal.decreases-spell
decreases-spell l = l.most
