use Rattle.mem_base.proofs.views.notes.+meet.Given as goal

abbrev pub decreases-meet : goal.decreases-meet
decreases-meet l = l.most
