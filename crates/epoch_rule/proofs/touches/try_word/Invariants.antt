use Rattle.epoch_rule.proofs.Common.{actor_of, touch_at}
use Rattle.epoch_rule.proofs.touches.try_word.Given as goal

abbrev pub ghosts-try_as : goal.ghosts-try_as
ghosts-try_as g a = record { actor = actor_of a.event; event = a.event; place = a.place.now; touch = touch_at a.event a.place.now }
