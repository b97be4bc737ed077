use Rattle.epoch_rule.proofs.Common.{actor_of, touch_at}
use Rattle.epoch_rule.proofs.touches.step_word.Given as goal

abbrev pub ghosts-load_as : goal.ghosts-load_as
ghosts-load_as g a = record { actor = actor_of a.event; event = a.event; place = a.place.now; touch = touch_at a.event a.place.now }

abbrev pub ghosts-add_as : goal.ghosts-add_as
ghosts-add_as g a = record { actor = actor_of a.event; event = a.event; place = a.place.now; touch = touch_at a.event a.place.now }

abbrev pub ghosts-or_as : goal.ghosts-or_as
ghosts-or_as g a = record { actor = actor_of a.event; event = a.event; place = a.place.now; touch = touch_at a.event a.place.now }

abbrev pub ghosts-take_as : goal.ghosts-take_as
ghosts-take_as g a = record { actor = actor_of a.event; event = a.event; place = a.place.now; touch = touch_at a.event a.place.now }

abbrev pub ghosts-store_as : goal.ghosts-store_as
ghosts-store_as g a = record { actor = actor_of a.event; event = a.event; place = a.place.now; touch = touch_at a.event a.place.now }
