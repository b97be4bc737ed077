use Rattle.std.proofs.Common.{◌≡◌, drop}
use Rattle.std.specs.List.{list_any}
use Rattle.race_seats.specs.Ran.{is_out_of_memory}
use Rattle.race_seats.proofs.texts.any_out_of_memory.Given as goal

abbrev pub invariant-loop-actor : goal.invariant-loop-actor
invariant-loop-actor l = list_any is_out_of_memory (drop l.actor-index l.actors) ≡ list_any is_out_of_memory l.actors
