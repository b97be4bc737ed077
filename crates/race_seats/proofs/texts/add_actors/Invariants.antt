use Rattle.std.proofs.Common.{◌≡◌, ◌++◌, drop, length}
use Rattle.script_names.specs.Tables.{printed_names}
use Rattle.race_seats.specs.Texts.{actors_said}
use Rattle.race_seats.proofs.texts.add_actors.Given as goal

abbrev pub invariant-loop-i : goal.invariant-loop-i
invariant-loop-i l =
    (l.text ++ actors_said (printed_names l.names) l.journal (drop l.i l.actors) (drop l.i l.clerks)
    ≡ l.fn.text ++ actors_said (printed_names l.names) l.journal l.actors l.clerks) × (l.i-end ≡ length l.actors)
