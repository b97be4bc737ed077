use Rattle.std.proofs.Common.{◌≡◌, length, map}
use Rattle.run_laws.specs.Fitting.{AreFitting}
use Rattle.race_phases.specs.Plain.{whose_line}
use Rattle.race_seats.proofs.LineLists.{AreDealt}
use Rattle.race_seats.proofs.tasks.deal.Given as goal

abbrev pub invariant-loop-who : goal.invariant-loop-who
invariant-loop-who l = AreDealt l.lines l.rest l.works.items × (l.left ≡ map whose_line l.rest) × AreFitting l.rest

abbrev pub decreases-loop-who : goal.decreases-loop-who
decreases-loop-who l = length l.left
