use Rattle.std.proofs.Common.{◌≡◌, true}
use Rattle.std.specs.Prelude.{Some, None}
use Rattle.std.specs.List.{list_any}
use Rattle.mem_base.specs.machine.SharedHistory.{is_same_place}
use Rattle.generation.specs.Published.{Published}
use Rattle.bench.proofs.times.Clock.time_pass.Given as goal

abbrev pub invariant-loop-round : goal.invariant-loop-round
invariant-loop-round l = (l.pass.cabinet ≡ l.cabinet.id) × (l.pass.edition ≡ None)

abbrev pub invariant-loop-visit : goal.invariant-loop-visit
invariant-loop-visit l = (l.pass.cabinet ≡ l.cabinet.id) × (l.pass.edition ≡ None)

abbrev pub invariant-loop-word : goal.invariant-loop-word
invariant-loop-word l =
    (l.pass.cabinet ≡ l.cabinet.id) × ((e : Published) × (l.pass.edition ≡ Some e) × (list_any (is_same_place l.place) e.places ≡ true))
