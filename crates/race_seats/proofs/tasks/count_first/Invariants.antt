use Rattle.std.proofs.Common.{◌≡◌, ◌+◌, ◌==◌, drop}
use Rattle.std.specs.List.{prefix_len}
use Rattle.race_seats.proofs.tasks.count_first.Given as goal

abbrev pub invariant-loop-number : goal.invariant-loop-number
invariant-loop-number l =
    (l.count ≡ l.number-index) × (l.count + prefix_len (λ n. n == l.who) (drop l.number-index l.whose) ≡ prefix_len (λ n. n == l.who) l.whose)
