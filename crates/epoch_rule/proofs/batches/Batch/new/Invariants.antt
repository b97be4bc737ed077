use Rattle.epoch_rule.proofs.Common.{◌≡◌, length, arc_value, Every}
use Rattle.epoch_rule.proofs.batches.Batch.new.Given as goal

abbrev pub invariant-loop : goal.invariant-loop
invariant-loop g l = Every (λ a. arc_value a ≡ arc_value l.next) l.all.items × (length l.all.items ≡ l.counter)
