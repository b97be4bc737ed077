-- Laws of the steps of an entered pass: what it may touch in its generation, and what a step adds. They are those of `vcpu_pass`, which are its own.
use Rattle.std.proofs.Common.{◌≡◌}
use Rattle.mem_base.specs.declared.machine.events.Event.TheVariants as events
use Rattle.mem_base.specs.declared.machine.events.Hand.TheVariants as hands
use Rattle.generation.specs.Published.{Published}
use Rattle.epoch_rule.specs.Values.{PassValue}

-- a place among places

-- what stays of a pass over a step on a word
abbrev pub Stays : PassValue Published → PassValue Published → Type 0
Stays v w = (w.cabinet ≡ v.cabinet) × (w.number ≡ v.number) × (w.sizes ≡ v.sizes) × (w.edition ≡ v.edition)
