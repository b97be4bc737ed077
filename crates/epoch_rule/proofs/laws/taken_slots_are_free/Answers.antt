use Rattle.epoch_rule.proofs.Common.{◌≡◌, ℕ, ◌+◌, ◌-◌, ◌%◌, ◌≤◌, arith, sound}
use Rattle.epoch_rule.proofs.laws.taken_slots_are_free.Goals as goal
use Rattle.mem_base.specs.map.Limits.{most_generations}

-- two of eight numbers in a row have two slots
apart : (c low g : ℕ) → c ≤ low + (most_generations - 2) → low ≤ g → g ≤ c → g % most_generations ≡ (c + 1) % most_generations → ⊥
apart c low g near above below same = omega arith

pub returns : goal.returns
returns _ words passes xs legal v inside near = record {
  apart = λ g above below. apart _ _ g near above below;
  entered = λ g is. let t = ((sound words passes xs legal).each v inside).entered g is in (t.3, t.4);
}
