use Rattle.epoch_rule.proofs.Common.{arith, ◌≡◌, ℕ, sym, subst, arc_value, AreFirstSlots}
use Rattle.epoch_rule.proofs.OpeningLaws.{no_slots, more_slots}
use Rattle.epoch_rule.proofs.opening.first_slots.Goals as goal

pub loop-init : goal.loop-init
loop-init g c = subst (AreFirstSlots (arc_value c.args.first.now) 0) (sym c.new-slots.ensures.items) (no_slots (arc_value c.args.first.now))

pub loop-preserved : goal.loop-preserved
loop-preserved g c = more_slots _ _ _ _ c.loop.invariant c.in_ok-add_slots.ensures

pub returns : goal.returns
returns g c = let f = c.loop-test.false in let e = c.loop.auto.counter-end in let done : c.loop.counter ≡ c.args.passes = omega arith in
    subst (λ (n : ℕ). AreFirstSlots (arc_value c.args.first.now) n c.loop.slots.items) done c.loop.invariant
