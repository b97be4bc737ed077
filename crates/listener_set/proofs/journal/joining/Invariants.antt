use Rattle.std.proofs.Common.{◌≡◌, ◌++◌, ◌∷◌, map, take}
use Rattle.mem_base.specs.declared.views.listening.RangeEvent.TheVariants.{Add}
use Rattle.mem_base.specs.declared.views.listening.ListenerEvent.TheVariants.{Begin, Range, EventAdd}
use Rattle.listener_set.proofs.journal.joining.Given as goal

abbrev pub invariant-loop-range : goal.invariant-loop-range
invariant-loop-range l = l.calls.items ≡ (l.listener, Begin) ∷ map (λ r. (l.listener, Range (Add r))) (take l.range-index l.ranges)

abbrev pub invariant-loop-live : goal.invariant-loop-live
invariant-loop-live l =
    l.calls.items ≡ ((l.listener, Begin) ∷ map (λ r. (l.listener, Range (Add r))) l.ranges) ++ map (λ x. (l.listener, EventAdd x)) (take l.live-index l.lives)
