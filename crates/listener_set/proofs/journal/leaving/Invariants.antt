use Rattle.std.proofs.Common.{◌≡◌, ◌++◌, ◌∷◌, map, take}
use Rattle.mem_base.specs.declared.views.listening.RangeEvent.TheVariants.{Delete}
use Rattle.mem_base.specs.declared.views.listening.ListenerEvent.TheVariants.{Begin, Range, EventDel}
use Rattle.listener_set.proofs.journal.leaving.Given as goal

abbrev pub invariant-loop-live : goal.invariant-loop-live
invariant-loop-live l = l.calls.items ≡ (l.listener, Begin) ∷ map (λ x. (l.listener, EventDel x)) (take l.live-index l.lives)

abbrev pub invariant-loop-range : goal.invariant-loop-range
invariant-loop-range l =
    l.calls.items ≡ ((l.listener, Begin) ∷ map (λ x. (l.listener, EventDel x)) l.lives)
    ++ map (λ r. (l.listener, Range (Delete r))) (take l.range-index l.ranges)
