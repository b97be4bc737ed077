use Rattle.std.proofs.Common.{◌∙◌, ap, map, length, ◌≤◌, ◌++◌, ◌∷◌, [], arith}
use Rattle.mem_base.specs.declared.views.listening.RangeEvent.TheVariants.{Add}
use Rattle.mem_base.specs.declared.views.listening.ListenerEvent.TheVariants.{Begin, Range, EventAdd, Commit}
use Rattle.listener_set.proofs.JournalLaws.{joining_is, taken_whole}
use Rattle.listener_set.proofs.journal.joining.Goals as goal

pub returns : goal.returns
returns c =
    let all : length c.args.lives.now ≤ c.loop-live.live-index = let t = c.loop-live-test.false in omega arith in
    let told = c.loop-live.invariant ∙ ap (λ l. ((c.args.listener, Begin) ∷ map (λ r. (c.args.listener, Range (Add r))) c.args.ranges.now)
    ++ map (λ x. (c.args.listener, EventAdd x)) l) (taken_whole c.args.lives.now c.loop-live.live-index all) in
    c.in_ok-push-4.ensures.items ∙ ap (λ x. x ++ (c.args.listener, Commit) ∷ []) told ∙ joining_is c.args.listener c.args.ranges.now c.args.lives.now
