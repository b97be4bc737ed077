use Rattle.std.proofs.Common.{◌∙◌, ap, map, length, ◌≤◌, ◌++◌, ◌∷◌, [], arith}
use Rattle.mem_base.specs.declared.views.listening.RangeEvent.TheVariants.{Delete}
use Rattle.mem_base.specs.declared.views.listening.ListenerEvent.TheVariants.{Begin, Range, EventDel, Commit}
use Rattle.listener_set.proofs.JournalLaws.{leaving_is, taken_whole}
use Rattle.listener_set.proofs.journal.leaving.Goals as goal

pub returns : goal.returns
returns c =
    let all : length c.args.ranges.now ≤ c.loop-range.range-index = let t = c.loop-range-test.false in omega arith in
    let told = c.loop-range.invariant ∙ ap (λ l. ((c.args.listener, Begin) ∷ map (λ x. (c.args.listener, EventDel x)) c.args.lives.now)
    ++ map (λ r. (c.args.listener, Range (Delete r))) l) (taken_whole c.args.ranges.now c.loop-range.range-index all) in
    c.in_ok-push-4.ensures.items ∙ ap (λ x. x ++ (c.args.listener, Commit) ∷ []) told ∙ leaving_is c.args.listener c.args.ranges.now c.args.lives.now
