use Rattle.std.proofs.Common.{◌+◌, [], ◌++◌, ◌^◌, ◌∙◌, drop, refl, sym, ap, subst}
use Rattle.mem_base.specs.views.View.{IsRanges}
use Rattle.view_walk.proofs.SideLaws.{IsWalking, kept_alone, walking_first, walking_kept}
use Rattle.view_walk.proofs.keep_all.Goals as goal

pub loop-range-init : goal.loop-range-init
loop-range-init c =
    let v = c.as_slice-ranges.result.now in
    let order : IsRanges 0 (2 ^ 64) v = subst (IsRanges 0 (2 ^ 64)) (sym c.as_slice-ranges.ensures.value) c.as_slice-ranges.ensures.ranges in
    subst (λ steps. IsWalking v v [] steps v v) (sym c.in_ok-steps.ensures.items) (walking_first v v order order)

pub loop-range-preserved : goal.loop-range-preserved
loop-range-preserved c =
    let v = c.as_slice-ranges.result.now in
    let i = c.loop-range.range-index in
    subst (λ steps. IsWalking v v [] steps (drop (i + 1) v) (drop (i + 1) v))
    (sym (c.in_ok-push.ensures.items ∙ ap (λ es. c.loop-range.steps.items ++ es) (sym (kept_alone _))))
    (walking_kept v c.loop-range.steps.items i _ _ c.loop-range-test.true refl c.loop-range.invariant)
