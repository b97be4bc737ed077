use Rattle.std.proofs.Common.{arith, ◌≡◌, ℕ, suc, ◌+◌, [], ◌∷◌, ◌∙◌, ap, get_or, false, subst}
use Rattle.mem_base.specs.declared.machine.events.Hand.TheVariants.{Writer}
use Rattle.mem_base.specs.declared.machine.events.Event.TheVariants.{Fill}
use Rattle.mem_base.specs.declared.machine.events.Carried.TheVariants.{At}
use Rattle.mem_base.specs.access.Cells.{cell}
use Rattle.mem_base.specs.machine.Turns.{history_entry}
use Rattle.epoch_rule.specs.declared.views.Sizes.{Sizes}
use Rattle.epoch_rule.specs.Wrote.{Wrote}
use Rattle.shared_words.specs.Fills.{fills_of}
use Rattle.shared_words.proofs.WroteLaws.{wrote_one_more}
use Rattle.shared_words.proofs.fills.fill.Goals as goal

pub loop-word-preserved : goal.loop-word-preserved
loop-word-preserved g c =
    let inv = c.loop-word.invariant in let stays = c.touch.ensures.stays in
    let n : ℕ = c.loop-word.word in let one : suc n ≡ n + 1 = omega arith in
    let before = c.args.writer.now in let after = c.touch.new.hand in
    let event = history_entry (Fill (cell c.args.place.now.region n)) (At c.args.place.now) 0 in
    let now = subst (λ (z : Sizes). Wrote Writer z c.loop-word.writer.seen (event ∷ []) after.seen) inv.2 c.touch.ensures.shown.1 in (
      subst (λ (m : ℕ). Wrote Writer before.sizes before.seen (fills_of c.args.place.now m) after.seen) one
          (wrote_one_more Writer before.sizes before.seen (fills_of c.args.place.now n) c.loop-word.writer.seen event after.seen inv.0 now),
      stays.0 ∙ inv.1,
      stays.1 ∙ inv.2,
      stays.2 ∙ inv.3,
      λ q l. stays.3 q (ap (λ o. get_or o q false) inv.3 ∙ l) ∙ inv.4 q l,
      λ e. absurd (omega (arith, e)),
    )
