use Rattle.std.proofs.Common.{rules, ◌≡◌, ◌<◌, ◌∙◌, true, false, length, slice_index_or, subst}
use Rattle.race_block.specs.declared.tasks.OwnLine.{OwnLine}
use Rattle.mem_base.specs.script.Tasks.{Known}
use Rattle.race_block.specs.Desks.{line_meant}
use Rattle.race_block.specs.Lines.{HasTold}
use Rattle.race_block.specs.Resolving.{IsPassLine}
use Rattle.race_block.proofs.PlainLaws.{stops, tells}
use Rattle.race_block.proofs.plain.do_all_plain.Goals as goal

pub returns-then-not-told-clause-stopped : goal.returns-then-not-told-clause-stopped
returns-then-not-told-clause-stopped g c = λ e.
    let line : OwnLine = c.index-lines-at.result in
    let next = c.tell_line-next in
    let room : c.loop-at.at < length c.args.lines.now = search rules in
    let is : slice_index_or c.args.lines.now c.loop-at.at line ≡ line = search rules in
    let ends : next.result.2 ≡ false = search rules in
    let told = subst (λ (k : Known). HasTold k (line_meant line) c.loop-at.clerk c.loop-at.vcpu c.loop-at.text next.result.2 next.new.clerk next.result.0
    next.new.text) c.loop-at.invariant.4 next.ensures.told in
    stops c.args.names.now c.args.lines.now c.args.clerk.now c.args.vcpu c.loop-at.at c.loop-at.clerk next.new.clerk c.loop-at.vcpu next.result.0
    c.loop-at.text next.new.text next.result.2 line c.loop-at.invariant.0 room is ends told

pub loop-at-preserved : goal.loop-at-preserved
loop-at-preserved g c =
    let line : OwnLine = c.index-lines-at.result in
    let was = c.loop-at.invariant in
    let next = c.tell_line-next in
    let room : c.loop-at.at < length c.args.lines.now = search rules in
    let is : slice_index_or c.args.lines.now c.loop-at.at line ≡ line = search rules in
    let fits : IsPassLine line = search rules in
    let goes : next.result.2 ≡ true = search rules in
    let told = subst (λ (k : Known). HasTold k (line_meant line) c.loop-at.clerk c.loop-at.vcpu c.loop-at.text next.result.2 next.new.clerk next.result.0
    next.new.text) was.4 next.ensures.told in (
      tells c.args.names.now c.args.lines.now c.args.clerk.now c.args.vcpu c.loop-at.at c.loop-at.clerk next.new.clerk c.loop-at.vcpu next.result.0
          c.loop-at.text next.new.text next.result.2 line was.0 room is goes fits.0 c.requires.plain told,
      next.ensures.room ∙ was.1,
      next.ensures.desk ∙ was.2,
      was.3,
      next.ensures.spaces ∙ was.4,
    )
