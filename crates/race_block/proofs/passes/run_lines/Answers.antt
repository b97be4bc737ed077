use Rattle.std.proofs.Common.{rules, ◌≡◌, ◌<◌, ◌∙◌, true, length, arith}
use Rattle.std.specs.Prelude.{slice_index_or}
use Rattle.race_block.proofs.StepLaws.{underway_then}
use Rattle.race_block.proofs.passes.run_lines.Goals as goal

pub loop-at-preserved : goal.loop-at-preserved
loop-at-preserved g c =
    let a = c.args in
    let line = c.index-line.result.now in
    let was = c.loop-at.invariant in
    let done : c.do_line-next.result.2 ≡ true = search rules in
    let room : c.loop-at.at < length a.lines.items = let t = c.loop-at-test.true in let e = was.3 in omega (arith, t, e) in
    let is : slice_index_or a.lines.items c.loop-at.at line ≡ line = search rules in (
      underway_then a.lines.items a.clerk a.vcpu c.loop-at.at c.loop-at.clerk c.do_line-next.new.clerk c.loop-at.vcpu c.do_line-next.result.0
          c.loop-at.got.items c.do_line-next.new.got.items line was.0 room is (c.do_line-next.ensures.done done),
      c.do_line-next.ensures.room ∙ was.1,
      c.do_line-next.ensures.desk ∙ was.2,
      was.3,
    )
