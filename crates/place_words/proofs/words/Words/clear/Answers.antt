use Rattle.std.proofs.Common.{◌+◌, ◌≤◌, ℕ, ap, ◌∙◌, arith}
use Rattle.place_words.specs.Blocks.{cleared_between}
use Rattle.place_words.proofs.FrameLaws.{cleared_further}
use Rattle.place_words.proofs.words.Words.clear.Goals as goal

pub loop-at-preserved : goal.loop-at-preserved
loop-at-preserved c =
    let start : ℕ = c.args.place.now.start in
    let end : ℕ = start + c.args.place.now.words in
    let at : ℕ = c.loop-at.at in
    let stop : ℕ = at + c.min.result in
    let from : start ≤ at = c.loop-at.invariant.from in
    let within : stop ≤ end = omega (arith, c.min.ensures, c.loop-at-test.true) in
    record {
      from = omega arith;
      to = within;
      words = c.clear_in_frame.ensures.words ∙ ap (cleared_between at stop) c.loop-at.invariant.words
          ∙ cleared_further c.args.self.now start at stop from (omega arith) (omega (arith, c.requires));
      len = c.clear_in_frame.ensures.len ∙ c.loop-at.invariant.len;
    }
