use Rattle.epoch_rule.proofs.Common.{arith, ℕ, ◌<◌, length, get_or, refl, ap, ◌∙◌, PassTrack, known_after_sweep, known_of, nothing_known, View, pass_id}
use Rattle.epoch_rule.proofs.Common.{generations_seen, stored}
use Rattle.epoch_rule.proofs.SweepLaws.{sweeping_current, sweeping_next}
use Rattle.epoch_rule.proofs.steps.sweep_all.Goals as goal
use Rattle.std.proofs.lemmas.List.{get_or-map}

pub loop-pass-preserved : goal.loop-pass-preserved
loop-pass-preserved g c =
    let inv = c.loop-pass.invariant in
    let v : View = c.args.seat.now.me.0 in
    let w : View = c.loop-pass.seat.me.0 in
    let n : ℕ = c.loop-pass.pass in
    let s = inv.2 in
    let now = sweeping_current v w c.loop-pass.known.items n s in
    let k : PassTrack = known_of (generations_seen w) (pass_id n) in
    let below = c.loop-pass-test.true in
    let long = now.1 in
    let all = c.requires.many in
    let near : n < length (generations_seen w).passes = omega arith in
    let i = c.index.ensures in (
      c.sweep-word.ensures.seat.0 ∙ inv.0,
      c.sweep-word.ensures.seat.1 ∙ inv.1,
      sweeping_next v w c.sweep-word.new.seat.me.0 c.loop-pass.known.items _ n c.sweep-word.result c.found_after.result s c.sweep-word.ensures.adds
          c.sweep-word.ensures.seat.2 (c.found_after.ensures k
          (i ∙ (ap (λ l. get_or l n c.index.result.now) s.is_known ∙ get_or-map stored (generations_seen w).passes n nothing_known c.index.result.now near))
          ∙ ap (λ (x : ℕ). stored (known_after_sweep x k c.sweep-word.result)) c.requires.current) refl,
    )
