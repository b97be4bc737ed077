use Rattle.std.proofs.Common.{◌+◌, ◌-◌, ◌∙◌, arith}
use Rattle.bounded_write.proofs.WordLaws.{contended, first_found, found_again, not_found}
use Rattle.bounded_write.proofs.tries.exchange.Goals as goal

pub loop-left-init : goal.loop-left-init
loop-left-init g c =
    let s = c.touch-old.ensures.shown in (
      s.0,
      c.touch-old.ensures.stays,
      first_found (g.H.Hand.sizes c.args.hand.now) (g.H.Hand.seen c.args.hand.now) (c.args.place.now.start + c.args.word) c.touch-old.result c.args.tries s.1,
    )

pub loop-left-preserved : goal.loop-left-preserved
loop-left-preserved g c =
    let inv = c.loop-left.invariant in
    let same = g.met.H.Hand.lasts c.args.hand.now c.loop-left.hand inv.1 in
    let vain = not_found _ _ c.touch-found.result c.loop-left.old c.touch-found.ensures.shown c.if-found-old.false in (
      vain.0 ∙ inv.0,
      g.met.H.Hand.joins c.args.hand.now c.loop-left.hand c.touch-found.new.hand inv.1 c.touch-found.ensures.stays,
      found_again (g.H.Hand.sizes c.args.hand.now) (g.H.Hand.sizes c.loop-left.hand) (g.H.Hand.seen c.args.hand.now) (g.H.Hand.seen c.loop-left.hand)
          (c.args.place.now.start + c.args.word) c.loop-left.old c.touch-found.result c.loop-left.left (c.loop-left.left - 1) c.args.tries inv.2 same.1 inv.0
          vain.1 c.if-found-old.false (omega (arith, c.loop-left-test.true)),
    )

pub returns-clause-wrote : goal.returns-clause-wrote
returns-clause-wrote g c =
    let inv = c.loop-left.invariant in (
      inv.0,
      contended (g.H.Hand.sizes c.args.hand.now) (g.H.Hand.seen c.args.hand.now) (c.args.place.now.start + c.args.word) c.loop-left.old c.args.tries
          c.loop-left.left inv.2 (omega (arith, c.loop-left-test.false)),
    )
