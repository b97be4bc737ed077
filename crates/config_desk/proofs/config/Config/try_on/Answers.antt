use Rattle.std.proofs.Common.{arith, ◌+◌, sym, ◌∙◌}
use Rattle.config_desk.specs.Tries.{IsTry}
use Rattle.config_desk.proofs.SettlingLaws.{first_try, next_try}
use Rattle.config_desk.proofs.config.Config.try_on.Goals as goal

pub loop-left-init : goal.loop-left-init
loop-left-init g c =
    let e = c.configure-answer.ensures in
    let first : IsTry c.args.self.now c.args.event.now c.configure-answer.result c.configure-answer.new.self = record {
      turn = e.turn;
      number = e.number;
      cause = e.cause;
      held = e.held;
      left = e.left;
      current = e.current;
      unchanged = e.unchanged;
    } in (
      0,
      omega (arith, c.tries-left.ensures),
      first_try c.args.self.now c.configure-answer.new.self c.args.event.now c.configure-answer.result first,
    )

pub loop-left-preserved : goal.loop-left-preserved
loop-left-preserved g c =
    let inv = c.loop-left.invariant in
    let e = c.configure-answer-in-loop-left.ensures in
    let again : IsTry c.loop-left.self c.args.event.now c.configure-answer-in-loop-left.result c.configure-answer-in-loop-left.new.self = record {
      turn = e.turn;
      number = e.number;
      cause = e.cause;
      held = e.held;
      left = e.left;
      current = e.current;
      unchanged = e.unchanged;
    } in (
      inv.0 + 1,
      omega (arith, inv.1, c.loop-left-test.true),
      next_try inv.0 c.args.self.now c.loop-left.self c.configure-answer-in-loop-left.new.self c.args.event.now c.loop-left.answer
          c.configure-answer-in-loop-left.result (sym c.was_held.ensures ∙ c.if-not-was_held.false) inv.2 again,
    )
