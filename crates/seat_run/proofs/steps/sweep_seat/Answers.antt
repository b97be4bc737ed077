use Rattle.std.proofs.Common.{ap, sym, ◌∙◌}
use Rattle.mem_base.specs.machine.Generations.{least_lowest}
use Rattle.epoch_rule.specs.Calls.{generations_in_seen}
use Rattle.epoch_rule.specs.declared.views.Sizes.{Sizes}
use Rattle.seat_run.proofs.RowLaws.{swept_so}
use Rattle.seat_run.proofs.steps.sweep_seat.Goals as goal

pub returns : goal.returns
returns c =
    let s = c.sweep-swept.ensures.swept in
    let same = c.sweep-swept.ensures.same in record {
      swept = swept_so c.args.seat.now c.sweep-swept.new.writer s.0 c.sweep-swept.ensures.some s.1 s.2 c.sweep-swept.ensures.home same.0 same.1 same.2;
      lowest = c.sweep-swept.ensures.lowest ∙ ap (λ (z : Sizes). least_lowest (generations_in_seen z c.sweep-swept.new.writer.seen).current
          (generations_in_seen z c.sweep-swept.new.writer.seen).passes) (sym same.1);
    }
