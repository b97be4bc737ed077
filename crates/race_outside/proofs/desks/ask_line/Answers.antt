use Rattle.std.proofs.Common.{inl, inr, refl, sym, subst}
use Rattle.desk_orders.specs.Records.{RecordState}
use Rattle.race_outside.specs.Asked.{TakesOwn}
use Rattle.desk_orders.proofs.RecordLaws.{later_joins}
use Rattle.race_outside.proofs.desks.ask_line.Goals as goal
use Rattle.mem_base.proofs.OptionLaws.{on_failure}

pub returns-in_err-task-clause-stopped : goal.returns-in_err-task-clause-stopped
returns-in_err-task-clause-stopped g c = on_failure c.from_residual.result _ (inl refl)

pub returns-in_err-got-clause-stopped : goal.returns-in_err-got-clause-stopped
returns-in_err-got-clause-stopped g c = on_failure c.from_residual-in_err-got.result _ (inl c.in_err-got.ensures.err)

pub returns-in_err-current-clause-stopped : goal.returns-in_err-current-clause-stopped
returns-in_err-current-clause-stopped g c = on_failure c.from_residual-in_err-current.result _ (inr (record {
  task = c.in_ok-task.task;
  got = c.in_ok-got.got;
  first = record {
    resolves = c.in_ok-task.ensures;
    took = subst (λ (r : RecordState). TakesOwn c.args.desk.now c.in_ok-task.task c.in_ok-got.got r) (sym c.in_err-current.ensures.err)
        c.in_ok-got.ensures.took;
  };
}))

pub returns-clause-asked : goal.returns-clause-asked
returns-clause-asked g c = record {
  between = c.own_order.new.desk;
  first = record { resolves = c.in_ok-task.ensures; took = c.in_ok-got.ensures.took };
  looks = c.in_ok-current.ensures.looked;
}

pub returns-clause-later : goal.returns-clause-later
returns-clause-later g c =
    later_joins c.args.desk.now c.own_order.new.desk c.look.new.desk c.own_order.ensures.later c.look.ensures.later
