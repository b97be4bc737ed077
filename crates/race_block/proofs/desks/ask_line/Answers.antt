use Rattle.race_block.specs.Desks.{line_meant}
use Rattle.race_block.proofs.DeskLaws.{asked, stops_after, stops_first}
use Rattle.race_block.proofs.desks.ask_line.Goals as goal
use Rattle.std.proofs.Common.{refl}
use Rattle.mem_base.proofs.OptionLaws.{on_failure}

pub returns-in_err-task-clause-stopped : goal.returns-in_err-task-clause-stopped
returns-in_err-task-clause-stopped g c =
    on_failure c.from_residual.result _ (stops_first c.args.known.now (line_meant c.args.own.now) c.args.clerk.now c.args.clerk.now
    c.args.notes.now.items c.args.notes.now.items refl refl)

pub returns-in_err-got-clause-stopped : goal.returns-in_err-got-clause-stopped
returns-in_err-got-clause-stopped g c =
    let same = c.in_err-got.ensures.err in
    on_failure c.from_residual-in_err-got.result _ (stops_first c.args.known.now (line_meant c.args.own.now) c.args.clerk.now c.ask_own.new.clerk
    c.args.notes.now.items c.ask_own.new.notes.items same.0 same.1)

pub returns-in_err-current-clause-stopped : goal.returns-in_err-current-clause-stopped
returns-in_err-current-clause-stopped g c =
    let same = c.in_err-current.ensures.err in
    on_failure c.from_residual-in_err-current.result _ (stops_after (g.O.Orderly.cabinet c.args.desk.now) c.args.known.now (line_meant c.args.own.now)
    c.in_ok-task.task c.args.clerk.now c.args.notes.now.items c.in_ok-got.got c.ask_own.new.clerk c.ask.new.clerk c.ask_own.new.notes.items
    c.ask.new.notes.items c.in_ok-task.ensures c.in_ok-got.ensures.given same.0 same.1)

pub returns-clause-asked : goal.returns-clause-asked
returns-clause-asked g c =
    asked _ _ c.args.known.now (line_meant c.args.own.now) (record { task = c.in_ok-task.task; got = c.in_ok-got.got; current = c.in-Some.current })
    c.args.clerk.now c.ask_own.new.clerk c.ask.new.clerk c.args.notes.now.items c.ask_own.new.notes.items c.ask.new.notes.items c.in_ok-current.field-0
    c.in_ok-task.ensures c.in_ok-got.ensures.given c.in_ok-current.ensures.given c.in-Some.is
