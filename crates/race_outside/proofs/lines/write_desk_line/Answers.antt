use Rattle.mem_base.specs.script.Race.{alone}
use Rattle.mem_base.specs.script.RaceLines.{said_text}
use Rattle.race_levels.proofs.StoppingLaws.{lost_stops, writes_on}
use Rattle.race_outside.proofs.lines.write_desk_line.Goals as goal
use Rattle.mem_base.proofs.OptionLaws.{on_failure}

pub returns-in-Ok-clause-step : goal.returns-in-Ok-clause-step
returns-in-Ok-clause-step g c =
    let next = c.desk_line.new.known in
    let w = c.desk_line.new.desk in
    writes_on c.args.desk.now w c.args.known.now next (alone (c.args.number, c.args.command.now)) c.args.text.now c.add_text.new.text
    c.desk_line.new.said _ _ c.add_text.result c.add_text.ensures c.names.ensures c.journal.ensures c.in-Ok.ensures.step

pub returns-in-Ok-clause-stopped : goal.returns-in-Ok-clause-stopped
returns-in-Ok-clause-stopped g c =
    let next = c.desk_line.new.known in
    let w = c.desk_line.new.desk in
    on_failure c.add_text.result _ (lost_stops c.args.desk.now w c.args.known.now next (alone (c.args.number, c.args.command.now))
    (said_text next.names w.part.desk.listening.journal c.desk_line.new.said) c.in-Ok.ensures.step)
