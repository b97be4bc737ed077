use Rattle.std.proofs.Common.{◌<◌, ℕ, List, refl, sym, subst, ◌∙◌}
use mathlib.Core.List.{IsPrefix}
use Rattle.mem_base.specs.declared.machine.events.HistoryEntry.{HistoryEntry}
use Rattle.mem_base.specs.map.Limits.{most_passes}
use Rattle.mem_base.specs.script.RaceLines.{said_text}
use Rattle.mem_base.specs.script.Race.{alone}
use Rattle.mem_base.specs.script.Scripts.{Line}
use Rattle.desk_orders.specs.Records.{RecordState}
use Rattle.race_lines.specs.DeskLines.{desk_line_by}
use Rattle.race_lines.specs.LineTasks.{resolved}
use Rattle.race_levels.proofs.ReadyLaws.{have_met}
use Rattle.race_outside.specs.Asked.{line_asked}
use Rattle.race_levels.specs.Outside.{StepsOn, StopsIn}
use Rattle.race_outside.proofs.DeskLaws.{asked_steps}
use Rattle.race_levels.proofs.StoppingLaws.{lost_stops, on_both}
use Rattle.race_outside.proofs.AskingLaws.{asking_stops}
use Rattle.race_outside.proofs.desks.desk_line.Goals as goal
use Rattle.mem_base.proofs.OptionLaws.{on_failure}

pub meet_all-requires-clause-own : goal.meet_all-requires-clause-own
meet_all-requires-clause-own g c k d near = c.requires.ready.own k d near ∙ sym c.ask_line-asked.ensures.later.grew.cabinet

pub meet_all-requires-clause-heard : goal.meet_all-requires-clause-heard
meet_all-requires-clause-heard g c k d near =
    let inside : k < most_passes = subst (λ (n : ℕ). k < n) c.requires.ready.all near in
    subst (λ (xs : List HistoryEntry). IsPrefix xs c.ask_line-asked.new.desk.seat.seen) (sym (c.requires.ready.level k d inside).1)
    c.ask_line-asked.ensures.later.grew.seen

pub returns-in-Ok-clause-step : goal.returns-in-Ok-clause-step
returns-in-Ok-clause-step g c =
    let v : RecordState = c.args.desk.now in
    let m : RecordState = c.ask_line-asked.new.desk in
    let k = c.args.known.now in
    let line : Line = (c.args.number, c.args.command.now) in
    let x = c.in-Ok.asked in
    let next = c.take_line.new.self in
    on_both c.take_line.result c.take_line.ensures.known c.take_line.ensures.said (λ known said.
    subst (λ (r : RecordState). StepsOn v k (alone line) r next (said_text next.names r.part.desk.listening.journal c.take_line.new.said))
    (sym c.meet_all.ensures.same)
    (asked_steps v m k line x next c.take_line.new.said c.args.cpus.now c.meet_all.new.cpus c.in-Ok.ensures.asked c.requires.fits c.requires.actor
    c.has_seen_legal.ensures c.requires.ready.level
    (have_met m.seat.seen c.args.cpus.now c.meet_all.new.cpus c.requires.ready.all c.meet_all.ensures.met)
    (known ∙ (λ i. (desk_line_by k c.args.number (resolved x.task) (c.answered.ensures i) (c.deref.ensures i).number (c.deref.ensures i).forest).known))
    (said ∙ (λ i. (desk_line_by k c.args.number (resolved x.task) (c.answered.ensures i) (c.deref.ensures i).number (c.deref.ensures i).forest).said))))

pub returns-in-Ok-clause-stopped : goal.returns-in-Ok-clause-stopped
returns-in-Ok-clause-stopped g c =
    let v : RecordState = c.args.desk.now in
    let m : RecordState = c.ask_line-asked.new.desk in
    let k = c.args.known.now in
    let line : Line = (c.args.number, c.args.command.now) in
    let x = c.in-Ok.asked in
    let d = line_asked k c.args.number x in
    on_failure c.take_line.result _ (subst (λ (r : RecordState). StopsIn v k (alone line) r) (sym c.meet_all.ensures.same)
    (lost_stops v m k d.known (alone line) (said_text d.known.names m.part.desk.listening.journal d.said)
    (asked_steps v m k line x d.known d.said c.args.cpus.now c.meet_all.new.cpus c.in-Ok.ensures.asked c.requires.fits c.requires.actor
    c.has_seen_legal.ensures c.requires.ready.level
    (have_met m.seat.seen c.args.cpus.now c.meet_all.new.cpus c.requires.ready.all c.meet_all.ensures.met) refl refl)))

pub returns-in-Err-clause-stopped : goal.returns-in-Err-clause-stopped
returns-in-Err-clause-stopped g c =
    let v : RecordState = c.args.desk.now in
    let m : RecordState = c.ask_line-asked.new.desk in
    let k = c.args.known.now in
    let line : Line = (c.args.number, c.args.command.now) in
    subst (λ (r : RecordState). StopsIn v k (alone line) r) (sym c.meet_all.ensures.same)
    (asking_stops v m k line c.args.cpus.now c.meet_all.new.cpus c.requires.actor c.has_seen_legal.ensures c.requires.ready.level
    (have_met m.seat.seen c.args.cpus.now c.meet_all.new.cpus c.requires.ready.all c.meet_all.ensures.met) c.requires.fits c.in-Err.ensures.stopped)
