use Rattle.std.proofs.Common.{Option, OnOk, sym, subst}
use Rattle.mem_base.specs.script.Race.{block}
use Rattle.mem_base.specs.script.Tasks.{Known}
use Rattle.race_join.proofs.HandedOn.{later_same}
use Rattle.race_levels.specs.Outside.{WritesOn}
use Rattle.race_seats.specs.Seats.{IsTold, names_then}
use Rattle.race_seats.proofs.BlockLaws.{nothing_stops}
use Rattle.race_seats.proofs.SeatLaws.{ready_seats}
use Rattle.race_inside.proofs.blocks.block.Goals as goal

pub seat-seated-requires-clause-room : goal.seat-seated-requires-clause-room
seat-seated-requires-clause-room g c = (c.args.known, c.seat_desk-kept.ensures.desk, c.in-Ok.ensures.passes)

pub run_in-after-requires-clause-seated : goal.run_in-after-requires-clause-seated
run_in-after-requires-clause-seated g c κs within = (
  c.args.known,
  c.seat-seated.ensures.seated c.args.known c.args.desk c.seat_desk-kept.ensures.desk c.in-Ok.ensures.passes
      (ready_seats c.args.desk c.args.cpus.items c.requires.ready),
)

pub known_after-requires : goal.known_after-requires
known_after-requires g c =
    subst (λ (o : Option Known). IsTold o c.run_in-after.result.2) c.seat-seated.ensures.known c.run_in-after.ensures.told

pub returns-in-Ok-clause-step : goal.returns-in-Ok-clause-step
returns-in-Ok-clause-step g c =
    subst (λ (next : Known). OnOk c.run_in-after.result.3
    (WritesOn c.args.desk c.args.known (block c.args.lines.now) c.run_in-after.result.0 next c.args.text.now c.run_in-after.new.text))
    (sym (c.known_after.ensures c.args.known))
    (subst (λ (o : Option Known). OnOk c.run_in-after.result.3 (WritesOn c.args.desk c.args.known (block c.args.lines.now) c.run_in-after.result.0
    (names_then c.args.known o c.run_in-after.result.2) c.args.text.now c.run_in-after.new.text)) c.seat-seated.ensures.known
    (c.run_in-after.ensures.step c.args.known (c.seat-seated.ensures.seated c.args.known c.args.desk c.seat_desk-kept.ensures.desk
    c.in-Ok.ensures.passes (ready_seats c.args.desk c.args.cpus.items c.requires.ready))))

pub returns-in-Ok-clause-stopped : goal.returns-in-Ok-clause-stopped
returns-in-Ok-clause-stopped g c =
    c.run_in-after.ensures.stopped c.args.known (c.seat-seated.ensures.seated c.args.known c.args.desk c.seat_desk-kept.ensures.desk
    c.in-Ok.ensures.passes (ready_seats c.args.desk c.args.cpus.items c.requires.ready))

pub returns-in-Err-clause-later : goal.returns-in-Err-clause-later
returns-in-Err-clause-later g c = later_same c.args.desk

pub returns-in-Err-clause-stopped : goal.returns-in-Err-clause-stopped
returns-in-Err-clause-stopped g c = nothing_stops c.args.desk c.args.known (block c.args.lines.now)
