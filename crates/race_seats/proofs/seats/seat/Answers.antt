use Rattle.std.proofs.Common.{◌≡◌, ◌≤◌, length, refl, ap, arith}
use Rattle.race_seats.proofs.SeatLaws.{all_seated, desk_alone, keeps_known}
use Rattle.race_seats.proofs.seats.seat.Goals as goal

pub seat_passes-requires-clause-actors_fit : goal.seat_passes-requires-clause-actors_fit
seat_passes-requires-clause-actors_fit c =
    let one : length c.args.actors.items ≤ 1 =
    desk_alone c.requires.room.0 c.args.lines.now c.args.known.now c.args.actors.items c.requires.room.1 in
    let fit = c.requires.fit in
    let all = c.requires.all in
    omega (arith, one, fit, all)

pub seat_passes-requires-clause-waiting_fit : goal.seat_passes-requires-clause-waiting_fit
seat_passes-requires-clause-waiting_fit c =
    let none : length c.args.room.waiting.items ≡ 0 = ap length c.requires.room.2.no_waiting in
    let fit = c.requires.room.2.waiting_fit in
    let all = c.requires.all in
    omega (arith, none, fit, all)

pub returns-clause-seated : goal.returns-clause-seated
returns-clause-seated c = λ k r desk room seats.
    all_seated k c.args.lines.now r c.args.cpus.items c.args.room _ c.args.actors.items c.requires.all room desk
    (c.seat_passes.ensures.seats k c.args.lines.now r (keeps_known k c.args.lines.now c.args.known.now c.args.actors.items desk) seats room.works)
    c.seat_passes.ensures.actors_most refl refl refl
