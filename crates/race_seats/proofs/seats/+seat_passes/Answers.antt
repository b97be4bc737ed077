use Rattle.std.proofs.Common.{rules, ◌≡◌, length}
use Rattle.race_seats.proofs.SeatLaws.{none_seated, one_seated}
use Rattle.race_seats.proofs.seats.+seat_passes.Goals as goal

pub returns-in_default-clause-seats : goal.returns-in_default-clause-seats
returns-in_default-clause-seats t c = λ k lines r keeps seats does.
    let none : length c.args.cpus.now.items ≡ 0 = search rules in
    none_seated k lines r (length c.args.cpus.now.items) c.args.actors.now.items c.args.waiting.now.items none

pub returns-clause-seats : goal.returns-clause-seats
returns-clause-seats t c = λ k lines r keeps seats does.
    let fewer = c.pop.new.self.items in
    let less = c.pop-2.new.self.items in
    let cpu = c.in-Some.cpu in
    let work = c.in-Some-pop.work in
    let is : c.len-who.result ≡ length fewer = search rules in
    one_seated k lines r c.args.cpus.now.items fewer c.args.works.now.items less c.args.known.now cpu work c.len-who.result c.args.actors.now.items
    c.seat_passes.new.actors.items c.seat_pass.new.actors.items c.args.waiting.now.items c.seat_passes.new.waiting.items c.seat_pass.new.waiting.items
    c.in-Some.ensures.items c.in-Some-pop.ensures.items c.requires.works c.requires.most is keeps seats does (c.seat_passes.ensures.seats k lines r keeps)
    c.seat_pass.ensures.seat
