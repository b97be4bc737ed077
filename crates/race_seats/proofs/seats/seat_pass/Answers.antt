use Rattle.std.proofs.Common.{rules, ◌≡◌, Bool, true, false, None, refl, sym, subst}
use Rattle.race_block.specs.declared.passes.PassActor.{PassActor}
use Rattle.race_block.specs.Joined.{new_clerk}
use Rattle.race_seats.specs.declared.rooms.Work.{Work}
use Rattle.race_seats.specs.Rooms.{acts}
use Rattle.race_seats.specs.Seats.{TakesSeat}
use Rattle.race_seats.proofs.seats.seat_pass.Goals as goal

pub returns-clause-seat : goal.returns-clause-seat
returns-clause-seat c =
    let work : Work = c.args.work in
    let a : PassActor = record {
      vcpu = c.args.cpu;
      bounce = work.bounce;
      clerk = c.new.result;
      lines = c.lines_for-lines.result;
      got = c.new-2.result;
      out_of_memory = false;
      text = None;
    } in
    let clerk : c.new.result ≡ new_clerk c.args.who = λ i. record { who = c.new.ensures.who i; got = c.new.ensures.got i } in
    let some : acts work ≡ true = search rules in
    subst (λ (b : Bool). TakesSeat b c.args.who c.args.known.now c.args.cpu work c.args.actors.now.items c.push_reserved-2.new.self.items
    c.args.waiting.now.items c.args.waiting.now.items) (sym some) (
      refl,
      a,
      c.push_reserved-2.ensures.items,
      record { cpu_is = refl; clerk = clerk; lines = c.lines_for-lines.ensures; room = refl; nothing = c.new-2.ensures.items },
    )
