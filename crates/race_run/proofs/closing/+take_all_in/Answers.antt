use Rattle.std.proofs.Common.{arith, length}
use Rattle.race_run.proofs.ClosingLaws.{came_all, in_all, last_in, leaves_by}
use Rattle.race_run.proofs.closing.+take_all_in.Goals as goal

pub returns-in-Some-clause-came : goal.returns-in-Some-clause-came
returns-in-Some-clause-came t c =
    let left = leaves_by c.in-Some.cpu c.into_pass.result c.into_pass.ensures.left in
    let last = last_in c.args.cpus.now.items c.pop.new.self.items c.in-Some.cpu c.into_pass.result c.args.desk.now.seat.out c.take_in.new.self.seat.out
    c.in-Some.ensures.items c.requires.numbers left.number c.take_in.ensures.out in
    came_all c.args.cpus.now.items c.pop.new.self.items c.in-Some.cpu c.into_pass.result c.take_in.new.self.seat.seen c.take_all_in.new.desk.seat.seen
    c.in-Some.ensures.items last.numbered left c.take_in.ensures.brought
    (c.take_all_in.ensures.others (length c.pop.new.self.items) (omega arith) last.inside) c.take_all_in.ensures.came

pub returns-in-Some-clause-in_now : goal.returns-in-Some-clause-in_now
returns-in-Some-clause-in_now t c =
    let left = leaves_by c.in-Some.cpu c.into_pass.result c.into_pass.ensures.left in
    let last = last_in c.args.cpus.now.items c.pop.new.self.items c.in-Some.cpu c.into_pass.result c.args.desk.now.seat.out c.take_in.new.self.seat.out
    c.in-Some.ensures.items c.requires.numbers left.number c.take_in.ensures.out in
    in_all c.args.cpus.now.items c.pop.new.self.items c.in-Some.cpu c.take_in.new.self.seat.out c.take_all_in.new.desk.seat.out c.in-Some.ensures.items last
    c.take_all_in.ensures.in_now c.take_all_in.ensures.in_still
