use Rattle.std.proofs.Common.{sym, ap, subst, get_or, length, ◌∙◌}
use Rattle.std.proofs.lemmas.List.{length-map}
use Rattle.atomic_table.specs.Seated.{TableId}
use Rattle.desk_orders.specs.Records.{IsLater, RecordState}
use Rattle.desk_orders.proofs.RecordLaws.{later_joins}
use Rattle.race_block.specs.Joined.{IsVcpuOf, clerk_of}
use Rattle.race_block.proofs.JoinLaws.{joined_all, of_all, still_all}
use Rattle.race_join.proofs.joining.run_block.Goals as goal

pub hear_all-requires : goal.hear_all-requires
hear_all-requires g c = record {
  own = of_all g.J.Naming.start.seat.cabinet c.closed-desk.result.0.seat.cabinet c.args.actors.now c.act_all.new.actors c.take_clerks.new.actors
      c.closed-desk.ensures.later.grew.cabinet c.act_all.auto.actors c.take_clerks.auto.actors c.requires.ready c.act_all.ensures.acted
      c.take_clerks.ensures.rest;
}

pub meet_all-requires-clause-own : goal.meet_all-requires-clause-own
meet_all-requires-clause-own g c = λ i d room.
    let here : TableId = c.closed-desk.result.0.seat.cabinet in
    let of = of_all g.J.Naming.start.seat.cabinet here c.args.actors.now c.act_all.new.actors c.take_clerks.new.actors
    c.closed-desk.ensures.later.grew.cabinet c.act_all.auto.actors c.take_clerks.auto.actors c.requires.ready c.act_all.ensures.acted
    c.take_clerks.ensures.rest in
    subst (λ (z : TableId). IsVcpuOf z (get_or c.hear_all.new.actors i d)) (sym c.hear_all.ensures.later.grew.cabinet)
    (still_all here c.hear_all.new.desk.seat.seen c.take_clerks.new.actors c.hear_all.new.actors c.hear_all.auto.actors of c.hear_all.ensures.told i d
    room).0

pub meet_all-requires-clause-heard : goal.meet_all-requires-clause-heard
meet_all-requires-clause-heard g c = λ i d room.
    let here : TableId = c.closed-desk.result.0.seat.cabinet in
    let of = of_all g.J.Naming.start.seat.cabinet here c.args.actors.now c.act_all.new.actors c.take_clerks.new.actors
    c.closed-desk.ensures.later.grew.cabinet c.act_all.auto.actors c.take_clerks.auto.actors c.requires.ready c.act_all.ensures.acted
    c.take_clerks.ensures.rest in
    (still_all here c.hear_all.new.desk.seat.seen c.take_clerks.new.actors c.hear_all.new.actors c.hear_all.auto.actors of c.hear_all.ensures.told i d
    room).1

pub returns-clause-later : goal.returns-clause-later
returns-clause-later g c =
    subst (λ (z : RecordState × RecordState). IsLater z.0 z.1) (λ i. (sym c.requires.start i, sym c.meet_all.ensures.same i))
    (later_joins g.J.Naming.start c.closed-desk.result.0 c.hear_all.new.desk c.closed-desk.ensures.later c.hear_all.ensures.later)

pub returns-clause-count : goal.returns-clause-count
returns-clause-count g c =
    ap length c.take_clerks.ensures.clerks ∙ length-map c.act_all.new.actors clerk_of ∙ c.act_all.auto.actors

pub returns-clause-joined : goal.returns-clause-joined
returns-clause-joined g c =
    joined_all g.J.Naming.start.seat.cabinet c.hear_all.new.desk.seat.seen c.meet_all.new.desk.seat.seen c.args.actors.now c.act_all.new.actors
    c.take_clerks.new.actors c.hear_all.new.actors c.meet_all.new.actors c.take_clerks.new.clerks.items
    (ap (λ (r : RecordState). r.seat.seen) c.meet_all.ensures.same) c.act_all.auto.actors c.take_clerks.auto.actors c.hear_all.auto.actors
    c.take_clerks.ensures.clerks c.act_all.ensures.acted c.take_clerks.ensures.rest c.hear_all.ensures.told c.meet_all.ensures.met
