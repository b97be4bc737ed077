use Rattle.std.proofs.Common.{rules, map, ap, ◌∙◌}
use Rattle.race_block.specs.Desks.{lines_meant}
use Rattle.race_seats.specs.Rooms.{acts}
use Rattle.race_seats.proofs.LineLists.{desks_own, others_own}
use Rattle.race_seats.proofs.rooms.room_for.Goals as goal

pub prepare_for-requires-clause-desk : goal.prepare_for-requires-clause-desk
prepare_for-requires-clause-desk c =
    ap lines_meant c.as_slice.ensures.value
    ∙ desks_own c.args.lines.now c.deal.new.works.items c.take_desk-desk_lines.new.works.items c.take_desk-desk_lines.result.items c.in_ok-deal.ensures
    c.take_desk-desk_lines.ensures

pub prepare_for-requires-clause-own : goal.prepare_for-requires-clause-own
prepare_for-requires-clause-own c =
    (others_own c.args.lines.now c.deal.new.works.items c.take_desk-desk_lines.new.works.items c.take_desk-desk_lines.result.items c.in_ok-deal.ensures
    c.take_desk-desk_lines.ensures).1

pub prepare_for-requires-clause-most : goal.prepare_for-requires-clause-most
prepare_for-requires-clause-most c =
    (others_own c.args.lines.now c.deal.new.works.items c.take_desk-desk_lines.new.works.items c.take_desk-desk_lines.result.items c.in_ok-deal.ensures
    c.take_desk-desk_lines.ensures).0

pub returns : goal.returns
returns c =
    let lines = c.args.lines.now in
    let own = c.take_desk-desk_lines.result.items in
    let others = c.take_desk-desk_lines.new.works.items in
    let desk = desks_own lines c.deal.new.works.items others own c.in_ok-deal.ensures c.take_desk-desk_lines.ensures in
    let many = (others_own lines c.deal.new.works.items others own c.in_ok-deal.ensures c.take_desk-desk_lines.ensures).0 in record {
      desk = desk;
      no_actors = search rules;
      actors_fit = search rules;
      passes = record {
        all_works = c.in_ok-prepare_for.ensures.all ∙ many;
        works = c.in_ok-prepare_for.ensures.works;
        busy = c.in_ok-busy.ensures ∙ ap (map acts) c.as_slice-2.ensures.value;
        no_waiting = search rules;
        waiting_fit = search rules;
        no_cpus = search rules;
        cpus_fit = search rules;
        no_clerks = search rules;
        clerks_fit = search rules;
      };
    }
