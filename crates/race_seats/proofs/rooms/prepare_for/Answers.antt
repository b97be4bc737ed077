use Rattle.std.proofs.Common.{rules, ◌≡◌, length}
use Rattle.race_seats.proofs.LineLists.{own_fit, works_alone, works_prepared}
use Rattle.race_seats.proofs.rooms.prepare_for.Goals as goal

pub prepare_all-requires : goal.prepare_all-requires
prepare_all-requires c = record { fit = own_fit c.args.lines.now c.args.works.now.items c.requires.fits c.requires.most c.requires.own }

pub returns-then-is_empty-clause-works : goal.returns-then-is_empty-clause-works
returns-then-is_empty-clause-works c =
    let none : length c.args.desk_lines.now ≡ 0 = search rules in
    works_alone c.args.known.now c.args.lines.now c.args.desk_lines.now c.args.works.now.items c.requires.fits c.requires.desk none c.requires.most
    c.requires.own

pub returns-clause-works : goal.returns-clause-works
returns-clause-works c =
    works_prepared c.args.known.now c.args.lines.now c.args.works.now.items c.prepare_all.new.works.items c.requires.fits c.requires.most c.requires.own
    c.in_ok-prepare_all.ensures

pub returns-clause-all : goal.returns-clause-all
returns-clause-all c = c.in_ok-prepare_all.ensures.all
