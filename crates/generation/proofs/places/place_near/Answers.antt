use Rattle.std.proofs.Common.{sym}
use Rattle.mem_base.specs.declared.access.cells.Place.{Place}
use Rattle.generation.proofs.PlacedLaws.{found_there}
use Rattle.generation.proofs.places.place_near.Goals as goal

abbrev no_place : Place
no_place = record { region = record { 0 = 0 }; start = 0; words = 0; bytes = 0; regs = 0 }

pub returns-then-places-guess : goal.returns-then-places-guess
returns-then-places-guess c =
    sym (found_there c.args.places.now c.args.guess no_place c.args.region c.if-guess-places.true c.requires c.if-places-guess.true)
