use Rattle.std.proofs.Common.{◌≡◌, sym, ap, Ok, Err, ◌∙◌}
use Rattle.mem_base.specs.lists.Sorting.{place_of}
use Rattle.transact.specs.Backed.{by_region}
use Rattle.transact.proofs.BackedLaws.{taken_out, absent}
use Rattle.transact.proofs.backed.forget.Goals as goal

pub returns-in-Ok : goal.returns-in-Ok
returns-in-Ok c =
    let region = c.args.region in
    let place : place_of (by_region region) c.args.places.now.items ≡ Ok c.in-Ok.at =
    sym (c.in-Ok.ensures.place ∙ ap (place_of (by_region region)) c.as_slice.ensures.value) in
    c.remove.ensures.items ∙ taken_out region c.args.places.now.items c.in-Ok.at c.requires place

pub returns-in_default : goal.returns-in_default
returns-in_default c =
    let region = c.args.region in
    let place : place_of (by_region region) c.args.places.now.items ≡ Err c.in_default.field-0 =
    sym (c.in_default.ensures.place ∙ ap (place_of (by_region region)) c.as_slice.ensures.value) in
    sym (absent region c.args.places.now.items c.in_default.field-0 c.requires place)
