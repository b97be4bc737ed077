use Rattle.std.proofs.Common.{rules, sym}
use Rattle.std.proofs.lemmas.Fn.{always_returns_same}
use Rattle.mem_base.proofs.PlaceLaws.{place_of-searched}
use Rattle.transact.specs.Backed.{by_region}
use Rattle.transact.proofs.BackedLaws.{rises}
use Rattle.transact.proofs.backed.position.Goals as goal

pub returns-clause-place : goal.returns-clause-place
returns-clause-place c =
    let position = c.binary_search_by.ensures.position (by_region c.args.region) (always_returns_same _ _ _ (λ a r f' k. search rules)) in
    sym (place_of-searched (by_region c.args.region) c.args.places.now c.binary_search_by.result
    (rises c.args.region c.args.places.now c.requires) c.binary_search_by.ensures.bound position)
