use Rattle.std.proofs.Common.{◌≡◌, ◌∙◌, ◌++◌, sym, subst, ap}
use Rattle.mem_base.specs.map.Paths.{Finds}
use Rattle.mem_base.specs.map.Search.{found_in, path_of}
use Rattle.map_laws.proofs.PathLaws.{Finds-most_depth}
use Rattle.tree_find.proofs.FoundLaws.{none_found, both_found}
use Rattle.tree_find.proofs.find_path.Goals as goal
use Rattle.mem_base.specs.map.Limits.{most_depth}

pub returns-in_err-spot-clause-manual : goal.returns-in_err-spot-clause-manual
returns-in_err-spot-clause-manual c r e =
    let f = c.args.tree.now in
    let same : r ≡ c.in_ok-root.root = let was = c.in_ok-root.ensures in cc in
    let here = ap (λ q. found_in f most_depth q c.args.addr) same ∙ ap (λ a. found_in f most_depth c.in_ok-root.root a) (sym c.from.ensures) in
    let nothing = here ∙ none_found _ c.in_err-spot.ensures.spot ∙ sym c.from_residual-in_err-spot.ensures in
    subst (λ x. Finds f r c.args.addr x) nothing (Finds-most_depth f r c.args.addr c.in_err-spot.ensures.forest)

pub returns-clause-manual : goal.returns-clause-manual
returns-clause-manual c r e =
    let f = c.args.tree.now in
    let same : r ≡ c.in_ok-root.root = let was = c.in_ok-root.ensures in cc in
    let here = ap (λ q. found_in f most_depth q c.args.addr) same ∙ ap (λ a. found_in f most_depth c.in_ok-root.root a) (sym c.from.ensures) in
    let path = c.in_ok-spot.ensures.path ∙ ap (λ p. p ++ path_of (found_in f most_depth c.in_ok-root.root c.from.result)) c.new-path.ensures in
    let found = here ∙ both_found _ c.in_ok-spot.spot c.find_from.new.path c.in_ok-spot.ensures.spot path in
    subst (λ x. Finds f r c.args.addr x) found (Finds-most_depth f r c.args.addr c.in_ok-spot.ensures.forest)
