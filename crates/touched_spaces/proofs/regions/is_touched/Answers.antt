use Rattle.std.proofs.Common.{rules, ◌≡◌, true, ap, ◌∙◌}
use Rattle.std.specs.List.{list_any}
use Rattle.mem_base.specs.lists.Booleans.{bool_eq}
use Rattle.mem_base.specs.map.Search.{root_of}
use Rattle.mem_base.specs.map.Touched.{is_same_region, reached}
use Rattle.touched_spaces.proofs.TouchedLaws.{is_other, touched_by, touched_by_noted, known_reach, either_first, either_second}
use Rattle.change_laws.specs.Meeting.{OthersStay}
use Rattle.change_laws.specs.Touching.{is_touching}
use Rattle.touched_spaces.proofs.regions.is_touched.Goals as goal

pub returns-then-any_differs : goal.returns-then-any_differs
returns-then-any_differs c =
    let f = c.args.old.now in
    let g = c.args.new.now in
    let s = c.args.space in
    let roots : is_same_region (root_of f s) (root_of g s) ≡ true = search rules in
    let global : bool_eq f.global g.global ≡ true = search rules in
    let first : c.any_differs.result ≡ list_any (is_other f g) (reached f s) =
    c.any_differs.ensures ∙ ap (list_any (is_other f g)) (c.regions_at.ensures ∙ known_reach f s c.args.known.now c.requires.known) in
    either_first _ _ _ _ (touched_by f g s roots global) first (search rules)

pub returns-else-any_differs : goal.returns-else-any_differs
returns-else-any_differs c =
    let f = c.args.old.now in
    let g = c.args.new.now in
    let s = c.args.space in
    let roots : is_same_region (root_of f s) (root_of g s) ≡ true = search rules in
    let global : bool_eq f.global g.global ≡ true = search rules in
    let first : c.any_differs.result ≡ list_any (is_other f g) (reached f s) =
    c.any_differs.ensures ∙ ap (list_any (is_other f g)) (c.regions_at.ensures ∙ known_reach f s c.args.known.now c.requires.known) in
    let second : c.any_differs-else-any_differs.result ≡ list_any (is_other f g) (reached g s) =
    c.any_differs-else-any_differs.ensures ∙ ap (list_any (is_other f g)) (c.as_slice-else-any_differs.ensures ∙ c.requires.reach) in
    either_second _ _ _ _ _ (touched_by f g s roots global) first (search rules) second

pub returns-in-Some : goal.returns-in-Some
returns-in-Some c =
    let f = c.args.old.now in
    let g = c.args.new.now in
    let s = c.args.space in
    let roots : is_same_region (root_of f s) (root_of g s) ≡ true = search rules in
    let global : bool_eq f.global g.global ≡ true = search rules in
    let others : OthersStay f g c.in-Some.noted = search rules in
    touched_by_noted f g s c.in-Some.noted c.any_touching.result others roots global
    (c.any_touching.ensures ∙ ap (list_any (is_touching f g s)) c.as_slice.ensures)
