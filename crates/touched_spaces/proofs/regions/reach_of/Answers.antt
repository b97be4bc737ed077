use Rattle.std.proofs.Common.{rules, ◌≡◌, true, sym, subst, ◌∙◌}
use Rattle.mem_base.specs.lists.Booleans.{bool_eq}
use Rattle.mem_base.specs.map.Search.{root_of}
use Rattle.mem_base.specs.map.Touched.{reached, is_same_region}
use Rattle.change_laws.specs.Meeting.{OthersStay}
use Rattle.touched_spaces.specs.Noted.{stay_away}
use Rattle.touched_spaces.proofs.TouchedLaws.{known_some}
use Rattle.touched_spaces.proofs.StayLaws.{reach_stays, not_touched}
use Rattle.touched_spaces.proofs.regions.reach_of.Goals as goal
use Rattle.std.proofs.lemmas.Bool.{and_parts}

pub returns-clause-reach : goal.returns-clause-reach
returns-clause-reach c =
    let f = c.args.old.now in
    let g = c.args.new.now in
    let s = c.args.space in
    let known = known_some f s c.args.known.now c.in-Some-known_at.regions.now c.requires.known c.in-Some-known_at.ensures in
    let others : OthersStay f g c.in-Some.noted = search rules in
    let same = and_parts (is_same_region (root_of f s) (root_of g s)) (bool_eq f.global g.global) (sym c.if-is_same_space.ensures) in
    let away : stay_away c.in-Some.noted g.nodes (reached f s) ≡ true =
    subst (λ rs. stay_away c.in-Some.noted g.nodes rs ≡ true) known (sym c.stay_away.ensures ∙ c.if-stay_away.true) in
    c.in_ok-shared.ensures ∙ known ∙ reach_stays f g s c.in-Some.noted c.requires.old_made c.requires.new_made others same.0 away

pub returns-clause-touched : goal.returns-clause-touched
returns-clause-touched c =
    let f = c.args.old.now in
    let g = c.args.new.now in
    let s = c.args.space in
    let known = known_some f s c.args.known.now c.in-Some-known_at.regions.now c.requires.known c.in-Some-known_at.ensures in
    let others : OthersStay f g c.in-Some.noted = search rules in
    let same = and_parts (is_same_region (root_of f s) (root_of g s)) (bool_eq f.global g.global) (sym c.if-is_same_space.ensures) in
    let away : stay_away c.in-Some.noted g.nodes (reached f s) ≡ true =
    subst (λ rs. stay_away c.in-Some.noted g.nodes rs ≡ true) known (sym c.stay_away.ensures ∙ c.if-stay_away.true) in
    sym (not_touched f g s c.in-Some.noted c.requires.old_made c.requires.new_made others same.0 away same.1)
