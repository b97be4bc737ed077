use Rattle.std.proofs.Common.{rules, ◌≡◌, false, ap, subst, ◌∙◌}
use Rattle.std.specs.List.{list_any}
use Rattle.mem_base.specs.views.Naming.{has_leaf}
use Rattle.mem_base.specs.views.Walk.{walk}
use Rattle.change_laws.specs.Meeting.{OthersStay}
use Rattle.touched_spaces.proofs.LiveLaws.{lives_stay, still_change}
use Rattle.touched_spaces.proofs.changes.change_still.Goals as goal

pub returns-clause-change : goal.returns-clause-change
returns-clause-change c =
    let f = c.args.current.now.forest in
    let g = c.args.forest.now in
    let s = c.args.space in
    let others : OthersStay f g c.in-Some.noted = search rules in
    let none : list_any (λ q. has_leaf q c.args.atlas.now) c.in-Some.noted ≡ false = search rules in
    let lives = lives_stay f g c.in-Some.noted others s (search rules) c.requires.made c.requires.same
    (subst (λ rs. list_any (λ q. has_leaf q rs) c.in-Some.noted ≡ false) c.requires.atlas none) in
    let told = c.in_ok-walk.ensures.value ∙ ap (λ rs. walk rs rs) (c.view.ensures ∙ c.requires.atlas) in
    still_change f g s c.in_ok-walk.walk c.new-2.result c.new-4.result told (c.new-2.ensures ∙ c.new.ensures.items)
    (c.new-4.ensures ∙ c.new-3.ensures.items) c.requires.same lives
