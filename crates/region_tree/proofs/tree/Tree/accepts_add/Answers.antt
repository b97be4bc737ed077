use Rattle.std.proofs.Common.{◌≡◌, ◌∙◌, sym, ap, true, [], ◌∷◌}
use Rattle.std.specs.Prelude.{is_some, is_none}
use Rattle.std.specs.Option.{option_or}
use Rattle.mem_base.specs.declared.map.calls.Call.TheVariants.{Add}
use Rattle.mem_base.specs.map.Changes.{changed}
use Rattle.mem_base.specs.map.Refusals.{first_refusal, unknown_region, has_container, alias_parent, makes_loop, too_deep, too_wide}
use Rattle.mem_base.specs.map.TableRefusals.{no_more_calls}
use Rattle.region_tree.proofs.AddLaws.{stands_not, or_five, refusal_of-add}
use Rattle.region_tree.proofs.tree.Tree.accepts_add.Goals as goal

pub returns-then-is_some : goal.returns-then-is_some
returns-then-is_some c offset priority =
    let f = c.args.self.now in
    let early = first_refusal (unknown_region f c.args.parent ∷ unknown_region f c.args.child ∷ has_container f c.args.child ∷ alias_parent f c.args.parent ∷
    makes_loop f c.args.parent c.args.child ∷ []) in
    let nodes = (changed f (Add c.args.parent offset c.args.child priority)).nodes in
    let place = first_refusal (unknown_region f c.args.parent ∷ unknown_region f c.args.child ∷ has_container f c.args.child ∷ alias_parent f c.args.parent ∷
    []) in
    let both = c.or-early.ensures ∙ ap (λ o. option_or o c.makes_loop.result) c.no_place.ensures ∙ ap (option_or place) c.makes_loop.ensures in
    let is_early = both ∙ or_five (unknown_region f c.args.parent) (unknown_region f c.args.child) (has_container f c.args.child)
    (alias_parent f c.args.parent) (makes_loop f c.args.parent c.args.child) in
    let some : is_some early ≡ true = ap is_some (sym is_early) ∙ sym c.is_some.ensures ∙ c.if-is_some.true in
    sym (ap is_none (refusal_of-add f c.args.parent offset c.args.child priority)
    ∙ stands_not early (option_or (first_refusal (too_deep nodes ∷ too_wide nodes ∷ [])) (no_more_calls f)) some)
