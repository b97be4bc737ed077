use Rattle.std.proofs.Common.{rules, ◌≡◌, true, sym, subst, ◌&&◌, ◌∙◌}
use Rattle.mem_base.specs.declared.map.forests.Forest.{Forest}
use Rattle.mem_base.specs.lists.Booleans.{bool_eq}
use Rattle.mem_base.specs.map.Search.{root_of}
use Rattle.mem_base.specs.map.Touched.{is_same_region}
use Rattle.change_spans.specs.Reaches.{IsOver, ShowsWithin}
use Rattle.transact.proofs.ShownLaws.{view_within}
use Rattle.transact.proofs.shown.view_again.Goals as goal
use Rattle.std.proofs.lemmas.Bool.{and_parts}

pub returns-clause-view : goal.returns-clause-view
returns-clause-view h c =
    let f = c.args.current.now.forest in
    let g = c.args.tree.now in
    let s = c.args.space in
    let within : ShowsWithin f g c.in-Some.spans.items = search rules in
    let alike : (is_same_region (root_of f s) (root_of g s) && bool_eq f.global g.global) ≡ true =
    subst (λ (k : Forest). (is_same_region (root_of k s) (root_of g s) && bool_eq k.global g.global) ≡ true) c.forest-old.ensures.value
    (sym c.if-is_same_space.ensures) in
    let same = and_parts (is_same_region (root_of f s) (root_of g s)) (bool_eq f.global g.global) alike in
    let over = subst (λ xs. IsOver xs c.in-Some-root.root c.hull-span.result) c.as_slice.ensures.value c.hull-span.ensures.over in
    view_within f g s c.in-Some-root.root c.in-Some.spans.items c.hull-span.result c.view.result.now c.in_ok-view.view c.forest-old.ensures.made within same.0
    same.1 (sym c.in-Some-root.ensures) over (c.view.ensures ∙ c.in-Some-atlas.ensures.some) c.in_ok-view.ensures.view

pub returns-2-clause-view : goal.returns-2-clause-view
returns-2-clause-view h c = c.simplify.ensures.view c.args.tree.now c.args.space c.in_ok-pieces.ensures.tells
