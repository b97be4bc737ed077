use Rattle.std.proofs.Common.{◌∙◌, ◌+◌, ◌-◌, ◌≤◌, ◌++◌, length, sym, ap, subst, get_or, arith, rules}
use Rattle.mem_base.specs.map.Order.{children_of}
use Rattle.mem_base.specs.map.Search.{found_in, spot_of, path_of}
use Rattle.mem_base.specs.lists.Every.{Every}
use Rattle.mem_base.proofs.EveryLaws.{every_at}
use Rattle.region_slots.specs.Told.{IsChild}
use Rattle.region_slots.proofs.ToldLaws.{children_are}
use Rattle.tree_find.specs.Children.{tried}
use Rattle.map_laws.proofs.SearchLaws.{found_in_zero, found_in_missing, found_in_step}
use Rattle.mem_base.proofs.ForestLaws.{found_by_id, id_of}
use Rattle.tree_find.proofs.FoundLaws.{no_path, none_found, no_child, next_placed, not_held, found_first, found_later}
use Rattle.tree_find.proofs.search.+search.Goals as goal
use Rattle.mem_base.proofs.NodeLaws.{found_itself}
use Rattle.mem_base.specs.map.Limits.{most_depth}

pub find_from-returns-in_err-node-clause-spot : goal.find_from-returns-in_err-node-clause-spot
find_from-returns-in_err-node-clause-spot t c =
    c.from_residual.ensures ∙ sym (ap spot_of (found_in_missing c.args.tree.now c.args.depth c.args.region c.args.at (sym c.in_err-node.ensures.value)))

pub find_from-returns-in_err-node-clause-path : goal.find_from-returns-in_err-node-clause-path
find_from-returns-in_err-node-clause-path t c =
    no_path c.args.path.now _ (found_in_missing c.args.tree.now c.args.depth c.args.region c.args.at (sym c.in_err-node.ensures.value))

pub find_from-find_in-requires : goal.find_from-find_in-requires
find_from-find_in-requires t c = (
  search rules,
  (found_itself c.args.tree.now.nodes c.args.region c.in_ok-node.node.now c.in_ok-node.ensures.value, (c.in_ok-node.ensures.forest, c.requires)),
)

pub find_from-returns-clause-spot : goal.find_from-returns-clause-spot
find_from-returns-clause-spot t c =
    c.find_in.ensures.spot ∙ ap (λ q. spot_of (found_in c.args.tree.now c.args.depth q c.args.at))
    (id_of c.args.tree.now.nodes c.args.region c.in_ok-node.node.now (sym c.in_ok-node.ensures.value))

pub find_from-returns-clause-path : goal.find_from-returns-clause-path
find_from-returns-clause-path t c =
    c.find_in.ensures.path ∙ ap (λ q. c.args.path.now ++ path_of (found_in c.args.tree.now c.args.depth q c.args.at))
    (id_of c.args.tree.now.nodes c.args.region c.in_ok-node.node.now (sym c.in_ok-node.ensures.value))

pub find_in-returns-then-depth-eq0-clause-spot : goal.find_in-returns-then-depth-eq0-clause-spot
find_in-returns-then-depth-eq0-clause-spot t c = sym (ap spot_of (found_in_zero c.args.tree.now c.args.depth c.args.node.now.id c.args.at c.if-depth-eq0.true))

pub find_in-returns-then-depth-eq0-clause-path : goal.find_in-returns-then-depth-eq0-clause-path
find_in-returns-then-depth-eq0-clause-path t c =
    no_path c.args.path.now _ (found_in_zero c.args.tree.now c.args.depth c.args.node.now.id c.args.at c.if-depth-eq0.true)

pub find_in-find_at-requires : goal.find_in-find_at-requires
find_in-find_at-requires t c = (
  search rules,
  (
    found_by_id c.args.tree.now.nodes c.args.node.now.id c.args.node.now (sym c.requires.known),
    (c.requires.forest, let room = c.requires.room in omega arith),
  ),
)

pub find_in-returns-clause-spot : goal.find_in-returns-clause-spot
find_in-returns-clause-spot t c =
    c.find_at.ensures.spot
    ∙ ap spot_of (sym (found_in_step c.args.tree.now c.args.depth (c.args.depth - 1) c.args.node.now.id c.args.at c.args.node.now
    (omega arith) c.requires.known))

pub find_in-returns-clause-path : goal.find_in-returns-clause-path
find_in-returns-clause-path t c =
    c.find_at.ensures.path
    ∙ ap (λ x. c.args.path.now ++ path_of x)
    (sym (found_in_step c.args.tree.now c.args.depth (c.args.depth - 1) c.args.node.now.id c.args.at c.args.node.now (omega arith) c.requires.known))

pub find_below-find_child-requires : goal.find_below-find_child-requires
find_below-find_child-requires t c = (
  search rules,
  (
    every_at (IsChild c.args.tree.now.nodes) c.placed_children-child-items.result.now c.loop-child.child-index no_child c.loop-child-test.true
        (subst (Every (IsChild c.args.tree.now.nodes)) (sym c.placed_children-child-items.ensures)
        (children_are c.args.tree.now.nodes c.args.region c.requires.forest.ascending)),
    subst (λ p. length p + c.args.depth ≤ most_depth) (sym c.loop-child.invariant.path) c.requires.room,
  ),
)

pub find_child-returns-then-not-holds-clause-spot : goal.find_child-returns-then-not-holds-clause-spot
find_child-returns-then-not-holds-clause-spot t c = sym (ap spot_of
    (not_held c.args.tree.now c.args.depth c.args.child.now c.args.at c.requires.child (sym c.holds.ensures ∙ c.if-not-holds.true)))

pub find_child-returns-then-not-holds-clause-path : goal.find_child-returns-then-not-holds-clause-path
find_child-returns-then-not-holds-clause-path t c = no_path c.args.path.now _
    (not_held c.args.tree.now c.args.depth c.args.child.now c.args.at c.requires.child (sym c.holds.ensures ∙ c.if-not-holds.true))

-- what was found in this child is what is found among all
pub find_below-returns-in-Some-clause-spot : goal.find_below-returns-in-Some-clause-spot
find_below-returns-in-Some-clause-spot t c =
    let f = c.args.tree.now in
    let below = found_in f c.args.depth in
    let next = next_placed (children_of f.nodes c.args.region) c.placed_children-child-items.result.now c.loop-child.child-index no_child
    c.placed_children-child-items.ensures c.loop-child-test.true in
    c.in-Some.ensures.spot ∙ ap spot_of (sym
    (c.loop-child.invariant.left ∙ found_first below _ _ next.0 _ c.args.at c.in-Some.spot next.1 next.2 c.in-Some.ensures.spot))

pub find_below-returns-in-Some-clause-path : goal.find_below-returns-in-Some-clause-path
find_below-returns-in-Some-clause-path t c =
    let f = c.args.tree.now in
    let below = found_in f c.args.depth in
    let next = next_placed (children_of f.nodes c.args.region) c.placed_children-child-items.result.now c.loop-child.child-index no_child
    c.placed_children-child-items.ensures c.loop-child-test.true in
    c.in-Some.ensures.path
    ∙ ap (λ p. p ++ path_of (tried below (get_or c.placed_children-child-items.result.now c.loop-child.child-index no_child) c.args.at))
    c.loop-child.invariant.path
    ∙ ap (λ x. c.args.path.now ++ path_of x)
    (sym (c.loop-child.invariant.left ∙ found_first below _ _ next.0 _ c.args.at c.in-Some.spot next.1 next.2 c.in-Some.ensures.spot))

pub find_below-loop-child-preserved : goal.find_below-loop-child-preserved
find_below-loop-child-preserved t c =
    let f = c.args.tree.now in
    let below = found_in f c.args.depth in
    let next = next_placed (children_of f.nodes c.args.region) c.placed_children-child-items.result.now c.loop-child.child-index no_child
    c.placed_children-child-items.ensures c.loop-child-test.true in
    let none = none_found _ c.in_default.ensures.spot in
    record {
      left = c.loop-child.invariant.left ∙ found_later below _ _ next.0 _ c.args.at next.1 next.2 none;
      path = c.in_default.ensures.path ∙ sym (no_path c.loop-child.path _ none) ∙ c.loop-child.invariant.path;
    }
