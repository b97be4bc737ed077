use Rattle.std.proofs.Common.{◌≡◌, ◌∙◌, ◌+◌, ◌++◌, ◌∷◌, [], Some, None, get_or, drop, map, pos, ap, arith, rules}
use Rattle.mem_base.specs.map.Region.{node_of}
use Rattle.mem_base.specs.map.Order.{children_of}
use Rattle.child_lists.specs.declared.siblings.Sibling.{Sibling}
use Rattle.map_lint.proofs.FaultLaws.{all_listed, listed_next, next_at}
use Rattle.map_lint.proofs.siblings.children_of.Goals as goal

abbrev no_sibling : Sibling
no_sibling = record { id = record { 0 = 0 }; priority = pos 0; placing = 0 }

pub unreachable-requires : goal.unreachable-requires
unreachable-requires c =
    let nodes = c.args.lists.now in
    let items = c.children-sibling-items.result.now in
    let i = c.loop-sibling.sibling-index in
    let here = next_at nodes c.args.container items i no_sibling c.nodes-nodes.ensures.ascending c.children-sibling-items.ensures c.loop-sibling-test.true in
    let known : node_of nodes (get_or items i no_sibling).id ≡ Some here.0 = ap (node_of nodes) here.1 ∙ here.3 in
    let none : None ≡ node_of nodes (get_or items i no_sibling).id = c.in_default.ensures in
    cc

pub loop-sibling-init : goal.loop-sibling-init
loop-sibling-init c = ap (λ xs. map (λ m. m.now) xs ++ children_of c.args.lists.now c.args.container) c.new-children.ensures.items

pub loop-sibling-preserved : goal.loop-sibling-preserved
loop-sibling-preserved c =
    let all = children_of c.args.lists.now c.args.container in
    let pushed : c.push.new.self.items ≡ c.loop-sibling.children.items ++ c.in-Some.node ∷ [] = search rules in
    ap (λ xs. map (λ m. m.now) xs ++ drop (c.loop-sibling.sibling-index + 1) all) pushed
    ∙ listed_next (λ m. m.now) c.args.lists.now c.args.container c.children-sibling-items.result.now c.loop-sibling.sibling-index no_sibling
    c.loop-sibling.children.items c.in-Some.node c.nodes-nodes.ensures.ascending c.children-sibling-items.ensures c.loop-sibling-test.true
    c.in-Some.ensures c.loop-sibling.invariant

pub returns : goal.returns
returns c =
    all_listed (λ m. m.now) c.args.lists.now c.args.container c.children-sibling-items.result.now c.loop-sibling.sibling-index
    c.loop-sibling.children.items c.children-sibling-items.ensures (omega arith) c.loop-sibling.invariant
