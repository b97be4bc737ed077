use Rattle.std.proofs.Common.{◌≡◌, ◌++◌, drop, map}
use Rattle.mem_base.specs.map.Order.{children_of}
use Rattle.map_lint.proofs.siblings.children_of.Given as goal

-- the children so far, and those that are left
abbrev pub invariant-loop-sibling : goal.invariant-loop-sibling
invariant-loop-sibling l =
    let all = children_of l.lists l.fn.container in map (λ m. m.now) l.children.items ++ drop l.sibling-index all ≡ all
