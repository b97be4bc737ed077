use Rattle.std.proofs.Common.{◌≡◌, Some, sym, ap, ◌∙◌}
use Rattle.mem_base.specs.map.Region.{node_of}
use Rattle.mem_base.specs.access.DeviceAccess.{notifier_of}
use Rattle.access_base.proofs.LeafLaws.{notifier_known}
use Rattle.access_plan.proofs.notifiers.notifier.Goals as goal

pub returns-clause-number : goal.returns-clause-number
returns-clause-number c =
    let g = c.args.g.now in
    let n = c.in_ok-node.node.now in
    let is : node_of g.forest.nodes c.args.region ≡ Some n = ap (λ f. node_of f.nodes c.args.region) (sym c.forest.ensures.value) ∙ c.in_ok-node.ensures.some in
    let found : c.matches.result ≡ notifier_of n.events c.args.piece.now.offset c.args.piece.now.size c.args.value =
    c.matches.ensures.value ∙ ap (λ es. notifier_of es c.args.piece.now.offset c.args.piece.now.size c.args.value) c.as_slice.ensures.value in
    notifier_known g.forest c.forest.ensures.made c.args.region n is c.args.piece.now.offset c.args.piece.now.size c.args.value c.matches.result found
