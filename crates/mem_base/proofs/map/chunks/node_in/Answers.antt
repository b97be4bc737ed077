use Rattle.std.proofs.Common.{rules, Some, refl, sym, ap, ◌∙◌}
use Rattle.std.proofs.lemmas.List.Sorted.{answers_always}
use Rattle.mem_base.specs.declared.map.forests.Node.{Node}
use Rattle.mem_base.proofs.NodeLaws.{node_found, node_missing}
use Rattle.mem_base.proofs.map.chunks.node_in.Goals as goal

pub returns-in-Ok-clause-some : goal.returns-in-Ok-clause-some
returns-in-Ok-clause-some c =
    let by_id = c.in-Ok.ensures.position (λ (n : Node). n.id.0) (answers_always _ _ _ (λ f a r g called. search rules)) in
    node_found c.args.nodes.now c.requires c.args.region c.in-Ok.i c.index-nodes-i.result c.in-Ok.ensures.bound by_id ∙ ap Some (sym c.index-nodes-i.is)

pub returns-in-Ok-clause-none : goal.returns-in-Ok-clause-none
returns-in-Ok-clause-none c =
    let by_id = c.in-Ok.ensures.position (λ (n : Node). n.id.0) (answers_always _ _ _ (λ f a r g called. search rules)) in
    let there = node_found c.args.nodes.now c.requires c.args.region c.in-Ok.i c.index-nodes-i.result c.in-Ok.ensures.bound by_id in
    (λ e. cc, λ e. cc)

pub returns-in-Err-clause-none : goal.returns-in-Err-clause-none
returns-in-Err-clause-none c =
    let by_id = c.in-Err.ensures.position (λ (n : Node). n.id.0) (answers_always _ _ _ (λ f a r g called. search rules)) in
    (λ e. node_missing c.args.nodes.now c.requires c.args.region c.in-Err.field-0 c.in-Err.ensures.bound by_id, λ e. refl)
