use Rattle.std.proofs.Common.{◌&&◌, length, ap, ◌∙◌}
use Rattle.std.specs.Prelude.{nat_lt}
use Rattle.std.specs.List.{list_any}
use Rattle.std.specs.Arc.{arc_value}
use Rattle.mem_base.specs.declared.map.forests.Node.{Node}
use Rattle.mem_base.specs.views.Naming.{has_leaf}
use Rattle.generation.proofs.ShownLaws.{leaf_is}
use Rattle.transact.proofs.EventLaws.{is_shown, any_id, events_named, any_same}
use Rattle.transact.proofs.preparing.shows_events.Goals as goal

pub returns : goal.returns
returns c =
    let f = c.args.forest.now in
    c.any_leaf.ensures ∙ ap (list_any _) c.requires.events
    ∙ any_id (λ n. nat_lt 0 (length n.events)) (λ r. list_any (λ p. has_leaf r (arc_value p.1)) c.args.atlases.now) f.nodes
    ∙ any_same (λ n. nat_lt 0 (length n.events) && list_any (λ p. has_leaf n.id (arc_value p.1)) c.args.atlases.now) (is_shown f) (λ (n : Node).
    ap (λ b. nat_lt 0 (length n.events) && b) (leaf_is arc_value f n.id c.args.atlases.now c.requires.views)) f.nodes
    ∙ events_named f c.knows_ascending.ensures
