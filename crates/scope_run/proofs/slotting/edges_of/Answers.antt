use Rattle.std.proofs.Common.{subst}
use Rattle.mem_base.specs.lists.Every.{Every}
use Rattle.mem_base.specs.views.Flattened.{view_of}
use Rattle.generation.specs.Published.{Published}
use Rattle.view_slots.specs.Edges.{HasEnds}
use Rattle.scope_run.proofs.TableLaws.{edges_next}
use Rattle.scope_run.proofs.slotting.edges_of.Goals as goal

pub loop-generation-preserved : goal.loop-generation-preserved
loop-generation-preserved c = edges_next c.loop-generation.edges c.add_edges.new.edges c.args.space c.args.published.now c.loop-generation.generation-index
    c.generation-item.result c.generation-item.result c.loop-generation-test.true c.generation-item.is c.loop-generation.invariant
    c.in_ok-add_edges.ensures.keeps
    (subst (λ (p : Published). Every (HasEnds c.add_edges.new.edges) (view_of p.forest c.args.space)) c.deref.ensures c.in_ok-add_edges.ensures.found)
