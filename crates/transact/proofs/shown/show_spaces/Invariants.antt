use Rattle.std.proofs.Common.{◌≡◌, ◌+◌, ◌≤◌, ◌++◌, map, drop}
use Rattle.std.specs.List.{sum_by}
use Rattle.std.specs.Arc.{arc_value}
use Rattle.mem_base.specs.lists.Every.{Every}
use Rattle.mem_base.specs.map.Touched.{reached}
use Rattle.mem_base.specs.views.Flattened.{view_of}
use Rattle.mem_base.specs.views.LiveEvents.{ShareNoLive}
use Rattle.mem_base.specs.views.Listening.{change_of, changes_between}
use Rattle.generation.specs.Published.{views_of}
use Rattle.touched_spaces.specs.Reached.{reached_in}
use Rattle.transact.specs.Preparing.{carves_of, most_carves, heard_by}
use Rattle.transact.proofs.shown.show_spaces.Given as goal

abbrev pub invariant-loop-space : goal.invariant-loop-space
invariant-loop-space g l = record {
  atlases : map (λ p. (p.0, arc_value p.1)) l.atlases.items ++ map (λ p. (p.0, view_of l.tree p.0)) (drop l.space-index l.space-items) ≡ views_of l.tree;
  reached : l.reached.items ++ map (λ p. (p.0, reached l.tree p.0)) (drop l.space-index l.space-items) ≡ reached_in l.tree;
  told : l.changes.items ++ heard_by l.listeners (map (λ p. change_of l.current.forest l.tree p.0) (drop l.space-index l.space-items))
      ≡ heard_by l.listeners (changes_between l.current.forest l.tree);
  apart : Every (λ x. ShareNoLive x.lost x.gained) l.changes.items;
  carves : l.steps + sum_by (λ p. carves_of l.current.forest l.tree p.0) (drop l.space-index l.space-items) ≤ l.fn.steps + most_carves l.current.forest l.tree;
}
