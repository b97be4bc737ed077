use Rattle.std.proofs.Common.{◌≡◌, ap, ◌∙◌}
use Rattle.std.specs.Arc.{arc_value}
use Rattle.mem_base.specs.declared.map.ids.SpaceId.{SpaceId}
use Rattle.mem_base.specs.declared.map.forests.Forest.{Forest}
use Rattle.mem_base.specs.declared.views.listening.Change.{Change}
use Rattle.mem_base.specs.map.Touched.{reached}
use Rattle.mem_base.specs.views.Flattened.{view_of}
use Rattle.mem_base.specs.views.Listening.{change_of}
use Rattle.transact.specs.Preparing.{carves_of, is_heard}
use Rattle.transact.proofs.ShownLaws.{rooted}
use Rattle.transact.proofs.StepLaws.{next_listed, next_mapped, next_chosen, spent, beside}
use Rattle.transact.proofs.shown.show_spaces.Goals as goal

same_change : (f g h : Forest) (s : SpaceId) → g ≡ h → change_of f g s ≡ change_of f h s
same_change f g h s e = ap (λ (x : Forest). change_of f x s) e

pub show_space-requires-clause-there : goal.show_space-requires-clause-there
show_space-requires-clause-there g c =
    let same : c.as_slice-space-items.result.now ≡ c.args.tree.now.spaces =
    c.as_slice-space-items.ensures ∙ ap (λ (f : Forest). f.spaces) c.requires.forest in
    rooted c.args.tree.now c.as_slice-space-items.result.now c.loop-space.space-index _ same c.loop-space-test.true

pub loop-space-preserved : goal.loop-space-preserved
loop-space-preserved g c =
    let f = c.args.current.now.forest in
    let now = c.args.tree.now in
    let xs = c.as_slice-space-items.result.now in
    let i = c.loop-space.space-index in
    let l = c.loop-space-test.true in
    let same : c.args.forest.now ≡ now = c.requires.forest in
    record {
      atlases = next_mapped (λ p. (p.0, arc_value p.1)) (λ p. (p.0, view_of now p.0)) c.loop-space.atlases.items _ _ xs i _ _ l c.in_ok-push.ensures.items
          (beside c.in_ok-atlas.ensures.view) c.loop-space.invariant.atlases;
      reached = next_listed (λ p. (p.0, reached now p.0)) c.loop-space.reached.items _ _ xs i _ _ l c.in_ok-push-2.ensures.items
          (beside c.in_ok-atlas.ensures.reach) c.loop-space.invariant.reached;
      told = next_chosen (λ (x : Change). is_heard c.args.listeners.now x.space) (λ p. change_of f now p.0) c.loop-space.changes.items _ _ xs i _ _ l
          c.in_ok-add_change.ensures.changes (same_change f c.args.forest.now now _ same) c.loop-space.invariant.told;
      apart = c.in_ok-add_change.ensures.apart;
      carves = spent (λ p. carves_of f now p.0) xs i _ c.loop-space.steps _ _ l c.loop-space.invariant.carves c.show_space.ensures.carves;
    }
