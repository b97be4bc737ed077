use Rattle.std.proofs.Common.{◌≡◌, ◌++◌, ◌+◌, take, drop, sym, ap, subst, ◌∙◌}
use Rattle.std.proofs.lemmas.List.{append_assoc, drop-drop}
use Rattle.std.specs.Prelude.{flat_map, unwrap_or}
use Rattle.std.specs.Arc.{arc_value}
use Rattle.mem_base.specs.declared.map.ids.RegionId.{RegionId}
use Rattle.region_slots.specs.Slots.{nodes_of}
use Rattle.node_chunks.specs.Near.{AreLeft, IsBound}
use Rattle.node_chunks.proofs.NearLaws.{nodes_parts}
use Rattle.node_chunks.proofs.near.nodes_near.Goals as goal

pub push_next-requires-clause-bound : goal.push_next-requires-clause-bound
push_next-requires-clause-bound c =
    let old = c.chunks-old.result.now in
    let at : drop 1 c.split_at.result.1.now ≡ drop (c.loop-i.i + 1) old = ap (drop 1) c.split_at.ensures.back ∙ drop-drop 1 c.loop-i.i old in
    subst (λ cs. IsBound c.first_at-bound.result (flat_map arc_value cs)) (sym at) c.first_at-bound.ensures

pub loop-i-preserved : goal.loop-i-preserved
loop-i-preserved c =
    let old = c.chunks-old.result.now in
    let n = c.in_ok-count.count in
    let rest = c.loop-i.rest.now in
    let before = flat_map arc_value c.loop-i.chunks.items in
    let next : RegionId = unwrap_or c.first_at-bound.result c.loop-i.from in
    let at : drop 1 c.split_at.result.1.now ≡ drop (c.loop-i.i + 1) old = ap (drop 1) c.split_at.ensures.back ∙ drop-drop 1 c.loop-i.i old in
    let from : c.unwrap_or-from.result ≡ next = c.unwrap_or-from.ensures in
    let left : AreLeft next.0 (flat_map arc_value (drop (c.loop-i.i + 1) old)) (nodes_of c.split_at-in-loop-i.result.1.now) c.args.changed.now =
    subst (λ ss. AreLeft next.0 (flat_map arc_value (drop (c.loop-i.i + 1) old)) (nodes_of ss) c.args.changed.now) (sym c.split_at-in-loop-i.ensures.back)
    (subst (λ cs. AreLeft next.0 (flat_map arc_value cs) (nodes_of (drop n rest)) c.args.changed.now) at c.in_ok-count.ensures.left) in
    record {
      value = ap (λ ns. ns ++ nodes_of c.split_at-in-loop-i.result.1.now) c.in_ok-count.ensures.value
          ∙ ap (λ ss. (before ++ nodes_of (take n rest)) ++ nodes_of ss) c.split_at-in-loop-i.ensures.back
          ∙ append_assoc before (nodes_of (take n rest)) (nodes_of (drop n rest))
          ∙ ap (λ ns. before ++ ns) (sym (nodes_parts rest n))
          ∙ c.loop-i.invariant.value;
      left = subst (λ (r : RegionId). AreLeft r.0 (flat_map arc_value (drop (c.loop-i.i + 1) old)) (nodes_of c.split_at-in-loop-i.result.1.now)
          c.args.changed.now)
          (sym from) left;
      filled = c.in_ok-count.ensures.filled;
      old_filled = c.loop-i.invariant.old_filled;
    }
