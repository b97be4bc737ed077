use Rattle.std.proofs.Common.{◌≡◌, ◌∙◌, ap, drop, replicate, length, false, arith}
use Rattle.mem_base.specs.declared.map.ids.RegionId.{RegionId}
use Rattle.mem_base.specs.map.Steps.{reaches}
use Rattle.region_extents.specs.Marks.{marked}
use Rattle.region_extents.proofs.JoinedLaws.{written_back}
use Rattle.region_tree.specs.Reach.{picked}
use Rattle.region_tree.proofs.PickedLaws.{picked_marked}
use Rattle.region_tree.proofs.tree.reached_from.Goals as goal

pub returns : goal.returns
returns c =
    let nodes = c.args.slots.now in
    let test = λ (r : RegionId). reaches nodes c.args.root r in
    let first = c.deref_mut.ensures.value ∙ c.in_ok-marks.ensures.items_if_clones_equal (λ y e. e) ∙ ap (λ k. replicate k false) c.len.ensures in
    let marks = c.mark_within.new.marks in
    let full : length marks ≡ c.in_ok-marks.marks.len = omega arith in
    let whole = written_back c.in_ok-marks.marks.len marks (drop (length marks) c.in_ok-marks.marks.items) full in
    c.in_ok-list.ensures ∙ ap (λ ns. picked ns c.deref.result.now) c.as_slice.ensures.nodes
    ∙ ap (picked nodes) (c.deref.ensures.value ∙ whole ∙ c.mark_within.ensures.marked ∙ ap (marked nodes test) first)
    ∙ picked_marked nodes test
