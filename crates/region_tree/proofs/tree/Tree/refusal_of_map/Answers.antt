use Rattle.mem_base.specs.map.Kinds.{is_iommu}
use Rattle.mem_base.specs.map.Refusals.{unknown_region, unknown_space, wrong_kind}
use Rattle.mem_base.specs.map.TableRefusals.{bad_page, page_overlap, no_more_entries, no_more_calls}
use Rattle.region_tree.proofs.AddLaws.{or_seven}
use Rattle.region_tree.proofs.tree.Tree.refusal_of_map.Goals as goal

pub returns : goal.returns
returns c =
    let f = c.args.self.now in
    let all = or_seven (unknown_region f c.args.region) (unknown_space f c.args.space) (wrong_kind is_iommu f c.args.region)
    (bad_page c.args.iova c.args.size) (page_overlap f c.args.region c.args.iova c.args.size) (no_more_entries f c.args.region) (no_more_calls f) in
    cc
