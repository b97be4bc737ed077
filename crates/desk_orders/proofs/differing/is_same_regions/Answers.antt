use Rattle.std.proofs.Common.{◌∙◌, sym, ap, eqb, List}
use Rattle.std.specs.Cmp.Lexicographic.{pointwise}
use Rattle.mem_base.specs.declared.map.ids.RegionId.{RegionId}
use Rattle.mem_base.proofs.SamePaths.{same_regions, same_itself}
use Rattle.desk_orders.proofs.differing.is_same_regions.Goals as goal

pub returns : goal.returns
returns c =
    let a = c.as_slice.ensures in
    let b = c.as_slice-2.ensures in (
      λ t. sym a ∙ same_regions c.as_slice.result.now c.as_slice-2.result.now (sym c.eq.ensures ∙ t) ∙ b,
      λ e. c.eq.ensures ∙ ap (λ (rs : List RegionId). pointwise (λ r q. eqb r.0 q.0) rs c.as_slice-2.result.now) (a ∙ e ∙ sym b)
          ∙ same_itself c.as_slice-2.result.now,
    )
