use Rattle.std.proofs.Common.{rules, ◌≡◌, sym, ap, subst, ◌∙◌}
use Rattle.std.specs.Arc.{arc_value}
use Rattle.std.proofs.lemmas.List.Sorted.{answers_always}
use Rattle.mem_base.specs.declared.map.ids.RegionId.{RegionId}
use Rattle.change_laws.specs.Meeting.{is_among}
use Rattle.touched_spaces.specs.Noted.{Ascend}
use Rattle.touched_spaces.proofs.RegionLaws.{region_found, region_missing}
use Rattle.touched_spaces.proofs.regions.Regions.has.Goals as goal

pub returns-in-Ok : goal.returns-in-Ok
returns-in-Ok c =
    let rs = c.as_slice-items.result.now in
    let same : rs ≡ c.args.self.now = search rules in
    let from : rs ≡ (arc_value c.self.inside.items).items = search rules in
    let by_id = c.in-Ok.ensures.position (λ (q : RegionId). q.0) (answers_always _ _ _ (λ f a r g called. search rules)) in
    sym (region_found rs (subst Ascend (sym from) c.self.invariant) c.args.region c.in-Ok.field-0 c.in-Ok.ensures.bound by_id)
    ∙ ap (λ qs. is_among qs c.args.region) same

pub returns-in-Err : goal.returns-in-Err
returns-in-Err c =
    let rs = c.as_slice-items.result.now in
    let same : rs ≡ c.args.self.now = search rules in
    let from : rs ≡ (arc_value c.self.inside.items).items = search rules in
    let by_id = c.in-Err.ensures.position (λ (q : RegionId). q.0) (answers_always _ _ _ (λ f a r g called. search rules)) in
    sym (region_missing rs (subst Ascend (sym from) c.self.invariant) c.args.region c.in-Err.field-0 c.in-Err.ensures.bound by_id)
    ∙ ap (λ qs. is_among qs c.args.region) same
