use Rattle.std.proofs.Common.{rules, sym, ◌∙◌}
use Rattle.std.proofs.lemmas.Fn.{always_returns_same}
use Rattle.mem_base.proofs.PlaceLaws.{place_of-searched}
use Rattle.iommu_notify.proofs.PartLaws.{from_cmp, rises_parts, same_at, absent_at}
use Rattle.iommu_notify.proofs.differences.has_part.Goals as goal

pub returns-in-Ok : goal.returns-in-Ok
returns-in-Ok c =
    let p = c.args.part.now in
    let rises = rises_parts p.from c.args.parts.now c.requires in
    let position = c.binary_search_by.ensures.position (from_cmp p.from) (always_returns_same _ _ _ (λ a r f' k. search rules)) in
    let place = place_of-searched (from_cmp p.from) c.args.parts.now c.binary_search_by.result rises
    c.binary_search_by.ensures.bound position in
    c.is_same_part.ensures ∙ sym (same_at p c.args.parts.now c.in-Ok.at _ rises (place ∙ c.in-Ok.is))

pub returns-in-Err : goal.returns-in-Err
returns-in-Err c =
    let p = c.args.part.now in
    let rises = rises_parts p.from c.args.parts.now c.requires in
    let position = c.binary_search_by.ensures.position (from_cmp p.from) (always_returns_same _ _ _ (λ a r f' k. search rules)) in
    let place = place_of-searched (from_cmp p.from) c.args.parts.now c.binary_search_by.result rises
    c.binary_search_by.ensures.bound position in
    sym (absent_at p c.args.parts.now c.in-Err.field-0 rises (place ∙ c.in-Err.is))
