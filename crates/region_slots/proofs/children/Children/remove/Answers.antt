use Rattle.std.proofs.Common.{rules, ◌∙◌, ap, sym, ◌==◌}
use Rattle.std.specs.Prelude.{not, filter}
use Rattle.std.proofs.lemmas.Fn.{filter_same}
use Rattle.mem_base.specs.declared.map.ids.RegionId.{RegionId}
use Rattle.region_slots.specs.declared.children.Child.{Child}
use Rattle.region_slots.specs.Slots.{others, ids_in}
use Rattle.region_slots.proofs.SlotsLaws.{ids_others}
use Rattle.region_slots.proofs.children.Children.remove.Goals as goal

pub returns : goal.returns
returns c = filter_same _ (λ (x : Child). not (x.id.0 == c.args.id.0)) _ (λ x b f k. search rules) _ _ c.retain-2.ensures.filtered
    ∙ ap (others c.args.id) c.self.view_is

pub invariant_of-self : goal.invariant_of-self
invariant_of-self c =
    let ids = filter_same _ (λ (q : RegionId). not (q.0 == c.args.id.0)) _ (λ x b f k. search rules) _ _ c.retain.ensures.filtered in
    let placed = filter_same _ (λ (x : Child). not (x.id.0 == c.args.id.0)) _ (λ x b f k. search rules) _ _ c.retain-2.ensures.filtered in
    ids ∙ ap (filter (λ (q : RegionId). not (q.0 == c.args.id.0))) c.self.invariant ∙ ids_others c.args.id c.self.inside.placed.items ∙ ap ids_in (sym placed)
