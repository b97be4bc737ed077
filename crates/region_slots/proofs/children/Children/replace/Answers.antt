use Rattle.std.proofs.Common.{rules, ◌∙◌, ◌==◌, length, sym, ap, subst, w32, arith}
use mir.Val.{SFits}
use Rattle.std.proofs.lemmas.Int.{to_z-of_z}
use Rattle.std.specs.Prelude.{not, filter, insert}
use Rattle.std.proofs.lemmas.Fn.{filter_same}
use Rattle.mem_base.specs.declared.map.ids.RegionId.{RegionId}
use Rattle.region_slots.specs.declared.children.Child.{Child}
use Rattle.region_slots.specs.Slots.{ids_in, rank_in, others, AreByPriority}
use Rattle.region_slots.proofs.SlotsLaws.{ids_others, ids_insert, others_by_priority, length_ids}
use Rattle.region_slots.proofs.children.Children.replace.Goals as goal

pub rank_of-rank-requires : goal.rank_of-rank-requires
rank_of-rank-requires c =
    let r = c.args.child.id in
    let left = filter_same _ (λ (x : Child). not (x.id.0 == r.0)) _ (λ x b f k. search rules) _ _ c.retain-2.ensures.filtered
    ∙ ap (others r) (c.in_ok-reserve-2.ensures.items ∙ c.self.view_is) in
    record { sorted = subst AreByPriority (sym (c.as_slice.ensures.value ∙ left)) (others_by_priority r c.args.self.now c.requires) }

pub put-requires-clause-within : goal.put-requires-clause-within
put-requires-clause-within c =
    let r = c.args.child.id in
    let left = filter_same _ (λ (x : Child). not (x.id.0 == r.0)) _ (λ x b f k. search rules) _ _ c.retain-2.ensures.filtered
    ∙ ap (others r) c.in_ok-reserve-2.ensures.items in
    let ids = filter_same _ (λ (q : RegionId). not (q.0 == r.0)) _ (λ x b f k. search rules) _ _ c.retain.ensures.filtered
    ∙ ap (filter (λ (q : RegionId). not (q.0 == r.0))) (c.in_ok-reserve.ensures.items ∙ c.self.invariant) ∙ ids_others r c.self.inside.placed.items in
    let a = ap length ids ∙ length_ids (others r c.self.inside.placed.items) in
    let b = ap length (c.as_slice.ensures.value ∙ left) in
    let w = c.rank_of-rank.ensures.within in
    omega arith

pub invariant_of-self-2 : goal.invariant_of-self-2
invariant_of-self-2 c =
    let r = c.args.child.id in
    let rank = c.rank_of-rank.result in
    let left = filter_same _ (λ (x : Child). not (x.id.0 == r.0)) _ (λ x b f k. search rules) _ _ c.retain-2.ensures.filtered
    ∙ ap (others r) c.in_ok-reserve-2.ensures.items in
    let ids = filter_same _ (λ (q : RegionId). not (q.0 == r.0)) _ (λ x b f k. search rules) _ _ c.retain.ensures.filtered
    ∙ ap (filter (λ (q : RegionId). not (q.0 == r.0))) (c.in_ok-reserve.ensures.items ∙ c.self.invariant) ∙ ids_others r c.self.inside.placed.items in
    c.put.ensures ∙ ap (λ l. insert l rank r) ids ∙ sym (ids_insert (others r c.self.inside.placed.items) rank c.args.child)
    ∙ ap (λ l. ids_in (insert l rank c.args.child)) (sym left) ∙ ap ids_in (sym c.put-2.ensures)

pub returns-clause-ok : goal.returns-clause-ok
returns-clause-ok c =
    let r = c.args.child.id in
    let left = filter_same _ (λ (x : Child). not (x.id.0 == r.0)) _ (λ x b f k. search rules) _ _ c.retain-2.ensures.filtered
    ∙ ap (others r) (c.in_ok-reserve-2.ensures.items ∙ c.self.view_is) in
    let fits : SFits w32 c.args.child.priority = search rules in
    let same = to_z-of_z w32 c.args.child.priority fits in
    c.put-2.ensures ∙ ap (λ k. insert c.retain-2.new.self.items k c.args.child)
    ((rw same at c.rank_of-rank.ensures.rank) ∙ ap (rank_in c.args.child.priority) c.as_slice.ensures.value)
    ∙ ap (λ l. insert l (rank_in c.args.child.priority l) c.args.child) left
