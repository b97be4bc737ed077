use Rattle.std.proofs.Common.{rules, ◌≡◌, None, sym, subst}
use Rattle.mem_base.specs.map.Forest.{IsMade}
use Rattle.mem_base.specs.map.Region.{node_of}
use Rattle.backing_pool.specs.Backing.{Backing}
use Rattle.transact.specs.Backed.{backed_state, forest_at, backing_without, IsBackedDesk}
use Rattle.transact.proofs.BackedLaws.{ascends, desk_released, none_released}
use Rattle.transact.proofs.backed.BackedDesk.release.Goals as goal

pub invariant_of-self : goal.invariant_of-self
invariant_of-self c =
    let s = backed_state c.self.inside.desk c.self.inside.pool in
    subst (λ (b : Backing). IsBackedDesk (backed_state c.self.inside.desk b) c.self.inside.made c.self.inside.places.items) (sym c.give.ensures.given)
    (none_released s c.self.inside.made c.self.inside.places.items c.args.region c.self.invariant (sym c.in_err-place.ensures.value))

pub forget-requires : goal.forget-requires
forget-requires c =
    let s = backed_state c.self.inside.desk c.self.inside.pool in
    let whole : IsMade (forest_at s) = search rules in
    ascends s c.self.inside.made c.self.inside.places.items c.self.invariant whole

pub invariant_of-self-2 : goal.invariant_of-self-2
invariant_of-self-2 c =
    let s = backed_state c.self.inside.desk c.self.inside.pool in
    let whole : IsMade (forest_at s) = search rules in
    let gone : node_of (forest_at s).nodes c.args.region ≡ None = search rules in
    subst (λ (b : Backing). IsBackedDesk (backed_state c.self.inside.desk b) c.self.inside.made c.forget.new.places.items) (sym c.give.ensures.given)
    (subst (IsBackedDesk (backed_state s.desk (backing_without s.backing c.args.region)) c.self.inside.made) (sym c.forget.ensures)
    (desk_released s c.self.inside.made c.self.inside.places.items c.args.region c.in_ok-place.place c.self.invariant whole gone
    (sym c.in_ok-place.ensures.value)))
