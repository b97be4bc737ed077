use Rattle.std.proofs.Common.{rules, ◌≡◌, ◌≢◌, ◌+◌, ◌<◌, None, Some, Ok, sym, ap, subst, ◌∙◌, arith}
use Rattle.std.specs.List.{insert}
use Rattle.std.proofs.Common.{length, ◌-◌, List}
use Rattle.std.specs.Prelude.{IfErr}
use Rattle.mem_base.specs.declared.map.calls.Call.TheVariants as calls
use Rattle.mem_base.specs.declared.map.refusals.Refusal.TheVariants.{Memory}
use Rattle.mem_base.specs.declared.map.ids.RegionId.{RegionId}
use Rattle.mem_base.specs.declared.access.cells.Place.{Place}
use Rattle.mem_base.specs.lists.Every.{Every}
use Rattle.mem_base.specs.map.Calls.{after, refusal_of}
use Rattle.mem_base.specs.map.Forest.{IsMade}
use Rattle.backing_pool.specs.Backing.{Backing}
use Rattle.transact.specs.Backed.{BackedState, backed_state, backing_at, forest_at, refusal_at, backing_without, IsBackedDesk, IsCalled}
use Rattle.transact.proofs.BackedLaws.{may_be_made, bytes_fit, unplaced, refused_result, desk_made, given_back}
use Rattle.transact.proofs.backed.BackedDesk.make.Goals as goal

pub take-requires-clause-none : goal.take-requires-clause-none
take-requires-clause-none c =
    let s = backed_state c.self.inside.desk c.self.inside.pool in
    unplaced s.backing.places (record { 0 = c.self.inside.made })
    (subst (λ n. Every (λ p. p.region.0 < n) s.backing.places) (sym c.self.invariant.counted) c.self.invariant.made_before)

pub take-requires-clause-pages : goal.take-requires-clause-pages
take-requires-clause-pages c =
    let s = backed_state c.self.inside.desk c.self.inside.pool in
    let none : refusal_of (forest_at s) (calls.Region c.args.kind c.args.size) ≡ None = search rules in
    let may = may_be_made (forest_at s) c.args.kind c.args.size none in
    (bytes_fit c.args.kind c.args.size c.args.bytes c.args.regs may.sized may.device (c.requires.extent may.sized)).0

pub take-requires-clause-few_bytes : goal.take-requires-clause-few_bytes
take-requires-clause-few_bytes c =
    let s = backed_state c.self.inside.desk c.self.inside.pool in
    let none : refusal_of (forest_at s) (calls.Region c.args.kind c.args.size) ≡ None = search rules in
    let may = may_be_made (forest_at s) c.args.kind c.args.size none in
    (bytes_fit c.args.kind c.args.size c.args.bytes c.args.regs may.sized may.device (c.requires.extent may.sized)).1

pub take-requires-clause-few_regs : goal.take-requires-clause-few_regs
take-requires-clause-few_regs c =
    let s = backed_state c.self.inside.desk c.self.inside.pool in
    let none : refusal_of (forest_at s) (calls.Region c.args.kind c.args.size) ≡ None = search rules in
    let may = may_be_made (forest_at s) c.args.kind c.args.size none in
    (bytes_fit c.args.kind c.args.size c.args.bytes c.args.regs may.sized may.device (c.requires.extent may.sized)).2

pub returns-in_err-place-clause-refused : goal.returns-in_err-place-clause-refused
returns-in_err-place-clause-refused c =
    let s = backed_state c.self.inside.desk c.self.inside.pool in
    let none : refusal_of (forest_at s) (calls.Region c.args.kind c.args.size) ≡ None = search rules in
    let same : s ≡ c.args.self.now = c.self.view_is in
    let direct : IfErr c.take.result (λ why. why ≢ Memory → refusal_at c.args.self.now (calls.Region c.args.kind c.args.size) ≡ Some why) =
    subst (λ (x : BackedState). IfErr c.take.result (λ why. why ≢ Memory → refusal_at x (calls.Region c.args.kind c.args.size) ≡ Some why)) same
    (refused_result s c.args.kind c.args.size c.args.bytes c.args.regs c.take.result none c.requires.extent c.requires.some c.take.ensures.refused) in
    search rules

pub overflow_add-self : goal.overflow_add-self
overflow_add-self c =
    let s = backed_state c.self.inside.desk c.self.inside.pool in
    let none : refusal_of (forest_at s) (calls.Region c.args.kind c.args.size) ≡ None = search rules in
    let few = (may_be_made (forest_at s) c.args.kind c.args.size none).few in
    let counted = c.self.invariant.counted in
    omega (arith, few, counted)

pub invariant_of-self-in-Ok : goal.invariant_of-self-in-Ok
invariant_of-self-in-Ok c =
    let s = backed_state c.self.inside.desk c.self.inside.pool in
    let t = backed_state c.call.new.self c.take.new.self in
    let p = c.in_ok-place.place in
    let at = c.len-last.result - 1 in
    let none : refusal_of (forest_at s) (calls.Region c.args.kind c.args.size) ≡ None = search rules in
    let whole : IsMade (forest_at s) = search rules in
    let done : after (forest_at s) (calls.Region c.args.kind c.args.size) ≡ Ok (forest_at t) = search rules in
    let kept : c.reserve.new.self.items ≡ c.self.inside.places.items = c.in_ok-reserve.ensures.items in
    let items : c.insert.new.self.items ≡ insert c.reserve.new.self.items at p = c.in_ok-insert-in-Ok.ensures.items in
    let long : length c.reserve.new.self.items ≡ c.len-last.result = search rules in
    let last : at ≡ length c.self.inside.places.items - 1 = ap (λ n. n - 1) (sym long ∙ ap length kept) in
    subst (IsBackedDesk t (c.self.inside.made + 1)) (sym (items ∙ ap (λ (ps : List Place). insert ps at p) kept))
    (desk_made s t c.args.kind c.args.size c.args.bytes c.args.regs c.self.inside.made at p c.self.inside.places.items c.self.invariant whole
    none c.requires.extent c.requires.some done c.in_ok-place.ensures.place.0 c.in_ok-place.ensures.place.1 c.in_ok-place.ensures.made last).0

pub invariant_of-self-in-Err : goal.invariant_of-self-in-Err
invariant_of-self-in-Err c =
    let s = backed_state c.self.inside.desk c.self.inside.pool in
    let region : RegionId = record { 0 = c.self.inside.made } in
    let before = subst (λ n. Every (λ p. p.region.0 < n) s.backing.places) (sym c.self.invariant.counted) c.self.invariant.made_before in
    let is : c.in_ok-place.place.region ≡ region = ap (λ (p : Place). p.region) c.in_ok-place.ensures.place.0 in
    let back : c.give.new.self ≡ s.backing = c.give.ensures.given ∙ ap (λ (b : Backing). backing_without b region) c.in_ok-place.ensures.made
    ∙ ap (backing_at s.backing.pool_words) (given_back s.backing.places region c.in_ok-place.place before is) in
    let same : backed_state c.call.new.self c.give.new.self ≡ s = λ i. backed_state (c.in-Err.ensures.unchanged i) (back i) in
    let items : c.reserve.new.self.items ≡ c.self.inside.places.items = c.in_ok-reserve.ensures.items in
    subst (λ (x : BackedState). IsBackedDesk x c.self.inside.made c.reserve.new.self.items) (sym same)
    (subst (IsBackedDesk s c.self.inside.made) (sym items) c.self.invariant)

pub returns-in_ok-insert-in-Ok-clause-done : goal.returns-in_ok-insert-in-Ok-clause-done
returns-in_ok-insert-in-Ok-clause-done c =
    let s = backed_state c.self.inside.desk c.self.inside.pool in
    let t = backed_state c.call.new.self c.take.new.self in
    let p = c.in_ok-place.place in
    let at = c.len-last.result - 1 in
    let none : refusal_of (forest_at s) (calls.Region c.args.kind c.args.size) ≡ None = search rules in
    let whole : IsMade (forest_at s) = search rules in
    let done : after (forest_at s) (calls.Region c.args.kind c.args.size) ≡ Ok (forest_at t) = search rules in
    let kept : c.reserve.new.self.items ≡ c.self.inside.places.items = c.in_ok-reserve.ensures.items in
    let long : length c.reserve.new.self.items ≡ c.len-last.result = search rules in
    let last : at ≡ length c.self.inside.places.items - 1 = ap (λ n. n - 1) (sym long ∙ ap length kept) in
    let left = desk_made s t c.args.kind c.args.size c.args.bytes c.args.regs c.self.inside.made at p c.self.inside.places.items c.self.invariant whole
    none c.requires.extent c.requires.some done c.in_ok-place.ensures.place.0 c.in_ok-place.ensures.place.1 c.in_ok-place.ensures.made last in
    subst (λ (x : BackedState). IsCalled x (calls.Region c.args.kind c.args.size) t c.in-Ok.applied) c.self.view_is (record {
      forest = done;
      answered = c.in-Ok.ensures.applied.1;
      backed = left.1;
      desk = c.in-Ok.ensures.state;
      backing = left.2;
    })

pub returns-in-Err-clause-unchanged : goal.returns-in-Err-clause-unchanged
returns-in-Err-clause-unchanged c =
    let s = backed_state c.self.inside.desk c.self.inside.pool in
    let region : RegionId = record { 0 = c.self.inside.made } in
    let before = subst (λ n. Every (λ p. p.region.0 < n) s.backing.places) (sym c.self.invariant.counted) c.self.invariant.made_before in
    let is : c.in_ok-place.place.region ≡ region = ap (λ (p : Place). p.region) c.in_ok-place.ensures.place.0 in
    let back : c.give.new.self ≡ s.backing = c.give.ensures.given ∙ ap (λ (b : Backing). backing_without b region) c.in_ok-place.ensures.made
    ∙ ap (backing_at s.backing.pool_words) (given_back s.backing.places region c.in_ok-place.place before is) in
    let same : backed_state c.call.new.self c.give.new.self ≡ s = λ i. backed_state (c.in-Err.ensures.unchanged i) (back i) in
    same ∙ c.self.view_is
