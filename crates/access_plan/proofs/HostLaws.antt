-- Plans where no memory is the host's.
use Rattle.std.proofs.Common.{◌≡◌, ℕ, zero, suc, ◌+◌, ◌-◌, ◌&&◌, Bool, if◌then◌else◌, ◌++◌, refl, sym, ap, ◌∙◌}
use Rattle.mem_base.specs.declared.map.ids.SpaceId.{SpaceId}
use Rattle.mem_base.specs.declared.map.forests.Forest.{Forest}
use Rattle.mem_base.specs.declared.access.accesses.Target.{Target}
use Rattle.mem_base.specs.declared.access.accesses.Target.TheVariants.{Leaf, Unassigned}
use Rattle.mem_base.specs.access.AccessSteps.{Transfer, is_write, length_of, part}
use Rattle.mem_base.specs.access.Plans.{answerer, by_memory_unless}
use Rattle.mem_base.specs.access.CorePlans.{core_answerer, own_target, taken, in_round, rounds_from, reached_at_once}
use Rattle.mem_base.specs.access.Trails.{trail_of}
use Rattle.plan_laws.proofs.Parts.{same_kind}
use Rattle.access_plan.specs.HostPlans.{answerer_with_host, chunks_by, rounds_by}
use Rattle.access_plan.specs.HostLaws.{HasNoHost, PlanIsDefined, CorePlanIsDefined}

same_answerer : (f : Forest) → HasNoHost f → (w : Bool) (x : Target) → answerer_with_host f w x ≡ answerer f w x
same_answerer f none w Unassigned = refl
same_answerer f none w (Leaf spot) =
    ap (λ b. if b then by_memory_unless (w && spot.attrs.readonly) spot else answerer f w (Leaf spot)) (none spot.leaf)

same_rounds : (f : Forest) (s : SpaceId) (first : ℕ) (t : Transfer) (a left inside : ℕ)
    → rounds_by (core_answerer f (is_write t)) f (is_write t) s first t a left inside ≡ rounds_from f s first t a left inside
same_rounds f s first t a zero inside = refl
same_rounds f s first t a (suc left) (suc inside) = same_rounds f s first t (a + 1) left inside
same_rounds f s first t a (suc left) zero =
    let n : ℕ = taken f (is_write t) s a (suc left) in
    let u : Transfer = part (a - first) n t in
    ap (λ b. reached_at_once (core_answerer f b (trail_of f b s a).target) u
    ++ rounds_by (core_answerer f (is_write t)) f (is_write t) s first t (a + 1) left (n - 1)) (sym (same_kind (a - first) n t))
    ∙ ap (λ rs. in_round f s a u ++ rs) (same_rounds f s first t (a + 1) left (n - 1))

pub plan_is_defined : PlanIsDefined
plan_is_defined f none s a t = (λ i. chunks_by (λ x. same_answerer f none (is_write t) x i) f (is_write t) s a (length_of t) t)

pub core_plan_is_defined : CorePlanIsDefined
core_plan_is_defined f none s a t =
    (λ i. rounds_by (λ x. same_answerer f none (is_write t) (own_target f x) i) f (is_write t) s a t a (length_of t) 0) ∙ same_rounds f s a t a (length_of t) 0
