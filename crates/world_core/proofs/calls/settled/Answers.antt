use Rattle.std.proofs.Common.{rules, ◌≡◌, Ok, Err, inl, inr, refl}
use Rattle.mem_base.specs.declared.map.refusals.Refusal.TheVariants.{Memory}
use Rattle.world_core.proofs.calls.settled.Goals as goal

pub returns-in-Ok-clause-flags : goal.returns-in-Ok-clause-flags
returns-in-Ok-clause-flags g c =
    inr ((λ e. let is : c.args.answer ≡ Ok c.in-Ok.value = search rules in cc), c.unsweep.ensures)

pub returns-in-Memory-clause-flags : goal.returns-in-Memory-clause-flags
returns-in-Memory-clause-flags g c =
    let is : c.args.answer ≡ Err Memory = search rules in inl (is, refl)

pub returns-in_default-clause-flags : goal.returns-in_default-clause-flags
returns-in_default-clause-flags g c =
    inr (
      (λ e. let is : c.args.answer ≡ Err c.in-Err.why = search rules in
          let memory : c.in-Err.why ≡ Memory = cc in c.in_default.not-Memory memory),
      c.unsweep-in_default.ensures,
    )
