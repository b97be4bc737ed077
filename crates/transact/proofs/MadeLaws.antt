-- Forests that accepted calls make.
use Rattle.std.proofs.Common.{◌≡◌, ◌+◌, Ok, refl, ap, ◌∙◌}
use Rattle.mem_base.specs.declared.map.forests.Forest.{Forest}
use Rattle.mem_base.specs.declared.map.calls.Call.{Call}
use Rattle.mem_base.specs.declared.map.calls.Call.TheVariants as calls
use Rattle.mem_base.specs.map.Changes.{changed}
use Rattle.mem_base.specs.map.Calls.{after}
use Rattle.map_laws.proofs.CallLaws.{after-accepted}
pub use Rattle.map_laws.proofs.MadeForests.{calls_both, closed_made, made_after, made_empty, ordered_made}
pub use Rattle.touched_spaces.proofs.ViewedLaws.{lives_are}

-- what a call changes is not the number of calls
calls_stay : (f : Forest) (call : Call) → (changed f call).calls ≡ f.calls
calls_stay f (calls.Region kind size) = refl
calls_stay f _ = refl

pub counted_after : (f g : Forest) (call : Call) → after f call ≡ Ok g → g.calls ≡ f.calls + 1
counted_after f g call e = ap (λ (h : Forest). h.calls) (after-accepted f g call e).1 ∙ ap (λ n. n + 1) (calls_stay f call)
