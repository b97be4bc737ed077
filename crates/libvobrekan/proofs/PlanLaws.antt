-- What an access reaches, in a buffer.
use Rattle.std.proofs.Common.{ℕ, Bool, List, Option, Ok, Err}
use Rattle.std.specs.Prelude.{IfOk, Result, Vec}
use Rattle.std.specs.declared.alloc.AllocError.{AllocError}
use Rattle.std.specs.declared.alloc.Global.{Global}
use Rattle.mem_base.specs.declared.map.forests.Forest.{Forest}
use Rattle.mem_base.specs.declared.map.ids.SpaceId.{SpaceId}
use Rattle.mem_base.specs.access.AccessSteps.{Transfer}
use Rattle.access_plan.specs.declared.lists.Reach.{Reach}
use Rattle.libvobrekan.specs.declared.answers.Answer.{Answer}
use Rattle.libvobrekan.specs.declared.plans.ReachedNumbers.{ReachedNumbers}
use Rattle.libvobrekan.specs.Plans.{HasPlan, IsListOf, IsTold, items_of, lists_of}

pub has_plan : (f : Forest) (number : ℕ) (core : Bool) (s : SpaceId) (a : ℕ) (t : Transfer) (before : List ReachedNumbers) (answer : Answer)
    (out : List ReachedNumbers)
    (r : Result (Option (Vec Reach Global)) AllocError) → IfOk r (λ o. IsListOf core f s a t (items_of o)) → IsTold (lists_of r) number before answer out
    → HasPlan f number core s a t before answer out
has_plan f number core s a t before answer out (Ok o) h k = record { list = Ok (items_of o); is = h; told = k }
has_plan f number core s a t before answer out (Err e) h k = record { list = Err e; is = h; told = k }
