-- What the second tree comes to.
use Rattle.std.proofs.Common.{◌≡◌, List, [], ◌∷◌, ◌++◌, ap, ◌∙◌}
use Rattle.mem_base.specs.declared.map.forests.Forest.{Forest}
use Rattle.mem_base.specs.declared.map.calls.Call.{Call}
use Rattle.mem_base.specs.map.Calls.{after, after_all, left_by}
use Rattle.transact.proofs.MadeLaws.{calls_both}

-- one more call at the end of a list
pub one_more_call : (f : Forest) (calls more : List Call) (call : Call) → more ≡ calls ++ call ∷ []
    → after_all f more ≡ left_by (after_all f calls) (after (after_all f calls) call)
one_more_call f calls more call e = ap (after_all f) e ∙ calls_both f calls (call ∷ [])
