-- Forests that accepted calls make.
use Rattle.std.proofs.Common.{◌≡◌, List, [], ◌∷◌, ◌++◌, Ok, refl, ap, subst, ◌∙◌}
use Rattle.mem_base.specs.declared.map.forests.Forest.{Forest}
use Rattle.mem_base.specs.declared.map.calls.Call.{Call}
use Rattle.mem_base.specs.map.Calls.{after, after_all, left_by, empty}
use Rattle.mem_base.specs.map.Forest.{FitsTypes, IsMade, IsOrderedForest, IsClosedForest}
use Rattle.mem_base.proofs.EveryLaws.{every_push}
use Rattle.map_laws.proofs.CallLaws.{IsOrderedForest-made}
use Rattle.map_laws.proofs.SoundCallLaws.{IsClosedForest-made}

-- calls one after another
pub calls_both : (f : Forest) (xs ys : List Call) → after_all f (xs ++ ys) ≡ after_all (after_all f xs) ys
calls_both f [] ys = refl
calls_both f (call ∷ xs) ys = calls_both (left_by f (after f call)) xs ys

-- one more accepted call
pub made_after : (f g : Forest) (call : Call) → IsMade f → FitsTypes call → after f call ≡ Ok g → IsMade g
made_after f g call m fits e = record {
  calls = m.calls ++ call ∷ [];
  fitting = every_push FitsTypes m.calls call m.fitting fits;
  made = calls_both empty m.calls (call ∷ []) ∙ ap (λ h. after_all h (call ∷ [])) m.made ∙ ap (left_by f) e;
}

pub made_empty : IsMade empty
made_empty = record { calls = []; fitting = tt; made = refl }

pub ordered_made : (f : Forest) → IsMade f → IsOrderedForest f
ordered_made f m = subst IsOrderedForest m.made (IsOrderedForest-made m.calls)

pub closed_made : (f : Forest) → IsMade f → IsClosedForest f
closed_made f m = subst IsClosedForest m.made (IsClosedForest-made m.calls m.fitting)
