-- A call changes one region at most.
use Rattle.std.proofs.Common.{◌≡◌, false, eqb, List, [], ◌∷◌, ◌++◌, Option, Some, None, Ok, sym}
use Rattle.std.proofs.Common.{subst, ◌∙◌}
use Rattle.std.specs.Prelude.{IfSome}
use Rattle.std.proofs.lemmas.List.Folds.{list_any-append}
use Rattle.mem_base.specs.declared.map.ids.RegionId.{RegionId}
use Rattle.mem_base.specs.declared.map.forests.Forest.{Forest}
use Rattle.mem_base.specs.declared.map.calls.Call.{Call}
use Rattle.mem_base.specs.map.Calls.{after}
use Rattle.change_laws.specs.Meeting.{is_among, OthersStay}
use Rattle.change_laws.specs.Calls.{changes, listed}
use Rattle.change_laws.proofs.CallLaws.{others_stay}
use Rattle.touched_spaces.specs.Noted.{AreNoted}
use Rattle.std.proofs.lemmas.Bool.{or_parts}

-- one more region is noted
module _ (f g h : Forest) (noted : List RegionId) (changed : RegionId) where
  parts : (r : RegionId) → is_among (noted ++ changed ∷ []) r ≡ false → (is_among noted r ≡ false) × (is_among (changed ∷ []) r ≡ false)
  parts r out = or_parts (is_among noted r) (is_among (changed ∷ []) r) (sym (list_any-append (λ (q : RegionId). eqb q.0 r.0) noted (changed ∷ [])) ∙ out)

  pub noted_more : OthersStay f g noted → OthersStay g h (changed ∷ []) → OthersStay f h (noted ++ changed ∷ [])
  noted_more old new r out = old r (parts r out).0 ∙ new r (parts r out).1

  pub noted_same : OthersStay f g noted → OthersStay f g (noted ++ changed ∷ [])
  noted_same old r out = old r (parts r out).0

-- what is noted after a call, where there is room for its region
pub noted_call : (f g h : Forest) (call : Call) (noted : List RegionId) (region : RegionId) (changed : Option RegionId) (old new : Option (List RegionId))
    → old ≡ Some noted → changed ≡ Some region → changed ≡ changes g call → after g call ≡ Ok h → IfSome new (λ rs. rs ≡ noted ++ region ∷ [])
    → AreNoted f g old → AreNoted f h new
noted_call f g h call noted region changed old None was one is a more before = tt
noted_call f g h call noted region changed old (Some rs) was one is a more before =
    let stays : OthersStay f g noted = subst (AreNoted f g) was before in
    let others : OthersStay g h (region ∷ []) = subst (λ o. OthersStay g h (listed o)) (sym is ∙ one) (others_stay g h call a) in
    subst (OthersStay f h) (sym more) (noted_more f g h noted region stays others)
