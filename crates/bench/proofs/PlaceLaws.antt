-- A place that is found in a list is in it.
use Rattle.std.proofs.Common.{◌≡◌, ◌||◌, ◌==◌, ◌∙◌, Bool, true, false, if◌then◌else◌, List, [], ◌∷◌, ap, Some}
use Rattle.std.specs.List.{list_any}
use Rattle.std.proofs.lemmas.Bool.{or_right}
use Rattle.std.proofs.lemmas.Option.{same_Some}
use Rattle.mem_base.specs.declared.map.ids.RegionId.{RegionId}
use Rattle.mem_base.specs.declared.access.cells.Place.{Place}
use Rattle.mem_base.specs.access.PlacesByRegion.{place_in}
use Rattle.mem_base.specs.machine.SharedHistory.{is_same_place}
use Rattle.view_laws.proofs.Tests.{none_is_not_some}
use Rattle.vcpu_pass.proofs.HandLaws.{same_place}

pub has_found : (ps : List Place) (r : RegionId) (p : Place) → place_in ps r ≡ Some p → list_any (is_same_place p) ps ≡ true
has_found [] r p e = none_is_not_some p e
has_found (q ∷ qs) r p e = go (q.region.0 == r.0) e (has_found qs r p)
  where
    go : (b : Bool) → (if b then Some q else place_in qs r) ≡ Some p → (place_in qs r ≡ Some p → list_any (is_same_place p) qs ≡ true)
        → (is_same_place p q || list_any (is_same_place p) qs) ≡ true
    go true e rest = ap (λ (z : Place). is_same_place p z || list_any (is_same_place p) qs) (same_Some q p e)
        ∙ ap (λ (b : Bool). b || list_any (is_same_place p) qs) (same_place p)
    go false e rest = or_right (is_same_place p q) (list_any (is_same_place p) qs) (rest e)
