-- At first the two machines are coupled.
use Rattle.std.proofs.Common.{◌≡◌, ℕ, zero, suc, ◌+◌, ◌-◌, ◌≤◌, eqb, eq-eqb, Bool, true, false, List, [], ◌∷◌, length, take, replicate, sym}
use Rattle.std.proofs.Common.{refl, ap, ◌∙◌, subst, arith, Some, None, if◌then◌else◌}
use Rattle.std.specs.Prelude.{slice_index, ◌^◌}
use Rattle.std.proofs.lemmas.Bool.{eqb-true}
use lib.ListN.{length-replicate}
use Rattle.mem_base.specs.declared.map.ids.RegionId.{RegionId}
use Rattle.mem_base.specs.declared.access.cells.Place.{Place}
use Rattle.mem_base.specs.lists.Every.{Every}
use Rattle.mem_base.specs.access.PlacesByRegion.{place_in}
use Rattle.mem_base.specs.map.Limits.{notifier_count}
use Rattle.mem_base.specs.access.Places.{notifiers_place}
use Rattle.mem_base.specs.machine.Generations.{Generation, nothing_known, least_lowest}
use Rattle.mem_base.specs.machine.World.{opening}
use Rattle.view_laws.proofs.Tests.{none_is_not_some, same_place}
use Rattle.history_laws.proofs.OrderLaws.{order_at_first}
use Rattle.turn_laws.proofs.Replaced.{no_cells}
use Rattle.turn_laws.proofs.Coupled.{Coupled, AllStand}

only : (pool_words : ℕ) (r : RegionId) (p : Place) → place_in (notifiers_place pool_words ∷ []) r ≡ Some p → (notifiers_place pool_words ≡ p) ×
    ((2 ^ 32 - 1) ≡ r.0)
only pool_words r p is = go (eqb (2 ^ 32 - 1) r.0) refl is
  where
    go : (b : Bool) → eqb (2 ^ 32 - 1) r.0 ≡ b → (if b then Some (notifiers_place pool_words) else None) ≡ Some p → (notifiers_place pool_words ≡ p) ×
        ((2 ^ 32 - 1) ≡ r.0)
    go true e h = (same_place _ p h, eqb-true _ _ e)
    go false e h = none_is_not_some p h

zeros : (n i : ℕ) → slice_index (replicate n 0) i ≡ 0
zeros zero i = refl
zeros (suc n) zero = refl
zeros (suc n) (suc i) = zeros n i

first_taken : (P : Generation → Type 0) (x : Generation) (k : ℕ) → P x → Every P (take k (x ∷ []))
first_taken P x zero p = tt
first_taken P x (suc zero) p = (p, tt)
first_taken P x (suc (suc k)) p = (p, tt)

abbrev its_words : Bool → List ℕ
its_words b = if b then replicate notifier_count 0 else []

its_zeros : (b : Bool) (i : ℕ) → slice_index (its_words b) i ≡ 0
its_zeros true i = zeros notifier_count i
its_zeros false i = refl

pub opens : (pool_words passes : ℕ) → Coupled (opening pool_words passes) (replicate (pool_words + notifier_count) 0)
opens pool_words passes = record {
  backed = record {
    same = λ r p i is l filled. its_zeros (eqb (2 ^ 32 - 1) r.0) i ∙ sym (zeros (pool_words + notifier_count) (p.start + i));
    long = λ r p is. let x = only pool_words r p is in ap (λ (b : Bool). length (its_words b)) (eq-eqb (2 ^ 32 - 1) r.0 x.1) ∙ ap (λ (q : Place). q.words) x.0;
    inside = λ r p is. let x = only pool_words r p is in
        subst (λ (q : Place). q.start + q.words ≤ length {A = ℕ} (replicate (pool_words + notifier_count) 0)) x.0
        (let z : ℕ = 0 in
        let e : length (replicate (pool_words + notifier_count) z) ≡ pool_words + notifier_count =
        length-replicate (pool_words + notifier_count) z in omega arith);
    apart = λ r s p q a b ne. absurd (ne (sym (only pool_words r p a).1 ∙ (only pool_words s q b).1));
  };
  held = first_taken (AllStand (notifiers_place pool_words ∷ []) []) _ (0 + 1 - least_lowest 0 (replicate passes nothing_known)) tt;
  whole = (record { stands = refl; some = omega arith; wide = omega arith; marks = λ client page l. absurd (omega arith); notifiers = λ h. refl }, tt);
  low = tt;
  still = λ on. refl;
  bare = λ r none. no_cells [] (notifiers_place pool_words ∷ []) r none;
  order = order_at_first pool_words passes;
}
