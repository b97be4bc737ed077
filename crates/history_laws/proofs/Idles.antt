-- The writer's part between two turns: nothing is due or unfilled, and what is made next is new.
use Rattle.std.proofs.Common.{◌≡◌, ℕ, ◌-◌, ◌<◌, ◌≤◌, ne_eqb, true, false, List, [], ◌∷◌, ◌++◌, length, sym, refl, ◌∙◌, subst, arith, Option, Some, None}
use Rattle.std.specs.Prelude.{nat_le, ◌^◌, ◌==◌, Ok}
use Rattle.std.specs.Option.{option_or}
use lib.ListN.{length-replicate}
use Rattle.std.proofs.lemmas.Bool.{leb-false}
use Rattle.mem_base.specs.declared.map.forests.Forest.{Forest}
use Rattle.mem_base.specs.declared.map.refusals.Refusal.{Refusal}
use Rattle.mem_base.specs.declared.map.refusals.Refusal.TheVariants.{LimitReached}
use Rattle.mem_base.specs.declared.map.refusals.Which.TheVariants as which
use Rattle.mem_base.specs.declared.map.calls.Call.{Call}
use Rattle.mem_base.specs.declared.map.calls.Call.TheVariants as calls
use Rattle.mem_base.specs.declared.map.calls.Config.{Config}
use Rattle.mem_base.specs.declared.map.calls.Config.TheVariants as configs
use Rattle.mem_base.specs.declared.access.cells.Place.{Place}
use Rattle.mem_base.specs.map.Limits.{most_made}
use Rattle.mem_base.specs.lists.Every.{Every}
use Rattle.mem_base.specs.map.Forest.{IsOrderedForest}
use Rattle.mem_base.specs.map.Calls.{after as forest_after, refusals}
use Rattle.mem_base.specs.map.TableRefusals.{no_more_calls}
use Rattle.mem_base.specs.access.PlacesByRegion.{place_in}
use Rattle.mem_base.specs.access.Places.{notifiers_place, is_notifiers}
use Rattle.mem_base.specs.machine.Desk.{Desk, places_of}
use Rattle.mem_base.specs.machine.Generations.{nothing_known}
use Rattle.mem_base.specs.machine.Reaps.{Writer, first_writer}
use Rattle.map_laws.proofs.RefusalLaws.{each_none, is_known, refuse_if-none}
use Rattle.mem_base.proofs.ForestLaws.{known_below}
use Rattle.map_laws.proofs.CallLaws.{after-accepted, IsOrderedForest-empty}
use Rattle.view_laws.proofs.Tests.{none_is_not_some}

-- a region that is made has no place yet, and a region that is dropped is not the notifiers'
abbrev pub IsNew : Desk → Call → Type 0
IsNew d (calls.Region kind size) = place_in (places_of d) (record { 0 = d.forest.made }) ≡ None
IsNew d (calls.Drop region) = is_notifiers region ≡ false
IsNew d call = Unit {0}

-- where the call is accepted
abbrev pub IsFresh : Desk → Config → Type 0
IsFresh d (configs.Call call) = (f : Forest) → forest_after d.forest call ≡ Ok f → IsNew d call
IsFresh d k = Unit {0}

-- the forest, the places and the transactions of a desk
pub record IsSoundDesk (d : Desk) : Type 0 where
  pub forest : IsOrderedForest d.forest
  pub few : d.forest.made ≤ most_made
  pub places : Every (λ p. p.region.0 < d.forest.made) d.places
  pub pending : (d.depth == 0) ≡ true → d.pending ≡ false

pub record Idle (h : Writer) : Type 0 where
  pub due : h.desk.due ≡ false
  pub filled : h.desk.unfilled ≡ []
  pub flagged : length h.desk.swept ≡ length h.generations.passes
  pub sound : IsSoundDesk h.desk

pub first_none : (x y : Option Refusal) → option_or x y ≡ None → x ≡ None
first_none None y e = refl
first_none (Some why) y e = none_is_not_some why (sym e)

-- an accepted call makes no more regions than may be
pub made_after : (f g : Forest) (call : Call) → forest_after f call ≡ Ok g → f.made ≤ most_made → (f.made ≤ g.made) × (g.made ≤ most_made)
made_after f g (calls.Region kind size) e few =
    let ok = after-accepted f g (calls.Region kind size) e in
    let each = each_none (refusals f (calls.Region kind size) ++ no_more_calls f ∷ []) ok.0 in
    let below = leb-false most_made f.made (refuse_if-none (nat_le most_made f.made) (LimitReached which.Made most_made) (first_none _ _ each.1.1.1.1.0)) in
    subst (λ (z : Forest). (f.made ≤ z.made) × (z.made ≤ most_made)) (sym ok.1) (omega arith, omega arith)
made_after f g call e few = let ok = after-accepted f g call e in let l : f.made ≤ f.made = omega arith in
    subst (λ (z : Forest). (f.made ≤ z.made) × (z.made ≤ most_made)) (sym ok.1) (l, few)

-- a region that comes to be made has no place
no_place : (pool_words made : ℕ) (ps : List Place) → made ≤ most_made → Every (λ p. p.region.0 < made) ps
    → place_in (ps ++ notifiers_place pool_words ∷ []) (record { 0 = made }) ≡ None
no_place pool_words made [] few h = rw (ne_eqb (2 ^ 32 - 1) made (λ e. omega arith)) refl
no_place pool_words made (p ∷ ps) few h = rw (ne_eqb p.region.0 made (λ e. let l = h.0 in omega arith)) (no_place pool_words made ps few h.1)

pub fresh : (d : Desk) → IsSoundDesk d → (c : Config) → IsFresh d c
fresh d k (configs.Call call) = λ f e. new call f e
  where
    new : (call : Call) (f : Forest) → forest_after d.forest call ≡ Ok f → IsNew d call
    new (calls.Region kind size) f e = no_place d.pool_words d.forest.made d.places k.few k.places
    new (calls.Drop region) f e =
        let ok = after-accepted d.forest f (calls.Drop region) e in
        let each = each_none (refusals d.forest (calls.Drop region) ++ no_more_calls d.forest ∷ []) ok.0 in
        let below = known_below d.forest region k.forest (is_known d.forest region each.0) in
        let few = k.few in ne_eqb region.0 (2 ^ 32 - 1) (λ e. omega arith)
    new call f e = tt
fresh d k _ = tt

-- at first
pub opens_idle : (pool_words passes : ℕ) → Idle (first_writer pool_words passes)
opens_idle pool_words passes = record {
  due = refl;
  filled = refl;
  flagged = length-replicate passes false ∙ sym (length-replicate passes nothing_known);
  sound = record { forest = IsOrderedForest-empty; few = omega arith; places = tt; pending = λ h. refl };
}
