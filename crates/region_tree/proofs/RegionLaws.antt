-- Laws of why a Region is refused.
use Rattle.std.proofs.Common.{◌≡◌, ℕ, ◌+◌, ◌<◌, ◌≤◌, max, true, false, ltb, leb, [], ◌∷◌, ◌++◌, length}
use Rattle.std.proofs.Common.{None, refl, sym, ap, ◌∙◌, arith}
use Rattle.std.specs.Option.{option_or}
use Rattle.std.proofs.lemmas.Bool.Decides.{nat_tests}
use Rattle.mem_base.specs.declared.map.ids.RegionId.{RegionId}
use Rattle.mem_base.specs.declared.map.kinds.Kind.{Kind}
use Rattle.mem_base.specs.declared.map.kinds.Kind.TheVariants.{Alias}
use Rattle.mem_base.specs.declared.map.forests.Forest.{Forest}
use Rattle.mem_base.specs.declared.map.refusals.Refusal.{Refusal}
use Rattle.mem_base.specs.declared.map.refusals.Refusal.TheVariants.{TooDeep, TooWide}
use Rattle.mem_base.specs.declared.map.calls.Call.TheVariants as calls
use Rattle.mem_base.specs.map.Forest.{IsOrderedForest, IsTargetBefore}
use Rattle.mem_base.specs.map.Kinds.{device_of}
use Rattle.mem_base.specs.map.Refusals.{first_refusal, refuse_if, too_deep, too_wide, unknown_region, unknown_target, bad_size}
use Rattle.mem_base.specs.map.TableRefusals.{bad_device, no_more_regions, no_more_calls, at_limit}
use Rattle.mem_base.specs.declared.map.refusals.Which.TheVariants as which
use Rattle.mem_base.specs.map.Changes.{changed, made_region}
use Rattle.mem_base.specs.map.Calls.{alias_too_long, refusal_of}
use Rattle.mem_base.specs.map.Steps.{depth_of, weight_of, greatest_depth, greatest_weight}
use Rattle.mem_base.proofs.ForestLaws.{known_below}
use Rattle.region_slots.proofs.HandedOn.{greatest_depth_made, greatest_weight_made, depth_alias, weight_alias, shallow_made, narrow_made, first_none, refuse_if-none, is_known}
use Rattle.region_tree.proofs.AddLaws.{or_none}
use Rattle.std.proofs.lemmas.Bool.{leb-false, ltb-false}
use Rattle.mem_base.specs.map.Limits.{most_depth, most_made, most_regions, most_weight}

limit_of : (most g d : ℕ) (why : ℕ → Refusal) → g ≤ most → refuse_if (leb most d) (why (d + 1)) ≡ refuse_if (ltb most (max g (d + 1))) (why (max g (d + 1)))
limit_of most g d why l =
    elim (leb most d) as (λ b. leb most d ≡ b → refuse_if b (why (d + 1)) ≡ refuse_if (ltb most (max g (d + 1))) (why (max g (d + 1)))) [
      | true ↦ λ e.
          let le : most ≤ d = grind (arith, nat_tests) in
          let m : max g (d + 1) ≡ d + 1 = omega arith in
          let t : ltb most (d + 1) ≡ true = grind (arith, nat_tests) in
          rw (m, t) refl
      | false ↦ λ e.
          let lt : d < most = grind (arith, nat_tests) in
          let k : max g (d + 1) ≤ most = omega arith in
          let t : ltb most (max g (d + 1)) ≡ false = grind (arith, nat_tests) in
          rw t refl
    ] refl

-- only the target's own depth and weight decide
pub alias_refused : (f : Forest) → IsOrderedForest f → (target : RegionId) (offset size : ℕ) → unknown_region f target ≡ None →
    option_or (refuse_if (leb most_depth (depth_of f.nodes target)) (TooDeep (depth_of f.nodes target + 1)))
    (refuse_if (leb most_weight (weight_of f.nodes target)) (TooWide (weight_of f.nodes target + 1)))
    ≡ alias_too_long f (Alias target offset) size
alias_refused f h target offset size e =
    let n = made_region (record { 0 = f.made }) (Alias target offset) size in
    let before = known_below f target h (is_known f target e) in
    let new = f.nodes ++ n ∷ [] in
    let d : greatest_depth new ≡ max (greatest_depth f.nodes) (depth_of f.nodes target + 1) = greatest_depth_made f h n refl refl
    ∙ ap (max (greatest_depth f.nodes)) (depth_alias f h n refl refl target offset refl before) in
    let w : greatest_weight new ≡ max (greatest_weight f.nodes) (weight_of f.nodes target + 1) = greatest_weight_made f h n refl refl
    ∙ ap (max (greatest_weight f.nodes)) (weight_alias f h n refl refl target offset refl before) in
    let a = limit_of most_depth (greatest_depth f.nodes) (depth_of f.nodes target) TooDeep h.shallow ∙ ap (λ k. refuse_if (ltb most_depth k) (TooDeep k)) (sym d) in
    let b = limit_of most_weight (greatest_weight f.nodes) (weight_of f.nodes target) TooWide h.narrow ∙ ap (λ k. refuse_if (ltb most_weight k) (TooWide k)) (sym w) in
    ap (λ x. option_or x (refuse_if (leb most_weight (weight_of f.nodes target)) (TooWide (weight_of f.nodes target + 1)))) a
    ∙ ap (option_or (too_deep new)) (b ∙ sym (or_none (too_wide new)))

-- what an accepted Region keeps
pub record IsMakeable (f : Forest) (kind : Kind) (size : ℕ) : Type 0 where
  pub target : IsTargetBefore f.made kind
  pub shallow : greatest_depth (changed f (calls.Region kind size)).nodes ≤ most_depth
  pub narrow : greatest_weight (changed f (calls.Region kind size)).nodes ≤ most_weight
  pub room : f.made < most_made
  pub few : f.calls < 4611686018427387904

target_made : (f : Forest) → IsOrderedForest f → (kind : Kind) → unknown_target f kind ≡ None → IsTargetBefore f.made kind
target_made f h (Alias target offset) e = known_below f target h (is_known f target e)
target_made f h _ e = tt

lengths_made : (f : Forest) → IsOrderedForest f → (kind : Kind) (size : ℕ) → alias_too_long f kind size ≡ None →
    (greatest_depth (changed f (calls.Region kind size)).nodes ≤ most_depth) × (greatest_weight (changed f (calls.Region kind size)).nodes ≤ most_weight)
lengths_made f h (Alias target offset) size e =
    let new = (changed f (calls.Region (Alias target offset) size)).nodes in
    let a = first_none (too_deep new) (first_refusal (too_wide new ∷ [])) e in
    let b = first_none (too_wide new) None a.1 in
    (ltb-false _ _ (refuse_if-none _ (TooDeep (greatest_depth new)) a.0), ltb-false _ _ (refuse_if-none _ (TooWide (greatest_weight new)) b.0))
lengths_made f h kind size e = (
  shallow_made f h (made_region (record { 0 = f.made }) kind size) refl refl refl,
  narrow_made f h (made_region (record { 0 = f.made }) kind size) refl refl refl,
)

pub makeable_of : (f : Forest) → IsOrderedForest f → (kind : Kind) (size : ℕ) → refusal_of f (calls.Region kind size) ≡ None → IsMakeable f kind size
makeable_of f h kind size e =
    let a = first_none (unknown_target f kind) (first_refusal
    (bad_size kind size ∷ bad_device (device_of kind) ∷ alias_too_long f kind size ∷ no_more_regions f ∷ no_more_calls f ∷ [])) e in
    let b = first_none (bad_size kind size) (first_refusal
    (bad_device (device_of kind) ∷ alias_too_long f kind size ∷ no_more_regions f ∷ no_more_calls f ∷ [])) a.1 in
    let c = first_none (bad_device (device_of kind)) (first_refusal (alias_too_long f kind size ∷ no_more_regions f ∷ no_more_calls f ∷ [])) b.1 in
    let d = first_none (alias_too_long f kind size) (first_refusal (no_more_regions f ∷ no_more_calls f ∷ [])) c.1 in
    let k = first_none (no_more_regions f) (first_refusal (no_more_calls f ∷ [])) d.1 in
    let l = first_none (no_more_calls f) None k.1 in
    let m = first_none (at_limit which.Made most_made f.made) (at_limit which.Regions most_regions (length f.nodes)) k.0 in
    let long = lengths_made f h kind size d.0 in
    record {
      target = target_made f h kind a.0;
      shallow = long.0;
      narrow = long.1;
      room = leb-false _ _ (refuse_if-none _ _ m.0);
      few = leb-false _ _ (refuse_if-none _ _ l.0);
    }

-- the target of an accepted Region is there
pub target_of_region : (f : Forest) (kind : Kind) (size : ℕ) → refusal_of f (calls.Region kind size) ≡ None → unknown_target f kind ≡ None
target_of_region f kind size e = (first_none (unknown_target f kind)
    (first_refusal (bad_size kind size ∷ bad_device (device_of kind) ∷ alias_too_long f kind size ∷ no_more_regions f ∷ no_more_calls f ∷ [])) e).0
