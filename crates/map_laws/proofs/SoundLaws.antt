-- Every accepted call keeps what holds of a forest's regions and spaces.
use Rattle.std.proofs.Common.{◌≡◌, ℕ, ◌+◌, ◌<◌, ◌≤◌, List, [], ◌∷◌, ◌++◌, length, Option, Some, None, IsSome, ap, ◌∙◌, arith}
use Rattle.std.specs.Prelude.{nat_le, option_and_then}
use Rattle.std.proofs.lemmas.Bool.Decides.{nat_tests}
use Rattle.mem_base.specs.declared.map.ids.RegionId.{RegionId}
use Rattle.mem_base.specs.declared.map.forests.Node.{Node}
use Rattle.mem_base.specs.declared.map.forests.Forest.{Forest}
use Rattle.mem_base.specs.declared.map.refusals.Refusal.{Refusal}
use Rattle.mem_base.specs.declared.map.refusals.Refusal.TheVariants.{LimitReached}
use Rattle.mem_base.specs.declared.map.refusals.Which.{Which}
use Rattle.mem_base.specs.declared.map.refusals.Which.TheVariants as which
use Rattle.mem_base.specs.declared.map.calls.Call.{Call}
use Rattle.mem_base.specs.lists.Every.{Every, EveryPair}
use Rattle.mem_base.specs.map.Limits.{most_calls}
use Rattle.mem_base.specs.map.Kinds.{is_alias}
use Rattle.mem_base.specs.map.Region.{node_of}
use Rattle.mem_base.specs.map.Forest.{HasSpaces, IsOrderedForest, IsClosedForest, IsRegion, ArePlacedApart, IsPlacedBefore}
use Rattle.mem_base.specs.map.Refusals.{first_refusal}
use Rattle.mem_base.specs.map.TableRefusals.{at_limit, no_more_calls}
use Rattle.mem_base.specs.map.Changes.{changed_at, at_region}
use Rattle.mem_base.specs.map.Calls.{refusals, refusal_of, counted}
use Rattle.mem_base.proofs.EveryLaws.{weaker}
use Rattle.mem_base.proofs.ForestLaws.{only_node, every_node_of}
use Rattle.map_laws.proofs.MoveLaws.{every_changed_one}
use Rattle.map_laws.proofs.RefusalLaws.{each_none, refuse_if-none}
use Rattle.map_laws.proofs.PairLaws.{pairs_changed, pairs_fresh, length-changed_at}
use Rattle.map_laws.proofs.RegionLaws.{there_changed, region_changed}

-- counts below their limits

pub at_limit-none : (which : Which) (most count : ℕ) → at_limit which most count ≡ None → count < most
at_limit-none which most count e = let t = refuse_if-none (nat_le most count) (LimitReached which most) e in grind (arith, nat_tests)

last_none : (l : List (Option Refusal)) (x : Option Refusal) → first_refusal (l ++ x ∷ []) ≡ None → x ≡ None
last_none [] x e = (each_none (x ∷ []) e).0
last_none (None ∷ l) x e = last_none l x e
last_none (Some why ∷ l) x e = cc

pub few_calls_yet : (f : Forest) (call : Call) → refusal_of f call ≡ None → f.calls < most_calls
few_calls_yet f call e = at_limit-none which.Calls most_calls f.calls (last_none (refusals f call) (no_more_calls f) e)

pub count-none : {A : Type 0} (list : Node → List A) (w : Which) (most : ℕ) (o : Option Node) (n : Node) → o ≡ Some n →
    option_and_then (λ (m : Node). at_limit w most (length (list m))) o ≡ None → length (list n) < most
count-none list w most o n e h = at_limit-none w most (length (list n))
    (ap (option_and_then (λ (m : Node). at_limit w most (length (list m)))) (let back : Some n ≡ o = cc in back) ∙ h)

-- the regions of a forest changed

module _ (f : Forest) (s : IsClosedForest f) (few : f.calls < most_calls) where
  pub with_nodes : (nodes : List Node) (placings : ℕ) → Every (IsRegion nodes) nodes → EveryPair ArePlacedApart nodes →
      Every (λ p. IsSome (node_of nodes p.1)) f.spaces → Every (HasSpaces f) nodes → length nodes ≤ length f.nodes →
      IsClosedForest (record f { nodes = nodes; placings = placings; calls = f.calls + 1 })
  with_nodes nodes placings regions apart roots translated short = record {
    regions = regions;
    placings = apart;
    roots = roots;
    translated = translated;
    spaces = s.spaces;
    few_regions = let l = s.few_regions in omega arith;
    few_made = s.few_made;
    few_spaces = s.few_spaces;
    few_calls = omega arith;
  }

  module _ (h : IsOrderedForest f) (r : RegionId) (m : Node) (at : node_of f.nodes r ≡ Some m) where
    pub here : IsRegion f.nodes m
    here = (every_node_of (IsRegion f.nodes) f.nodes r m at s.regions).0

    -- one region changed
    pub one_changed : (g : Node → Node) (placings : ℕ) (ids : (n : Node) → (g n).id ≡ n.id) (plain : (n : Node) → is_alias (g n).kind ≡ is_alias n.kind) →
        EveryPair ArePlacedApart (changed_at r g f.nodes) → (IsRegion (changed_at r g f.nodes) m → IsRegion (changed_at r g f.nodes) (g m)) →
        (HasSpaces f m → HasSpaces f (g m)) → IsClosedForest (record f { nodes = changed_at r g f.nodes; placings = placings; calls = f.calls + 1 })
    one_changed g placings ids plain apart change spaces =
        let new = changed_at r g f.nodes in
        let still = region_changed r g ids plain f.nodes in
        let l = length-changed_at r g f.nodes in
        with_nodes new placings
        (every_changed_one (IsRegion new) r g m (change (still m here)) f.nodes (only_node f.nodes r m h.ascending at)
        (weaker (IsRegion f.nodes) (IsRegion new) still f.nodes s.regions))
        apart
        (weaker (λ p. IsSome (node_of f.nodes p.1)) (λ p. IsSome (node_of new p.1)) (λ p w. there_changed r g ids plain f.nodes p.1 w) f.spaces s.roots)
        (every_changed_one (HasSpaces f) r g m (spaces (every_node_of (HasSpaces f) f.nodes r m at s.translated).0) f.nodes
        (only_node f.nodes r m h.ascending at) s.translated)
        (omega arith)

    -- one region changed where it is
    pub field_changed : (g : Node → Node) (ids : (n : Node) → (g n).id ≡ n.id) (plain : (n : Node) → is_alias (g n).kind ≡ is_alias n.kind) →
        ((x y : Node) → ArePlacedApart x y → ArePlacedApart (g x) y) → ((x y : Node) → ArePlacedApart x y → ArePlacedApart x (g y)) →
        (IsRegion (changed_at r g f.nodes) m → IsRegion (changed_at r g f.nodes) (g m)) → (HasSpaces f m → HasSpaces f (g m)) →
        IsClosedForest (counted (at_region f r g))
    field_changed g ids plain left right change spaces =
        one_changed g f.placings ids plain (pairs_changed ArePlacedApart r g left right f.nodes s.placings) change spaces

placed_less : (made placings : ℕ) (p : Option RegionId) (placing : ℕ) → IsPlacedBefore made placings p placing → IsSome p → placing < placings
placed_less made placings None placing h e = cc
placed_less made placings (Some p) placing h e = h.1

-- a region is placed apart from all that were placed before
pub fresh_placing : (f : Forest) → IsOrderedForest f → (r : RegionId) (g : Node → Node) (m : Node) → node_of f.nodes r ≡ Some m →
    (g m).placing ≡ f.placings → EveryPair ArePlacedApart f.nodes → EveryPair ArePlacedApart (changed_at r g f.nodes)
fresh_placing f h r g m at last apart =
    pairs_fresh (λ x. IsSome x.parent → x.placing < f.placings) ArePlacedApart r g m
    (λ x p a b e. let l = p a in omega arith)
    (λ x p a b e. let l = p b in omega arith)
    f.nodes h.ascending
    (weaker (λ n. IsPlacedBefore f.made f.placings n.parent n.placing) (λ x. IsSome x.parent → x.placing < f.placings)
    (λ x w. placed_less f.made f.placings x.parent x.placing w) f.nodes h.placed_before)
    (only_node f.nodes r m h.ascending at) apart
