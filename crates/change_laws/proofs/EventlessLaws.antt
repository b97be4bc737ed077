-- Where no region has an ioeventfd, none is live.
use Rattle.std.proofs.Common.{◌≡◌, ℕ, zero, suc, Bool, true, List, [], ◌∷◌, ◌++◌, length, map, filter, refl, ap, ◌∙◌, arith, Option, Some, None}
use Rattle.std.specs.Prelude.{nat_lt, ◌^◌, unwrap_or, option_map}
use Rattle.std.proofs.lemmas.Bool.Decides.{nat_tests}
use Rattle.mem_base.specs.declared.map.ids.RegionId.{RegionId}
use Rattle.mem_base.specs.declared.map.ids.SpaceId.{SpaceId}
use Rattle.mem_base.specs.declared.map.forests.Node.{Node}
use Rattle.mem_base.specs.declared.map.forests.Forest.{Forest}
use Rattle.mem_base.specs.declared.map.ioevents.Ioevent.{Ioevent}
use Rattle.mem_base.specs.declared.map.spots.Spot.{Spot}
use Rattle.mem_base.specs.map.Region.{node_of}
use Rattle.mem_base.specs.map.Order.{ids_of}
use Rattle.mem_base.specs.map.Search.{look}
use Rattle.mem_base.specs.views.LiveEvents.{events_of, moved_to, meets, lives_at, lives_in_order, lives_below, lives_of}
use Rattle.view_laws.proofs.LiveLaws.{In}
use Rattle.view_laws.proofs.SortedLaws.{filter_out, map_out}
use Rattle.view_laws.proofs.TouchedLaws.{found_in_list}

abbrev has_events : Node → Bool
has_events n = nat_lt 0 (length n.events)

more : (k : ℕ) → nat_lt 0 (suc k) ≡ true
more k = grind (arith, nat_tests)

cons_is_not_nil : (x : RegionId) (xs : List RegionId) → x ∷ xs ≡ [] → ⊥
cons_is_not_nil x xs e = absurd (omega (arith, ap (λ (l : List RegionId). length l) e))

nothing_in : (rs : List RegionId) (r : RegionId) → rs ≡ [] → In r rs → ⊥
nothing_in [] r e m = m
nothing_in (x ∷ xs) r e m = absurd (cons_is_not_nil x xs e)

module _ (f : Forest) (none : ids_of (filter has_events f.nodes) ≡ []) where
  no_events : (r : RegionId) → events_of f r ≡ []
  no_events r = go (node_of f.nodes r) refl
    where
      of_node : (n : Node) → In n f.nodes → (es : List Ioevent) → n.events ≡ es → es ≡ []
      of_node n m [] e = refl
      of_node n m (x ∷ xs) e =
          let some : has_events n ≡ true = ap (λ (es : List Ioevent). nat_lt 0 (length es)) e ∙ more (length xs) in
          absurd (nothing_in (ids_of (filter has_events f.nodes)) n.id none
          (map_out (λ (n : Node). n.id) n (filter has_events f.nodes) (filter_out has_events n f.nodes m some)))

      go : (o : Option Node) → node_of f.nodes r ≡ o → unwrap_or (option_map (λ (m : Node). m.events) o) [] ≡ []
      go None e = refl
      go (Some n) e = of_node n (found_in_list f.nodes r n e) n.events refl

  none_at : (a : ℕ) (o : Option Spot) → lives_at f a o ≡ []
  none_at a None = refl
  none_at a (Some spot) = ap (λ (es : List Ioevent). filter (meets a a) (map (moved_to a spot.offset) es)) (no_events spot.leaf)

  none_below : (n : ℕ) (show : ℕ → Option Spot) → lives_below f n show ≡ []
  unfolding lives_below
  none_below zero show = refl
  none_below (suc a) show = λ i. lives_in_order (none_at a (show a) i ++ none_below a show i)

pub none_is_live : (f : Forest) (s : SpaceId) → ids_of (filter (λ n. nat_lt 0 (length n.events)) f.nodes) ≡ [] → lives_of f s ≡ []
none_is_live f s none = none_below f none (2 ^ 64) (look f s)
