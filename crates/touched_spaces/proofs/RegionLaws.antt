-- Regions by ascending id, found by halves.
use Rattle.std.proofs.Common.{◌≡◌, ◌≢◌, ◌==◌, ℕ, zero, suc, ◌<◌, ◌≤◌, Bool, true, false, eqb, List, [], ◌∷◌, filter, if◌then◌else◌, length, get_or, Err, refl, sym, ap, arith}
use Rattle.std.specs.List.Sorted.{IsBinarySearchResult, IsNonDecreasingBy}
use Rattle.std.specs.declared.cmp.Ordering.TheVariants.{Equal}
use Rattle.std.specs.Ordering.{nat_cmp, ordering_index}
use Rattle.std.proofs.lemmas.Cmp.{ranked}
use Rattle.std.proofs.lemmas.Bool.Decides.{nat_tests}
use Rattle.std.proofs.lemmas.List.Folds.{list_any_at}
use Rattle.mem_base.specs.declared.map.ids.RegionId.{RegionId}
use Rattle.mem_base.specs.declared.map.ids.SpaceId.{SpaceId}
use Rattle.mem_base.specs.declared.map.forests.Node.{Node}
use Rattle.mem_base.specs.declared.map.forests.Forest.{Forest}
use Rattle.mem_base.specs.map.Region.{IsAscending}
use Rattle.mem_base.specs.map.Order.{ids_of}
use Rattle.mem_base.specs.map.Forest.{IsMade}
use Rattle.mem_base.specs.map.Touched.{is_reached, reached}
use Rattle.mem_base.proofs.EveryLaws.{every_at, every_filter, every_map}
use Rattle.change_laws.specs.Meeting.{is_among}
use Rattle.touched_spaces.specs.Noted.{Ascend}
use Rattle.map_laws.proofs.MadeForests.{ordered_made}

-- of nodes by ascending id, those that pass a test have ascending ids too
ids_ascend : (p : Node → Bool) (nodes : List Node) → IsAscending nodes → Ascend (ids_of (filter p nodes))
ids_ascend p [] h = tt
ids_ascend p (n ∷ ns) h = go (ids_ascend p ns h.1) (p n)
  where
    go : Ascend (ids_of (filter p ns)) → (b : Bool) → Ascend (ids_of (if b then n ∷ filter p ns else filter p ns))
    go rest true =
        (every_map (λ q. n.id.0 < q.0) (λ m. m.id) (filter p ns) (every_filter (λ m. n.id.0 < m.id.0) p ns h.0), rest)
    go rest false = rest

-- the regions that are reached in a space stand by ascending id
pub reached_ascend : (f : Forest) (s : SpaceId) → IsMade f → Ascend (reached f s)
reached_ascend f s made = ids_ascend (λ n. is_reached f s n.id) f.nodes (ordered_made f made).ascending

rise : (rs : List RegionId) (i j : ℕ) (d : RegionId) → Ascend rs → i < j → j < length rs → (get_or rs i d).0 < (get_or rs j d).0
rise [] i j d h l m = absurd (omega arith)
rise (r ∷ rs) i zero d h l m = absurd (omega arith)
rise (r ∷ rs) zero (suc j) d h l m = every_at (λ q. r.0 < q.0) rs j d (omega arith) h.0
rise (r ∷ rs) (suc i) (suc j) d h l m = rise rs i j d h.1 (omega arith) (omega arith)

-- a region that stands nowhere is not there
missing : (rs : List RegionId) (r : RegionId) → ((k : ℕ) (d : RegionId) → k < length rs → (get_or rs k d).0 ≢ r.0) → is_among rs r ≡ false
missing [] r h = refl
missing (q ∷ qs) r h =
    let first = h 0 q (omega arith) in
    let t : eqb q.0 r.0 ≡ false = grind (arith, nat_tests) in
    rw t (missing qs r (λ k d l. h (suc k) d (omega arith)))

module _ (rs : List RegionId) (ascend : Ascend rs) (r : RegionId) where
  comparisons_rise : IsNonDecreasingBy (λ (q : RegionId). ordering_index (nat_cmp q.0 r.0)) rs
  comparisons_rise i j d le l =
      let up : (get_or rs i d).0 ≤ (get_or rs j d).0 = grind (arith, rise rs i j d ascend, λ (same : i ≡ j). ap (λ k. (get_or rs k d).0) same) in
      grind (arith, nat_tests)

  pub region_found : (i : ℕ) → i < length rs → ((d : RegionId) → nat_cmp (get_or rs i d).0 r.0 ≡ Equal) → is_among rs r ≡ true
  region_found i l e =
      let same : (get_or rs i r).0 ≡ r.0 = ranked _ r.0 _ (sym (e r)) in
      list_any_at (λ q. q.0 == r.0) rs i r l (grind (arith, nat_tests, same))

  pub region_missing : (i : ℕ) → i ≤ length rs → IsBinarySearchResult (λ (q : RegionId). nat_cmp q.0 r.0) rs (Err i) → is_among rs r ≡ false
  region_missing i l e =
      let parts = e comparisons_rise in
      missing rs r (λ k d m same.
      let a : k < i → (get_or rs k d).0 < r.0 = λ b. ranked _ r.0 _ (sym (parts.0 k d (omega arith) b)) in
      let b : i ≤ k → r.0 < (get_or rs k d).0 = λ c. ranked _ r.0 _ (sym (parts.1 k d c m)) in
      grind (arith, a, b))
