-- Laws of the room that is left beside a depth and a weight.
use Rattle.std.proofs.Common.{◌≡◌, ◌≢◌, ◌⊎◌, inl, inr, ℕ, ◌+◌, ◌-◌, ◌<◌, ◌≤◌, max, Bool, true, false, cond, eqb, leb, ◌&&◌, List, [], ◌∷◌}
use Rattle.std.proofs.Common.{map, Some, None, refl, sym, ap, ◌∙◌, arith}
use Rattle.std.specs.List.{list_all}
use Rattle.std.proofs.lemmas.Bool.Decides.{nat_tests}
use Rattle.mem_base.specs.declared.map.ids.RegionId.{RegionId}
use Rattle.mem_base.specs.declared.map.forests.Node.{Node}
use Rattle.mem_base.specs.map.Steps.{Steps, steps_of, greatest, total, depth_by, weight_by}
use Rattle.region_extents.specs.declared.extents.Join.{Join}
use Rattle.region_extents.specs.Extents.{steps_with}
use Rattle.region_extents.specs.Room.{room_left, is_within}
use Rattle.region_extents.proofs.ReachLaws.{depth_none, depth_on, weight_none, weight_on}
use Rattle.mem_base.specs.map.Limits.{most_depth, most_weight}

same_room : (k r d w k' r' d' w' : ℕ) → leb d k ≡ leb d' k' → leb w r ≡ leb w' r' → r - w ≡ r' - w' → room_left k r d w ≡ room_left k' r' d' w'
same_room k r d w k' r' d' w' a b c =
    ap (λ x. cond (x && leb w r) (Some (r - w)) None) a
    ∙ ap (λ x. cond (leb d' k' && x) (Some (r - w)) None) b
    ∙ ap (λ x. cond (leb d' k' && leb w' r') (Some x) None) c

-- what is known where room is left
record Fits (k r d w left : ℕ) : Type 0 where
  depth : d ≤ k
  weight : w ≤ r
  rest : left ≡ r - w

fits : (k r d w left : ℕ) → room_left k r d w ≡ Some left → Fits k r d w left
fits k r d w left =
    elim (leb d k) as (λ a. leb d k ≡ a → cond (a && leb w r) (Some (r - w)) None ≡ Some left → Fits k r d w left) [
      | true ↦ λ s.
          elim (leb w r) as (λ b. leb w r ≡ b → cond (true && b) (Some (r - w)) None ≡ Some left → Fits k r d w left) [
            | true ↦ λ t e. record { depth = grind (arith, nat_tests); weight = grind (arith, nat_tests); rest = cc }
            | false ↦ λ t e. cc
          ] refl
      | false ↦ λ s e. cc
    ] refl

-- none is left where the depth or the weight is above its limit
no_depth : (k r d w : ℕ) → k < d → None ≡ room_left k r d w
no_depth k r d w l = let t : leb d k ≡ false = grind (arith, nat_tests) in rw t refl

no_weight : (k r d w : ℕ) → r < w → None ≡ room_left k r d w
no_weight k r d w l =
    let t : leb w r ≡ false = grind (arith, nat_tests) in
    rw t (elim (leb d k) as (λ a. None ≡ cond (a && false) (Some (r - w)) None) [ true ↦ refl | false ↦ refl ])

none_on : (k r d ds w ws : ℕ) → None ≡ room_left k r d w → None ≡ room_left k r (max d ds) (w + ws)
none_on k r d ds w ws =
    elim (leb d k) as (λ a. leb d k ≡ a → None ≡ cond (a && leb w r) (Some (r - w)) None → None ≡ room_left k r (max d ds) (w + ws)) [
      | true ↦ λ s.
          elim (leb w r) as (λ b. leb w r ≡ b → None ≡ cond (true && b) (Some (r - w)) None → None ≡ room_left k r (max d ds) (w + ws)) [
            | true ↦ λ t e. cc
            | false ↦ λ t e. let l : r < w = grind (arith, nat_tests) in no_weight k r (max d ds) (w + ws) (omega arith)
          ] refl
      | false ↦ λ s e. let l : k < d = grind (arith, nat_tests) in no_depth k r (max d ds) (w + ws) (omega arith)
    ] refl

some_on : (k r d ds w ws left : ℕ) → Some left ≡ room_left k r d w → room_left k left ds ws ≡ room_left k r (max d ds) (w + ws)
some_on k r d ds w ws left e =
    let f = fits k r d w left (sym e) in
    let a = f.depth in
    let b = f.weight in
    let c = f.rest in
    same_room k left ds ws k r (max d ds) (w + ws) (grind (arith, nat_tests)) (grind (arith, nat_tests)) (omega arith)

-- one region more, and all that it leads to
pub on_further : (s : Steps) (k room most : ℕ) (r : RegionId) (on : List RegionId) → most ≢ 0 → k ≢ 0 → room ≢ 0 → s r ≡ on →
    room_left (k - 1) (room - 1) (greatest (map (depth_by s (most - 1)) on)) (total (map (weight_by s (most - 1)) on)) ≡
    room_left k room (depth_by s most r) (weight_by s most r)
on_further s k room most r on m a b e =
    let d = depth_on s most r on m e in
    let w = weight_on s most r on m e in
    same_room (k - 1) (room - 1) (greatest (map (depth_by s (most - 1)) on)) (total (map (weight_by s (most - 1)) on)) k room (depth_by s most r)
    (weight_by s most r) (grind (arith, nat_tests)) (grind (arith, nat_tests)) (omega arith)

untouched : (k room : ℕ) → Some room ≡ room_left k room 0 0
untouched k room =
    let t : leb 0 k ≡ true = grind (arith, nat_tests) in
    let u : leb 0 room ≡ true = grind (arith, nat_tests) in
    let z : room - 0 ≡ room = omega arith in
    rw (t, u, z) refl

-- no path at all
pub nothing_yet : (s : Steps) (k room most : ℕ) (r : RegionId) → most ≡ 0 → Some room ≡ room_left k room (depth_by s most r) (weight_by s most r)
nothing_yet s k room most r e =
    let d = depth_none s most r e in
    let w = weight_none s most r e in
    untouched k room ∙ ap (λ x. room_left k room x 0) d ∙ ap (room_left k room (depth_by s most r)) w

-- no room at all
pub no_room : (s : Steps) (k room most : ℕ) (r : RegionId) → most ≢ 0 → (k ≡ 0) ⊎ (room ≡ 0) → None ≡ room_left k room (depth_by s most r) (weight_by s most r)
no_room s k room most r m (inl e) = let d = depth_on s most r (s r) m refl in no_depth k room (depth_by s most r) (weight_by s most r) (omega arith)
no_room s k room most r m (inr e) = let w = weight_on s most r (s r) m refl in no_weight k room (depth_by s most r) (weight_by s most r) (omega arith)

-- where all regions are within the limits, the greatest of each is
pub within_greatest : (g h : Node → ℕ) (ns : List Node) → list_all (λ n. is_within (g n) (h n)) ns ≡ is_within (greatest (map g ns)) (greatest (map h ns))
within_greatest g h [] = refl
within_greatest g h (n ∷ ns) =
    let ih = within_greatest g h ns in
    ap (λ b. is_within (g n) (h n) && b) ih
    ∙ both (g n) (greatest (map g ns)) (h n) (greatest (map h ns))
  where
    both : (a b c d : ℕ) → (is_within a c && is_within b d) ≡ is_within (max a b) (max c d)
    both a b c d =
        let e : leb (max a b) most_depth ≡ (leb a most_depth && leb b most_depth) = grind (arith, nat_tests) in
        let f : leb (max c d) most_weight ≡ (leb c most_weight && leb d most_weight) = grind (arith, nat_tests) in
        shuffle (leb a most_depth) (leb c most_weight) (leb b most_depth) (leb d most_weight) ∙ ap (λ x. x && (leb c most_weight && leb d most_weight)) (sym e)
        ∙ ap (λ x. leb (max a b) most_depth && x) (sym f)
      where
        shuffle : (p q r s : Bool) → ((p && q) && (r && s)) ≡ ((p && r) && (q && s))
        shuffle true true r s = refl
        shuffle true false true s = refl
        shuffle true false false s = refl
        shuffle false q r s = refl

-- a region where one more step begins, and any other
module _ (nodes : List Node) (join : Join) (k room most : ℕ) (r : RegionId) (m : most ≢ 0) (a : k ≢ 0) (b : room ≢ 0) where
  abbrev s : Steps
  s = steps_with nodes join

  joined : r.0 ≡ join.parent.0 → s r ≡ join.child ∷ steps_of nodes r
  joined e = let t : eqb r.0 join.parent.0 ≡ true = grind (arith, nat_tests) in rw t refl

  pub some_joined : r.0 ≡ join.parent.0 → (left : ℕ) →
      Some left ≡ room_left (k - 1) (room - 1) (depth_by s (most - 1) join.child) (weight_by s (most - 1) join.child) →
      room_left (k - 1) left (greatest (map (depth_by s (most - 1)) (steps_of nodes r))) (total (map (weight_by s (most - 1)) (steps_of nodes r))) ≡
      room_left k room (depth_by s most r) (weight_by s most r)
  some_joined e left known =
      some_on (k - 1) (room - 1) (depth_by s (most - 1) join.child) (greatest (map (depth_by s (most - 1)) (steps_of nodes r)))
      (weight_by s (most - 1) join.child) (total (map (weight_by s (most - 1)) (steps_of nodes r))) left known
      ∙ on_further s k room most r (join.child ∷ steps_of nodes r) m a b (joined e)

  pub none_joined : r.0 ≡ join.parent.0 → None ≡ room_left (k - 1) (room - 1) (depth_by s (most - 1) join.child) (weight_by s (most - 1) join.child) →
      None ≡ room_left k room (depth_by s most r) (weight_by s most r)
  none_joined e known =
      none_on (k - 1) (room - 1) (depth_by s (most - 1) join.child) (greatest (map (depth_by s (most - 1)) (steps_of nodes r)))
      (weight_by s (most - 1) join.child) (total (map (weight_by s (most - 1)) (steps_of nodes r))) known
      ∙ on_further s k room most r (join.child ∷ steps_of nodes r) m a b (joined e)

  pub room_apart : r.0 ≢ join.parent.0 →
      room_left (k - 1) (room - 1) (greatest (map (depth_by s (most - 1)) (steps_of nodes r))) (total (map (weight_by s (most - 1)) (steps_of nodes r))) ≡
      room_left k room (depth_by s most r) (weight_by s most r)
  room_apart e = let t : eqb r.0 join.parent.0 ≡ false = grind (arith, nat_tests) in on_further s k room most r (steps_of nodes r) m a b (rw t refl)
