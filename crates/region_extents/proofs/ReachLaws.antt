-- Laws of what the paths of a tree reach.
use Rattle.std.proofs.Common.{◌≡◌, ◌≢◌, ℕ, zero, suc, ◌+◌, ◌-◌, ◌<◌, ◌≤◌, Bool, true, false, ◌||◌, eqb, cond, List, [], ◌∷◌, length, get_or}
use Rattle.std.proofs.Common.{set, drop, map, Some, None, refl, sym, ap, subst, ◌∙◌, arith, add-one}
use Rattle.std.specs.List.{list_any}
use Rattle.std.proofs.lemmas.Bool.Decides.{nat_tests}
use Rattle.mem_base.specs.declared.map.ids.RegionId.{RegionId}
use Rattle.mem_base.specs.declared.map.forests.Node.{Node}
use Rattle.mem_base.specs.map.Region.{node_of}
use Rattle.mem_base.specs.map.Order.{children_of}
use Rattle.mem_base.specs.map.Kinds.{target_of}
use Rattle.mem_base.specs.map.Steps.{Steps, steps_of, steps_from, reaches_by, depth_by, weight_by, greatest, total}
use Rattle.mem_base.proofs.ForestLaws.{id_of}
use Rattle.mem_base.specs.map.Order.{ids_of}
use Rattle.mem_base.specs.lists.Every.{Every}
use Rattle.mem_base.specs.map.Region.{IsAscending}
use Rattle.mem_base.proofs.EveryLaws.{weaker, every_at}
use Rattle.mem_base.proofs.StepLaws.{every_of}
use Rattle.region_extents.specs.Marks.{marked}
use Rattle.mem_base.proofs.NodeLaws.{steps_to_target, steps_to_children}

pub reaches_none : (s : Steps) (most : ℕ) (from to : RegionId) → most ≡ 0 → false ≡ reaches_by s most from to
unfolding reaches_by
reaches_none s most from to e = subst (λ k. false ≡ reaches_by s k from to) (sym e) refl

pub reaches_itself : (s : Steps) (most : ℕ) (from to : RegionId) → most ≢ 0 → from.0 ≡ to.0 → true ≡ reaches_by s most from to
unfolding reaches_by
reaches_itself s zero from to h e = absurd (h refl)
reaches_itself s (suc most) from to h e = let t : eqb from.0 to.0 ≡ true = grind (arith, nat_tests) in rw t refl

pub reaches_on : (s : Steps) (most : ℕ) (from to : RegionId) (on : List RegionId) → most ≢ 0 → from.0 ≢ to.0 → s from ≡ on →
    list_any (λ q. reaches_by s (most - 1) q to) on ≡ reaches_by s most from to
unfolding reaches_by
reaches_on s zero from to on h e k = absurd (h refl)
reaches_on s (suc most) from to on h e k =
    let t : eqb from.0 to.0 ≡ false = grind (arith, nat_tests) in
    let m : suc most - 1 ≡ most = omega arith in
    rw (t, m) (ap (list_any (λ q. reaches_by s most q to)) (sym k))

pub steps_missing : (nodes : List Node) (r : RegionId) → None ≡ node_of nodes r → steps_of nodes r ≡ []
steps_missing nodes r e = ap (steps_from nodes) (sym e)

pub steps_target : (nodes : List Node) (r : RegionId) (n : Node) (t : RegionId) → Some n ≡ node_of nodes r → target_of n.kind ≡ Some t →
    steps_of nodes r ≡ t ∷ []
steps_target nodes r n t e k = ap (steps_from nodes) (sym e) ∙ steps_to_target nodes n.kind n t k

pub steps_below : (nodes : List Node) (r : RegionId) (n : Node) → Some n ≡ node_of nodes r → target_of n.kind ≡ None →
    steps_of nodes r ≡ ids_of (children_of nodes r)
steps_below nodes r n e k = ap (steps_from nodes) (sym e) ∙ steps_to_children nodes n.kind n k
    ∙ ap (λ q. ids_of (children_of nodes q)) (id_of nodes r n (sym e))

-- one step of depth and weight
pub depth_none : (s : Steps) (most : ℕ) (r : RegionId) → most ≡ 0 → 0 ≡ depth_by s most r
unfolding depth_by
depth_none s most r e = subst (λ k. 0 ≡ depth_by s k r) (sym e) refl

pub depth_on : (s : Steps) (most : ℕ) (r : RegionId) (on : List RegionId) → most ≢ 0 → s r ≡ on →
    greatest (map (depth_by s (most - 1)) on) + 1 ≡ depth_by s most r
unfolding depth_by
depth_on s zero r on h e = absurd (h refl)
depth_on s (suc most) r on h e = let m : suc most - 1 ≡ most = omega arith in rw m (ap (λ l. greatest (map (depth_by s most) l) + 1) (sym e))

pub weight_none : (s : Steps) (most : ℕ) (r : RegionId) → most ≡ 0 → 0 ≡ weight_by s most r
unfolding weight_by
weight_none s most r e = subst (λ k. 0 ≡ weight_by s k r) (sym e) refl

pub weight_on : (s : Steps) (most : ℕ) (r : RegionId) (on : List RegionId) → most ≢ 0 → s r ≡ on →
    total (map (weight_by s (most - 1)) on) + 1 ≡ weight_by s most r
unfolding weight_by
weight_on s zero r on h e = absurd (h refl)
weight_on s (suc most) r on h e = let m : suc most - 1 ≡ most = omega arith in rw m (ap (λ l. total (map (weight_by s most) l) + 1) (sym e))

-- marks
or_assoc : (a b c : Bool) → (a || b) || c ≡ a || (b || c)
or_assoc true b c = refl
or_assoc false b c = refl

or_none : (a : Bool) → a || false ≡ a
or_none true = refl
or_none false = refl

pub marked_both : (ns : List Node) (t u : RegionId → Bool) (bs : List Bool) → marked ns u (marked ns t bs) ≡ marked ns (λ r. t r || u r) bs
marked_both [] t u bs = refl
marked_both (n ∷ ns) t u [] = refl
marked_both (n ∷ ns) t u (b ∷ bs) = let a = or_assoc b (t n.id) (u n.id) in let h = marked_both ns t u bs in cc

pub marked_none : (ns : List Node) (t : RegionId → Bool) (bs : List Bool) → Every (λ n. t n.id ≡ false) ns → marked ns t bs ≡ bs
marked_none [] t bs h = refl
marked_none (n ∷ ns) t [] h = refl
marked_none (n ∷ ns) t (b ∷ bs) h = let k = h.0 in let a = ap (λ c. b || c) k ∙ or_none b in let e = marked_none ns t bs h.1 in cc

pub marked_same : (ns : List Node) (t u : RegionId → Bool) (bs : List Bool) → ((r : RegionId) → t r ≡ u r) → marked ns t bs ≡ marked ns u bs
marked_same [] t u bs h = refl
marked_same (n ∷ ns) t u [] h = refl
marked_same (n ∷ ns) t u (b ∷ bs) h = let k = h n.id in let a = ap (λ c. b || c) k in let e = marked_same ns t u bs h in cc

later_apart : (r : RegionId) (ns : List Node) → Every (λ n. r.0 < n.id.0) ns → Every (λ n. eqb r.0 n.id.0 ≡ false) ns
later_apart r [] h = tt
later_apart r (n ∷ ns) h = (let l = h.0 in grind (arith, nat_tests), later_apart r ns h.1)

-- one region marked
pub marked_at : (ns : List Node) (i : ℕ) (d : Node) (r : RegionId) (bs : List Bool) → IsAscending ns → i < length ns → (get_or ns i d).id ≡ r →
    set bs i true ≡ marked ns (λ q. eqb r.0 q.0) bs
marked_at [] i d r bs a l e = absurd (omega arith)
marked_at (n ∷ ns) zero d r [] a l e = refl
marked_at (n ∷ ns) (suc i) d r [] a l e = refl
marked_at (n ∷ ns) zero d r (b ∷ bs) a l e =
    let k : n.id.0 ≡ r.0 = ap (λ (q : RegionId). q.0) e in
    let t : eqb r.0 n.id.0 ≡ true = grind (arith, nat_tests) in
    let rest = marked_none ns (λ q. eqb r.0 q.0) bs (later_apart r ns (subst (λ (q : RegionId). Every (λ (m : Node). q.0 < m.id.0) ns) e a.0)) in
    let here = ap (λ c. b || c) t ∙ or_true b in
    cc
  where
    or_true : (c : Bool) → c || true ≡ true
    or_true true = refl
    or_true false = refl
marked_at (n ∷ ns) (suc i) d r (b ∷ bs) a l e =
    let less = every_at (λ (m : Node). n.id.0 < m.id.0) ns i d (omega arith) a.0 in
    let k : (get_or ns i d).id.0 ≡ r.0 = ap (λ (q : RegionId). q.0) e in
    let t : eqb r.0 n.id.0 ≡ false = grind (arith, nat_tests) in
    let here = ap (λ c. b || c) t ∙ or_none b in
    let h = marked_at ns i d r bs a.1 (omega arith) e in
    cc

-- what paths of one region more reach
pub reaches_further : (s : Steps) (most : ℕ) (from to : RegionId) (on : List RegionId) → most ≢ 0 → s from ≡ on →
    (eqb from.0 to.0 || list_any (λ q. reaches_by s (most - 1) q to) on) ≡ reaches_by s most from to
unfolding reaches_by
reaches_further s zero from to on k e = absurd (k refl)
reaches_further s (suc n) from to on k e =
    let m : suc n - 1 ≡ n = omega arith in
    ap (λ j. eqb from.0 to.0 || list_any (λ q. reaches_by s j q to) on) m ∙ ap (λ l. eqb from.0 to.0 || list_any (λ q. reaches_by s n q to) l) (sym e)

pub missing_apart : (ns : List Node) (r : RegionId) → node_of ns r ≡ None → Every (λ n. eqb r.0 n.id.0 ≡ false) ns
missing_apart [] r e = tt
missing_apart (n ∷ ns) r e =
    elim (eqb n.id.0 r.0) as (λ b. eqb n.id.0 r.0 ≡ b → cond b (Some n) (node_of ns r) ≡ None → Every (λ m. eqb r.0 m.id.0 ≡ false) (n ∷ ns)) [
      | true ↦ λ t k. cc
      | false ↦ λ t k. (grind (arith, nat_tests), missing_apart ns r k)
    ] refl e

-- a region that is not there reaches none that is
pub reaches_nowhere : (ns : List Node) (most : ℕ) (r : RegionId) → node_of ns r ≡ None → Every (λ n. reaches_by (steps_of ns) most r n.id ≡ false) ns
unfolding reaches_by
reaches_nowhere ns zero r e = every_of _ (λ n. refl) ns
reaches_nowhere ns (suc k) r e =
    weaker (λ n. eqb r.0 n.id.0 ≡ false) (λ n. reaches_by (steps_of ns) (suc k) r n.id ≡ false)
    (λ n t. ap (λ b. b || list_any (λ q. reaches_by (steps_of ns) k q n.id) (steps_of ns r)) t
    ∙ ap (λ on. list_any (λ q. reaches_by (steps_of ns) k q n.id) on) (ap (steps_from ns) e)) ns (missing_apart ns r e)

pub reaches_zero : (s : Steps) (most : ℕ) (r q : RegionId) → most ≡ 0 → reaches_by s most r q ≡ false
unfolding reaches_by
reaches_zero s most r q e = sym (reaches_none s most r q e)

-- the mark of a region, and then of all that its steps lead to
pub marked_further : (ns : List Node) (most : ℕ) (r : RegionId) (on : List RegionId) (bs : List Bool) → most ≢ 0 → steps_of ns r ≡ on →
    marked ns (λ q. list_any (λ p. reaches_by (steps_of ns) (most - 1) p q) on) (marked ns (λ q. eqb r.0 q.0) bs) ≡ marked ns
    (λ q. reaches_by (steps_of ns) most r q) bs
marked_further ns most r on bs k h =
    marked_both ns (λ q. eqb r.0 q.0) (λ q. list_any (λ p. reaches_by (steps_of ns) (most - 1) p q) on) bs
    ∙ marked_same ns (λ q. eqb r.0 q.0 || list_any (λ p. reaches_by (steps_of ns) (most - 1) p q) on) (λ q. reaches_by (steps_of ns) most r q) bs
    (λ q. reaches_further (steps_of ns) most r q on k h)

drop_one : (ids : List RegionId) (i : ℕ) (d : RegionId) → i < length ids → drop i ids ≡ get_or ids i d ∷ drop (suc i) ids
drop_one [] i d l = absurd (omega arith)
drop_one (x ∷ ids) zero d l = refl
drop_one (x ∷ ids) (suc i) d l = drop_one ids i d (omega arith)

-- one more of some regions
pub marked_step : (ns : List Node) (s : RegionId → RegionId → Bool) (ids : List RegionId) (i : ℕ) (d : RegionId) (bs new : List Bool) → i < length ids →
    new ≡ marked ns (λ r. s (get_or ids i d) r) bs →
    marked ns (λ r. list_any (λ q. s q r) (drop (i + 1) ids)) new ≡ marked ns (λ r. list_any (λ q. s q r) (drop i ids)) bs
marked_step ns s ids i d bs new l h =
    let e : i + 1 ≡ suc i = add-one i in
    rw e (ap (marked ns (λ r. list_any (λ q. s q r) (drop (suc i) ids))) h
    ∙ marked_both ns (λ r. s (get_or ids i d) r) (λ r. list_any (λ q. s q r) (drop (suc i) ids)) bs
    ∙ marked_same ns (λ r. s (get_or ids i d) r || list_any (λ q. s q r) (drop (suc i) ids)) (λ r. list_any (λ q. s q r) (drop i ids)) bs
    (λ r. ap (list_any (λ q. s q r)) (sym (drop_one ids i d l))))

drop_past : (ids : List RegionId) (i : ℕ) → length ids ≤ i → drop i ids ≡ []
drop_past [] zero l = refl
drop_past [] (suc i) l = refl
drop_past (x ∷ ids) zero l = absurd (omega arith)
drop_past (x ∷ ids) (suc i) l = drop_past ids i (omega arith)

-- none is left
pub marked_last : (ns : List Node) (s : RegionId → RegionId → Bool) (ids : List RegionId) (i : ℕ) (bs : List Bool) → length ids ≤ i →
    marked ns (λ r. list_any (λ q. s q r) (drop i ids)) bs ≡ bs
marked_last ns s ids i bs l = ap (λ on. marked ns (λ r. list_any (λ q. s q r) on) bs) (drop_past ids i l)
    ∙ marked_none ns (λ r. false) bs (every_of _ (λ n. refl) ns)
