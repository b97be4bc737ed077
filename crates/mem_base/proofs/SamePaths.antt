-- Lists of regions are the same exactly where the regions are, one by one.
use Rattle.std.proofs.Common.{◌≡◌, ℕ, true, List, [], ◌∷◌, refl, ap, eqb, eqb-true, arith}
use Rattle.std.proofs.lemmas.Bool.Decides.{nat_tests}
use Rattle.std.specs.Cmp.Lexicographic.{pointwise}
use Rattle.mem_base.specs.declared.map.ids.RegionId.{RegionId}
use Rattle.std.proofs.lemmas.Bool.{and_parts}

abbrev region : ℕ → RegionId
region n = record { 0 = n }

pub same_region : (r q : RegionId) → eqb r.0 q.0 ≡ true → r ≡ q
same_region r q e = let p : region r.0 ≡ region q.0 = ap region (eqb-true r.0 q.0 e) in p

pub same_regions : (rs qs : List RegionId) → pointwise (λ r q. eqb r.0 q.0) rs qs ≡ true → rs ≡ qs
same_regions [] [] e = refl
same_regions [] (q ∷ qs) e = cc
same_regions (r ∷ rs) [] e = cc
same_regions (r ∷ rs) (q ∷ qs) e =
    let t = and_parts (eqb r.0 q.0) (pointwise (λ r q. eqb r.0 q.0) rs qs) e in
    let first = same_region r q t.0 in let rest = same_regions rs qs t.1 in cc

pub same_itself : (rs : List RegionId) → pointwise (λ r q. eqb r.0 q.0) rs rs ≡ true
same_itself [] = refl
same_itself (r ∷ rs) = let t : eqb r.0 r.0 ≡ true = grind (arith, nat_tests) in rw (t, same_itself rs) refl
