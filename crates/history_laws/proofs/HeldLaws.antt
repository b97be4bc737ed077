-- At most eight generations are held, and each is kept.
use Rattle.std.proofs.Common.{◌≡◌, ℕ, zero, suc, ◌+◌, ◌-◌, ◌<◌, ◌≤◌, min, Bool, true, false, ◌&&◌, ◌||◌, List, [], ◌∷◌, length, get_or, sym}
use Rattle.std.proofs.Common.{refl, subst, arith, length-take, if◌then◌else◌, None}
use Rattle.std.specs.Prelude.{slice_get, nat_le, ◌==◌, IsSome}
use Rattle.std.specs.List.{list_any}
use Rattle.std.proofs.lemmas.Bool.{leb-true, le-leb, eqb-true, and_parts}
use Rattle.mem_base.specs.map.PassIds.{PassId}
use Rattle.mem_base.specs.map.Limits.{most_generations}
use Rattle.mem_base.specs.machine.Generations.{Generations, PassTrack, nothing_known, is_held, generation_of, least_lowest}
use Rattle.mem_base.specs.machine.World.{World}
use Rattle.mem_base.specs.machine.History.{IsOrderly}
use Rattle.history_laws.specs.Histories.{KeepsHeld}

pub get_there : {A : Type 0} (xs : List A) (i : ℕ) → i < length xs → IsSome (slice_get xs i)
get_there [] i l = absurd (omega arith)
get_there (x ∷ xs) zero l = refl
get_there (x ∷ xs) (suc i) l = get_there xs i (omega arith)

-- where each lowest number is near the current one, so is one that is not below some of them
near_one : (c n : ℕ) (ks : List PassTrack) → ((v : ℕ) → v < length ks → c ≤ (get_or ks v nothing_known).lowest + 7)
    → list_any (λ k. nat_le k.lowest n) ks ≡ true → c ≤ n + 7
near_one c n [] near h = absurd (grind arith)
near_one c n (k ∷ ks) near h = go (nat_le k.lowest n) refl h (λ r. near_one c n ks (λ v l. near (suc v) (omega arith)) r)
  where
    go : (b : Bool) → nat_le k.lowest n ≡ b → (b || list_any (λ k. nat_le k.lowest n) ks) ≡ true
        → (list_any (λ k. nat_le k.lowest n) ks ≡ true → c ≤ n + 7) → c ≤ n + 7
    go true e h rest = let l = leb-true _ _ e in let m = near 0 (omega arith) in omega arith
    go false e h rest = rest h

near_held : (g : Generations) (n : ℕ) → ((v : ℕ) → v < length g.passes → g.current ≤ (get_or g.passes v nothing_known).lowest + 7)
    → is_held g n ≡ true → (n ≤ g.current) × (g.current ≤ n + 7)
near_held g n near h = go (n == g.current) refl h
  where
    go : (b : Bool) → (n == g.current) ≡ b → (b || nat_le n g.current && list_any (λ k. nat_le k.lowest n) g.passes) ≡ true
        → (n ≤ g.current) × (g.current ≤ n + 7)
    go true e h = let s = eqb-true n g.current e in (omega arith, omega arith)
    go false e h = let p = and_parts _ _ h in (leb-true _ _ p.0, near_one g.current n g.passes near p.1)

there_when_near : (g : Generations) (n : ℕ) → length g.kept ≡ min (g.current + 1) most_generations → n ≤ g.current → g.current ≤ n + 7
    → IsSome (generation_of g n)
there_when_near g n kept l m =
    let t : nat_le n g.current ≡ true = le-leb n g.current l in
    let s : IsSome (slice_get g.kept (g.current - n)) = get_there g.kept (g.current - n) (omega arith) in
    subst (λ (b : Bool). IsSome (if b then slice_get g.kept (g.current - n) else None)) (sym t) s

pub keeps_held : (w : World) → IsOrderly w → KeepsHeld w.writer.generations
keeps_held w k = let g = w.writer.generations in
    let near : (n : ℕ) → is_held g n ≡ true → (n ≤ g.current) × (g.current ≤ n + 7) =
    λ n h. near_held g n (λ v l. let p : PassId = record { 0 = v } in (k.each p (subst (λ (m : ℕ). v < m) k.all_known l)).near) h in record {
      near = near;
      kept = λ n h. let p = near n h in there_when_near g n k.kept p.0 p.1;
      few = let m = g.current + 1 - least_lowest g.current g.passes in let a = length-take m g.kept in let b = k.kept in omega arith;
    }
