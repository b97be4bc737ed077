-- Laws of sweeps.
use Rattle.std.proofs.Common.{◌≡◌, ℕ, zero, suc, ◌+◌, ◌<◌, ◌≤◌, List, [], ◌∷◌, length, get_or, set, refl, ap, ◌∙◌, arith}
use Rattle.mem_base.specs.machine.Passes.{PassState}
use Rattle.mem_base.specs.machine.Generations.{PassTrack}
use Rattle.mem_base.specs.machine.Publishing.{held_from}
use Rattle.kept_generations.specs.Sweeping.{swept_track, swept_tracks, announced_from}
use Rattle.mem_base.proofs.PassTurnLaws.{pinned}

-- the first tracks swept, and the rest as they are
abbrev pub swept_to : ℕ → ℕ → List PassTrack → List PassState → List PassTrack
swept_to current zero ks ps = ks
swept_to current (suc n) [] ps = []
swept_to current (suc n) (k ∷ ks) [] = k ∷ ks
swept_to current (suc n) (k ∷ ks) (p ∷ ps) = swept_track current k p ∷ swept_to current n ks ps

swept_next : (current n : ℕ) (ks : List PassTrack) (ps : List PassState) (a : PassTrack) (b : PassState) → n < length ps → length ps ≡ length ks
    → set (swept_to current n ks ps) n (swept_track current (get_or (swept_to current n ks ps) n a) (get_or ps n b))
    ≡ swept_to current (suc n) ks ps
swept_next current n [] ps a b l e = absurd (omega arith)
swept_next current n (k ∷ ks) [] a b l e = absurd (omega arith)
swept_next current zero (k ∷ ks) (p ∷ ps) a b l e = refl
swept_next current (suc n) (k ∷ ks) (p ∷ ps) a b l e = ap (λ ys. swept_track current k p ∷ ys) (swept_next current n ks ps a b (omega arith) (omega arith))

swept_whole : (current n : ℕ) (ks : List PassTrack) (ps : List PassState) → length ps ≡ length ks → length ps ≤ n
    → swept_to current n ks ps ≡ swept_tracks current ks ps
swept_whole current zero [] ps e l = refl
swept_whole current zero (k ∷ ks) [] e l = absurd (omega arith)
swept_whole current zero (k ∷ ks) (p ∷ ps) e l = absurd (omega arith)
swept_whole current (suc n) [] ps e l = refl
swept_whole current (suc n) (k ∷ ks) [] e l = refl
swept_whole current (suc n) (k ∷ ks) (p ∷ ps) e l = ap (λ ys. swept_track current k p ∷ ys) (swept_whole current n ks ps (omega arith) (omega arith))

-- one pass more is swept
pub swept_step : (current n : ℕ) (ks ys : List PassTrack) (ps : List PassState) (p : PassState) (y z : PassTrack) → ys ≡ swept_to current n ks ps
    → n < length ps → length ps ≡ length ks → p ≡ get_or ps n p → z ≡ swept_track current (get_or ys n y) p
    → set ys n z ≡ swept_to current (n + 1) ks ps
swept_step current n ks ys ps p y z e l f is made =
    let next : suc n ≡ n + 1 = omega arith in
    ap (λ x. set ys n x) (made ∙ ap (swept_track current (get_or ys n y)) is)
    ∙ ap (λ xs. set xs n (swept_track current (get_or xs n y) (get_or ps n p))) e
    ∙ swept_next current n ks ps y p l f ∙ ap (λ m. swept_to current m ks ps) next

-- no pass is left
pub swept_done : (current n : ℕ) (ks ys : List PassTrack) (ps : List PassState) → ys ≡ swept_to current n ks ps → length ps ≤ n
    → length ps ≡ length ks → ys ≡ swept_tracks current ks ps
swept_done current n ks ys ps e l f = e ∙ swept_whole current n ks ps f l

-- what holds a publish up after a sweep of every pass is what the passes announced
pub held_swept : (current first : ℕ) (ks : List PassTrack) (ps : List PassState) → length ps ≡ length ks
    → held_from current first (swept_tracks current ks ps) ≡ announced_from current first ps
held_swept current first [] [] e = refl
held_swept current first [] (p ∷ ps) e = absurd (omega arith)
held_swept current first (k ∷ ks) [] e = absurd (omega arith)
held_swept current first (k ∷ ks) (p ∷ ps) e = rw (pinned p.announced, held_swept current (first + 1) ks ps (omega arith)) refl
