-- What memory and devices of one's own did, one request after another.
use Rattle.std.specs.Prelude.{◌≡◌, List, [], ◌∷◌, ◌++◌, length}
use Rattle.std.proofs.Common.{arith, subst, sym}
use Rattle.access_reach.specs.Asking.{Asked, Reply}

-- by what a single request does: each of these was done in the state that the one before it left, and had its reply
abbrev pub AllDone : {S : Type 0} → (S → Asked → Reply → S → Type 0) → S → List Asked → List Reply → S → Type 0
AllDone does x [] [] y = x ≡ y
AllDone {S} does x (e ∷ es) (r ∷ rs) y = (m : S) × does x e r m × AllDone does m es rs y
AllDone does x _ _ y = ⊥

-- some requests, and others after them, are one list
pub done_then : {S : Type 0} (does : S → Asked → Reply → S → Type 0) (x y z : S) (es fs : List Asked) (rs qs : List Reply) → length rs ≡ length es
    → AllDone does x es rs y → AllDone does y fs qs z → AllDone does x (es ++ fs) (rs ++ qs) z
done_then does x y z [] fs [] qs l m n = subst (λ s. AllDone does s fs qs z) (sym m) n
done_then does x y z [] fs (r ∷ rs) qs l m n = absurd (omega (arith, l))
done_then does x y z (e ∷ es) fs [] qs l m n = absurd (omega (arith, l))
done_then does x y z (e ∷ es) fs (r ∷ rs) qs l m n = (m.0, m.1, done_then does m.0 y z es fs rs qs (omega (arith, l)) m.2 n)
