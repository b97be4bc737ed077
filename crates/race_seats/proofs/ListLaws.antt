-- Numbers of actors in order, and lists of actors and clerks that stand to them one for one.
use Rattle.std.proofs.Common.{◌≡◌, ◌<◌, ◌≤◌, ◌+◌, ℕ, zero, suc, eq-eqb, ne_eqb, Bool, true, false, ◌||◌, ◌&&◌, List, [], ◌∷◌, ◌++◌, length, map}
use Rattle.std.proofs.Common.{refl, sym, ap, subst, ◌∙◌, arith, if◌then◌else◌}
use Rattle.std.specs.Prelude.{◌==◌, filter, flat_map, nat_le}
use Rattle.std.specs.List.{list_any, range_with_len}
use Rattle.std.proofs.lemmas.Bool.{eqb-true, eqb-false, le-leb, or_from}
use Rattle.std.proofs.lemmas.Map.Views.{any-filter_same}
use mathlib.Core.Logic.{dite}
use native.Mathlib.Decide.{ℕ_discrete}
use Rattle.mem_base.specs.machine.Records.{Clerk, got_by}
use Rattle.mem_base.specs.script.Scripts.{Line}
use Rattle.mem_base.specs.script.Race.{Phase, actors_in, desk_number, lines_by}
use Rattle.mem_base.proofs.BoolLaws.{neither_first, neither_second, and_always, true_is_not_false}
use Rattle.mem_base.specs.map.Limits.{most_passes}

-- Numbers

abbrev pub is_in : ℕ → List ℕ → Bool
is_in n ns = list_any (λ m. m == n) ns

-- out number stands twice
abbrev pub Apart : List ℕ → Type 0
Apart [] = Unit {0}
Apart (n ∷ ns) = (is_in n ns ≡ false) × Apart ns

out_below : (n s k : ℕ) → n < s → is_in n (range_with_len s k) ≡ false
out_below n s zero l = refl
out_below n s (suc k) l = or_from (s == n) (is_in n (range_with_len (s + 1) k)) (ne_eqb s n (λ e. absurd (omega (arith, l, e))))
    (out_below n (s + 1) k (omega (arith, l)))

out_above : (n s k : ℕ) → s + k ≤ n → is_in n (range_with_len s k) ≡ false
out_above n s zero l = refl
out_above n s (suc k) l = or_from (s == n) (is_in n (range_with_len (s + 1) k)) (ne_eqb s n (λ e. absurd (omega (arith, l, e))))
    (out_above n (s + 1) k (omega (arith, l)))

inside : (n s k : ℕ) → s ≤ n → n < s + k → is_in n (range_with_len s k) ≡ true
inside n s zero l m = absurd (omega (arith, l, m))
inside n s (suc k) l m = dite (ℕ_discrete s n)
    (λ same. ap (λ (b : Bool). b || is_in n (range_with_len (s + 1) k)) (eq-eqb s n same))
    (λ other. ap (λ (b : Bool). b || is_in n (range_with_len (s + 1) k)) (ne_eqb s n other)
    ∙ inside n (s + 1) k (let z : s ≡ n → ⊥ = other in omega (arith, l, z)) (omega (arith, m)))

apart_range : (s k : ℕ) → Apart (range_with_len s k)
apart_range s zero = tt
apart_range s (suc k) = (out_below s (s + 1) k (omega arith), apart_range (s + 1) k)

fewer : (p : ℕ → Bool) (n : ℕ) (xs : List ℕ) → is_in n xs ≡ false → is_in n (filter p xs) ≡ false
fewer p n [] h = refl
fewer p n (x ∷ xs) h = go (p x) (neither_first (x == n) (is_in n xs) h) (fewer p n xs (neither_second (x == n) (is_in n xs) h))
  where
    go : (b : Bool) → (x == n) ≡ false → is_in n (filter p xs) ≡ false → is_in n (if b then x ∷ filter p xs else filter p xs) ≡ false
    go true out rest = or_from (x == n) (is_in n (filter p xs)) out rest
    go false out rest = rest

apart_filter : (p : ℕ → Bool) (xs : List ℕ) → Apart xs → Apart (filter p xs)
apart_filter p [] h = tt
apart_filter p (x ∷ xs) h = go (p x) (fewer p x xs h.0) (apart_filter p xs h.1)
  where
    go : (b : Bool) → is_in x (filter p xs) ≡ false → Apart (filter p xs) → Apart (if b then x ∷ filter p xs else filter p xs)
    go true out rest = (out, rest)
    go false out rest = rest

-- those of a phase stand apart
pub actors_apart : (phase : Phase) → Apart (actors_in phase)
actors_apart phase =
    apart_filter (λ who. nat_le 1 (length (lines_by who phase))) (desk_number ∷ range_with_len 0 most_passes)
    (out_above desk_number 0 most_passes (omega arith), apart_range 0 most_passes)

abbrev pub has_lines : Phase → ℕ → Bool
has_lines phase who = nat_le 1 (length (lines_by who phase))

all_in : (who : ℕ) → who ≤ desk_number → is_in who (desk_number ∷ range_with_len 0 most_passes) ≡ true
all_in who l = go (desk_number == who) refl
  where
    go : (b : Bool) → (desk_number == who) ≡ b → (b || is_in who (range_with_len 0 most_passes)) ≡ true
    go true e = refl
    go false e = let other : desk_number ≡ who → ⊥ = eqb-false desk_number who e in inside who 0 most_passes (omega arith) (omega (arith, l, other))

-- an actor is among them where it has a line
pub in_actors : (phase : Phase) (who : ℕ) → who ≤ desk_number → is_in who (actors_in phase) ≡ has_lines phase who
in_actors phase who l =
    any-filter_same (λ m. m == who) (has_lines phase) (has_lines phase who) (λ k e. ap (has_lines phase) (eqb-true k who e))
    (desk_number ∷ range_with_len 0 most_passes)
    ∙ ap (λ (b : Bool). has_lines phase who && b) (all_in who l) ∙ and_always (has_lines phase who)

pub no_lines : (phase : Phase) (who : ℕ) → has_lines phase who ≡ false → lines_by who phase ≡ []
no_lines phase who h = none (lines_by who phase) h
  where
    none : (ls : List Line) → nat_le 1 (length ls) ≡ false → ls ≡ []
    none [] e = refl
    none (l ∷ ls) e = true_is_not_false (nat_le 1 (suc (length ls))) (le-leb 1 (suc (length ls)) (omega arith)) e

-- where those that are left out give nothing
flat_filter : {A : Type 0} (T : ℕ → List A) (p : ℕ → Bool) → ((n : ℕ) → p n ≡ false → T n ≡ []) → (xs : List ℕ)
    → flat_map T (filter p xs) ≡ flat_map T xs
flat_filter T p none [] = refl
flat_filter {A} T p none (x ∷ xs) = go (p x) refl (flat_filter T p none xs)
  where
    go : (b : Bool) → p x ≡ b → flat_map T (filter p xs) ≡ flat_map T xs
        → flat_map T (if b then x ∷ filter p xs else filter p xs) ≡ T x ++ flat_map T xs
    go true e ih = ap (λ (t : List A). T x ++ t) ih
    go false e ih = ih ∙ ap (λ (t : List A). t ++ flat_map T xs) (sym (none x e))

pub flat_actors : {A : Type 0} (T : ℕ → List A) (phase : Phase) → ((n : ℕ) → has_lines phase n ≡ false → T n ≡ [])
    → flat_map T (actors_in phase) ≡ T desk_number ++ flat_map T (range_with_len 0 most_passes)
flat_actors T phase none = flat_filter T (has_lines phase) none (desk_number ∷ range_with_len 0 most_passes)

-- One for one

module _ {X : Type 0} where
  abbrev pub Each : (ℕ → X → Clerk → Type 0) → List ℕ → List X → List Clerk → Type 0
  Each E [] [] [] = Unit {0}
  Each E (n ∷ ns) (x ∷ xs) (c ∷ cs) = E n x c × Each E ns xs cs
  Each E _ _ _ = ⊥

  pub each_weaker : (E F : ℕ → X → Clerk → Type 0) → ((n : ℕ) (x : X) (c : Clerk) → E n x c → F n x c)
      → (ns : List ℕ) (xs : List X) (cs : List Clerk) → Each E ns xs cs → Each F ns xs cs
  each_weaker E F f [] [] [] h = tt
  each_weaker E F f (n ∷ ns) (x ∷ xs) (c ∷ cs) h = (f n x c h.0, each_weaker E F f ns xs cs h.1)
  each_weaker E F f [] [] (c ∷ cs) h = absurd h
  each_weaker E F f [] (x ∷ xs) cs h = absurd h
  each_weaker E F f (n ∷ ns) [] cs h = absurd h
  each_weaker E F f (n ∷ ns) (x ∷ xs) [] h = absurd h

  pub each_both : (E F : ℕ → X → Clerk → Type 0) (ns : List ℕ) (xs : List X) (cs : List Clerk) → Each E ns xs cs → Each F ns xs cs
      → Each (λ n x c. E n x c × F n x c) ns xs cs
  each_both E F [] [] [] h k = tt
  each_both E F (n ∷ ns) (x ∷ xs) (c ∷ cs) h k = ((h.0, k.0), each_both E F ns xs cs h.1 k.1)
  each_both E F [] [] (c ∷ cs) h k = absurd h
  each_both E F [] (x ∷ xs) cs h k = absurd h
  each_both E F (n ∷ ns) [] cs h k = absurd h
  each_both E F (n ∷ ns) (x ∷ xs) [] h k = absurd h

  pub record Found (E : ℕ → X → Clerk → Type 0) (who : ℕ) : Type 0 where
    pub actor : X
    pub clerk : Clerk
    pub is : E who actor clerk

  -- an actor by its number
  pub find_each : (E : ℕ → X → Clerk → Type 0) (who : ℕ) (ns : List ℕ) (xs : List X) (cs : List Clerk) → Each E ns xs cs → is_in who ns ≡ true
      → Found E who
  find_each E who [] xs cs h there = true_is_not_false false there refl
  find_each E who (n ∷ ns) [] cs h there = absurd h
  find_each E who (n ∷ ns) (x ∷ xs) [] h there = absurd h
  find_each E who (n ∷ ns) (x ∷ xs) (c ∷ cs) h there = go (n == who) refl there (λ t. find_each E who ns xs cs h.1 t)
    where
      go : (b : Bool) → (n == who) ≡ b → (b || is_in who ns) ≡ true → (is_in who ns ≡ true → Found E who) → Found E who
      go true e t rest = subst (λ (m : ℕ). Found E m) (eqb-true n who e) (record { actor = x; clerk = c; is = h.0 })
      go false e t rest = rest t

  -- the clerks have these numbers
  abbrev pub IsItsClerk : ℕ → X → Clerk → Type 0
  IsItsClerk n x c = c.who ≡ n

  pub clerks_are : (ns : List ℕ) (xs : List X) (cs : List Clerk) → Each IsItsClerk ns xs cs → map (λ (c : Clerk). c.who) cs ≡ ns
  clerks_are [] [] [] h = refl
  clerks_are (n ∷ ns) (x ∷ xs) (c ∷ cs) h = λ i. h.0 i ∷ clerks_are ns xs cs h.1 i
  clerks_are [] [] (c ∷ cs) h = absurd h
  clerks_are [] (x ∷ xs) cs h = absurd h
  clerks_are (n ∷ ns) [] cs h = absurd h
  clerks_are (n ∷ ns) (x ∷ xs) [] h = absurd h

  -- who is not among them got nothing
  pub got_nothing : (who : ℕ) (ns : List ℕ) (xs : List X) (cs : List Clerk) → Each IsItsClerk ns xs cs → is_in who ns ≡ false → got_by who cs ≡ []
  got_nothing who [] [] [] h out = refl
  got_nothing who (n ∷ ns) (x ∷ xs) (c ∷ cs) h out =
      ap (λ (b : Bool). if b then c.got else got_by who cs) (ap (λ (m : ℕ). m == who) h.0 ∙ neither_first (n == who) (is_in who ns) out)
      ∙ got_nothing who ns xs cs h.1 (neither_second (n == who) (is_in who ns) out)
  got_nothing who [] [] (c ∷ cs) h out = absurd h
  got_nothing who [] (x ∷ xs) cs h out = absurd h
  got_nothing who (n ∷ ns) [] cs h out = absurd h
  got_nothing who (n ∷ ns) (x ∷ xs) [] h out = absurd h

  abbrev pub GotIs : List Clerk → ℕ → X → Clerk → Type 0
  GotIs all n x c = got_by n all ≡ c.got

  got_past : (c : Clerk) (all : List Clerk) (n : ℕ) (ns : List ℕ) (xs : List X) (cs : List Clerk) → c.who ≡ n → is_in n ns ≡ false
      → Each (GotIs all) ns xs cs → Each (GotIs (c ∷ all)) ns xs cs
  got_past c all n [] [] [] is out h = tt
  got_past c all n (m ∷ ns) (x ∷ xs) (d ∷ cs) is out h =
      let other : m ≡ n → ⊥ = eqb-false m n (neither_first (m == n) (is_in n ns) out) in (
        ap (λ (b : Bool). if b then c.got else got_by m all) (ne_eqb c.who m (λ e. other (sym e ∙ is))) ∙ h.0,
        got_past c all n ns xs cs is (neither_second (m == n) (is_in n ns) out) h.1,
      )
  got_past c all n [] [] (d ∷ cs) is out h = absurd h
  got_past c all n [] (x ∷ xs) cs is out h = absurd h
  got_past c all n (m ∷ ns) [] cs is out h = absurd h
  got_past c all n (m ∷ ns) (x ∷ xs) [] is out h = absurd h

  -- what an actor got is its own clerk's list
  pub got_each : (ns : List ℕ) (xs : List X) (cs : List Clerk) → Apart ns → Each IsItsClerk ns xs cs → Each (GotIs cs) ns xs cs
  got_each [] [] [] apart h = tt
  got_each (n ∷ ns) (x ∷ xs) (c ∷ cs) apart h = (
    ap (λ (b : Bool). if b then c.got else got_by n cs) (eq-eqb c.who n h.0),
    got_past c cs n ns xs cs h.0 apart.0 (got_each ns xs cs apart.1 h.1),
  )
  got_each [] [] (c ∷ cs) apart h = absurd h
  got_each [] (x ∷ xs) cs apart h = absurd h
  got_each (n ∷ ns) [] cs apart h = absurd h
  got_each (n ∷ ns) (x ∷ xs) [] apart h = absurd h
