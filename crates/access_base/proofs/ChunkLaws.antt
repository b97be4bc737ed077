-- Laws of the chunks of an access, and of its addresses above 2^64 - 1.
use Rattle.std.proofs.Common.{◌≡◌, ℕ, zero, suc, ◌+◌, ◌-◌, ◌^◌, ◌<◌, ◌≤◌, ◌&&◌, Bool, true, false, List, [], ◌∷◌, ◌++◌, Option, Some, None}
use Rattle.std.proofs.Common.{◌⊎◌, inl, inr, refl, sym, ap, subst, ◌∙◌, arith}
use Rattle.std.specs.Prelude.{flat_map}
use Rattle.std.proofs.lemmas.Bool.{cases_lt}
use Rattle.mem_base.specs.declared.map.ids.SpaceId.{SpaceId}
use Rattle.mem_base.specs.declared.map.forests.Forest.{Forest}
use Rattle.mem_base.specs.declared.access.accesses.Target.{Target}
use Rattle.mem_base.specs.declared.access.accesses.Target.TheVariants.{Leaf, Unassigned}
use Rattle.mem_base.specs.lists.Booleans.{bool_eq}
use Rattle.mem_base.specs.lists.Runs.{Run, run, runs, put_before}
use Rattle.mem_base.specs.map.Limits.{most_translations}
use Rattle.mem_base.specs.map.Forest.{IsClosedForest}
use Rattle.mem_base.specs.map.Search.{Found, found_at, spot_of}
use Rattle.mem_base.specs.access.Trails.{Hop, Trail, trail, trail_at, trail_within, trail_of, are_next_hops, is_leaf, is_next_trail, shares_next, first_length}
use Rattle.access_base.proofs.FoundLaws.{shown_below}

-- the first run of some numbers: where it ends before they do, its last number does not belong to the next
pub record FirstRun (with_next : ℕ → Bool) (a n c : ℕ) : Type 0 where
  pub some : 0 < c
  pub most : c ≤ n
  pub is : runs with_next a n ≡ run a c ∷ runs with_next (a + c) (n - c)
  pub ends : c < n → with_next (a + (c - 1)) ≡ false

pub split : (with_next : ℕ → Bool) (a n : ℕ) → 0 < n → (c : ℕ) × FirstRun with_next a n c
split with_next a zero some = absurd (omega (arith, some))
split with_next a (suc zero) some = (1, record { some = omega arith; most = omega arith; is = alone (with_next a); ends = λ l. absurd (omega (arith, l)) })
  where
    alone : (b : Bool) → put_before b a [] ≡ run a 1 ∷ []
    alone true = refl
    alone false = refl
split with_next a (suc (suc n)) some = go (with_next a) refl (split with_next (a + 1) (suc n) (omega arith))
  where
    go : (b : Bool) → with_next a ≡ b → ((c : ℕ) × FirstRun with_next (a + 1) (suc n) c) → (c : ℕ) × FirstRun with_next a (suc (suc n)) c
    go false e t =
        let left : suc n ≡ suc (suc n) - 1 = omega arith in
        let here : a + (1 - 1) ≡ a = omega arith in (
          1,
          record {
            some = omega arith;
            most = omega arith;
            is = ap (λ b. put_before b a (runs with_next (a + 1) (suc n))) e ∙ ap (λ m. run a 1 ∷ runs with_next (a + 1) m) left;
            ends = λ l. ap with_next here ∙ e;
          },
        )
    go true e t =
        let c : ℕ = t.0 in
        let some : 0 < c = t.1.some in
        let most : c ≤ suc n = t.1.most in
        let at : a + 1 + c ≡ a + (c + 1) = omega arith in
        let left : suc n - c ≡ suc (suc n) - (c + 1) = omega arith in
        let last : a + (c + 1 - 1) ≡ a + 1 + (c - 1) = omega (arith, some) in (
          c + 1,
          record {
            some = omega arith;
            most = omega (arith, most);
            is = (λ i. put_before (e i) a (t.1.is i)) ∙ (λ i. run a (c + 1) ∷ runs with_next (at i) (left i));
            ends = λ l. ap with_next last ∙ t.1.ends (omega (arith, l));
          },
        )

pub first_given : (with_next : ℕ → Bool) (a n c : ℕ) → 0 < n → c ≡ first_length (runs with_next a n) → FirstRun with_next a n c
first_given with_next a n c some is =
    let t = split with_next a n some in
    let e : t.0 ≡ c = sym (ap first_length t.1.is) ∙ sym is in subst (FirstRun with_next a n) e t.1

-- the first chunk of what is left of an access, and the chunks after it
pub chunks_then : {A : Type 0} (F : Run → List A) (with_next : ℕ → Bool) (a done n c : ℕ) → done < n → c ≡ first_length (runs with_next (a + done) (n - done))
    → flat_map F (runs with_next (a + done) (n - done)) ≡ F (run (a + done) c) ++ flat_map F (runs with_next (a + (done + c)) (n - (done + c)))
chunks_then F with_next a done n c l is =
    let t = first_given with_next (a + done) (n - done) c (omega (arith, l)) is in
    let at : a + done + c ≡ a + (done + c) = omega arith in
    let left : n - done - c ≡ n - (done + c) = omega arith in
    ap (flat_map F) t.is ∙ (λ i. F (run (a + done) c) ++ flat_map F (runs with_next (at i) (left i)))

-- above 2^64 - 1 nothing is found

module _ (f : Forest) (closed : IsClosedForest f) (w : Bool) (s : SpaceId) where
  unassigned : (left a : ℕ) → found_at f s a ≡ None → trail_within f w left s a ≡ trail [] Unassigned
  unassigned zero a e = ap (trail_at f w None) e
  unassigned (suc left) a e = ap (trail_at f w (Some (trail_within f w left))) e

  pub nothing_past : (a : ℕ) → 2 ^ 64 ≤ a → trail_of f w s a ≡ trail [] Unassigned
  nothing_past a l = go (found_at f s a) refl
    where
      go : (o : Option Found) → found_at f s a ≡ o → trail_of f w s a ≡ trail [] Unassigned
      go None e = unassigned most_translations a e
      go (Some x) e = let b : a < 2 ^ 64 = shown_below f s a x.0 closed (ap spot_of e) in absurd (omega (arith, b, l))

  pub shares_past : (a : ℕ) → 2 ^ 64 ≤ a → shares_next f w s a ≡ true
  shares_past a l = (λ i. is_next_trail (nothing_past a l i) (nothing_past (a + 1) (omega (arith, l)) i))

  -- an address that shares the route with one where nothing is found
  blank_before : (a : ℕ) → shares_next f w s a ≡ true → (trail_of f w s (a + 1)).hops ≡ [] → (trail_of f w s (a + 1)).target ≡ Unassigned
      → ((trail_of f w s a).hops ≡ []) × ((trail_of f w s a).target ≡ Unassigned)
  blank_before a e h t =
      let joined : (are_next_hops (trail_of f w s a).hops [] && bool_eq (is_leaf (trail_of f w s a).target) false) ≡ true =
      (λ i. are_next_hops (trail_of f w s a).hops (sym h i) && bool_eq (is_leaf (trail_of f w s a).target) (is_leaf (sym t i))) ∙ e in
      (no_hops (trail_of f w s a).hops _ joined, no_leaf (trail_of f w s a).target (are_next_hops (trail_of f w s a).hops []) joined)
    where
      no_hops : (hs : List Hop) (b : Bool) → (are_next_hops hs [] && b) ≡ true → hs ≡ []
      no_hops [] b e = refl
      no_hops (h ∷ hs) b e = cc

      no_leaf : (x : Target) (b : Bool) → (b && bool_eq (is_leaf x) false) ≡ true → x ≡ Unassigned
      no_leaf Unassigned b e = refl
      no_leaf (Leaf y) true e = cc
      no_leaf (Leaf y) false e = cc

  -- from an address on up to 2^64 all share the route
  pub blank_from : (m a : ℕ) → a + m ≡ 2 ^ 64 → ((i : ℕ) → i < m → shares_next f w s (a + i) ≡ true)
      → ((trail_of f w s a).hops ≡ []) × ((trail_of f w s a).target ≡ Unassigned)
  blank_from zero a e h = let t = nothing_past a (omega (arith, e)) in (ap (λ (x : Trail). x.hops) t, ap (λ (x : Trail). x.target) t)
  blank_from (suc m) a e h =
      let here : a ≡ a + 0 = omega arith in
      let rest = blank_from m (a + 1) (omega (arith, e)) (λ i l. let at : a + 1 + i
      ≡ a + suc i = omega arith in ap (shares_next f w s) at ∙ h (suc i) (omega (arith, l))) in
      blank_before a (ap (shares_next f w s) here ∙ h 0 (omega arith)) rest.0 rest.1

-- the first bytes end at 2^64 where they are not all
pub at_end : (addr below n : ℕ) → below < n → (addr + n ≤ 2 ^ 64 → below ≡ n) → (2 ^ 64 < addr + n → addr + below ≡ 2 ^ 64) → addr + below ≡ 2 ^ 64
at_end addr below n less all past = go (cases_lt (2 ^ 64) (addr + n))
  where
    go : (2 ^ 64 < addr + n) ⊎ (addr + n ≤ 2 ^ 64) → addr + below ≡ 2 ^ 64
    go (inl l) = past l
    go (inr l) = let same : below ≡ n = all l in absurd (omega (arith, same, less))
