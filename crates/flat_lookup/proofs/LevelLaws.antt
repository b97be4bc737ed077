-- From a node to the place in it, and from a place in one level to the node in the level below.
use Rattle.std.proofs.Common.{◌≡◌, ℕ, zero, suc, ◌+◌, ◌-◌, ◌*◌, ◌^◌, ◌<◌, ◌≤◌, List, [], ◌∷◌, ◌++◌, length, get_or, sym, refl, ap, ◌∙◌}
use Rattle.std.proofs.Common.{subst, arith, ◌⊎◌, inl, inr}
use Rattle.std.proofs.lemmas.Bool.{cases_lt}
use Rattle.std.proofs.lemmas.Nat.{pow-add}
use Rattle.flat_lookup.specs.Levels.{Ascends, IsPlace, IsNode, IsThin, AreLevels, HasTop, AreFew, IsBuilt}

-- the key after a place is above the address, so all further ones are
pub place_by : (keys : List ℕ) (a p : ℕ) → Ascends keys → p < length keys → get_or keys p 0 ≤ a → (p + 1 < length keys → a < get_or keys (p + 1) 0) →
    IsPlace keys a p
place_by keys a p up l r n = record {
  inside = l;
  reached = r;
  after = λ j k m. by j k m (cases_lt (p + 1) j);
}
  where
    by : (j : ℕ) → p < j → j < length keys → (p + 1 < j) ⊎ (j ≤ p + 1) → a < get_or keys j 0
    by j k m (inl less) = let x = n (omega arith) in let y = up (p + 1) j less m in omega arith
    by j k m (inr more) = let e : p + 1 ≡ j = omega arith in subst (λ (x : ℕ). a < get_or keys x 0) e (n (omega arith))

-- the place in a thin level is the node of the level below
pub node_below : (below above : List ℕ) (a q : ℕ) → IsThin below above → IsPlace above a q → IsNode below a q
node_below below above a q t h =
    let inside = h.inside in
    let reached = h.reached in
    let count = t.length_is in
    let here = t.keys q inside in
    record {
      inside = omega arith;
      reached = omega arith;
      after = λ l.
          let k : q + 1 < length above = omega arith in
          let e : 16 * (q + 1) ≡ 16 * q + 16 = omega arith in
          let x = h.after (q + 1) (omega arith) k in
          let y = t.keys (q + 1) k in
          subst (λ (z : ℕ). a < get_or below z 0) e (omega arith);
    }

-- the one node of the top level
pub top_node : (keys : List ℕ) (a : ℕ) → 0 < length keys → get_or keys 0 0 ≤ a → length keys ≤ 16 → IsNode keys a 0
top_node keys a l z few = record { inside = omega arith; reached = omega arith; after = λ k. absurd (omega arith) }

-- after i levels from the top: the node in the next level, or the place in the lowest
pub record IsDown (levels : List (List ℕ)) (a i node : ℕ) : Type 0 where
  pub next : i < length levels → IsNode (get_or levels (length levels - 1 - i) []) a node
  pub done : length levels ≤ i → IsPlace (get_or levels 0 []) a node

pub down_first : (levels : List (List ℕ)) (a : ℕ) → AreLevels levels → HasTop levels → get_or (get_or levels 0 []) 0 0 ≤ a → IsDown levels a 0 0
down_first levels a h top low =
    let some = h.some in
    let at : length levels - 1 - 0 ≡ length levels - 1 = omega arith in
    record {
      next = λ l. subst (λ (k : ℕ). IsNode (get_or levels k []) a 0) (sym at)
          (let b = h.begin (length levels - 1) (omega arith) in top_node (get_or levels (length levels - 1) []) a b.0 (let e = b.1 in omega arith) top);
      done = λ l. absurd (omega arith);
    }

pub down_next : (levels : List (List ℕ)) (a i p : ℕ) → AreLevels levels → i < length levels → IsPlace (get_or levels (length levels - 1 - i) []) a p →
    IsDown levels a (i + 1) p
down_next levels a i p h l place = record {
  next = λ k.
      let at : length levels - 1 - (i + 1) + 1 ≡ length levels - 1 - i = omega arith in
      let t = h.thin (length levels - 1 - (i + 1)) (omega arith) in
      node_below (get_or levels (length levels - 1 - (i + 1)) []) (get_or levels (length levels - 1 - (i + 1) + 1) []) a p t
      (subst (λ (x : ℕ). IsPlace (get_or levels x []) a p) (sym at) place);
  done = λ k. let at : length levels - 1 - i ≡ 0 = omega arith in subst (λ (x : ℕ). IsPlace (get_or levels x []) a p) at place;
}

-- ---- building

pub thin_ascends : (below above : List ℕ) → IsThin below above → Ascends below → Ascends above
thin_ascends below above t up = λ i j l k.
    let count = t.length_is in
    let x = t.keys i (omega arith) in
    let y = t.keys j k in
    let z = up (16 * i) (16 * j) (omega arith) (omega arith) in
    omega arith

pub thin_begins : (below above : List ℕ) (z : ℕ) → IsThin below above → 0 < length below → get_or below 0 0 ≡ z → (0 < length above) × (get_or above 0 0 ≡ z)
thin_begins below above n t l z =
    let count = t.length_is in
    let some : 0 < length above = omega arith in
    (some, t.keys 0 some ∙ z)

pow_more : (k x : ℕ) → 16 ^ k ≤ 16 ^ (k + x)
pow_more k zero = let e : k ≡ k + 0 = omega arith in let h = ap (λ (y : ℕ). 16 ^ y) e in omega arith
pow_more k (suc x) =
    let ih = pow_more k x in
    let e : k + suc x ≡ 1 + (k + x) = omega arith in
    let h = ap (λ (y : ℕ). 16 ^ y) e in
    let p = pow-add 16 1 (k + x) in
    omega arith

-- levels that are being built: nothing is said of the top yet
pub record IsBuilding (keys : List ℕ) (all : List (List ℕ)) : Type 0 where
  pub levels : AreLevels all
  pub lowest : get_or all 0 [] ≡ keys
  pub few : AreFew (length all) (length keys)
  -- how long the top level is
  pub size : (k : ℕ) → length keys ≤ 16 ^ (k + (length all - 1)) → length (get_or all (length all - 1) []) ≤ 16 ^ k
  pub short : length (get_or all (length all - 1) []) ≤ length keys

only_one : (j : ℕ) → j < 1 → j ≡ 0
only_one j l = omega arith

pub building_first : (keys : List ℕ) → 0 < length keys → Ascends keys → IsBuilding keys (keys ∷ [])
building_first keys l up = record {
  levels = record {
    some = omega arith;
    ascend = λ j k. subst (λ (x : ℕ). Ascends (get_or (keys ∷ []) x [])) (sym (only_one j k)) up;
    begin = λ j k. subst (λ (x : ℕ). (0 < length (get_or (keys ∷ []) x [])) × (get_or (get_or (keys ∷ []) x []) 0 0 ≡ get_or keys 0 0)) (sym (only_one j k))
        (l, refl);
    thin = λ j k. absurd (omega arith);
  };
  lowest = refl;
  few = λ k p e. p;
  size = λ k e. let at : k + 0 ≡ k = omega arith in subst (λ (x : ℕ). length keys ≤ 16 ^ x) at e;
  short = omega arith;
}

pushed_old : (ls : List (List ℕ)) (x : List ℕ) (j : ℕ) → j < length ls → get_or (ls ++ x ∷ []) j [] ≡ get_or ls j []
pushed_old [] x j l = absurd (omega arith)
pushed_old (y ∷ ys) x zero l = refl
pushed_old (y ∷ ys) x (suc j) l = pushed_old ys x j (omega arith)

pushed_new : (ls : List (List ℕ)) (x : List ℕ) (j : ℕ) → j ≡ length ls → get_or (ls ++ x ∷ []) j [] ≡ x
pushed_new [] x zero l = refl
pushed_new [] x (suc j) l = absurd (omega arith)
pushed_new (y ∷ ys) x zero l = absurd (omega arith)
pushed_new (y ∷ ys) x (suc j) l = pushed_new ys x j (omega arith)

pushed_length : (ls : List (List ℕ)) (x : List ℕ) → length (ls ++ x ∷ []) ≡ length ls + 1
pushed_length [] x = refl
pushed_length (y ∷ ys) x = let h = pushed_length ys x in omega arith

pub building_next : (keys : List ℕ) (ls : List (List ℕ)) (x : List ℕ) → IsBuilding keys ls → IsThin (get_or ls (length ls - 1) []) x →
    16 < length (get_or ls (length ls - 1) []) → IsBuilding keys (ls ++ x ∷ [])
building_next keys ls x h t long =
    let some = h.levels.some in
    let n = pushed_length ls x in
    let count = t.length_is in
    let last = length ls - 1 in
    let new = pushed_new ls x (length ls) refl in
    let old = λ (j : ℕ) (l : j < length ls). pushed_old ls x j l in
    let lastnew : length (ls ++ x ∷ []) - 1 ≡ length ls = omega arith in
    let top : get_or (ls ++ x ∷ []) (length (ls ++ x ∷ []) - 1) [] ≡ x = pushed_new ls x (length (ls ++ x ∷ []) - 1) lastnew in
    record {
      levels = record {
        some = omega arith;
        ascend = λ j l. each (λ (ks : List ℕ). Ascends ks) (h.levels.ascend)
            (thin_ascends (get_or ls (length ls - 1) []) x t (h.levels.ascend (length ls - 1) (omega arith))) j (omega arith);
        begin = λ j l.
            subst (λ (zs : List ℕ). (0 < length (get_or (ls ++ x ∷ []) j [])) × (get_or (get_or (ls ++ x ∷ []) j []) 0 0 ≡ get_or zs 0 0))
            (sym (pushed_old ls x 0 some))
            (each (λ (ks : List ℕ). (0 < length ks) × (get_or ks 0 0 ≡ get_or (get_or ls 0 []) 0 0)) (h.levels.begin)
            (let b = h.levels.begin (length ls - 1) (omega arith) in
            thin_begins (get_or ls (length ls - 1) []) x (get_or (get_or ls 0 []) 0 0) t b.0 b.1) j (omega arith));
        thin = λ j l. thins j (omega arith) (cases_lt (j + 1) (length ls));
      };
      lowest = pushed_old ls x 0 some ∙ h.lowest;
      few = λ k p e. more k p e (cases_lt (length ls) k);
      size = λ k e. subst (λ (ks : List ℕ). length ks ≤ 16 ^ k) (sym top) (
          let at : k + (length (ls ++ x ∷ []) - 1) ≡ 1 + k + (length ls - 1) = omega arith in
          let s = h.size (1 + k) (subst (λ (y : ℕ). length keys ≤ 16 ^ y) at e) in
          let p = pow-add 16 1 k in
          omega arith);
      short = subst (λ (ks : List ℕ). length ks ≤ length keys) (sym top) (let s = h.short in omega arith);
    }
  where
    each : (P : List ℕ → Type 0) → ((j : ℕ) → j < length ls → P (get_or ls j [])) → P x → (j : ℕ) → j < length ls + 1 → P (get_or (ls ++ x ∷ []) j [])
    each P f g j l = by (cases_lt j (length ls))
      where
        by : (j < length ls) ⊎ (length ls ≤ j) → P (get_or (ls ++ x ∷ []) j [])
        by (inl k) = subst P (sym (pushed_old ls x j k)) (f j k)
        by (inr k) = subst P (sym (pushed_new ls x j (omega arith))) g

    thins : (j : ℕ) → j < length ls → (j + 1 < length ls) ⊎ (length ls ≤ j + 1) → IsThin (get_or (ls ++ x ∷ []) j []) (get_or (ls ++ x ∷ []) (j + 1) [])
    thins j l (inl k) = subst (λ (ks : List ℕ). IsThin ks (get_or (ls ++ x ∷ []) (j + 1) [])) (sym (pushed_old ls x j l))
        (subst (IsThin (get_or ls j [])) (sym (pushed_old ls x (j + 1) k)) (h.levels.thin j k))
    thins j l (inr k) =
        let e : length ls - 1 ≡ j = omega arith in
        subst (λ (ks : List ℕ). IsThin ks (get_or (ls ++ x ∷ []) (j + 1) [])) (sym (pushed_old ls x j l))
        (subst (IsThin (get_or ls j [])) (sym (pushed_new ls x (j + 1) (omega arith))) (subst (λ (i : ℕ). IsThin (get_or ls i []) x) e t))

    more : (k : ℕ) → 0 < k → length keys ≤ 16 ^ k → (length ls < k) ⊎ (k ≤ length ls) → length (ls ++ x ∷ []) ≤ k
    more k p e (inl l) = let n = pushed_length ls x in omega arith
    more k p e (inr l) =
        let some = h.levels.some in
        let at : k + (length ls - k) ≡ 1 + (length ls - 1) = omega arith in
        let m = pow_more k (length ls - k) in
        let q = ap (λ (y : ℕ). 16 ^ y) at in
        let s = h.size 1 (omega arith) in
        absurd (omega arith)

pub built : (keys : List ℕ) (ls : List (List ℕ)) → IsBuilding keys ls → length (get_or ls (length ls - 1) []) ≤ 16 → IsBuilt keys ls
built keys ls h t = record { levels = h.levels; top = t; lowest = h.lowest; few = h.few }
