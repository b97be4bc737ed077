-- Laws of loads of words in a row.
use Rattle.epoch_rule.proofs.Common.{◌≡◌, ℕ, ◌+◌, ◌*◌, false, List, [], ◌∷◌, ◌++◌, length, sym, refl, ap, ◌∙◌, subst, arith, append_assoc, append-nil, Place}
use Rattle.epoch_rule.proofs.Common.{Hand, At, HistoryEntry, cell, bytes_of, pass_id, history_entry, Sizes, View, ComesNext, Adds, HasLoaded, Load, Word}
use Rattle.epoch_rule.proofs.Common.{loads_of, bytes_in}
use Rattle.std.proofs.lemmas.List.{length-append}
use Rattle.mem_base.specs.declared.machine.events.Hand.TheVariants as hands
use Rattle.epoch_rule.proofs.AddsLaws.{adds_some, adds_then}
use Rattle.epoch_rule.proofs.TouchLaws.{wrote}

-- the load of one word
abbrev load_of : Place → ℕ → ℕ → ℕ → HistoryEntry
load_of p number word r = history_entry (Word (hands.Pass (pass_id number)) (cell p.region word) Load) (At p) r

-- loads of some words, and of the one after them
one_more_load : (hand : Hand) (p : Place) (word : ℕ) (rs : List ℕ) (r : ℕ)
    → loads_of hand p word (rs ++ r ∷ []) ≡ loads_of hand p word rs ++ history_entry (Word hand (cell p.region (word + length rs)) Load) (At p) r ∷ []
one_more_load hand p word [] r = let here : word ≡ word + 0 = omega arith in ap (λ w. history_entry (Word hand (cell p.region w) Load) (At p) r ∷ []) here
one_more_load hand p word (q ∷ rs) r =
    let there : word + 1 + length rs ≡ word + length (q ∷ rs) = omega arith in
    ap (λ l. history_entry (Word hand (cell p.region word) Load) (At p) q ∷ l) (one_more_load hand p (word + 1) rs r
    ∙ ap (λ w. loads_of hand p (word + 1) rs ++ history_entry (Word hand (cell p.region w) Load) (At p) r ∷ []) there)

one_more_bytes : (rs : List ℕ) (r : ℕ) → bytes_in (rs ++ r ∷ []) ≡ bytes_in rs ++ bytes_of r 8 false
one_more_bytes [] r = append-nil (bytes_of r 8 false)
one_more_bytes (q ∷ rs) r = ap (λ l. bytes_of q 8 false ++ l) (one_more_bytes rs r) ∙ sym (append_assoc (bytes_of q 8 false) (bytes_in rs) (bytes_of r 8 false))

-- eight bytes of each
pub bytes_many : (rs : List ℕ) → length (bytes_in rs) ≡ 8 * length rs
bytes_many [] = refl
bytes_many (r ∷ rs) =
    let rest = bytes_many rs in
    let all = length-append (bytes_of r 8 false) (bytes_in rs) in
    let eight : length (bytes_of r 8 false) ≡ 8 = refl in omega arith

-- one load more
pub loaded_more : (z : Sizes) (number : ℕ) (p : Place) (word i r : ℕ) (bs : List ℕ) (before : List HistoryEntry) (v w : View) → length bs ≡ 8 * i → v.sizes ≡ z
    → HasLoaded z number p word before bs v.seen
    → ComesNext (number + 1) v (Word (hands.Pass (pass_id number)) (cell p.region (word + i)) Load) (At p) r w
    → HasLoaded z number p word before (bs ++ bytes_of r 8 false) w.seen
loaded_more z number p word i r bs before v w long same h next =
    let hand : Hand = hands.Pass (pass_id number) in
    let many : length h.values ≡ i = omega (arith, ap (λ l. length l) h.shown, bytes_many h.values, long) in
    let one = adds_some hand v.sizes v.seen w.seen (load_of p number (word + i) r ∷ []) (λ e. absurd (let n : 1 ≡ 0 = ap (λ l. length l) e in omega (arith, n)))
    (wrote hand v _ _ r w refl next) in
    record {
      values = h.values ++ r ∷ [];
      shown = ap (λ l. l ++ bytes_of r 8 false) h.shown ∙ sym (one_more_bytes h.values r);
      adds = subst (λ new. Adds z (number + 1) before new w.seen)
          (ap (λ n. loads_of hand p word h.values ++ load_of p number (word + n) r ∷ []) (sym many) ∙ sym (one_more_load hand p word h.values r))
          (adds_then z (number + 1) before (loads_of hand p word h.values) v.seen (load_of p number (word + i) r ∷ []) w.seen h.adds
          (subst (λ y. Adds y (number + 1) v.seen (load_of p number (word + i) r ∷ []) w.seen) same one));
    }
