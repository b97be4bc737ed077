-- The least pass that has the least lowest number, and the current number.
use Rattle.epoch_rule.proofs.Common.{◌≡◌, ◌≢◌, ◌⊎◌, ℕ, zero, suc, ◌<◌, ◌≤◌, ne_eqb, List, [], ◌∷◌, length, map, get_or, refl, sym, ap, ◌∙◌, subst, inl, inr}
use Rattle.epoch_rule.proofs.Common.{⊎_elim, arith, eq-eqb, dite, ℕ_discrete, HistoryEntry, pass_id, Generations, PassTrack, nothing_known, known_of}
use Rattle.epoch_rule.proofs.Common.{least_lowest, shared_opening, number_seen, sound, Sizes, Found, IsLegal, stored, first_at, IsLeastPassAt}
use Rattle.epoch_rule.proofs.Common.{generations_in_seen, generations_own, dec_le, min}

-- the current number is that of the last Publish
pub current_seen : (z : Sizes) (xs : List HistoryEntry) → IsLegal z xs → (generations_in_seen z xs).current ≡ number_seen xs
current_seen z xs legal =
    let k = sound z.words z.passes xs legal in let count = k.counted in
    ap (λ (g : Generations). g.current) (sym (generations_own xs (shared_opening z.words z.passes))) ∙ omega arith

-- where the first has this number, and where it has not
first_here : (low : ℕ) (k : PassTrack) (ks : List PassTrack) → k.lowest ≡ low → first_at low (map stored (k ∷ ks)) ≡ 0
first_here low k ks same = rw (eq-eqb k.lowest low same) refl

first_after : (low : ℕ) (k : PassTrack) (ks : List PassTrack) → k.lowest ≢ low → first_at low (map stored (k ∷ ks)) ≡ suc (first_at low (map stored ks))
first_after low k ks other = rw (ne_eqb k.lowest low other) refl

-- no pass before the first one has this number
before_first : (low : ℕ) (ks : List PassTrack) (v : ℕ) → v < first_at low (map stored ks) → (get_or ks v nothing_known).lowest ≢ low
before_first low [] v l = absurd (omega arith)
before_first low (k ∷ ks) zero l = λ same. let e = first_here low k ks same in omega arith
before_first low (k ∷ ks) (suc v) l = dite (ℕ_discrete k.lowest low)
    (λ same. absurd (let e = first_here low k ks same in omega arith))
    (λ other. before_first low ks v (let e = first_after low k ks other in omega arith))

-- the first one has it, if any has
at_first : (low : ℕ) (ks : List PassTrack) → first_at low (map stored ks) < length ks → (get_or ks (first_at low (map stored ks)) nothing_known).lowest ≡ low
at_first low [] l = absurd (omega arith)
at_first low (k ∷ ks) l = dite (ℕ_discrete k.lowest low)
    (λ same. subst (λ (n : ℕ). (get_or (k ∷ ks) n nothing_known).lowest ≡ low) (sym (first_here low k ks same)) same)
    (λ other. subst (λ (n : ℕ). (get_or (k ∷ ks) n nothing_known).lowest ≡ low) (sym (first_after low k ks other))
    (at_first low ks (let e = first_after low k ks other in omega arith)))

other_is_least : (a b : ℕ) → a ≢ min a b → min a b ≡ b
other_is_least a b other = dite (dec_le a b) (λ h. absurd (other (omega arith))) (λ h. omega arith)

-- the least number is one that a pass has, or the current one
some_has : (c : ℕ) (ks : List PassTrack) → (least_lowest c ks ≡ c) ⊎ (first_at (least_lowest c ks) (map stored ks) < length ks)
some_has c [] = inl refl
some_has c (k ∷ ks) = dite (ℕ_discrete k.lowest (least_lowest c (k ∷ ks)))
    (λ same. inr (let e = first_here (least_lowest c (k ∷ ks)) k ks same in omega arith))
    (λ other. let is : least_lowest c (k ∷ ks) ≡ least_lowest c ks = other_is_least k.lowest (least_lowest c ks) other in ⊎_elim
    (λ (e : least_lowest c ks ≡ c). inl (is ∙ e))
    (λ (l : first_at (least_lowest c ks) (map stored ks) < length ks).
    inr (subst (λ (n : ℕ). first_at n (map stored (k ∷ ks)) < suc (length ks)) (sym is)
    (let e = first_after (least_lowest c ks) k ks (λ same. other (same ∙ sym is)) in omega arith)))
    (some_has c ks))

inside_where : (c : ℕ) (ks : List PassTrack) → 0 < length ks → (get_or ks 0 nothing_known).lowest ≤ c → first_at (least_lowest c ks) (map stored ks) < length ks
inside_where c [] some low = absurd (omega arith)
inside_where c (k ∷ ks) some low = ⊎_elim
    (λ (e : least_lowest c (k ∷ ks) ≡ c). let same : k.lowest ≡ least_lowest c (k ∷ ks) = omega arith in
    let first = first_here (least_lowest c (k ∷ ks)) k ks same in omega arith)
    (λ l. l)
    (some_has c (k ∷ ks))

-- after a legal history, of what is stored of the passes
pub swept_pass : (z : Sizes) (xs : List HistoryEntry) → IsLegal z xs → 0 < z.passes → (known : List Found)
    → known ≡ map stored (generations_in_seen z xs).passes → (low n : ℕ)
    → low ≡ least_lowest (generations_in_seen z xs).current (generations_in_seen z xs).passes → n ≡ first_at low known
    → IsLeastPassAt (generations_in_seen z xs) low (pass_id n) × (n < z.passes)
swept_pass z xs legal some known is low n low_is n_is =
    let g : Generations = generations_in_seen z xs in
    let own = generations_own xs (shared_opening z.words z.passes) in
    let k = sound z.words z.passes xs legal in
    let many : length g.passes ≡ z.passes = ap (λ (h : Generations). length h.passes) (sym own) ∙ k.known in
    let first_low = subst (λ (h : Generations). (known_of h (pass_id 0)).lowest ≤ h.current) own (k.each 0 some).low in
    let least : ℕ = least_lowest g.current g.passes in
    let inside = inside_where g.current g.passes (omega arith) first_low in
    let at : n ≡ first_at least (map stored g.passes) = n_is ∙ (λ i. first_at (low_is i) (is i)) in (
      subst (λ (y : ℕ × ℕ). IsLeastPassAt g y.0 (pass_id y.1)) (λ i. (sym low_is i, sym at i))
          record { inside = inside; has = at_first least g.passes inside; least = λ v before. before_first least g.passes v before },
      omega arith,
    )
