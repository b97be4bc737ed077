-- What an actor adds to its own entries, call after call.
use Rattle.epoch_rule.proofs.Common.{◌≡◌, ℕ, List, [], ◌∷◌, ◌++◌, length, refl, sym, ap, ◌∙◌, append_assoc, append-nil, arith, prefix_refl, prefix_trans}
use Rattle.epoch_rule.proofs.Common.{HistoryEntry, Hand, last_of, actor_of_hand, own_entries, none_is_not_some, Sizes, Adds, EndsWith, Wrote}

pub last_append : (xs : List HistoryEntry) (y : HistoryEntry) (ys : List HistoryEntry) → last_of (xs ++ y ∷ ys) ≡ last_of (y ∷ ys)
last_append [] y ys = refl
last_append (x ∷ []) y ys = refl
last_append (x ∷ u ∷ xs) y ys = last_append (u ∷ xs) y ys

first_nil : (xs ys : List HistoryEntry) → xs ++ ys ≡ [] → xs ≡ []
first_nil [] ys e = refl
first_nil (x ∷ xs) ys e = absurd (omega (arith, ap length e))

pub nothing_after : {A : Type 0} (xs ys : List A) → xs ++ ys ≡ [] → ys ≡ []
nothing_after [] ys e = e
nothing_after (x ∷ xs) ys e = absurd (omega (arith, ap length e))

pub adds_none : (z : Sizes) (a : ℕ) (xs : List HistoryEntry) → Adds z a xs [] xs
adds_none z a xs = record {
  begins = prefix_refl xs;
  lawful = λ l. l;
  events = sym (append-nil (own_entries a xs));
  ends = λ x none. none_is_not_some x none;
  still = λ e. refl;
}

ends_then : (z : Sizes) (a : ℕ) (ys new more zs : List HistoryEntry) → EndsWith new ys → Adds z a ys more zs → EndsWith (new ++ more) zs
ends_then z a ys new [] zs h k x is =
    ap (λ l. last_of l) (k.still refl) ∙ h x (ap (λ l. last_of l) (sym (append-nil new)) ∙ is)
ends_then z a ys new (m ∷ more) zs h k x is = k.ends x (sym (last_append new m more) ∙ is)

-- one part after another
pub adds_then : (z : Sizes) (a : ℕ) (xs new ys more zs : List HistoryEntry) → Adds z a xs new ys → Adds z a ys more zs → Adds z a xs (new ++ more) zs
adds_then z a xs new ys more zs h k = record {
  begins = prefix_trans xs ys zs h.begins k.begins;
  lawful = λ l. k.lawful (h.lawful l);
  events = k.events ∙ ap (λ l. l ++ more) h.events ∙ append_assoc (own_entries a xs) new more;
  ends = ends_then z a ys new more zs h.ends k;
  still = λ e. k.still (nothing_after new more e) ∙ h.still (first_nil new more e);
}

-- what a call wrote, where it has seen no more if it wrote nothing
pub adds_some : (hand : Hand) (z : Sizes) (xs ys new : List HistoryEntry) → (new ≡ [] → ys ≡ xs) → Wrote hand z xs new ys
    → Adds z (actor_of_hand hand) xs new ys
adds_some hand z xs ys new still h = record {
  begins = h.begins;
  lawful = λ l. h.lawful;
  events = h.events;
  ends = h.ends;
  still = still;
}
