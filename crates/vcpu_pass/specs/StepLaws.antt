-- Laws of what an entered pass makes. They stand here because the laws of the hands, in `src`, cite them.
use Rattle.std.proofs.Common.{◌≡◌, ℕ, ◌+◌, List, [], ◌∷◌, ◌++◌, length, refl, sym, ap, subst, ◌∙◌, append_assoc, append-nil, arith}
use base.Growing.{prefix_refl, prefix_trans}
use Rattle.mem_base.specs.declared.access.cells.Place.{Place}
use Rattle.mem_base.specs.declared.machine.events.Event.{Event}
use Rattle.mem_base.specs.declared.machine.events.HistoryEntry.{HistoryEntry}
use Rattle.mem_base.specs.declared.machine.events.Hand.TheVariants as hands
use Rattle.mem_base.specs.machine.Passes.{pass_id}
use Rattle.mem_base.specs.machine.Histories.{last_of}
use Rattle.mem_base.specs.machine.Actors.{own_entries}
use Rattle.view_laws.proofs.Tests.{none_is_not_some}
use Rattle.generation.specs.Published.{Published}
use Rattle.epoch_rule.specs.declared.views.Sizes.{Sizes}
use Rattle.epoch_rule.specs.Values.{PassValue}
use Rattle.epoch_rule.specs.Wrote.{EndsWith, Wrote}
use Rattle.mem_base.specs.machine.PassTurns.{entries_of}
use Rattle.vcpu_pass.specs.Steps.{generation_shown, generation_in, Adds, HasMade}
use Rattle.mem_base.proofs.PassTurnLaws.{entries_append}

last_append : (xs : List HistoryEntry) (y : HistoryEntry) (ys : List HistoryEntry) → last_of (xs ++ y ∷ ys) ≡ last_of (y ∷ ys)
last_append [] y ys = refl
last_append (x ∷ []) y ys = refl
last_append (x ∷ u ∷ xs) y ys = last_append (u ∷ xs) y ys

first_nil : (xs ys : List HistoryEntry) → xs ++ ys ≡ [] → xs ≡ []
first_nil [] ys e = refl
first_nil (x ∷ xs) ys e = let n : length (x ∷ (xs ++ ys)) ≡ 0 = ap (λ l. length l) e in absurd (omega (arith, n))

second_nil : (xs ys : List HistoryEntry) → xs ++ ys ≡ [] → ys ≡ []
second_nil [] ys e = e
second_nil (x ∷ xs) ys e = let n : length (x ∷ (xs ++ ys)) ≡ 0 = ap (λ l. length l) e in absurd (omega (arith, n))

pub adds_none : (z : Sizes) (a : ℕ) (xs : List HistoryEntry) → Adds z a xs [] xs
adds_none z a xs = record {
  begins = prefix_refl xs;
  lawful = λ l. l;
  events = sym (append-nil (own_entries a xs));
  ends = λ x none. none_is_not_some x none;
  still = λ e. refl;
}

ends_then : (z : Sizes) (a : ℕ) (ys new more zs : List HistoryEntry) → EndsWith new ys → Adds z a ys more zs → EndsWith (new ++ more) zs
ends_then z a ys new [] zs h k x is =
    ap (λ l. last_of l) (k.still refl) ∙ h x (ap (λ l. last_of l) (sym (append-nil new)) ∙ is)
ends_then z a ys new (m ∷ more) zs h k x is = k.ends x (sym (last_append new m more) ∙ is)

-- one part after another
pub adds_then : (z : Sizes) (a : ℕ) (xs new ys more zs : List HistoryEntry) → Adds z a xs new ys → Adds z a ys more zs → Adds z a xs (new ++ more) zs
adds_then z a xs new ys more zs h k = record {
  begins = prefix_trans xs ys zs h.begins k.begins;
  lawful = λ l. k.lawful (h.lawful l);
  events = k.events ∙ ap (λ l. l ++ more) h.events ∙ append_assoc (own_entries a xs) new more;
  ends = ends_then z a ys new more zs h.ends k;
  still = λ e. k.still (second_nil new more e) ∙ h.still (first_nil new more e);
}

-- what a call of the cabinet wrote, where it wrote something
pub adds_some : (z : Sizes) (n : ℕ) (xs ys : List HistoryEntry) (x : HistoryEntry) (new : List HistoryEntry)
    → Wrote (hands.Pass (pass_id n)) z xs (x ∷ new) ys → Adds z (n + 1) xs (x ∷ new) ys
adds_some z n xs ys x new h = record {
  begins = h.begins;
  lawful = λ l. h.lawful;
  events = h.events;
  ends = h.ends;
  still = λ e. let n : length (x ∷ new) ≡ 0 = ap (λ l. length l) e in absurd (omega (arith, n));
}

pub made_none : (v : PassValue Published) → HasMade v [] [] v
made_none v = record { cabinet = refl; number = refl; sizes = refl; edition = refl; adds = adds_none v.sizes (v.number + 1) v.seen }

pub made_then : (u v w : PassValue Published) (es fs : List Event) (rs qs : List ℕ) → length rs ≡ length es → HasMade u es rs v → HasMade v fs qs w
    → HasMade u (es ++ fs) (rs ++ qs) w
made_then u v w es fs rs qs each h k =
    let places : List Place = (generation_in u).places in
    let same : (generation_in v).places ≡ places = ap (λ o. (generation_shown o).places) h.edition in
    let later : Adds u.sizes (u.number + 1) v.seen (entries_of places fs qs) w.seen =
    subst (λ (q : Sizes × ℕ × List Place). Adds q.0 (q.1 + 1) v.seen (entries_of q.2 fs qs) w.seen) (λ i. (h.sizes i, h.number i, same i)) k.adds in
    record {
      cabinet = k.cabinet ∙ h.cabinet;
      number = k.number ∙ h.number;
      sizes = k.sizes ∙ h.sizes;
      edition = k.edition ∙ h.edition;
      adds = subst (λ new. Adds u.sizes (u.number + 1) u.seen new w.seen) (sym (entries_append places es fs rs qs each))
          (adds_then u.sizes (u.number + 1) u.seen (entries_of places es rs) v.seen (entries_of places fs qs) w.seen h.adds later);
    }
