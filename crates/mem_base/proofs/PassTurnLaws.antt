-- Entries of a list of events of a pass, by their replies.
use Rattle.std.proofs.Common.{◌≡◌, ℕ, suc, List, [], ◌∷◌, ◌++◌, length, map, refl, ap, arith, ◌≤◌, Option, Some, None, zero, ne_eqb, ◌<◌, true, get_or}
use Rattle.mem_base.specs.declared.access.cells.Place.{Place}
use Rattle.mem_base.specs.declared.machine.events.Event.{Event}
use Rattle.mem_base.specs.declared.machine.events.HistoryEntry.{HistoryEntry}
use Rattle.mem_base.specs.machine.Turns.{history_entry}
use Rattle.mem_base.specs.machine.PassTurns.{carried_among, entries_of}
use Rattle.mem_base.specs.machine.Generations.{PassTrack, least_lowest, pin_word, number_pinned, known_after_sweep, nothing_known, all_placed}
use Rattle.std.proofs.lemmas.Bool.{and_from}

pub entries_append : (places : List Place) (es fs : List Event) (rs qs : List ℕ) → length rs ≡ length es
    → entries_of places (es ++ fs) (rs ++ qs) ≡ entries_of places es rs ++ entries_of places fs qs
entries_append places [] fs [] qs e = refl
entries_append places [] fs (r ∷ rs) qs e = absurd (omega (arith, e))
entries_append places (x ∷ es) fs [] qs e = absurd (omega (arith, e))
entries_append places (x ∷ es) fs (r ∷ rs) qs e =
    let less : length rs ≡ length es = omega (arith, e) in
    ap (λ (l : List HistoryEntry). history_entry x (carried_among places x) r ∷ l) (entries_append places es fs rs qs less)

pub entries_count : (places : List Place) (es : List Event) (ns : List ℕ) → length (entries_of places es ns) ≡ length es
entries_count places [] ns = refl
entries_count places (e ∷ es) [] = ap suc (entries_count places es [])
entries_count places (e ∷ es) (n ∷ ns) = ap suc (entries_count places es ns)

pub events_are : (places : List Place) (es : List Event) (ns : List ℕ) → map (λ y. y.event) (entries_of places es ns) ≡ es
events_are places [] ns = refl
events_are places (e ∷ es) [] = ap (λ (fs : List Event). e ∷ fs) (events_are places es [])
events_are places (e ∷ es) (n ∷ ns) = ap (λ (fs : List Event). e ∷ fs) (events_are places es ns)

pub least_within : (current : ℕ) (ks : List PassTrack) → least_lowest current ks ≤ current
least_within current [] = omega arith
least_within current (k ∷ ks) = let within = least_within current ks in omega arith

pub pinned : (o : Option ℕ) → number_pinned (pin_word o) ≡ o
pinned None = refl
pinned (Some n) = grind arith

pub raises : (c : ℕ) (k : PassTrack) (r : ℕ) → k.lowest ≤ c → k.lowest ≤ (known_after_sweep c k r).lowest
raises c k zero l = l
raises c k (suc r) l = rw (ne_eqb (suc r) 0 (λ z. omega arith)) (omega arith)

pub all_from : (ks : List PassTrack) → ((v : ℕ) → v < length ks → (get_or ks v nothing_known).placed ≡ true) → all_placed ks ≡ true
all_from [] h = refl
all_from (k ∷ ks) h = and_from k.placed (all_placed ks) (h 0 (omega arith)) (all_from ks (λ v l. h (suc v) (omega arith)))
