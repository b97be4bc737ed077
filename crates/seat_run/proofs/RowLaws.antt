-- The entries of the cabinet's calls, as the writer's calls name them.
use Rattle.std.proofs.Common.{◌≡◌, ℕ, zero, suc, ◌+◌, List, [], ◌∷◌, ◌++◌, length}
use Rattle.std.proofs.Common.{map, refl, sym, ap, subst, ◌∙◌, append_assoc, arith, length-set, ◌<◌, Some}
use Rattle.std.specs.Prelude.{replicate}
use Rattle.std.specs.List.{range_with_len}
use Rattle.std.proofs.lemmas.List.{length-replicate}
use Rattle.mem_base.specs.declared.map.refusals.Refusal.{Refusal}
use Rattle.mem_base.specs.declared.access.cells.Place.{Place}
use Rattle.mem_base.specs.declared.machine.events.Event.{Event}
use Rattle.mem_base.specs.declared.machine.events.Event.TheVariants as events
use Rattle.mem_base.specs.declared.machine.events.Carried.{Carried}
use Rattle.mem_base.specs.declared.machine.events.Carried.TheVariants as carries
use Rattle.mem_base.specs.declared.machine.events.HistoryEntry.{HistoryEntry}
use Rattle.mem_base.specs.access.Cells.{cell}
use Rattle.mem_base.specs.machine.Actors.{own_entries, generations_after_all}
use Rattle.mem_base.specs.machine.Generations.{Generations, generations_after, first_generations, nothing_known, PassTrack}
use Rattle.mem_base.specs.machine.Orders.{sweeps, publishes, pass_ids}
use Rattle.mem_base.specs.machine.Passes.{pass_id}
use Rattle.mem_base.specs.machine.Turns.{history_entry}
use Rattle.mem_base.specs.declared.machine.events.Hand.TheVariants as hands
use Rattle.mem_base.specs.machine.Publishing.{held_up, held_from}
use Rattle.view_laws.proofs.Tests.{none_is_not_some}
use Rattle.generation.specs.Published.{Published}
use Rattle.epoch_rule.specs.declared.views.Sizes.{Sizes}
use Rattle.epoch_rule.specs.Calls.{sweeps_of, places_of, generations_in_seen}
use Rattle.shared_words.specs.Fills.{fills_of}
use Rattle.writer_hand.specs.Entries.{entries_with, nothing, edition_of, at}
use Rattle.epoch_rule.specs.Calls as epoch
use Rattle.epoch_rule.specs.Rule.{KeepsHome}
use Rattle.epoch_rule.specs.Values.{WriterValue}
use Rattle.epoch_rule.specs.Wrote.{Wrote}
use Rattle.writer_hand.specs.Hands.{swept, cleared, IsPublished, IsHeldUp}
use Rattle.seat_run.specs.Written.{HasWritten}
use Rattle.epoch_rule.proofs.AddsLaws.{adds_some}
use Rattle.seat_run.specs.WrittenLaws.{generations_go}
use Rattle.mem_base.proofs.ListLaws.{length_map}

-- an entry for each of `n` numbers from `a` on
rows : (ℕ → HistoryEntry) → ℕ → ℕ → List HistoryEntry
rows f a zero = []
rows f a (suc n) = f a ∷ rows f (suc a) n

rows_snoc : (f : ℕ → HistoryEntry) (a n : ℕ) → rows f a n ++ f (a + n) ∷ [] ≡ rows f a (suc n)
unfolding rows
rows_snoc f a zero = let e : a + 0 ≡ a = omega arith in ap (λ (m : ℕ). f m ∷ []) e
rows_snoc f a (suc n) = let e : a + suc n ≡ suc a + n = omega arith in
    ap (λ xs. f a ∷ xs) (ap (λ (m : ℕ). rows f (suc a) n ++ f m ∷ []) e ∙ rows_snoc f (suc a) n)

abbrev place_at : ℕ → HistoryEntry
place_at v = history_entry (events.Place (pass_id v)) carries.Nothing 0

places_are : (n : ℕ) → places_of n ≡ rows place_at 0 n
unfolding rows
places_are zero = refl
places_are (suc n) = let e : n ≡ 0 + n = omega arith in
    ap (λ xs. xs ++ place_at n ∷ []) (places_are n) ∙ ap (λ (m : ℕ). rows place_at 0 n ++ place_at m ∷ []) e ∙ rows_snoc place_at 0 n

abbrev fill_at : Place → ℕ → HistoryEntry
fill_at p i = history_entry (events.Fill (cell p.region i)) (carries.At p) 0

fills_are : (p : Place) (n : ℕ) → fills_of p n ≡ rows (fill_at p) 0 n
unfolding rows
fills_are p zero = refl
fills_are p (suc n) = let e : n ≡ 0 + n = omega arith in
    ap (λ xs. xs ++ fill_at p n ∷ []) (fills_are p n) ∙ ap (λ (m : ℕ). rows (fill_at p) 0 n ++ fill_at p m ∷ []) e ∙ rows_snoc (fill_at p) 0 n

next_range : (a n : ℕ) → range_with_len (suc a) n ≡ range_with_len (a + 1) n
next_range a n = let e : suc a ≡ a + 1 = omega arith in ap (λ (m : ℕ). range_with_len m n) e

filled_rows : (p : Place) (a n : ℕ) → rows (fill_at p) a n ≡ entries_with (at p) (map (λ c. events.Fill c) (map (cell p.region) (range_with_len a n))) []
unfolding rows
filled_rows p a zero = refl
filled_rows p a (suc n) = ap (λ xs. fill_at p a ∷ xs) (filled_rows p (suc a) n
    ∙ ap (λ (ns : List ℕ). entries_with (at p) (map (λ c. events.Fill c) (map (cell p.region) ns)) []) (next_range a n))

pub fills_clear : (p : Place) → fills_of p p.words ≡ cleared p
fills_clear p = fills_are p p.words ∙ filled_rows p 0 p.words

abbrev publish_of : Published → ℕ → HistoryEntry
publish_of x number = history_entry events.Publish (carries.Edition x.forest x.places) number

placed_rows : (x : Published) (number a n : ℕ) → rows place_at a n ++ publish_of x number ∷ []
    ≡ entries_with (edition_of x) (map (λ v. events.Place v) (map pass_id (range_with_len a n)) ++ events.Publish ∷ []) (replicate n 0 ++ number ∷ [])
unfolding rows
placed_rows x number a zero = refl
placed_rows x number a (suc n) = ap (λ xs. place_at a ∷ xs) (placed_rows x number (suc a) n
    ∙ ap (λ (ns : List ℕ). entries_with (edition_of x) (map (λ v. events.Place v) (map pass_id ns) ++ events.Publish ∷ []) (replicate n 0 ++ number ∷ []))
    (next_range a n))

pub publishes_are : (x : Published) (number : ℕ) (g : Generations) (n : ℕ) → length g.passes ≡ n
    → places_of n ++ publish_of x number ∷ [] ≡ entries_with (edition_of x) (publishes g) (replicate n 0 ++ number ∷ [])
publishes_are x number g n e =
    ap (λ xs. xs ++ publish_of x number ∷ []) (places_are n) ∙ placed_rows x number 0 n
    ∙ ap (λ (m : ℕ). entries_with (edition_of x) (map (λ v. events.Place v) (map pass_id (range_with_len 0 m)) ++ events.Publish ∷ [])
    (replicate n 0 ++ number ∷ []))
    (sym e)

swept_rows : (rs : List ℕ) (a : ℕ) → sweeps_of a rs ≡ entries_with nothing (map (λ v. events.Sweep v) (map pass_id (range_with_len a (length rs)))) rs
swept_rows [] a = refl
swept_rows (r ∷ rs) a = ap (λ xs. history_entry (events.Sweep (pass_id a)) carries.Nothing r ∷ xs) (swept_rows rs (suc a)
    ∙ ap (λ (ns : List ℕ). entries_with nothing (map (λ v. events.Sweep v) (map pass_id ns)) rs) (next_range a (length rs)))

pub sweeps_are : (rs : List ℕ) (g : Generations) → length rs ≡ length g.passes → sweeps_of 0 rs ≡ swept g rs
sweeps_are rs g e = swept_rows rs 0
    ∙ ap (λ (m : ℕ). entries_with nothing (map (λ v. events.Sweep v) (map pass_id (range_with_len 0 m))) rs) e

-- there is a track for each pass

one_stays : (g : Generations) (e : Event) (x : Carried) (r : ℕ) → length (generations_after g e x r).passes ≡ length g.passes
one_stays g (events.Sweep v) x r = length-set g.passes v.0 _
one_stays g (events.Place v) x r = length-set g.passes v.0 _
one_stays g events.Publish (carries.Edition f ps) r = length_map _ g.passes
one_stays g events.Publish carries.Nothing r = refl
one_stays g events.Publish (carries.At p) r = refl
one_stays g (events.Look v) x r = refl
one_stays g (events.Announce v) x r = refl
one_stays g (events.Enter v) x r = refl
one_stays g (events.Leave v) x r = refl
one_stays g (events.Word hand c step) x r = refl
one_stays g (events.Mark v region client page) x r = refl
one_stays g (events.Harvest region client index) x r = refl
one_stays g (events.Fill c) x r = refl
one_stays g (events.Config k) x r = refl
one_stays g events.Reap x r = refl

all_stay : (xs : List HistoryEntry) (g : Generations) → length (generations_after_all g xs).passes ≡ length g.passes
all_stay [] g = refl
all_stay (x ∷ xs) g = all_stay xs _ ∙ one_stays g x.event x.carried x.reply

pub as_many : (z : Sizes) (xs : List HistoryEntry) → length (generations_in_seen z xs).passes ≡ z.passes
as_many z xs = all_stay (own_entries 0 xs) (first_generations z.passes) ∙ length-replicate z.passes nothing_known

pub ids_many : (g : Generations) → length (sweeps g) ≡ length g.passes
ids_many g = length_map _ (pass_ids g) ∙ length_map pass_id (range_with_len 0 (length g.passes)) ∙ count 0 (length g.passes)
  where
    count : (a n : ℕ) → length (range_with_len a n) ≡ n
    count a zero = refl
    count a (suc n) = ap suc (count (a + 1) n)

-- rows that are not empty

pub never_nil : (xs : List HistoryEntry) (x : HistoryEntry) → xs ++ x ∷ [] ≡ [] → ⊥
never_nil [] x e = let n : length (x ∷ []) ≡ 0 = ap (λ (l : List HistoryEntry). length l) e in omega (arith, n)
never_nil (y ∷ ys) x e = let n : length (y ∷ (ys ++ x ∷ [])) ≡ 0 = ap (λ (l : List HistoryEntry). length l) e in omega (arith, n)

-- no fills are those of no words
pub fills_some : (p : Place) (n : ℕ) → fills_of p n ≡ [] → n ≡ 0
fills_some p zero e = refl
fills_some p (suc n) e = absurd (never_nil (fills_of p n) (fill_at p n) e)

sweeps_many : (rs : List ℕ) (a : ℕ) → length (sweeps_of a rs) ≡ length rs
sweeps_many [] a = refl
sweeps_many (r ∷ rs) a = ap suc (sweeps_many rs (suc a))

none_held : (c : ℕ) (ks : List PassTrack) (why : Refusal) → held_from c 0 ks ≡ Some why → length ks ≡ 0 → ⊥
none_held c [] why e l = none_is_not_some why e
none_held c (k ∷ ks) why e l = omega (arith, l)

-- what the writer's seat made of a publish, and of one that was held up

pub held_so : (v w : WriterValue) (rs : List ℕ) (why : Refusal) → length rs ≡ v.sizes.passes → Wrote hands.Writer v.sizes v.seen (sweeps_of 0 rs) w.seen
    → held_up (generations_in_seen v.sizes w.seen) ≡ Some why → KeepsHome v.out v.seen w.seen → w.cabinet ≡ v.cabinet → w.sizes ≡ v.sizes → w.out ≡ v.out
    → IsHeldUp (generations_in_seen v.sizes v.seen) why (λ xs. HasWritten v xs w)
held_so v w rs why each wrote held home cabinet sizes out =
    let g : Generations = generations_in_seen v.sizes v.seen in
    let long : length rs ≡ length g.passes = each ∙ sym (as_many v.sizes v.seen) in
    let made : HasWritten v (sweeps_of 0 rs) w = record {
      cabinet = cabinet;
      sizes = sizes;
      out = out;
      home = home;
      adds = adds_some hands.Writer v.sizes v.seen w.seen (sweeps_of 0 rs) (λ e. absurd (none_held _ _ why held
          (as_many v.sizes w.seen ∙ sym each ∙ sym (sweeps_many rs 0) ∙ ap (λ (l : List HistoryEntry). length l) e))) wrote;
    } in record {
      found = rs;
      each = long ∙ sym (ids_many g);
      made = subst (λ (es : List HistoryEntry). HasWritten v es w) (sweeps_are rs g long) made;
      held = ap (λ (h : Generations). held_up h) (ap (λ (es : List HistoryEntry). generations_after_all g es) (sym (sweeps_are rs g long))
          ∙ sym (generations_go v w (sweeps_of 0 rs) made) ∙ ap (λ (z : Sizes). generations_in_seen z w.seen) sizes) ∙ held;
    }

pub published_so : (v w : WriterValue) (x : Published) (number : ℕ) → epoch.Published v.sizes v.seen (carries.Edition x.forest x.places) number w.seen
    → KeepsHome v.out v.seen w.seen → w.cabinet ≡ v.cabinet → w.sizes ≡ v.sizes → w.out ≡ v.out
    → IsPublished (generations_in_seen v.sizes v.seen) x (λ xs. HasWritten v xs w)
published_so v w x number k home cabinet sizes out =
    let g : Generations = generations_in_seen v.sizes v.seen in
    let n : ℕ = v.sizes.passes in
    let rs : List ℕ = k.0 in
    let long : length rs ≡ length g.passes = k.1 ∙ sym (as_many v.sizes v.seen) in
    let made : HasWritten v (sweeps_of 0 rs ++ places_of n ++ publish_of x number ∷ []) w = record {
      cabinet = cabinet;
      sizes = sizes;
      out = out;
      home = home;
      adds = adds_some hands.Writer v.sizes v.seen w.seen _ (λ e. absurd (never_nil (sweeps_of 0 rs ++ places_of n) (publish_of x number) e)) k.2;
    } in record {
      found = rs;
      each = long ∙ sym (ids_many g);
      replies = replicate n 0 ++ number ∷ [];
      made = subst (λ (es : List HistoryEntry). HasWritten v es w) (append_assoc (sweeps_of 0 rs) (places_of n) (publish_of x number ∷ [])
          ∙ (λ i. sweeps_are rs g long i ++ publishes_are x number g n (as_many v.sizes v.seen) i)) made;
      free = ap (λ (es : List HistoryEntry). held_up (generations_after_all g es)) (sym (sweeps_are rs g long)) ∙ k.3;
    }

-- a sweep of every pass
pub swept_so : (v w : WriterValue) (rs : List ℕ) → 0 < v.sizes.passes → length rs ≡ v.sizes.passes
    → Wrote hands.Writer v.sizes v.seen (sweeps_of 0 rs) w.seen
    → KeepsHome v.out v.seen w.seen → w.cabinet ≡ v.cabinet → w.sizes ≡ v.sizes → w.out ≡ v.out
    → (found : List ℕ) × (length found ≡ length (sweeps (generations_in_seen v.sizes v.seen))) × HasWritten v (swept
    (generations_in_seen v.sizes v.seen) found) w
swept_so v w rs some each wrote home cabinet sizes out =
    let g : Generations = generations_in_seen v.sizes v.seen in
    let long : length rs ≡ length g.passes = each ∙ sym (as_many v.sizes v.seen) in
    let made : HasWritten v (sweeps_of 0 rs) w = record {
      cabinet = cabinet;
      sizes = sizes;
      out = out;
      home = home;
      adds = adds_some hands.Writer v.sizes v.seen w.seen (sweeps_of 0 rs) (λ e. absurd (
          let n : v.sizes.passes ≡ 0 = sym each ∙ sym (sweeps_many rs 0) ∙ ap (λ (l : List HistoryEntry). length l) e in omega (arith, n, some))) wrote;
    } in (rs, long ∙ sym (ids_many g), subst (λ (es : List HistoryEntry). HasWritten v es w) (sweeps_are rs g long) made)
