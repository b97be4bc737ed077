-- Laws of words that are read at once: they are the words of the bytes that are read.
use Rattle.std.proofs.Common.{◌≡◌, ℕ, zero, suc, ◌+◌, ◌-◌, ◌*◌, ◌/◌, ◌%◌, ◌≤◌, false, List, [], ◌∷◌, ◌++◌}
use Rattle.std.proofs.Common.{length, map, take, drop, refl, sym, ap, subst, ◌∙◌, arith, Some}
use Rattle.std.proofs.lemmas.List.{length-append, length-drop, length-take-le, map-append}
use Rattle.std.proofs.lemmas.Slice.{take-put_mid}
use lib.Seq.{take_all, take_at}
use borrow.Rule.Slice.PartMut.{put_mid, same_len_mid}
use Rattle.mem_base.specs.declared.map.ids.RegionId.{RegionId}
use Rattle.mem_base.specs.map.PassIds.{PassId}
use Rattle.mem_base.specs.declared.access.cells.Place.{Place}
use Rattle.mem_base.specs.declared.access.cells.WordStep.TheVariants.{Load}
use Rattle.mem_base.specs.declared.machine.events.Event.{Event}
use Rattle.mem_base.specs.declared.machine.events.Event.TheVariants as events
use Rattle.mem_base.specs.declared.machine.events.Hand.TheVariants as hands
use Rattle.mem_base.specs.lists.Runs.{run, touched}
use Rattle.mem_base.specs.access.AccessSteps.{AccessStep, bytes_read, events_of_steps, reading, shown_part, steps}
use Rattle.mem_base.specs.access.Cells.{cell}
use Rattle.mem_base.specs.access.MemoryAccess.{on_word, on_words}
use Rattle.mem_base.specs.access.PlacesByRegion.{place_in}
use Rattle.mem_base.specs.access.Words.{bytes_from, bytes_of}
use Rattle.mem_base.specs.machine.Desk.{at_place}
use Rattle.mem_base.specs.machine.Passes.{pass_id}
use Rattle.mem_base.specs.machine.PassTurns.{entries_of}
use Rattle.mem_base.specs.machine.Turns.{history_entry}
use Rattle.generation.specs.Published.{Published}
use Rattle.epoch_rule.specs.Loads.{loads_of, bytes_in, HasLoaded}
use Rattle.epoch_rule.specs.Values.{PassValue}
use Rattle.epoch_rule.proofs.LoadLaws.{bytes_many}
use Rattle.access_run.specs.Hands.{IsPlaceOf}
use Rattle.access_run.specs.Runs.{HasDone}
use Rattle.access_run.proofs.HandLaws.{AreHandLaws, done_then}
use Rattle.access_run.proofs.HandedOn.{first_word}
use Rattle.vcpu_pass.specs.Steps.{Adds, HasMade, generation_in, generation_shown}
use Rattle.vcpu_pass.specs.StepLaws.{made_none, made_then}
use Rattle.vcpu_pass.proofs.HandLaws.{Stays}

-- the steps that load words in a row, from a word on
abbrev loads : RegionId → ℕ → List ℕ → List AccessStep
loads region word [] = []
loads region word (r ∷ rs) = steps (cell region word) Load (shown_part 0 8 false 8) ∷ loads region (word + 1) rs

-- they are those of the bytes of these words
words_are : (region : RegionId) (offset n word : ℕ) (rs : List ℕ)
    → map (on_word region offset (reading n)) (touched 8 (8 * word) (8 * length rs)) ≡ loads region word rs
words_are region offset n word [] = refl
words_are region offset n word (r ∷ rs) =
    let m : ℕ = length rs in
    let first : touched 8 (8 * word) (8 * length (r ∷ rs)) ≡ run (8 * word) 8 ∷ touched 8 (8 * word + 8) (8 * length (r ∷ rs) - 8) =
    first_word (8 * word) 8 (8 * length (r ∷ rs)) (omega arith) (omega arith) in
    let at : 8 * word + 8 ≡ 8 * (word + 1) = omega arith in
    let left : 8 * length (r ∷ rs) - 8 ≡ 8 * m = omega arith in
    let number : 8 * word / 8 ≡ word = omega arith in
    let begin : 8 * word % 8 ≡ 0 = omega arith in
    ap (map (on_word region offset (reading n))) (first ∙ (λ i. run (8 * word) 8 ∷ touched 8 (at i) (left i)))
    ∙ (λ i. steps (cell region (number i)) Load (shown_part (begin i) 8 false 8) ∷ words_are region offset n (word + 1) rs i)

-- their entries, where the generation has the place
entries_are : (places : List Place) (number : ℕ) (p : Place) (word : ℕ) (rs : List ℕ) → place_in places p.region ≡ Some p
    → entries_of places (events_of_steps (pass_id number) (loads p.region word rs)) rs ≡ loads_of (hands.Pass (pass_id number)) p word rs
entries_are places number p word [] placed = refl
entries_are places number p word (r ∷ rs) placed =
    let event : Event = events.Word (hands.Pass (pass_id number)) (cell p.region word) Load in
    λ i. history_entry event (at_place (placed i)) r ∷ entries_are places number p (word + 1) rs placed i

-- one reply for each
replies_many : (pass : PassId) (region : RegionId) (word : ℕ) (rs : List ℕ) → length rs ≡ length (events_of_steps pass (loads region word rs))
replies_many pass region word [] = refl
replies_many pass region word (r ∷ rs) = ap suc (replies_many pass region (word + 1) rs)

-- all eight bytes of a word are those of the word
all_bytes : (r : ℕ) → take 8 (bytes_of (bytes_from r 0 8) 8 false) ≡ bytes_of r 8 false
all_bytes r = grind arith

bytes_are : (region : RegionId) (word : ℕ) (rs : List ℕ) → bytes_in rs ≡ bytes_read (loads region word rs) rs
bytes_are region word [] = refl
bytes_are region word (r ∷ rs) = λ i. sym (all_bytes r) i ++ bytes_are region (word + 1) rs i

-- what was loaded at once is what the steps of a read of these bytes do
pub words_done : (v w : PassValue Published) (p : Place) (offset n : ℕ) (bytes : List ℕ) → IsPlaceOf (generation_in v) p → offset % 8 ≡ 0 → length bytes ≡ n
    → Stays v w → HasLoaded v.sizes v.number p (offset / 8) v.seen bytes w.seen
    → HasDone HasMade (pass_id v.number) v (on_words p.region offset (reading n)) bytes w
words_done v w p offset n bytes placed begins many s h =
    let rs : List ℕ = h.values in
    let size : n ≡ 8 * length rs = sym many ∙ ap (λ l. length l) h.shown ∙ bytes_many rs in
    let at : offset ≡ 8 * (offset / 8) = omega (arith, begins) in
    let all : on_words p.region offset (reading n) ≡ loads p.region (offset / 8) rs =
    (λ i. map (on_word p.region offset (reading n)) (touched 8 (at i) (size i))) ∙ words_are p.region offset n (offset / 8) rs in
    let places : List Place = (generation_in v).places in
    let made : HasMade v (events_of_steps (pass_id v.number) (loads p.region (offset / 8) rs)) rs w = record {
      cabinet = s.0;
      number = s.1;
      sizes = s.2;
      edition = s.3;
      adds = subst (λ new. Adds v.sizes (v.number + 1) v.seen new w.seen) (sym (entries_are places v.number p (offset / 8) rs placed)) record {
        begins = h.adds.begins;
        lawful = h.adds.lawful;
        events = h.adds.events;
        ends = h.adds.ends;
        still = h.adds.still;
      };
    } in
    subst (λ ds. HasDone HasMade (pass_id v.number) v ds bytes w) (sym all) record {
      replies = rs;
      made = made;
      each = replies_many (pass_id v.number) p.region (offset / 8) rs;
      read = h.shown ∙ bytes_are p.region (offset / 8) rs;
    }

-- what an entered pass does one after another
pub hand_laws : AreHandLaws HasMade (λ v. pass_id v.number) generation_in
hand_laws = record {
  begins = made_none;
  goes_on = made_then;
  stays = λ x y es rs m. (ap pass_id m.number, ap generation_shown m.edition);
}

-- bytes up to the begin of a word, and those after them
pub cut_at_word : (offset first n : ℕ) → first ≡ (8 - offset % 8) % 8 → touched 8 offset (first + n) ≡ touched 8 offset first ++ touched 8 (offset + first) n
cut_at_word offset zero n is = let here : offset ≡ offset + 0 = omega arith in let none : 0 + n ≡ n = omega arith in λ i. touched 8 (here i) (none i)
cut_at_word offset (suc k) n is =
    let first : ℕ = suc k in
    let all = first_word offset first (first + n) (omega arith) (omega (arith, is)) in
    let these = first_word offset first first (omega arith) (omega (arith, is)) in
    let left : first + n - first ≡ n = omega arith in
    let none : first - first ≡ 0 = omega arith in
    all ∙ (λ i. run offset first ∷ touched 8 (offset + first) (left i))
    ∙ ap (λ l. l ++ touched 8 (offset + first) n) (sym (these ∙ ap (λ m. run offset first ∷ touched 8 (offset + first) m) none))

-- A read that is made in two parts: of the first `a` bytes, and of those after them
pub two_reads : (u v w : PassValue Published) (region : RegionId) (offset a : ℕ) (out bs cs : List ℕ) → a ≤ length out
    → ((n : ℕ) → touched 8 offset (a + n) ≡ touched 8 offset a ++ touched 8 (offset + a) n)
    → length bs ≡ length (take a out) → length cs ≡ length (take (length (bs ++ drop a out) - a) (drop a (bs ++ drop a out)))
    → HasDone HasMade (pass_id u.number) u (on_words region offset (reading (length (take a out)))) bs v
    → HasDone HasMade (pass_id v.number) v
    (on_words region (offset + a) (reading (length (take (length (bs ++ drop a out) - a) (drop a (bs ++ drop a out)))))) cs w
    → HasDone HasMade (pass_id u.number) u (on_words region offset (reading (length out)))
    (put_mid a (length (bs ++ drop a out) - a) (bs ++ drop a out) cs) w
two_reads u v w region offset a out bs cs most cut first second h k =
    let xs : List ℕ = bs ++ drop a out in
    let n : ℕ = length xs - a in
    let size : length (take a out) ≡ a = length-take-le a out most in
    let all : length xs ≡ length out = omega (arith, length-append bs (drop a out), length-drop a out, first, size, most) in
    let left : length (take n (drop a xs)) ≡ n = length-take-le n (drop a xs) (omega (arith, length-drop a xs)) in
    let whole : take (a + length cs) (put_mid a n xs cs) ≡ put_mid a n xs cs =
    take_all (a + length cs) (put_mid a n xs cs) (omega (arith, same_len_mid a n xs cs second, second, left, all, most)) in
    let parts : put_mid a n xs cs ≡ bs ++ cs = sym whole ∙ take-put_mid a n xs cs (a + length cs) refl (omega (arith, all, most))
    ∙ ap (λ l. l ++ cs) (take_at bs (drop a out) a (omega (arith, first, size))) in
    let m : ℕ = length (take n (drop a xs)) in
    let step : on_words region offset (reading (length out))
    ≡ on_words region offset (reading (length (take a out))) ++ on_words region (offset + a) (reading m) =
    ap (map (on_word region offset (reading (length out)))) (ap (touched 8 offset) (omega (arith, all, left, most)) ∙ cut m)
    ∙ map-append (on_word region offset (reading (length out))) (touched 8 offset a) (touched 8 (offset + a) m)
    ∙ ap (λ c. on_words region offset (reading c) ++ on_words region (offset + a) (reading m)) (sym size) in
    subst (λ (y : List AccessStep × List ℕ). HasDone HasMade (pass_id u.number) u y.0 y.1 w) (λ i. (sym step i, sym parts i))
    (done_then HasMade (λ v. pass_id v.number) generation_in hand_laws u v w (on_words region offset (reading (length (take a out))))
    (on_words region (offset + a) (reading m)) bs cs h k)
