-- Laws of words that are written one after another, and of those that are tried.
use Rattle.std.proofs.Common.{◌≡◌, ℕ, ◌+◌, ◌-◌, ◌*◌, ◌/◌, ◌%◌, ◌<◌, ◌≤◌, ◌⊎◌, inl, inr, min, Bool, true, false, List, [], ◌∷◌, ◌++◌}
use Rattle.std.proofs.Common.{length, map, take, drop, refl, sym, ap, subst, ◌∙◌, arith, append_assoc, ne_eqb, ◌==◌}
use Rattle.std.specs.Prelude.{MatchBool}
use Rattle.std.proofs.Math.Seq.{take-length}
use Rattle.std.proofs.lemmas.List.{map-append, length-take-le, drop-take, take-take}
use Rattle.mem_base.specs.declared.map.ids.RegionId.{RegionId}
use Rattle.mem_base.specs.declared.access.cells.Place.{Place}
use Rattle.mem_base.specs.declared.access.cells.WordStep.TheVariants.{Replace}
use Rattle.mem_base.specs.declared.machine.events.Hand.TheVariants as hands
use Rattle.mem_base.specs.declared.machine.events.HistoryEntry.{HistoryEntry}
use Rattle.mem_base.specs.lists.Every.{Every}
use Rattle.mem_base.specs.lists.Runs.{Run, run, touched, is_in_unit}
use Rattle.mem_base.specs.access.AccessSteps.{AccessStep, writing, steps, nothing_shown}
use Rattle.mem_base.specs.access.Cells.{cell}
use Rattle.mem_base.specs.access.MemoryAccess.{on_word, on_words}
use Rattle.mem_base.specs.access.Words.{little_endian}
use Rattle.mem_base.specs.map.Limits.{word_size}
use Rattle.mem_base.specs.machine.Passes.{pass_id}
use Rattle.generation.specs.Published.{Published}
use Rattle.epoch_rule.specs.Values.{PassValue}
use Rattle.epoch_rule.specs.declared.views.Sizes.{Sizes}
use Rattle.epoch_rule.specs.Wrote.{WordWas, WroteStep}
use Rattle.access_run.specs.Hands.{IsPlaceOf, word_event}
use Rattle.access_base.proofs.RunLaws.{first_word, whole_words}
use Rattle.vcpu_pass.specs.Steps.{HasMade, generation_in}
use Rattle.bounded_write.proofs.HandLaws.{Stays}
use Rattle.io_window.specs.Calls.{Does}
use Rattle.io_window.proofs.WholeLaws.{does_then}
use Rattle.bounded_write.specs.Tries.{FoundChanged, IsContended, WasContended}
use Rattle.bounded_write.proofs.PastLaws.{IsAmong, runs_among}
use Rattle.vcpu_pass.proofs.LoadLaws.{cut_at_word}
use Rattle.vcpu_pass.proofs.HandLaws.{made_word}

-- words

-- the words of some bytes that end where a word does, and those of the bytes after them
pub words_cut : (offset k m : ℕ) → (k ≡ 0) ⊎ ((offset + k) % 8 ≡ 0) → touched 8 offset (k + m) ≡ touched 8 offset k ++ touched 8 (offset + k) m
words_cut offset k m (inl none) =
    let here : offset ≡ offset + k = omega (arith, none) in
    let all : k + m ≡ m = omega (arith, none) in
    (λ i. touched 8 (here i) (all i)) ∙ (λ i. touched 8 offset (sym none i) ++ touched 8 (offset + k) m)
words_cut offset k m (inr ends) =
    let first : ℕ = (8 - offset % 8) % 8 in
    let c : ℕ = k - first in
    let some : first ≤ k = omega (arith, ends) in
    let count : c ≡ 8 * (c / 8) = omega (arith, ends) in
    let begins : (offset + first) % 8 ≡ 0 = omega arith in
    let whole : k + m ≡ first + (c + m) = omega (arith, some) in
    let back : first + c ≡ k = omega (arith, some) in
    let at : offset + first + c ≡ offset + k = omega (arith, some) in
    let these : touched 8 offset first ++ touched 8 (offset + first) c ≡ touched 8 offset k = sym (cut_at_word offset first c refl) ∙ ap (touched 8 offset) back in
    ap (touched 8 offset) whole ∙ cut_at_word offset first (c + m) refl
    ∙ ap (λ l. touched 8 offset first ++ l) (whole_words (offset + first) (c / 8) m c begins count)
    ∙ sym (append_assoc (touched 8 offset first) (touched 8 (offset + first) c) (touched 8 (offset + first + c) m))
    ∙ (λ i. these i ++ touched 8 (at i) m)

-- the words of the first bytes, by all bytes that are written
abbrev pub words_below : RegionId → ℕ → List ℕ → ℕ → List AccessStep
words_below region offset bytes k = map (on_word region offset (writing bytes)) (touched 8 offset k)

-- the bytes of one word, after some that end where a word does
pub one_more : (region : RegionId) (offset k c n : ℕ) (bytes : List ℕ) → (k ≡ 0) ⊎ ((offset + k) % 8 ≡ 0) → k < n
    → c ≡ min (n - k) (8 - (offset + k) % 8)
    → words_below region offset bytes (k + c) ≡ words_below region offset bytes k ++ (on_word region offset (writing bytes) (run (offset + k) c) ∷ [])
one_more region offset k c n bytes ends less is =
    let f = on_word region offset (writing bytes) in
    let none : c - c ≡ 0 = omega arith in
    let one : touched 8 (offset + k) c ≡ run (offset + k) c ∷ [] =
    first_word (offset + k) c c (omega (arith, is, less)) (omega (arith, is, less)) ∙ ap (λ m. run (offset + k) c ∷ touched 8 (offset + k + c) m) none in
    ap (map f) (words_cut offset k c ends) ∙ map-append f (touched 8 offset k) (touched 8 (offset + k) c) ∙ ap (λ l. map f (touched 8 offset k) ++ map f l) one

-- where the next word begins, if there is one
pub ends_at_word : (offset k c n : ℕ) → k < n → c ≡ min (n - k) (8 - (offset + k) % 8) → k + c < n → (k + c ≡ 0) ⊎ ((offset + (k + c)) % 8 ≡ 0)
ends_at_word offset k c n less is more = inr (omega (arith, less, is, more))

-- the words of the first bytes are those of a write of these alone
pub words_of_first : (region : RegionId) (offset k : ℕ) (bytes : List ℕ) → k ≤ length bytes
    → words_below region offset bytes k ≡ on_words region offset (writing (take k bytes))
words_of_first region offset k bytes most =
    let size : length (take k bytes) ≡ k = length-take-le k bytes most in
    each (touched 8 offset k) (runs_among (is_in_unit 8) offset k) ∙ ap (λ n. map (on_word region offset (writing (take k bytes))) (touched 8 offset n)) (sym size)
  where
    one : (r : Run) → IsAmong offset k r → on_word region offset (writing bytes) r ≡ on_word region offset (writing (take k bytes)) r
    one r h =
        let from : offset ≤ r.start = h.0 in
        let to : r.start + r.length ≤ offset + k = h.1 in
        let skip : ℕ = r.start - offset in
        let all : skip + (k - skip) ≡ k = omega (arith, from, to) in
        let same : take r.length (drop skip (take k bytes)) ≡ take r.length (drop skip bytes) =
        ap (λ j. take r.length (drop skip (take j bytes))) (sym all) ∙ ap (take r.length) (drop-take skip (k - skip) bytes)
        ∙ take-take r.length (k - skip) (drop skip bytes) (omega (arith, from, to)) in
        ap (λ bs. steps (cell region (r.start / word_size)) (Replace (r.start % word_size) r.length (little_endian bs)) nothing_shown) (sym same)

    each : (rs : List Run) → Every (IsAmong offset k) rs → map (on_word region offset (writing bytes)) rs ≡ map (on_word region offset (writing (take k bytes))) rs
    each [] h = refl
    each (r ∷ rs) h = (λ i. one r h.0 i ∷ each rs h.1 i)

-- what was written, and one word more
pub one_more_done : (u v w : PassValue Published) (region : RegionId) (offset k c n : ℕ) (bytes : List ℕ) (d : AccessStep)
    → Does u (words_below region offset bytes k) [] v → Does v (d ∷ []) [] w → d ≡ on_word region offset (writing bytes) (run (offset + k) c)
    → (k ≡ 0) ⊎ ((offset + k) % 8 ≡ 0) → k < n → c ≡ min (n - k) (8 - (offset + k) % 8) → Does u (words_below region offset bytes (k + c)) [] w
one_more_done u v w region offset k c n bytes d before now same ends less is =
    subst (λ ds. Does u ds [] w) (sym (one_more region offset k c n bytes ends less is))
    (does_then u v w (words_below region offset bytes k) (on_word region offset (writing bytes) (run (offset + k) c) ∷ []) [] [] before
    (subst (λ x. Does v (x ∷ []) [] w) same now))

-- tries

-- a pass that shows nothing stays what it is
pub same_pass : (v w : PassValue Published) → Stays v w → w.seen ≡ v.seen → w ≡ v
same_pass v w s seen = λ i. record { cabinet = s.0 i; number = s.1 i; sizes = s.2 i; seen = seen i; edition = s.3 i }

-- with this number of tries left a word was found with this value at last, and changed at each try before
pub record TriedSoFar (z : Sizes) (seen : List HistoryEntry) (word old left tries : ℕ) : Type 0 where
  pub earlier : List ℕ
  pub count : length earlier + left ≡ tries
  pub changed : FoundChanged z seen word (old ∷ earlier)

pub first_found : (z : Sizes) (seen : List HistoryEntry) (word old tries : ℕ) → WordWas z seen word old → TriedSoFar z seen word old tries tries
first_found z seen word old tries h =
    record { earlier = []; count = omega arith; changed = record { each = (h, tt); changes = tt } }

-- what an exchange found that did not stand
pub not_found : (A B : Type 0) (found old : ℕ) → MatchBool (found == old) A B → (found ≡ old → ⊥) → B
not_found A B found old h other = subst (λ b. MatchBool b A B) (ne_eqb found old other) h

-- one value more, by who has seen as much
pub found_again : (z y : Sizes) (seen now : List HistoryEntry) (word old found left less tries : ℕ) → TriedSoFar z seen word old left tries
    → y ≡ z → now ≡ seen → WordWas y now word found → (found ≡ old → ⊥) → less + 1 ≡ left → TriedSoFar z seen word found less tries
found_again z y seen now word old found left less tries h same shown was other one =
    let before : length h.earlier + left ≡ tries = h.count in record {
      earlier = old ∷ h.earlier;
      count = omega (arith, before, one);
      changed = record {
        each = (subst (λ (q : Sizes × List HistoryEntry). WordWas q.0 q.1 word found) (λ i. (same i, shown i)) was, h.changed.each);
        changes = (other, h.changed.changes);
      };
    }

pub contended : (z : Sizes) (seen : List HistoryEntry) (word old tries left : ℕ) → TriedSoFar z seen word old left tries → left ≡ 0 → IsContended z seen word tries
contended z seen word old tries left h none =
    let before : length h.earlier + left ≡ tries = h.count in (old ∷ h.earlier, omega (arith, before, none), h.changed)

-- what a hand did, by a pass
pub tried_by : (r : Bool) (v w : PassValue Published) (p : Place) (word first bytes value tries : ℕ) → IsPlaceOf (generation_in v) p → Stays v w
    → MatchBool r ((old : ℕ) × WroteStep (hands.Pass (pass_id v.number)) v.sizes p word (Replace first bytes value) old v.seen w.seen)
    ((w.seen ≡ v.seen) × IsContended v.sizes v.seen (p.start + word) tries)
    → MatchBool r ((old : ℕ) × HasMade v (word_event (pass_id v.number) p word (Replace first bytes value) ∷ []) (old ∷ []) w)
    ((w ≡ v) × WasContended v tries)
tried_by true v w p word first bytes value tries placed s h =
    (h.0, made_word v w p word (Replace first bytes value) h.0 placed s h.1)
tried_by false v w p word first bytes value tries placed s h = (same_pass v w s h.0, (p.start + word, h.1))

-- and one word of some bytes
pub word_tried : (r : Bool) (v w : PassValue Published) (p : Place) (offset value tries : ℕ) (bs : List ℕ) → value ≡ little_endian bs
    → MatchBool r ((old : ℕ) × HasMade v (word_event (pass_id v.number) p (offset / 8) (Replace (offset % 8) (length bs) value) ∷ []) (old ∷ []) w)
    ((w ≡ v) × WasContended v tries)
    → MatchBool r (Does v (on_word p.region offset (writing bs) (run offset (length bs)) ∷ []) [] w) ((w ≡ v) × WasContended v tries)
word_tried true v w p offset value tries bs is h =
    let none : offset - offset ≡ 0 = omega arith in
    let same : value ≡ little_endian (take (length bs) (drop (offset - offset) bs)) =
    is ∙ ap little_endian (sym (take-length bs)) ∙ ap (λ n. little_endian (take (length bs) (drop n bs))) (sym none) in
    subst (λ n. Does v (steps (cell p.region (offset / 8)) (Replace (offset % 8) (length bs) n) nothing_shown ∷ []) [] w) same
    (record { replies = h.0 ∷ []; made = h.1; each = refl; read = refl })
word_tried false v w p offset value tries bs is h = h
