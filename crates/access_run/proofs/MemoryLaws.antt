-- Laws of the words that an access to memory touches.
use Rattle.std.proofs.Common.{◌≡◌, ℕ, ◌+◌, ◌-◌, ◌*◌, ◌/◌, ◌%◌, ◌<◌, ◌≤◌, min, List, [], ◌∷◌, ◌++◌, length, take}
use Rattle.std.proofs.Common.{drop, map, ap, ◌∙◌, arith}
use Rattle.std.proofs.lemmas.List.{map-append}
use Rattle.std.proofs.Math.Seq.{take-length}
use Rattle.mem_base.specs.declared.map.ids.RegionId.{RegionId}
use Rattle.mem_base.specs.lists.Runs.{Run, run, touched}
use Rattle.mem_base.specs.declared.access.cells.WordStep.TheVariants.{Replace}
use Rattle.mem_base.specs.map.Limits.{word_size}
use Rattle.mem_base.specs.access.Words.{little_endian}
use Rattle.mem_base.specs.access.Cells.{cell}
use Rattle.mem_base.specs.access.AccessSteps.{AccessStep, reading, writing, steps, nothing_shown}
use Rattle.mem_base.specs.access.MemoryAccess.{on_word}
use Rattle.access_base.proofs.RunLaws.{first_word, whole_words}

-- the words of some bytes: the first of them, and those after it
pub words_then : (f : Run → AccessStep) (offset done n c : ℕ) → done < n → c ≡ min (n - done) (8 - (offset + done) % 8)
    → map f (touched 8 (offset + done) (n - done)) ≡ (f (run (offset + done) c) ∷ []) ++ map f (touched 8 (offset + (done + c)) (n - (done + c)))
words_then f offset done n c some is =
    let at : offset + done + c ≡ offset + (done + c) = omega arith in
    let left : n - done - c ≡ n - (done + c) = omega arith in
    ap (map f) (first_word (offset + done) c (n - done) (omega (arith, some)) is)
    ∙ (λ i. f (run (offset + done) c) ∷ map f (touched 8 (at i) (left i)))

-- whole words, and those after them
pub whole_words_then : (f : Run → AccessStep) (offset done n c : ℕ) → (offset + done) % 8 ≡ 0 → c % 8 ≡ 0 → done + c ≤ n
    → map f (touched 8 (offset + done) (n - done)) ≡ map f (touched 8 (offset + done) c) ++ map f (touched 8 (offset + (done + c)) (n - (done + c)))
whole_words_then f offset done n c begins whole most =
    let left : n - done ≡ c + (n - (done + c)) = omega (arith, most) in
    let at : offset + done + c ≡ offset + (done + c) = omega arith in
    let count : c ≡ 8 * (c / 8) = omega (arith, whole) in
    ap (λ m. map f (touched 8 (offset + done) m)) left
    ∙ ap (map f) (whole_words (offset + done) (c / 8) (n - (done + c)) c begins count)
    ∙ map-append f (touched 8 (offset + done) c) (touched 8 (offset + done + c) (n - (done + c)))
    ∙ (λ i. map f (touched 8 (offset + done) c) ++ map f (touched 8 (at i) (n - (done + c))))

-- a word that is read, whatever was read before it
pub word_read : (region : RegionId) (offset at n m c : ℕ) → m ≡ c → on_word region at (reading m) (run at m) ≡ on_word region offset (reading n) (run at c)
word_read region offset at n m c e = ap (λ k. on_word region at (reading n) (run at k)) e

-- a word that is written with a part of the bytes
pub word_written : (region : RegionId) (offset done k m c : ℕ) (bs : List ℕ) → k ≡ done + c - done → m ≡ length (take k (drop done bs)) → m ≡ c
    → on_word region (offset + done) (writing (take k (drop done bs))) (run (offset + done) m) ≡ on_word region offset (writing bs) (run (offset + done) c)
word_written region offset done k m c bs is size e =
    let here : offset + done - (offset + done) ≡ 0 = omega arith in
    let there : done ≡ offset + done - offset = omega arith in
    let all : k ≡ c = omega (arith, is) in
    let part : List ℕ = take k (drop done bs) in
    let bytes : take m (drop (offset + done - (offset + done)) part) ≡ take c (drop (offset + done - offset) bs) =
    ap (λ d. take m (drop d part)) here ∙ ap (λ l. take l part) size ∙ take-length part ∙ (λ i. take (all i) (drop (there i) bs)) in
    (λ i. steps (cell region ((offset + done) / word_size)) (Replace ((offset + done) % word_size) (e i) (little_endian (bytes i))) nothing_shown)
