-- Holes as starts and lengths, in order, and how they are cut and joined.
use Rattle.std.specs.Prelude.{◌≡◌, ℕ, ◌+◌, ◌-◌, ◌<◌, ◌≤◌, ◌==◌, Bool, true, false, if◌then◌else◌, List, [], ◌∷◌, ◌++◌}
use Rattle.mem_base.specs.lists.Every.{Every, EveryPair}
use Rattle.mem_base.specs.lists.Runs.{Run, run}

-- the words of a hole
abbrev pub hole_of : ℕ × ℕ → Run
hole_of h = run h.0 h.1

-- the word after a hole
abbrev pub end_of : ℕ × ℕ → ℕ
end_of h = h.0 + h.1

-- each hole ends before the next one begins, with a word between them
abbrev pub Ascends : List (ℕ × ℕ) → Type 0
Ascends holes = EveryPair (λ h k. end_of h < k.0) holes

-- the holes are the longest runs of free words, of those from `low` on and below `high`
abbrev pub AreHoles : (ℕ → Bool) → ℕ → ℕ → List (ℕ × ℕ) → Type 0
AreHoles free low high [] = (word : ℕ) → low ≤ word → word < high → free word ≡ false
AreHoles free low high (h ∷ hs) =
    (low ≤ h.0) × (0 < h.1) × (end_of h ≤ high)
    × ((word : ℕ) → low ≤ word → word < h.0 → free word ≡ false)
    × ((word : ℕ) → h.0 ≤ word → word < end_of h → free word ≡ true)
    × (end_of h < high → free (end_of h) ≡ false)
    × AreHoles free (end_of h) high hs

-- what is left of a hole without its first words
abbrev pub cut : ℕ → ℕ × ℕ → List (ℕ × ℕ)
cut words h = if h.1 == words then [] else (h.0 + words, h.1 - words) ∷ []

-- the words from `start` on, with those of the next hole where it begins right after them; and the holes after these
abbrev pub next_joined : ℕ → ℕ → List (ℕ × ℕ) → ℕ × List (ℕ × ℕ)
next_joined start words [] = (words, [])
next_joined start words (h ∷ hs) = if h.0 == start + words then (words + h.1, hs) else (words, h ∷ hs)

-- these holes and then the words from `start` on, which lengthen the last hole where they begin right after it
abbrev pub put_last : ℕ → ℕ → List (ℕ × ℕ) → List (ℕ × ℕ)
put_last start words [] = (start, words) ∷ []
put_last start words (h ∷ []) = if end_of h == start then (h.0, h.1 + words) ∷ [] else h ∷ (start, words) ∷ []
put_last start words (h ∷ k ∷ hs) = h ∷ put_last start words (k ∷ hs)

-- new holes are old ones with the words from `start` on, each of which joins the neighbours that it touches
pub record IsGiven (start words : ℕ) (old new : List (ℕ × ℕ)) : Type 0 where
  pub before : List (ℕ × ℕ)
  pub after : List (ℕ × ℕ)
  pub parts : old ≡ before ++ after
  pub low : Every (λ h. h.0 < start) before
  pub high : Every (λ h. start ≤ h.0) after
  pub joined : new ≡ put_last start (next_joined start words after).0 before ++ (next_joined start words after).1
