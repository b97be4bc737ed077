-- Words held in frames, as the pages of a process are: a table tells the frame of each 512 words.
use Rattle.std.specs.Prelude.{◌≡◌, ℕ, ◌+◌, ◌*◌, ◌/◌, ◌%◌, ◌<◌, ◌≤◌, ◌==◌, ◌⊎◌, if◌then◌else◌, List, [], ◌∷◌, length, map, slice_index}
use Rattle.std.specs.List.{range_with_len}
use Rattle.place_words.specs.declared.words.TheConstants as constants

-- how many words a frame has
abbrev pub frame_words : ℕ
frame_words = constants.FRAME

-- where a word stands in the frames
abbrev pub spot : List ℕ → ℕ → ℕ
spot table at = slice_index table (at / frame_words) * frame_words + at % frame_words

abbrev pub word_in : List ℕ → List ℕ → ℕ → ℕ
word_in table frames at = slice_index frames (spot table at)

-- the first words, this many
abbrev pub shown : List ℕ → List ℕ → ℕ → List ℕ
shown table frames count = map (word_in table frames) (range_with_len 0 count)

-- how many entries of a table have a frame of their own
abbrev pub own_frames : List ℕ → ℕ
own_frames [] = 0
own_frames (frame ∷ table) = (if frame == 0 then 0 else 1) + own_frames table

-- the words of frame 0 are 0, and no other frame belongs to two entries; there is room for a frame of each entry
pub record IsFramed (table frames : List ℕ) (room : ℕ) : Type 0 where
  pub zeros : (i : ℕ) → i < frame_words → slice_index frames i ≡ 0
  pub inside : (e : ℕ) → e < length table → (slice_index table e + 1) * frame_words ≤ length frames
  pub apart : (e g : ℕ) → e < length table → g < length table → slice_index table e ≡ slice_index table g → (slice_index table e ≡ 0) ⊎ (e ≡ g)
  pub counted : length frames ≡ (own_frames table + 1) * frame_words
  pub fits : (length table + 1) * frame_words ≤ room
