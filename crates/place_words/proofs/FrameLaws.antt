-- Laws of words that are held in frames.
use Rattle.std.proofs.Common.{◌≡◌, ◌⊎◌, inl, inr, ℕ, zero, suc, ◌+◌, ◌-◌, ◌*◌, ◌/◌, ◌%◌, ◌<◌, ◌≤◌, List, [], ◌∷◌, ◌++◌, length, get_or, set, take, drop}
use Rattle.std.proofs.Common.{sym, ap, refl, ◌∙◌, subst, arith}
use Rattle.std.specs.Prelude.{replicate, slice_index}
use Rattle.std.proofs.lemmas.Bool.{cases_lt, cases_eq}
use Rattle.std.proofs.lemmas.Bool.Decides.{nat_tests}
use Rattle.std.proofs.lemmas.List.{get_or_read, get_or-append_right, get_or_append_left, get_or-take, get_or-drop, get_or-replicate, get_or-set_same, get_or-set_other}
use Rattle.std.proofs.lemmas.List.{length-append, length-take-le, length-drop, length-replicate, length-set, ext_get_or}
use Rattle.std.proofs.lemmas.List.FromFn.{fill_by_all, get_or-map-range_with_len, length-map-range_with_len}
use Rattle.place_words.specs.Blocks.{cleared_between}
use Rattle.place_words.specs.Frames.{spot, word_in, shown, own_frames, IsFramed}

-- a list whose words are those in the frames is what is shown
shown_is : (table frames ws : List ℕ) (count : ℕ) → length ws ≡ count
    → ((k : ℕ) → k < count → get_or ws k 0 ≡ word_in table frames k) → ws ≡ shown table frames count
shown_is table frames ws count len each = fill_by_all (word_in table frames) ws count 0 len each

pub shown_length : (table frames : List ℕ) (count : ℕ) → length (shown table frames count) ≡ count
shown_length table frames count = length-map-range_with_len (word_in table frames) 0 count

pub shown_at : (table frames : List ℕ) (count k : ℕ) → k < count → slice_index (shown table frames count) k ≡ word_in table frames k
shown_at table frames count k l = get_or-map-range_with_len (word_in table frames) 0 count k k 0 l (omega arith)

pub shown_same : (table frames table' frames' : List ℕ) (count : ℕ)
    → ((k : ℕ) → k < count → word_in table frames k ≡ word_in table' frames' k) → shown table frames count ≡ shown table' frames' count
shown_same table frames table' frames' count same =
    shown_is table' frames' (shown table frames count) count (shown_length table frames count)
    (λ k l. shown_at table frames count k l ∙ same k l)

-- An entry's own frame

either_apart : (t k at : ℕ) → 0 < t → k % 512 ≡ at % 512 → (t ≡ 0) ⊎ (k / 512 ≡ at / 512) → k ≡ at
either_apart t k at own low (inl none) = omega arith
either_apart t k at own low (inr same) = omega arith

-- no other word stands in the spot of a word whose frame belongs to its entry
spot_apart : (table frames : List ℕ) (room k at : ℕ) → IsFramed table frames room → k / 512 < length table → at / 512 < length table
    → 0 < slice_index table (at / 512) → spot table k ≡ spot table at → k ≡ at
spot_apart table frames room k at f kl al own same =
    let t : ℕ = slice_index table (at / 512) in
    let u : ℕ = slice_index table (k / 512) in
    let one : u ≡ t = omega arith in
    let low : k % 512 ≡ at % 512 = omega arith in
    either_apart u k at (omega arith) low (f.apart (k / 512) (at / 512) kl al one)

-- a word's spot is one of the frames
pub spot_within : (table frames : List ℕ) (room at : ℕ) → IsFramed table frames room → at / 512 < length table → spot table at < length frames
spot_within table frames room at f l =
    let i = f.inside (at / 512) l in omega arith

-- a word that is set in its entry's own frame
pub shown_set : (table frames : List ℕ) (room count at value : ℕ) → count ≤ length table * 512 → IsFramed table frames room
    → 0 < slice_index table (at / 512) → at < count
    → shown table (set frames (spot table at) value) count ≡ set (shown table frames count) at value
shown_set table frames room count at value covers f own l =
    sym (shown_is table (set frames (spot table at) value) (set (shown table frames count) at value) count
    (length-set (shown table frames count) at value ∙ shown_length table frames count) (λ k m. each k m (cases_eq k at))) where
      each : (k : ℕ) → k < count → (k ≡ at) ⊎ (k ≡ at → ⊥)
          → get_or (set (shown table frames count) at value) k 0 ≡ get_or (set frames (spot table at) value) (spot table k) 0
      each k m (inl same) =
          let here : at < length (shown table frames count) = subst (λ n. at < n) (sym (shown_length table frames count)) l in
          let within : spot table at < length frames = spot_within table frames room at f (omega arith) in
          ap (λ i. get_or (set (shown table frames count) at value) i 0) same
          ∙ get_or-set_same (shown table frames count) at value 0 here
          ∙ sym (get_or-set_same frames (spot table at) value 0 within)
          ∙ ap (λ i. get_or (set frames (spot table at) value) (spot table i) 0) (sym same)
      each k m (inr other) =
          let kl : k / 512 < length table = omega arith in
          let al : at / 512 < length table = omega arith in
          get_or-set_other (shown table frames count) at k value 0 other
          ∙ shown_at table frames count k m
          ∙ sym (get_or-set_other frames (spot table at) (spot table k) value 0 (λ same. other (spot_apart table frames room k at f kl al own same)))

-- Words of 0

pub zeros_length : (n : ℕ) → length (replicate {A = ℕ} n 0) ≡ n
zeros_length n = length-replicate n 0

zero_at : (n k : ℕ) → slice_index (replicate {A = ℕ} n 0) k ≡ 0
zero_at zero k = refl
zero_at (suc n) zero = refl
zero_at (suc n) (suc k) = zero_at n k

-- Words that are cleared

cleared_length : (ws : List ℕ) (s e : ℕ) → s ≤ e → e ≤ length ws → length (cleared_between s e ws) ≡ length ws
cleared_length ws s e l m =
    let first : length (take s ws) ≡ s = length-take-le s ws (omega arith) in
    let zeros = zeros_length (e - s) in
    let sum = length-append (take s ws) (replicate (e - s) 0) in
    let whole = length-append (take s ws ++ replicate (e - s) 0) (drop e ws) in
    let rest : length (drop e ws) ≡ length ws - e = length-drop e ws in omega arith

-- a word before the part, in it, and after it
cleared_before : (ws : List ℕ) (s e k : ℕ) → s ≤ e → e ≤ length ws → k < s → get_or (cleared_between s e ws) k 0 ≡ get_or ws k 0
cleared_before ws s e k l m before =
    let first : length (take s ws) ≡ s = length-take-le s ws (omega arith) in
    let sum = length-append (take s ws) (replicate (e - s) 0) in
    get_or_append_left (take s ws ++ replicate (e - s) 0) (drop e ws) 0 k (omega arith)
    ∙ get_or_append_left (take s ws) (replicate (e - s) 0) 0 k (omega arith)
    ∙ get_or-take s ws k 0 before

cleared_in : (ws : List ℕ) (s e k : ℕ) → e ≤ length ws → s ≤ k → k < e → get_or (cleared_between s e ws) k 0 ≡ 0
cleared_in ws s e k m l within =
    let first : length (take s ws) ≡ s = length-take-le s ws (omega arith) in
    let zeros = zeros_length (e - s) in
    let sum = length-append (take s ws) (replicate (e - s) 0) in
    get_or_append_left (take s ws ++ replicate (e - s) 0) (drop e ws) 0 k (omega arith)
    ∙ get_or-append_right (take s ws) (replicate (e - s) 0) s k 0 first l
    ∙ get_or-replicate (e - s) (k - s) 0 0 (omega arith)

cleared_after : (ws : List ℕ) (s e k : ℕ) → s ≤ e → e ≤ length ws → e ≤ k → get_or (cleared_between s e ws) k 0 ≡ get_or ws k 0
cleared_after ws s e k l m past =
    let first : length (take s ws) ≡ s = length-take-le s ws (omega arith) in
    let zeros = zeros_length (e - s) in
    let sum = length-append (take s ws) (replicate (e - s) 0) in
    let there : e + (k - e) ≡ k = omega arith in
    get_or-append_right (take s ws ++ replicate (e - s) 0) (drop e ws) e k 0 (omega arith) past
    ∙ get_or-drop e ws (k - e) 0
    ∙ ap (λ i. get_or ws i 0) there

-- where a word stands to a part
abbrev Stands : ℕ → ℕ → ℕ → Type 0
Stands s e k = ((k < s) ⊎ (e ≤ k)) ⊎ ((s ≤ k) × (k < e))

stands : (s e k : ℕ) → Stands s e k
stands s e k = go (cases_lt k s) (cases_lt k e) where
  go : (k < s) ⊎ (s ≤ k) → (k < e) ⊎ (e ≤ k) → Stands s e k
  go (inl before) b = inl (inl before)
  go (inr l) (inl within) = inr (l, within)
  go (inr l) (inr past) = inl (inr past)

cleared_not : (ws : List ℕ) (s e k : ℕ) → s ≤ e → e ≤ length ws → (k < s) ⊎ (e ≤ k) → get_or (cleared_between s e ws) k 0 ≡ get_or ws k 0
cleared_not ws s e k l m (inl before) = cleared_before ws s e k l m before
cleared_not ws s e k l m (inr past) = cleared_after ws s e k l m past

-- a word of the part stands as far into the cleared spots as into the part
spot_in : (table : List ℕ) (start end k : ℕ) → end ≤ (start / 512 + 1) * 512 → start ≤ k → k < end
    → spot table k ≡ spot table start + (k - start)
spot_in table start end k one l h =
    let same : k / 512 ≡ start / 512 = omega arith in
    let frame : slice_index table (k / 512) ≡ slice_index table (start / 512) = ap (slice_index table) same in omega arith

either_out : (t k start end : ℕ) → 0 < t → end ≤ (start / 512 + 1) * 512 → k % 512 < start % 512 + (end - start) → start % 512 ≤ k % 512
    → (k < start) ⊎ (end ≤ k) → (t ≡ 0) ⊎ (k / 512 ≡ start / 512) → ⊥
either_out t k start end own one below above out (inl none) = omega arith
either_out t k start end own one below above (inl before) (inr same) = omega arith
either_out t k start end own one below above (inr past) (inr same) = omega arith

-- the spots of other words are not cleared
spot_out : (table frames : List ℕ) (room start end k : ℕ) → IsFramed table frames room → k / 512 < length table → start / 512 < length table
    → 0 < slice_index table (start / 512) → start < end → end ≤ (start / 512 + 1) * 512 → (k < start) ⊎ (end ≤ k)
    → Stands (spot table start) (spot table start + (end - start)) (spot table k)
    → (spot table k < spot table start) ⊎ (spot table start + (end - start) ≤ spot table k)
spot_out table frames room start end k f kl sl own some one out (inl clear) = clear
spot_out table frames room start end k f kl sl own some one out (inr (l, h)) =
    let t : ℕ = slice_index table (start / 512) in
    let u : ℕ = slice_index table (k / 512) in
    let same : u ≡ t = omega arith in
    absurd (either_out u k start end (omega arith) one (omega arith) (omega arith) out (f.apart (k / 512) (start / 512) kl sl same))

-- words of an entry's own frame that are cleared
cleared_each : (table frames : List ℕ) (room count start end k : ℕ) → count ≤ length table * 512 → IsFramed table frames room
    → 0 < slice_index table (start / 512) → start < end → end ≤ (start / 512 + 1) * 512 → end ≤ count → k < count → Stands start end k
    → get_or (cleared_between start end (shown table frames count)) k 0
    ≡ get_or (cleared_between (spot table start) (spot table start + (end - start)) frames) (spot table k) 0
cleared_each table frames room count start end k covers f own some one within m (inr (l, h)) =
    let whole : length (shown table frames count) ≡ count = shown_length table frames count in
    let sl : start / 512 < length table = omega arith in
    let inside : (slice_index table (start / 512) + 1) * 512 ≤ length frames = f.inside (start / 512) sl in
    let there : spot table k ≡ spot table start + (k - start) = spot_in table start end k one l h in
    cleared_in (shown table frames count) start end k (omega arith) l h
    ∙ sym (cleared_in frames (spot table start) (spot table start + (end - start)) (spot table k) (omega arith) (omega arith) (omega arith))
cleared_each table frames room count start end k covers f own some one within m (inl out) =
    let whole : length (shown table frames count) ≡ count = shown_length table frames count in
    let sl : start / 512 < length table = omega arith in
    let kl : k / 512 < length table = omega arith in
    let first : ℕ = spot table start in
    let inside : (slice_index table (start / 512) + 1) * 512 ≤ length frames = f.inside (start / 512) sl in
    cleared_not (shown table frames count) start end k (omega arith) (omega arith) out
    ∙ shown_at table frames count k m
    ∙ sym (cleared_not frames first (first + (end - start)) (spot table k) (omega arith) (omega arith)
    (spot_out table frames room start end k f kl sl own some one out (stands first (first + (end - start)) (spot table k))))

pub shown_cleared : (table frames : List ℕ) (room count start end : ℕ) → count ≤ length table * 512 → IsFramed table frames room
    → 0 < slice_index table (start / 512) → start < end → end ≤ (start / 512 + 1) * 512 → end ≤ count
    → shown table (cleared_between (spot table start) (spot table start + (end - start)) frames) count
    ≡ cleared_between start end (shown table frames count)
shown_cleared table frames room count start end covers f own some one within =
    let whole : length (shown table frames count) ≡ count = shown_length table frames count in
    let same = cleared_length (shown table frames count) start end (omega arith) (omega arith) in
    sym (shown_is table (cleared_between (spot table start) (spot table start + (end - start)) frames)
    (cleared_between start end (shown table frames count)) count (same ∙ whole)
    (λ k m. cleared_each table frames room count start end k covers f own some one within m (stands start end k)))

-- words that have frame 0 are 0 already
zero_each : (table frames : List ℕ) (room count start end k : ℕ) → count ≤ length table * 512 → IsFramed table frames room
    → slice_index table (start / 512) ≡ 0 → start < end → end ≤ (start / 512 + 1) * 512 → end ≤ count → k < count → Stands start end k
    → get_or (cleared_between start end (shown table frames count)) k 0 ≡ get_or frames (spot table k) 0
zero_each table frames room count start end k covers f none some one within m (inr (l, h)) =
    let whole : length (shown table frames count) ≡ count = shown_length table frames count in
    let there : spot table k ≡ spot table start + (k - start) = spot_in table start end k one l h in
    cleared_in (shown table frames count) start end k (omega arith) l h
    ∙ sym (f.zeros (spot table k) (omega arith))
zero_each table frames room count start end k covers f none some one within m (inl out) =
    let whole : length (shown table frames count) ≡ count = shown_length table frames count in
    cleared_not (shown table frames count) start end k (omega arith) (omega arith) out ∙ shown_at table frames count k m

pub shown_zero : (table frames : List ℕ) (room count start end : ℕ) → count ≤ length table * 512 → IsFramed table frames room
    → slice_index table (start / 512) ≡ 0 → start < end → end ≤ (start / 512 + 1) * 512 → end ≤ count
    → shown table frames count ≡ cleared_between start end (shown table frames count)
shown_zero table frames room count start end covers f none some one within =
    let whole : length (shown table frames count) ≡ count = shown_length table frames count in
    let same = cleared_length (shown table frames count) start end (omega arith) (omega arith) in
    sym (shown_is table frames (cleared_between start end (shown table frames count)) count (same ∙ whole)
    (λ k m. zero_each table frames room count start end k covers f none some one within m (stands start end k)))

-- a part that is cleared up to some word, and on from there
abbrev pub cleared_on : List ℕ → ℕ → ℕ → ℕ → Type 0
cleared_on ws start at stop = cleared_between at stop (cleared_between start at ws) ≡ cleared_between start stop ws

on_each : (ws : List ℕ) (start at stop k : ℕ) → start ≤ at → at ≤ stop → stop ≤ length ws → Stands start at k → Stands at stop k
    → get_or (cleared_between at stop (cleared_between start at ws)) k 0 ≡ get_or (cleared_between start stop ws) k 0
on_each ws start at stop k l m within a (inr (from, to)) =
    let same = cleared_length ws start at l (omega arith) in
    cleared_in (cleared_between start at ws) at stop k (omega arith) from to
    ∙ sym (cleared_in ws start stop k within (omega arith) to)
on_each ws start at stop k l m within (inr (from, to)) (inl out) =
    let same = cleared_length ws start at l (omega arith) in
    cleared_not (cleared_between start at ws) at stop k m (omega arith) out
    ∙ cleared_in ws start at k (omega arith) from to
    ∙ sym (cleared_in ws start stop k within from (omega arith))
on_each ws start at stop k l m within (inl (inl before)) (inl out) =
    let same = cleared_length ws start at l (omega arith) in
    cleared_not (cleared_between start at ws) at stop k m (omega arith) out
    ∙ cleared_before ws start at k l (omega arith) before
    ∙ sym (cleared_before ws start stop k (omega arith) within before)
on_each ws start at stop k l m within (inl (inr past)) (inl (inl below)) = absurd (omega arith)
on_each ws start at stop k l m within (inl (inr past)) (inl (inr out)) =
    let same = cleared_length ws start at l (omega arith) in
    cleared_after (cleared_between start at ws) at stop k m (omega arith) out
    ∙ cleared_after ws start at k l (omega arith) past
    ∙ sym (cleared_after ws start stop k (omega arith) within out)

pub cleared_further : (ws : List ℕ) (start at stop : ℕ) → start ≤ at → at ≤ stop → stop ≤ length ws → cleared_on ws start at stop
cleared_further ws start at stop l m within =
    let first = cleared_length ws start at l (omega arith) in
    let next = cleared_length (cleared_between start at ws) at stop m (omega arith) in
    let all = cleared_length ws start stop (omega arith) within in
    ext_get_or 0 (cleared_between at stop (cleared_between start at ws)) (cleared_between start stop ws) (omega arith)
    (λ k h. on_each ws start at stop k l m within (stands start at k) (stands at stop k))

pub cleared_none : (ws : List ℕ) (start : ℕ) → start ≤ length ws → cleared_between start start ws ≡ ws
cleared_none ws start l =
    let same = cleared_length ws start start (omega arith) l in
    ext_get_or 0 (cleared_between start start ws) ws same (λ k h. cleared_not ws start start k (omega arith) l (cases_lt k start))

-- A new frame

pub own_most : (table : List ℕ) → own_frames table ≤ length table
own_most [] = omega arith
own_most (frame ∷ table) = let rest = own_most table in grind (arith, nat_tests)

pub own_set : (table : List ℕ) (entry frame : ℕ) → entry < length table → slice_index table entry ≡ 0 → 0 < frame
    → own_frames (set table entry frame) ≡ own_frames table + 1
own_set [] entry frame l none own = absurd (omega arith)
own_set (first ∷ table) zero frame l none own = grind (arith, nat_tests)
own_set (first ∷ table) (suc entry) frame l none own =
    let rest : own_frames (set table entry frame) ≡ own_frames table + 1 = own_set table entry frame (omega arith) none own in
    grind (arith, nat_tests)

-- the table with a new frame for one entry, at any entry
frame_at : (table : List ℕ) (entry frame e : ℕ) → entry < length table
    → ((e ≡ entry) × (slice_index (set table entry frame) e ≡ frame)) ⊎ ((e ≡ entry → ⊥) × (slice_index (set table entry frame) e ≡ slice_index table e))
frame_at table entry frame e l = go (cases_eq e entry) where
  go : (e ≡ entry) ⊎ (e ≡ entry → ⊥)
      → ((e ≡ entry) × (slice_index (set table entry frame) e ≡ frame)) ⊎ ((e ≡ entry → ⊥) × (slice_index (set table entry frame) e ≡ slice_index table e))
  go (inl same) = inl (same, ap (λ i. slice_index (set table entry frame) i) same ∙ get_or-set_same table entry frame 0 l)
  go (inr other) = inr (other, get_or-set_other table entry e frame 0 other)

abbrev FrameAt : List ℕ → ℕ → ℕ → ℕ → Type 0
FrameAt table entry frame e =
    ((e ≡ entry) × (slice_index (set table entry frame) e ≡ frame)) ⊎ ((e ≡ entry → ⊥) × (slice_index (set table entry frame) e ≡ slice_index table e))

new_inside : (table : List ℕ) (entry frame len e : ℕ) → len ≡ frame * 512 → FrameAt table entry frame e
    → (slice_index table e + 1) * 512 ≤ len → (slice_index (set table entry frame) e + 1) * 512 ≤ len + 512
new_inside table entry frame len e is_len (inl (same, is)) before = omega arith
new_inside table entry frame len e is_len (inr (other, is)) before = omega arith

new_apart : (table : List ℕ) (entry frame len e g : ℕ) → len ≡ frame * 512 → FrameAt table entry frame e → FrameAt table entry frame g
    → (slice_index table e + 1) * 512 ≤ len → (slice_index table g + 1) * 512 ≤ len
    → (slice_index table e ≡ slice_index table g → (slice_index table e ≡ 0) ⊎ (e ≡ g))
    → slice_index (set table entry frame) e ≡ slice_index (set table entry frame) g
    → (slice_index (set table entry frame) e ≡ 0) ⊎ (e ≡ g)
new_apart table entry frame len e g is_len (inl (same, is)) (inl (same', is')) inside inside' apart one = inr (omega arith)
new_apart table entry frame len e g is_len (inl (same, is)) (inr (other', is')) inside inside' apart one = absurd (omega arith)
new_apart table entry frame len e g is_len (inr (other, is)) (inl (same', is')) inside inside' apart one = absurd (omega arith)
new_apart table entry frame len e g is_len (inr (other, is)) (inr (other', is')) inside inside' apart one =
    subst (λ n. (n ≡ 0) ⊎ (e ≡ g)) (sym is) (apart (sym is ∙ one ∙ is'))

pub framed_new : (table frames : List ℕ) (room more entry len : ℕ) → len ≡ length frames → room ≤ more → entry < length table
    → slice_index table entry ≡ 0 → IsFramed table frames room → IsFramed (set table entry (len / 512)) (frames ++ replicate 512 0) more
framed_new table frames room more entry len is_len larger l none f =
    let counted : length frames ≡ (own_frames table + 1) * 512 = f.counted in
    let fits : (length table + 1) * 512 ≤ room = f.fits in
    let frame : ℕ = len / 512 in
    let whole : len ≡ frame * 512 = omega arith in
    let some : 0 < frame = omega arith in
    let entries : length (set table entry frame) ≡ length table = length-set table entry frame in
    let zeros : length (replicate {A = ℕ} 512 0) ≡ 512 = zeros_length 512 in
    let sum : length (frames ++ replicate 512 0) ≡ length frames + length (replicate {A = ℕ} 512 0) = length-append frames (replicate 512 0) in
    let own : own_frames (set table entry frame) ≡ own_frames table + 1 = own_set table entry frame l none some in
    record {
      zeros = λ i h. get_or_append_left frames (replicate 512 0) 0 i (omega arith) ∙ f.zeros i h;
      inside = λ e h. subst (λ n. (slice_index (set table entry frame) e + 1) * 512 ≤ n) (omega arith)
          (new_inside table entry frame len e whole (frame_at table entry frame e l) (subst (λ n. (slice_index table e + 1) * 512 ≤ n) (sym is_len) (f.inside e (omega arith))));
      apart = λ e g h i one. new_apart table entry frame len e g whole (frame_at table entry frame e l) (frame_at table entry frame g l)
          (subst (λ n. (slice_index table e + 1) * 512 ≤ n) (sym is_len) (f.inside e (omega arith)))
          (subst (λ n. (slice_index table g + 1) * 512 ≤ n) (sym is_len) (f.inside g (omega arith)))
          (f.apart e g (omega arith) (omega arith)) one;
      counted = omega arith;
      fits = omega arith;
    }

pub room_left : (table frames : List ℕ) (room entry : ℕ) → IsFramed table frames room → entry < length table → slice_index table entry ≡ 0
    → length frames + 512 ≤ room
room_left table frames room entry f l none =
    let counted : length frames ≡ (own_frames table + 1) * 512 = f.counted in
    let fits : (length table + 1) * 512 ≤ room = f.fits in
    let more : own_frames (set table entry 1) ≡ own_frames table + 1 = own_set table entry 1 l none (omega arith) in
    let most : own_frames (set table entry 1) ≤ length (set table entry 1) = own_most (set table entry 1) in
    let entries : length (set table entry 1) ≡ length table = length-set table entry 1 in omega arith

-- no word changes
new_word : (table frames : List ℕ) (room entry len k : ℕ) → len ≡ length frames → slice_index table entry ≡ 0 → IsFramed table frames room
    → k / 512 < length table → FrameAt table entry (len / 512) (k / 512)
    → word_in (set table entry (len / 512)) (frames ++ replicate 512 0) k ≡ word_in table frames k
new_word table frames room entry len k is_len none f l (inl (same, is)) =
    let counted : length frames ≡ (own_frames table + 1) * 512 = f.counted in
    let there : spot (set table entry (len / 512)) k ≡ length frames + k % 512 = omega arith in
    let zero : slice_index table (k / 512) ≡ 0 = ap (slice_index table) same ∙ none in
    let before : spot table k ≡ k % 512 = omega arith in
    ap (λ i. slice_index (frames ++ replicate 512 0) i) there
    ∙ get_or-append_right frames (replicate 512 0) (length frames) (length frames + k % 512) 0 refl (omega arith)
    ∙ zero_at 512 (length frames + k % 512 - length frames)
    ∙ sym (f.zeros (k % 512) (omega arith))
    ∙ ap (λ i. slice_index frames i) (sym before)
new_word table frames room entry len k is_len none f l (inr (other, is)) =
    let within : spot table k < length frames = spot_within table frames room k f l in
    ap (λ n. slice_index (frames ++ replicate 512 0) (n * 512 + k % 512)) is
    ∙ get_or_append_left frames (replicate 512 0) 0 (spot table k) within

pub words_new : (table frames : List ℕ) (room entry len k : ℕ) → len ≡ length frames → entry < length table → slice_index table entry ≡ 0
    → IsFramed table frames room → k / 512 < length table
    → word_in (set table entry (len / 512)) (frames ++ replicate 512 0) k ≡ word_in table frames k
words_new table frames room entry len k is_len e none f l = new_word table frames room entry len k is_len none f l (frame_at table entry (len / 512) (k / 512) e)

pub framed_set : (table frames : List ℕ) (room at value : ℕ) → IsFramed table frames room → at / 512 < length table
    → 0 < slice_index table (at / 512) → IsFramed table (set frames (spot table at) value) room
framed_set table frames room at value f l own =
    let same : length (set frames (spot table at) value) ≡ length frames = length-set frames (spot table at) value in
    record {
      zeros = λ i h. get_or-set_other frames (spot table at) i value 0 (λ e. omega arith) ∙ f.zeros i h;
      inside = λ e h. subst (λ n. (slice_index table e + 1) * 512 ≤ n) (sym same) (f.inside e h);
      apart = f.apart;
      counted = same ∙ f.counted;
      fits = f.fits;
    }

pub framed_cleared : (table frames : List ℕ) (room start end : ℕ) → IsFramed table frames room → 512 ≤ start → start ≤ end → end ≤ length frames
    → IsFramed table (cleared_between start end frames) room
framed_cleared table frames room start end f own l m =
    let same : length (cleared_between start end frames) ≡ length frames = cleared_length frames start end l m in
    record {
      zeros = λ i h. cleared_before frames start end i l m (omega arith) ∙ f.zeros i h;
      inside = λ e h. subst (λ n. (slice_index table e + 1) * 512 ≤ n) (sym same) (f.inside e h);
      apart = f.apart;
      counted = same ∙ f.counted;
      fits = f.fits;
    }

-- The first words

own_none : (n : ℕ) → own_frames (replicate n 0) ≡ 0
own_none zero = refl
own_none (suc n) = let rest : own_frames (replicate n 0) ≡ 0 = own_none n in omega arith

pub framed_first : (n room : ℕ) → (n + 1) * 512 ≤ room → IsFramed (replicate n 0) (replicate 512 0) room
framed_first n room l =
    let entries : length (replicate {A = ℕ} n 0) ≡ n = zeros_length n in
    let words : length (replicate {A = ℕ} 512 0) ≡ 512 = zeros_length 512 in
    let none : own_frames (replicate n 0) ≡ 0 = own_none n in
    record {
      zeros = λ i h. zero_at 512 i;
      inside = λ e h. subst (λ k. (k + 1) * 512 ≤ length (replicate {A = ℕ} 512 0)) (sym (zero_at n e)) (omega arith);
      apart = λ e g h i one. inl (zero_at n e);
      counted = omega arith;
      fits = omega arith;
    }

pub shown_first : (n count : ℕ) → shown (replicate n 0) (replicate 512 0) count ≡ replicate count 0
shown_first n count = sym (shown_is (replicate n 0) (replicate 512 0) (replicate count 0) count (zeros_length count)
    (λ k l. zero_at count k ∙ sym (zero_at 512 (spot (replicate n 0) k))))

-- What words show

-- how many words are shown, and that each has an entry
pub count_is : (table frames ws : List ℕ) (count : ℕ) → shown table frames count ≡ ws → length ws ≡ count
count_is table frames ws count is = ap length (sym is) ∙ shown_length table frames count

pub entry_is : (table frames ws : List ℕ) (count at : ℕ) → shown table frames count ≡ ws → count ≤ length table * 512 → at < length ws
    → at / 512 < length table
entry_is table frames ws count at is covers l =
    let whole : length ws ≡ count = count_is table frames ws count is in omega arith

-- an entry that was read, and is not 0
pub is_own : (table : List ℕ) (entry frame : ℕ) → entry < length table → frame ≡ get_or table entry frame → (frame ≡ 0 → ⊥)
    → 0 < slice_index table entry
is_own table entry frame l read some = positive (slice_index table entry) (λ none. some (get_or_read table entry frame l read 0 ∙ none)) where
  positive : (n : ℕ) → (n ≡ 0 → ⊥) → 0 < n
  positive zero none = absurd (none refl)
  positive (suc n) none = omega arith

pub is_none : (table : List ℕ) (entry frame : ℕ) → entry < length table → frame ≡ get_or table entry frame → frame ≡ 0
    → slice_index table entry ≡ 0
is_none table entry frame l read none = sym (get_or_read table entry frame l read 0) ∙ none

-- the words of a table whose entry got a frame, once one of them is set
pub shown_held : (table frames table' frames' : List ℕ) (count room at value : ℕ) → count ≤ length table * 512 → length table' ≡ length table
    → IsFramed table' frames' room → 0 < slice_index table' (at / 512) → at < count
    → ((k : ℕ) → k / 512 < length table → word_in table' frames' k ≡ word_in table frames k)
    → shown table' (set frames' (spot table' at) value) count ≡ set (shown table frames count) at value
shown_held table frames table' frames' count room at value covers entries f own l same =
    shown_set table' frames' room count at value (omega arith) f own l
    ∙ ap (λ ws. set ws at value) (shown_same table' frames' table frames count (λ k h. same k (omega arith)))
