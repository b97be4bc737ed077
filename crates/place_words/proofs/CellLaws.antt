-- Laws of words seen as the cells of places.
use Rattle.std.proofs.Common.{◌≡◌, ◌≢◌, ◌⊎◌, inl, inr, ℕ, ◌+◌, ◌-◌, ◌<◌, ◌≤◌, Bool, true, false, List, [], ◌∷◌, ◌++◌, length}
use Rattle.std.proofs.Common.{filter, get_or, set, take, drop, Some, refl, sym, ap, ◌∙◌, subst, ne_eqb, eq-eqb, arith}
use Rattle.std.specs.Prelude.{◌==◌, if◌then◌else◌, replicate}
use Rattle.std.proofs.lemmas.List.{drop-set-lt, drop-set-add, take-set-le, get_or-take, get_or-drop, length-replicate}
use Rattle.std.proofs.Math.Seq.{take-set-lt}
use Rattle.mem_base.specs.declared.map.ids.RegionId.{RegionId}
use Rattle.mem_base.specs.declared.access.cells.Place.{Place}
use Rattle.mem_base.specs.declared.access.cells.WordStep.{WordStep}
use Rattle.mem_base.specs.lists.Every.{Every, EveryPair, HasElement}
use Rattle.mem_base.specs.access.PlacesByRegion.{place_in}
use Rattle.mem_base.specs.access.Places.{past}
use Rattle.mem_base.specs.access.Words.{word_after}
use Rattle.mem_base.specs.access.Cells.{has_block, cells_in, words_after, blocks_after}
use Rattle.mem_base.specs.access.EditionPlaces.{ArePlacesApart}
use Rattle.mem_base.specs.machine.World.{block_for}
use Rattle.mem_base.proofs.EveryLaws.{weaker, both, every_filter, every_split, every_append}
use Rattle.mem_base.specs.access.PlaceCells.{words_at, block_at, blocks_at}
use Rattle.place_words.specs.Blocks.{cleared}
use Rattle.place_words.specs.Laws.{StepsAreOnCells, NewPlacesAreCleared, PlacesKeepCells, FewerPlacesKeepCells, FirstCellsAreZero}
use Rattle.place_words.proofs.PartLaws.{part_before, part_after, put_before, put_after, put_itself, part_replicate}
use Rattle.mem_base.proofs.ListLaws.{map_same}

-- a word that is set outside of a place, and one that is set in it
set_elsewhere : (ws : List ℕ) (q : Place) (at v : ℕ) → (at < q.start) ⊎ (past q ≤ at) → words_at (set ws at v) q ≡ words_at ws q
set_elsewhere ws q at v (inl l) = ap (take q.words) (drop-set-lt q.start ws at v l)
set_elsewhere ws q at v (inr l) =
    let e : at ≡ q.start + (at - q.start) = omega arith in
    ap (λ i. take q.words (drop q.start (set ws i v))) e ∙ ap (take q.words) (drop-set-add q.start ws (at - q.start) v)
    ∙ take-set-le q.words (drop q.start ws) (at - q.start) v (omega arith)

set_inside : (ws : List ℕ) (p : Place) (word v : ℕ) → word < p.words → words_at (set ws (p.start + word) v) p ≡ set (words_at ws p) word v
set_inside ws p word v l = ap (take p.words) (drop-set-add p.start ws word v) ∙ take-set-lt p.words (drop p.start ws) word v l

get_inside : (ws : List ℕ) (p : Place) (word : ℕ) → word < p.words → get_or (words_at ws p) word 0 ≡ get_or ws (p.start + word) 0
get_inside ws p word l = get_or-take p.words (drop p.start ws) word 0 l ∙ get_or-drop p.start ws word 0

after_inside : (ws : List ℕ) (p : Place) (word : ℕ) (step : WordStep) → word < p.words
    → words_at (words_after ws (p.start + word) step) p ≡ words_after (words_at ws p) word step
after_inside ws p word step l =
    set_inside ws p word (word_after step (get_or ws (p.start + word) 0)) l
    ∙ ap (λ v. set (words_at ws p) word (word_after step v)) (sym (get_inside ws p word l))

-- a word of a place lies in no place that is apart from it
lies_apart : (p q : Place) (word : ℕ) → word < p.words → (past p ≤ q.start) ⊎ (past q ≤ p.start) → (p.start + word < q.start) ⊎ (past q ≤ p.start + word)
lies_apart p q word l (inl m) = inl (omega arith)
lies_apart p q word l (inr m) = inr (omega arith)

turned : {A B : Type 0} → A ⊎ B → B ⊎ A
turned (inl a) = inr a
turned (inr b) = inl b

others_stay : (ws : List ℕ) (p : Place) (word v : ℕ) → word < p.words → (qs : List Place) → Every (ArePlacesApart p) qs
    → blocks_at (set ws (p.start + word) v) qs ≡ blocks_at ws qs
others_stay ws p word v l [] a = refl
others_stay ws p word v l (q ∷ qs) a =
    ap (λ x. record { region = q.region; words = x } ∷ blocks_at (set ws (p.start + word) v) qs)
    (set_elsewhere ws q (p.start + word) v (lies_apart p q word l a.0.1))
    ∙ ap (λ bs. block_at ws q ∷ bs) (others_stay ws p word v l qs a.1)

-- what holds of each place holds of the one of a region
of_region : (P : Place → Type 0) (region : RegionId) (p : Place) (qs : List Place) → Every P qs → place_in qs region ≡ Some p → P p
of_region P region p [] h e = absurd cc
of_region P region p (q ∷ qs) h e = by (q.region.0 == region.0) e (λ k. of_region P region p qs h.1 k) where
  by : (b : Bool) → (if b then Some q else place_in qs region) ≡ Some p → (place_in qs region ≡ Some p → P p) → P p
  by true e rest = let same : q ≡ p = cc in subst P same h.0
  by false e rest = rest e

abbrev StepIsOn : List ℕ → RegionId → ℕ → WordStep → List Place → Place → Type 0
StepIsOn ws region word step places p = (get_or (cells_in (blocks_at ws places) region) word 0 ≡ get_or ws (p.start + word) 0)
    × (blocks_at (words_after ws (p.start + word) step) places ≡ blocks_after (blocks_at ws places) region word step)

-- a step on a cell of the first of some places, and on one of those after it
abbrev IsOnCell : List ℕ → RegionId → ℕ → WordStep → List Place → Place → Bool → Type 0
IsOnCell ws region word step [] p b = Unit {0}
IsOnCell ws region word step (q ∷ qs) p b =
    (get_or (if b then words_at ws q else cells_in (blocks_at ws qs) region) word 0 ≡ get_or ws (p.start + word) 0)
    × (blocks_at (words_after ws (p.start + word) step) (q ∷ qs)
    ≡ (if b then (record (block_at ws q) { words = words_after (words_at ws q) word step }) ∷ blocks_at ws qs
    else block_at ws q ∷ blocks_after (blocks_at ws qs) region word step))

on_first : (ws : List ℕ) (region : RegionId) (word : ℕ) (step : WordStep) (q : Place) (qs : List Place) → Every (ArePlacesApart q) qs → word < q.words
    → IsOnCell ws region word step (q ∷ qs) q true
on_first ws region word step q qs a l = (
  get_inside ws q word l,
  ap (λ x. record { region = q.region; words = x } ∷ blocks_at (words_after ws (q.start + word) step) qs) (after_inside ws q word step l)
      ∙ ap (λ bs. record { region = q.region; words = words_after (words_at ws q) word step } ∷ bs)
      (others_stay ws q word (word_after step (get_or ws (q.start + word) 0)) l qs a),
)

steps_from : (ws : List ℕ) (region : RegionId) (p : Place) (word : ℕ) (step : WordStep) → word < p.words → (places : List Place)
    → EveryPair ArePlacesApart places → place_in places region ≡ Some p → StepIsOn ws region word step places p
steps_from ws region p word step l [] a e = absurd cc
steps_from ws region p word step l (q ∷ qs) a e = by (q.region.0 == region.0) e (λ k. steps_from ws region p word step l qs a.1 k) where
  by : (b : Bool) → (if b then Some q else place_in qs region) ≡ Some p → (place_in qs region ≡ Some p → StepIsOn ws region word step qs p)
      → IsOnCell ws region word step (q ∷ qs) p b
  by true e from =
      let same : q ≡ p = cc in
      subst (λ z. word < z.words → IsOnCell ws region word step (q ∷ qs) z true) same (on_first ws region word step q qs a.0) l
  by false e from =
      let rest = from e in
      let apart : ArePlacesApart q p = of_region (ArePlacesApart q) region p qs a.0 e in
      let v : ℕ = word_after step (get_or ws (p.start + word) 0) in (
        rest.0,
        ap (λ x. record { region = q.region; words = x } ∷ blocks_at (set ws (p.start + word) v) qs)
            (set_elsewhere ws q (p.start + word) v (lies_apart p q word l (turned apart.1)))
            ∙ ap (λ bs. block_at ws q ∷ bs) rest.1,
      )

pub steps_on_cells : StepsAreOnCells
steps_on_cells ws places region p word step a e l = steps_from ws region p word step l places a e

-- the cells of the region of a place
cells_are : (ws : List ℕ) (region : RegionId) (p : Place) (places : List Place) → place_in places region ≡ Some p
    → (has_block (blocks_at ws places) region ≡ true) × (cells_in (blocks_at ws places) region ≡ words_at ws p)
cells_are ws region p [] e = absurd cc
cells_are ws region p (q ∷ qs) e = by (q.region.0 == region.0) e (λ k. cells_are ws region p qs k) where
  by : (b : Bool) → (if b then Some q else place_in qs region) ≡ Some p
      → (place_in qs region ≡ Some p → (has_block (blocks_at ws qs) region ≡ true) × (cells_in (blocks_at ws qs) region ≡ words_at ws p))
      → ((if b then true else has_block (blocks_at ws qs) region) ≡ true)
      × ((if b then words_at ws q else cells_in (blocks_at ws qs) region) ≡ words_at ws p)
  by true e rest = let same : q ≡ p = cc in (refl, ap (words_at ws) same)
  by false e rest = rest e

no_cells : (ws : List ℕ) (region : RegionId) (places : List Place) → Every (λ q. q.region.0 ≢ region.0) places
    → has_block (blocks_at ws places) region ≡ false
no_cells ws region [] h = refl
no_cells ws region (q ∷ qs) h = rw (ne_eqb q.region.0 region.0 h.0) (no_cells ws region qs h.1)

block_kept : (ws : List ℕ) (places : List Place) (p : Place) → place_in places p.region ≡ Some p → block_for (blocks_at ws places) p ≡ block_at ws p
block_kept ws places p e =
    let k = cells_are ws p.region p places e in
    ap (λ b. record { region = p.region; words = if b then cells_in (blocks_at ws places) p.region else replicate p.words 0 }) k.0
    ∙ ap (λ x. record { region = p.region; words = x }) k.1

has_every : (P : Place → Type 0) (p : Place) (qs : List Place) → Every P qs → HasElement qs p → P p
has_every P p [] h m = absurd m
has_every P p (q ∷ qs) h (inl e) = subst P e h.0
has_every P p (q ∷ qs) h (inr m) = has_every P p qs h.1 m

-- of places that are apart, each is the one of its region
place_itself : (places : List Place) (p : Place) → EveryPair ArePlacesApart places → HasElement places p → place_in places p.region ≡ Some p
place_itself [] p a m = absurd m
place_itself (q ∷ qs) p a (inl e) = by (q.region.0 == p.region.0) (eq-eqb q.region.0 p.region.0 (ap (λ (x : Place). x.region.0) e)) where
  by : (b : Bool) → b ≡ true → (if b then Some q else place_in qs p.region) ≡ Some p
  by true h = ap (λ (x : Place). Some x) e
  by false h = absurd (grind arith)
place_itself (q ∷ qs) p a (inr m) = rw (ne_eqb q.region.0 p.region.0 (has_every (ArePlacesApart q) p qs a.0 m).0) (place_itself qs p a.1 m)

pub places_keep : PlacesKeepCells
places_keep ws places kept a h =
    map_same (block_for (blocks_at ws places)) (block_at ws) kept
    (weaker (HasElement places) (λ p. block_for (blocks_at ws places) p ≡ block_at ws p)
    (λ p m. block_kept ws places p (place_itself places p a m)) kept h)

pub all_have : {A : Type 0} (xs : List A) → Every (HasElement xs) xs
all_have [] = tt
all_have (x ∷ xs) = (inl refl, weaker (HasElement xs) (HasElement (x ∷ xs)) (λ y m. inr m) xs (all_have xs))

pub fewer_keep : FewerPlacesKeepCells
fewer_keep ws stays places after a =
    let all = every_split (HasElement (places ++ after)) places after (all_have (places ++ after)) in
    places_keep ws (places ++ after) (filter stays places ++ after) a
    (every_append (HasElement (places ++ after)) (filter stays places) after (every_filter (HasElement (places ++ after)) stays places all.0) all.1)

-- a list without one of its elements
without_one : {A : Type 0} (P : A → Type 0) (xs ys : List A) (p : A) → Every P ((xs ++ p ∷ []) ++ ys) → P p × Every P (xs ++ ys)
without_one P [] ys p h = h
without_one P (x ∷ xs) ys p h = let r = without_one P xs ys p h.1 in (r.0, (h.0, r.1))

record ApartFrom (xs ys : List Place) (p : Place) : Type 0 where
  others : EveryPair ArePlacesApart (xs ++ ys)
  before : Every (λ q. ArePlacesApart q p) xs
  after : Every (ArePlacesApart p) ys

apart_from : (xs ys : List Place) (p : Place) → EveryPair ArePlacesApart ((xs ++ p ∷ []) ++ ys) → ApartFrom xs ys p
apart_from [] ys p a = record { others = a.1; before = tt; after = a.0 }
apart_from (x ∷ xs) ys p a =
    let first = without_one (ArePlacesApart x) xs ys p a.0 in
    let rest = apart_from xs ys p a.1 in
    record { others = (first.1, rest.others); before = (first.0, rest.before); after = rest.after }

cleared_elsewhere : (ws : List ℕ) (p q : Place) → past p ≤ length ws → (past q ≤ p.start) ⊎ (past p ≤ q.start) → words_at (cleared ws p) q ≡ words_at ws q
cleared_elsewhere ws p q l (inl m) =
    part_before p.start q.start q.words (cleared ws p) ws
    (put_before ws (replicate p.words 0) p.start (past p) l (ap (λ n. p.start + n) (length-replicate p.words 0))) m
cleared_elsewhere ws p q l (inr m) =
    part_after (past p) q.start q.words (cleared ws p) ws
    (put_after ws (replicate p.words 0) p.start (past p) l (ap (λ n. p.start + n) (length-replicate p.words 0))) m

cleared_itself : (ws : List ℕ) (p : Place) → past p ≤ length ws → words_at (cleared ws p) p ≡ replicate p.words 0
cleared_itself ws p l =
    ap (λ n. take n (drop p.start (cleared ws p))) (sym (length-replicate p.words 0))
    ∙ put_itself ws (replicate p.words 0) p.start (past p) l (ap (λ n. p.start + n) (length-replicate p.words 0))

pub new_cleared : NewPlacesAreCleared
new_cleared ws before after p within a =
    let old = before ++ after in
    let from = apart_from before after p a in
    let room : past p ≤ length ws = (without_one (λ q. past q ≤ length ws) before after p within).0 in
    let found : Every (λ q. place_in old q.region ≡ Some q) old =
    weaker (HasElement old) (λ q. place_in old q.region ≡ Some q) (λ q m. place_itself old q from.others m) old (all_have old) in
    let parts = every_split (λ q. place_in old q.region ≡ Some q) before after found in
    let same : Place → Type 0 = λ q. block_for (blocks_at ws old) q ≡ block_at (cleared ws p) q in
    let stays : (q : Place) → place_in old q.region ≡ Some q → (past q ≤ p.start) ⊎ (past p ≤ q.start) → same q =
    λ q e m. block_kept ws old q e ∙ ap (λ x. record { region = q.region; words = x }) (sym (cleared_elsewhere ws p q room m)) in
    let strange : Every (λ q. q.region.0 ≢ p.region.0) old =
    every_append (λ q. q.region.0 ≢ p.region.0) before after
    (weaker (λ q. ArePlacesApart q p) (λ q. q.region.0 ≢ p.region.0) (λ q k. k.0) before from.before)
    (weaker (ArePlacesApart p) (λ q. q.region.0 ≢ p.region.0) (λ q k e. k.0 (sym e)) after from.after) in
    let new : same p =
    ap (λ b. record { region = p.region; words = if b then cells_in (blocks_at ws old) p.region else replicate p.words 0 }) (no_cells ws p.region old strange)
    ∙ ap (λ x. record { region = p.region; words = x }) (sym (cleared_itself ws p room)) in
    map_same (block_for (blocks_at ws old)) (block_at (cleared ws p)) ((before ++ p ∷ []) ++ after)
    (every_append same (before ++ p ∷ []) after
    (every_append same before (p ∷ [])
    (weaker (λ q. (place_in old q.region ≡ Some q) × ArePlacesApart q p) same (λ q k. stays q k.0 k.1.1) before
    (both (λ q. place_in old q.region ≡ Some q) (λ q. ArePlacesApart q p) before parts.0 from.before))
    (new, tt))
    (weaker (λ q. (place_in old q.region ≡ Some q) × ArePlacesApart p q) same (λ q k. stays q k.0 (turned k.1.1)) after
    (both (λ q. place_in old q.region ≡ Some q) (ArePlacesApart p) after parts.1 from.after)))

pub first_zero : FirstCellsAreZero
first_zero count places within =
    map_same (block_for []) (block_at (replicate count 0)) places
    (weaker (λ p. past p ≤ count) (λ p. block_for [] p ≡ block_at (replicate count 0) p)
    (λ p l. ap (λ x. record { region = p.region; words = x }) (sym (part_replicate p.start p.words count 0 l))) places within)
