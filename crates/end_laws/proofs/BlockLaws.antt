-- The cells of a world that is at rest are the words of its places.
use Rattle.std.proofs.Common.{◌≡◌, ◌≢◌, ℕ, zero, suc, ◌+◌, ◌<◌, ◌≤◌, Bool, true, false, List, [], ◌∷◌, ◌++◌, length, map, take, drop}
use Rattle.std.proofs.Common.{refl, sym, ap, subst, ◌∙◌, arith, ne_eqb, eq-eqb, if◌then◌else◌, Option, Some, None}
use Rattle.std.specs.Prelude.{◌==◌}
use Rattle.std.proofs.lemmas.List.{get_or-take, get_or-drop, ext_get_or}
use Rattle.mem_base.specs.declared.map.ids.RegionId.{RegionId}
use Rattle.mem_base.specs.declared.access.cells.Place.{Place}
use Rattle.mem_base.specs.declared.access.cells.Cell.{Cell}
use Rattle.mem_base.specs.declared.access.cells.WordStep.{WordStep}
use Rattle.mem_base.specs.declared.machine.events.Event.{Event}
use Rattle.mem_base.specs.declared.machine.events.Event.TheVariants as events
use Rattle.mem_base.specs.lists.Every.{Every, EveryPair}
use Rattle.mem_base.specs.access.Places.{is_notifiers, notifiers_place}
use Rattle.mem_base.specs.access.EditionPlaces.{ArePlacesApart}
use Rattle.mem_base.specs.access.Cells.{Block, Touch, cells_in, blocks_after, words_after}
use Rattle.mem_base.specs.machine.Desk.{places_of}
use Rattle.mem_base.specs.machine.World.{World, opening, block_for, touch_at, touched_blocks, after_telling, number_in}
use Rattle.mem_base.specs.machine.History.{PureEntry, after_entry, after_entries}
use Rattle.mem_base.proofs.EveryLaws.{weaker}
use Rattle.history_laws.specs.BackedForests.{ShowsOwnPlaces}
use Rattle.mem_base.specs.access.PlaceCells.{words_at, blocks_at}
use Rattle.turn_laws.proofs.Backed.{waits}
use Rattle.turn_laws.proofs.Coupled.{Coupled, IsWhole}

-- the regions that have cells

abbrev pub regions_in : List Block → List RegionId
regions_in bs = map (λ b. b.region) bs

abbrev pub regions_at : List Place → List RegionId
regions_at ps = map (λ p. p.region) ps

made_regions : (bs : List Block) (ps : List Place) → regions_in (map (block_for bs) ps) ≡ regions_at ps
made_regions bs [] = refl
made_regions bs (p ∷ ps) = ap (λ (rs : List RegionId). p.region ∷ rs) (made_regions bs ps)

stepped_regions : (bs : List Block) (r : RegionId) (i : ℕ) (step : WordStep) → regions_in (blocks_after bs r i step) ≡ regions_in bs
stepped_regions [] r i step = refl
stepped_regions (b ∷ bs) r i step = go (b.region.0 == r.0) (stepped_regions bs r i step)
  where
    go : (t : Bool) → regions_in (blocks_after bs r i step) ≡ regions_in bs
        → regions_in (if t then (record b { words = words_after b.words i step }) ∷ bs else b ∷ blocks_after bs r i step) ≡ b.region ∷ regions_in bs
    go true rest = refl
    go false rest = ap (λ (rs : List RegionId). b.region ∷ rs) rest

touched_regions : (bs : List Block) (o : Option RegionId) (t : Option Touch) → regions_in (touched_blocks bs o t) ≡ regions_in bs
touched_regions bs (Some r) (Some t) = stepped_regions bs r t.word t.step
touched_regions bs (Some r) None = refl
touched_regions bs None (Some t) = refl
touched_regions bs None None = refl

-- they are those of the places
abbrev pub HasItsCells : World → Type 0
HasItsCells w = regions_in w.blocks ≡ regions_at (places_of w.writer.desk)

cells_telling : (w : World) (e : Event) (n : ℕ) → HasItsCells w → HasItsCells (after_telling w e n)
cells_telling w (events.Word h c step) n k = touched_regions w.blocks (Some c.region) (touch_at w (events.Word h c step) (Some c.region)) ∙ k
cells_telling w (events.Mark v r client page) n k = touched_regions w.blocks (Some r) (touch_at w (events.Mark v r client page) (Some r)) ∙ k
cells_telling w (events.Harvest r client index) n k = touched_regions w.blocks (Some r) (touch_at w (events.Harvest r client index) (Some r)) ∙ k
cells_telling w (events.Fill c) n k = touched_regions w.blocks (Some c.region) (touch_at w (events.Fill c) (Some c.region)) ∙ k
cells_telling w (events.Config c) n k = made_regions w.blocks (places_of (after_telling w (events.Config c) n).writer.desk)
cells_telling w events.Reap n k = made_regions w.blocks (places_of (after_telling w events.Reap n).writer.desk)
cells_telling w _ n k = k

cells_from : (xs : List PureEntry) (w : World) → HasItsCells w → HasItsCells (after_entries w xs)
cells_from [] w k = k
cells_from (x ∷ xs) w k = cells_from xs (after_entry w x) (cells_telling w x.event (number_in x.reply) k)

pub its_cells : (pool_words passes : ℕ) (xs : List PureEntry) → HasItsCells (after_entries (opening pool_words passes) xs)
its_cells pool_words passes xs = cells_from xs (opening pool_words passes) (made_regions [] (places_of (opening pool_words passes).writer.desk))

-- places of different regions

abbrev AreOfOthers : Place → Place → Type 0
AreOfOthers p q = p.region.0 ≢ q.region.0

every_pair_push : (R : Place → Place → Type 0) (ps : List Place) (q : Place) → EveryPair R ps → Every (λ p. R p q) ps → EveryPair R (ps ++ q ∷ [])
every_pair_push R [] q k h = (tt, tt)
every_pair_push R (p ∷ ps) q k h = (push ps k.0, every_pair_push R ps q k.1 h.1)
  where
    push : (qs : List Place) → Every (R p) qs → Every (R p) (qs ++ q ∷ [])
    push [] m = (h.0, tt)
    push (x ∷ xs) m = (m.0, push xs m.1)

pair_weaker : (R S : Place → Place → Type 0) → ((p q : Place) → R p q → S p q) → (ps : List Place) → EveryPair R ps → EveryPair S ps
pair_weaker R S g [] k = tt
pair_weaker R S g (p ∷ ps) k = (weaker (R p) (S p) (g p) ps k.0, pair_weaker R S g ps k.1)

pub of_others : (pool_words : ℕ) (w : World) → ShowsOwnPlaces pool_words w.writer → EveryPair AreOfOthers (places_of w.writer.desk)
of_others pool_words w k =
    every_pair_push AreOfOthers w.writer.desk.places (notifiers_place w.writer.desk.pool_words)
    (pair_weaker ArePlacesApart AreOfOthers (λ p q a. a.0) w.writer.desk.places k.backs.apart)
    (weaker _ (λ p. AreOfOthers p (notifiers_place w.writer.desk.pool_words)) (λ p i. not_last p i.0) w.writer.desk.places k.backs.inside)
  where
    not_last : (p : Place) → is_notifiers p.region ≡ false → p.region.0 ≢ 4294967295
    not_last p i e = absurd (grind (arith, i, e, eq-eqb p.region.0 4294967295 e))

-- the words of a place

length_part : (xs : List ℕ) (n at : ℕ) → at + n ≤ length xs → length (take n (drop at xs)) ≡ n
length_part xs zero zero l = take_none xs
  where
    take_none : (xs : List ℕ) → length (take 0 xs) ≡ 0
    take_none [] = refl
    take_none (x ∷ xs) = refl
length_part [] n at l = absurd (omega arith)
length_part (x ∷ xs) (suc n) zero l = ap suc (length_part xs n 0 (omega arith))
length_part (x ∷ xs) n (suc at) l = length_part xs n at (omega arith)

module _ (w : World) (words : List ℕ) (k : Coupled w words) (none : w.writer.desk.unfilled ≡ []) where
  cells_of : (p : Place) → IsWhole (places_of w.writer.desk) p → cells_in w.blocks p.region ≡ words_at words p
  cells_of p h =
      let long = k.backed.long p.region p h.stands in
      let inside = k.backed.inside p.region p h.stands in
      let part : length (words_at words p) ≡ p.words = length_part words p.words p.start inside in
      ext_get_or 0 (cells_in w.blocks p.region) (words_at words p) (long ∙ sym part)
      (λ i l. let near : i < p.words = subst (λ (n : ℕ). i < n) long l in
      k.backed.same p.region p i h.stands near (ap (λ (cs : List Cell). waits cs p.region i) none)
      ∙ sym (get_or-take p.words (drop p.start words) i 0 near ∙ get_or-drop p.start words i 0))

blocks_are : (ws : List ℕ) (bs : List Block) (ps : List Place) → regions_in bs ≡ regions_at ps → EveryPair AreOfOthers ps
    → Every (λ p. cells_in bs p.region ≡ words_at ws p) ps → bs ≡ blocks_at ws ps
blocks_are ws [] [] e a h = refl
blocks_are ws [] (p ∷ ps) e a h = absurd (omega (arith, ap (λ (rs : List RegionId). length rs) e))
blocks_are ws (b ∷ bs) [] e a h = absurd (omega (arith, ap (λ (rs : List RegionId). length rs) e))
blocks_are ws (b ∷ bs) (p ∷ ps) e a h =
    let here : b.region ≡ p.region = ap (λ (rs : List RegionId). first rs) e in
    let number : b.region.0 ≡ p.region.0 = ap (λ (r : RegionId). r.0) here in
    let its : b.words ≡ words_at ws p =
    sym (ap (λ (t : Bool). if t then b.words else cells_in bs p.region) (eq-eqb b.region.0 p.region.0 number)) ∙ h.0 in
    let rest : Every (λ q. cells_in bs q.region ≡ words_at ws q) ps =
    both_weaker (AreOfOthers p) (λ q. cells_in (b ∷ bs) q.region ≡ words_at ws q) (λ q. cells_in bs q.region ≡ words_at ws q)
    (λ q ne is. sym (ap (λ (t : Bool). if t then b.words else cells_in bs q.region)
    (ne_eqb b.region.0 q.region.0 (λ z. ne (sym number ∙ z)))) ∙ is) ps a.0 h.1 in
    (λ i. (record { region = here i; words = its i }) ∷ blocks_are ws bs ps (ap (λ (rs : List RegionId). drop 1 rs) e) a.1 rest i)
  where
    first : List RegionId → RegionId
    first [] = p.region
    first (r ∷ rs) = r

    both_weaker : (P Q S : Place → Type 0) → ((q : Place) → P q → Q q → S q) → (qs : List Place) → Every P qs → Every Q qs → Every S qs
    both_weaker P Q S g [] x y = tt
    both_weaker P Q S g (q ∷ qs) x y = (g q x.0 y.0, both_weaker P Q S g qs x.1 y.1)

pub cells_are : (pool_words : ℕ) (w : World) (words : List ℕ) → Coupled w words → w.writer.desk.unfilled ≡ [] → HasItsCells w
    → ShowsOwnPlaces pool_words w.writer → w.blocks ≡ blocks_at words (places_of w.writer.desk)
cells_are pool_words w words k none cells shown =
    blocks_are words w.blocks (places_of w.writer.desk) cells (of_others pool_words w shown)
    (weaker (IsWhole (places_of w.writer.desk)) (λ p. cells_in w.blocks p.region ≡ words_at words p) (cells_of w words k none)
    (places_of w.writer.desk) k.whole)
