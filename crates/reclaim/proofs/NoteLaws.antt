-- Notes in order: putting in, taking out, and the first that passes a test.
use Rattle.std.proofs.Common.{◌≡◌, ℕ, zero, suc, ◌+◌, ◌<◌, ◌||◌, Bool, true, false, not, List, [], ◌∷◌, length}
use Rattle.std.proofs.Common.{Some, None, Ok, Err}
use Rattle.std.proofs.Common.{refl, sym, ap, ◌∙◌, arith, get_or, set, add-one, take, drop, ◌++◌}
use Rattle.std.specs.Prelude.{if◌then◌else◌, map, find, insert}
use Rattle.std.specs.declared.cmp.Ordering.TheVariants.{Less, Equal, Greater}
use Rattle.std.specs.Ordering.{nat_cmp, is_lt, is_eq, ordering_reverse}
use Rattle.std.specs.Cmp.{IsTotalOrder}
use Rattle.std.proofs.lemmas.Cmp.{on_total, nat_cmp_total}
use Rattle.mem_base.specs.declared.map.ids.RegionId.{RegionId}
use Rattle.mem_base.specs.lists.Sorting.{put_by, place_of, place_at}
use Rattle.mem_base.proofs.PlaceLaws.{Rises, Rises-rising, rising-filter, insert-place_of, any-absent, one_later-ok}
use Rattle.mem_base.proofs.EntryLaws.{nat_is}
use Rattle.mem_base.proofs.EveryLaws.{weaker, every_map}
use Rattle.mem_base.specs.views.Naming.{names}
use Rattle.generation.specs.Published.{Published}
use Rattle.reclaim.specs.declared.notes.Note.{Note}
use Rattle.reclaim.specs.Notes.{note, by_region, note_order, is_of, is_noted, others, AreNotes, seen_in}
use Rattle.mem_base.proofs.ForestLaws.{every_put}

pub note_total : IsTotalOrder note_order
note_total = on_total (λ (n : Note). n.region.0) nat_cmp_total

pub rises_notes : (region : RegionId) (notes : List Note) → AreNotes notes → Rises (by_region region) notes
rises_notes region notes h = Rises-rising note_order note_total (record { region = region; last = None }) notes h

pub is_of-is : (region : RegionId) (n : Note) → is_of region n ≡ is_eq (by_region region n)
is_of-is region n = nat_is n.region.0 region.0

less_after : (n y : Note) → by_region n.region y ≡ Less → is_lt (note_order n y) ≡ false
less_after n y e = ap is_lt (note_total.antisymm n y ∙ ap ordering_reverse e)

greater_before : (n y : Note) → by_region n.region y ≡ Greater → is_lt (note_order n y) ≡ true
greater_before n y e = ap is_lt (note_total.antisymm n y ∙ ap ordering_reverse e)

-- a note put in where it would stand
pub put_in : (n : Note) (notes : List Note) (at : ℕ) → place_of (by_region n.region) notes ≡ Err at → insert notes at n ≡ put_by note_order n notes
put_in n notes at e = insert-place_of (by_region n.region) note_order n (less_after n) (greater_before n) notes at e

-- the note of a region stands where the search finds it
pub found_at : (region : RegionId) (notes : List Note) (i : ℕ) (d : Note) → place_of (by_region region) notes ≡ Ok i
    → find (is_of region) notes ≡ Some (get_or notes i d)
found_at region [] i d e = cc
found_at region (n ∷ ns) i d e =
    elim (by_region region n) as (λ q. by_region region n ≡ q → place_at q (place_of (by_region region) ns) ≡ Ok i
    → find (is_of region) (n ∷ ns) ≡ Some (get_or (n ∷ ns) i d)) [
      | Less ↦ λ q w.
          let next = one_later-ok (place_of (by_region region) ns) i w in
          let no : is_of region n ≡ false = is_of-is region n ∙ ap is_eq q in
          let at = next.2 in
          rw (at, no) (found_at region ns next.0 d next.1)
      | Equal ↦ λ q w.
          let z : i ≡ 0 = cc in
          let yes : is_of region n ≡ true = is_of-is region n ∙ ap is_eq q in
          rw (z, yes) refl
      | Greater ↦ λ q w. cc
    ] refl e

none_found : (region : RegionId) (notes : List Note) → is_noted region notes ≡ false → find (is_of region) notes ≡ None
none_found region [] e = refl
none_found region (n ∷ ns) e =
    elim (is_of region n) as (λ b. is_of region n ≡ b → (b || is_noted region ns) ≡ false → find (is_of region) (n ∷ ns) ≡ None) [
      | true ↦ λ is w. cc
      | false ↦ λ is w. let rest = none_found region ns w in rw is rest
    ] refl e

-- where no note of the region is there, none is found
pub not_found : (region : RegionId) (notes : List Note) (i : ℕ) → AreNotes notes → place_of (by_region region) notes ≡ Err i
    → find (is_of region) notes ≡ None
not_found region notes i h e =
    none_found region notes (any-absent (by_region region) (is_of region) (is_of-is region) notes i (rises_notes region notes h) e)

-- notes stay in order: with one more, without one, and after a generation was seen
rising_put : (n : Note) (notes : List Note) → is_noted n.region notes ≡ false → AreNotes notes → AreNotes (put_by note_order n notes)
rising_put n [] free h = (tt, tt)
rising_put n (y ∷ ys) free h =
    elim (note_order n y) as (λ q. note_order n y ≡ q → AreNotes (put_by note_order n (y ∷ ys))) [
      | Less ↦ λ t.
          let first : is_lt (note_order n y) ≡ true = ap is_lt t in
          rw first ((t, weaker (λ z. note_order y z ≡ Less) (λ z. note_order n z ≡ Less) (λ z w. note_total.trans n y z t w) ys h.0), h)
      | Equal ↦ λ t.
          let back : by_region n.region y ≡ Equal = note_total.antisymm y n ∙ ap ordering_reverse t in
          let yes : is_of n.region y ≡ true = is_of-is n.region y ∙ ap is_eq back in
          absurd (both_ways (is_of n.region y) (is_noted n.region ys) yes free)
      | Greater ↦ λ t.
          let later : is_lt (note_order n y) ≡ false = ap is_lt t in
          let back : note_order y n ≡ Less = note_total.antisymm y n ∙ ap ordering_reverse t in
          let less : is_noted n.region ys ≡ false = second (is_of n.region y) (is_noted n.region ys) free in
          rw later (every_put (λ z. note_order y z ≡ Less) note_order n ys back h.0, rising_put n ys less h.1)
    ] refl
  where
    both_ways : (a b : Bool) → a ≡ true → (a || b) ≡ false → ⊥
    both_ways true b e f = cc
    both_ways false b e f = cc

    second : (a b : Bool) → (a || b) ≡ false → b ≡ false
    second true b e = cc
    second false b e = e

pub notes-put : (n : Note) (notes : List Note) → is_noted n.region notes ≡ false → AreNotes notes → AreNotes (put_by note_order n notes)
notes-put n notes free h = rising_put n notes free h

pub notes-others : (region : RegionId) (notes : List Note) → AreNotes notes → AreNotes (others region notes)
notes-others region notes h = rising-filter note_order (λ n. not (is_of region n)) notes h

pub seen_region : (g : Published) (n : Note) → (seen_in g n).region ≡ n.region
seen_region g n = at (names g.forest n.region)
  where
    at : (b : Bool) → (if b then note n.region (Some g.number) else n).region ≡ n.region
    at true = refl
    at false = refl

seen_less : (g : Published) (x y : Note) → note_order x y ≡ Less → note_order (seen_in g x) (seen_in g y) ≡ Less
seen_less g x y e = cong_less (seen_region g x) (seen_region g y)
  where
    cong_less : (seen_in g x).region ≡ x.region → (seen_in g y).region ≡ y.region → note_order (seen_in g x) (seen_in g y) ≡ Less
    cong_less p q = ap (λ r. nat_cmp r.0 (seen_in g y).region.0) p ∙ ap (λ r. nat_cmp x.region.0 r.0) q ∙ e

pub notes-seen : (g : Published) (notes : List Note) → AreNotes notes → AreNotes (map (seen_in g) notes)
notes-seen g [] h = tt
notes-seen g (n ∷ ns) h = (
  every_map (λ z. note_order (seen_in g n) z ≡ Less) (seen_in g) ns
      (weaker (λ z. note_order n z ≡ Less) (λ z. note_order (seen_in g n) (seen_in g z) ≡ Less) (seen_less g n) ns h.0),
  notes-seen g ns h.1,
)

-- the first notes of a list changed
abbrev pub changed_before : (Note → Note) → ℕ → List Note → List Note
changed_before f zero ns = ns
changed_before f (suc i) [] = []
changed_before f (suc i) (n ∷ ns) = f n ∷ changed_before f i ns

pub changed_next : (f : Note → Note) (i : ℕ) (ns : List Note) (d : Note) → i < length ns →
    set (changed_before f i ns) i (f (get_or (changed_before f i ns) i d)) ≡ changed_before f (i + 1) ns
changed_next f i ns d l = go i ns l ∙ ap (λ k. changed_before f k ns) (sym (add-one i)) where
  go : (i : ℕ) (ns : List Note) → i < length ns → set (changed_before f i ns) i (f (get_or (changed_before f i ns) i d)) ≡ changed_before f (suc i) ns
  go i [] l = absurd (omega arith)
  go zero (n ∷ ns) l = refl
  go (suc i) (n ∷ ns) l = ap (λ l. f n ∷ l) (go i ns (omega arith))

-- a note that the change leaves as it is
pub unchanged_next : (f : Note → Note) (i : ℕ) (ns : List Note) (d : Note) → i < length ns →
    f (get_or (changed_before f i ns) i d) ≡ get_or (changed_before f i ns) i d → changed_before f i ns ≡ changed_before f (i + 1) ns
unchanged_next f i ns d l e = go i ns l e ∙ ap (λ k. changed_before f k ns) (sym (add-one i)) where
  go : (i : ℕ) (ns : List Note) → i < length ns →
      f (get_or (changed_before f i ns) i d) ≡ get_or (changed_before f i ns) i d → changed_before f i ns ≡ changed_before f (suc i) ns
  go i [] l e = absurd (omega arith)
  go zero (n ∷ ns) l e = ap (λ x. x ∷ ns) (sym e)
  go (suc i) (n ∷ ns) l e = ap (λ l. f n ∷ l) (go i ns (omega arith) e)

pub all_changed : (f : Note → Note) (ns : List Note) → changed_before f (length ns) ns ≡ map f ns
all_changed f [] = refl
all_changed f (n ∷ ns) = ap (λ l. f n ∷ l) (all_changed f ns)

module _ (g : Published) (xs ns : List Note) (i : ℕ) (d : Note) (so_far : xs ≡ changed_before (seen_in g) i ns) (within : i < length ns) where
  abbrev pub at_place : Note
  at_place = get_or xs i d

  read : get_or (changed_before (seen_in g) i ns) i d ≡ at_place
  read = ap (λ l. get_or l i d) (sym so_far)

  pub seen_next : names g.forest at_place.region ≡ true → set xs i (note at_place.region (Some g.number)) ≡ changed_before (seen_in g) (i + 1) ns
  seen_next e =
      ap (λ b. set xs i (if b then note at_place.region (Some g.number) else at_place)) (sym e)
      ∙ ap (λ l. set l i (seen_in g (get_or l i d))) so_far
      ∙ changed_next (seen_in g) i ns d within

  pub kept_next : names g.forest at_place.region ≡ false → xs ≡ changed_before (seen_in g) (i + 1) ns
  kept_next e =
      let stays : seen_in g at_place ≡ at_place = ap (λ b. if b then note at_place.region (Some g.number) else at_place) e in
      so_far ∙ unchanged_next (seen_in g) i ns d within (ap (seen_in g) read ∙ stays ∙ sym read)

-- all of a list written anew
pub written : (n : ℕ) (ys xs : List Note) → length ys ≡ length xs → n ≡ length xs → take n (ys ++ drop (length ys) xs) ≡ ys
written zero [] [] e f = refl
written zero [] (x ∷ xs) e f = absurd (omega (arith, e))
written zero (y ∷ ys) [] e f = absurd (omega (arith, e))
written zero (y ∷ ys) (x ∷ xs) e f = absurd (omega (arith, f))
written (suc n) [] [] e f = absurd (omega (arith, f))
written (suc n) [] (x ∷ xs) e f = absurd (omega (arith, e))
written (suc n) (y ∷ ys) [] e f = absurd (omega (arith, e))
written (suc n) (y ∷ ys) (x ∷ xs) e f =
    let same : length ys ≡ length xs = omega (arith, e) in
    let all : n ≡ length xs = omega (arith, f) in
    ap (λ l. y ∷ l) (written n ys xs same all)
