-- What the calls of a ledger leave of it.
use Rattle.std.proofs.Common.{◌≡◌, ℕ, ◌+◌, ◌-◌, ◌<◌, ◌≤◌, ◌==◌, ◌||◌, Bool, true, false, not, cond, List, [], ◌∷◌, length, map, filter, Some, None, Option}
use Rattle.std.proofs.Common.{refl, sym, ap, subst, ◌∙◌, arith}
use Rattle.std.specs.Prelude.{if◌then◌else◌, find, min, option_and_then}
use Rattle.std.specs.Ordering.{is_lt}
use Rattle.std.proofs.Math.Nat.{min-le_left, min-le_right, le-min}
use Rattle.std.proofs.lemmas.Bool.Decides.{nat_tests}
use Rattle.mem_base.specs.declared.map.ids.RegionId.{RegionId}
use Rattle.mem_base.specs.lists.Every.{Every}
use Rattle.mem_base.specs.lists.Sorting.{put_by}
use Rattle.mem_base.proofs.EveryLaws.{weaker, every_map}
use Rattle.generation.specs.Published.{Published}
use Rattle.reclaim.specs.declared.notes.Note.{Note}
use Rattle.reclaim.specs.Notes.{note, note_order, is_of, is_noted, others, seen_in}
use Rattle.reclaim.specs.Ledgers.{AreApart, noted_last}
use Rattle.reclaim.proofs.NoteLaws.{seen_region}
use Rattle.mem_base.proofs.ForestLaws.{every_put}

-- numbers

pub room_below : (p d n : ℕ) → 0 < min p (d - n) → n + 1 ≤ d
room_below p d n h = let r = min-le_right p (d - n) in omega arith

pub room_kept : (p d n q e m : ℕ) → p ≤ q → d - n ≤ e - m → min p (d - n) ≤ min q (e - m)
room_kept p d n q e m h k =
    let left : min p (d - n) ≤ q = let l = min-le_left p (d - n) in omega arith in
    let right : min p (d - n) ≤ e - m = let r = min-le_right p (d - n) in omega arith in
    le-min left right

pub room_less : (p d n q : ℕ) → p ≤ q + 1 → min p (d - n) ≤ min q (d - (n + 1)) + 1
room_less p d n q h =
    let a : ℕ = min p (d - n) in
    let left : a - 1 ≤ q = let l = min-le_left p (d - n) in omega arith in
    let right : a - 1 ≤ d - (n + 1) = let r = min-le_right p (d - n) in omega arith in
    let both : a - 1 ≤ min q (d - (n + 1)) = le-min left right in
    omega arith

-- how many

pub length-put : (n : Note) (ns : List Note) → length (put_by note_order n ns) ≡ length ns + 1
length-put n [] = refl
length-put n (m ∷ ms) =
    let rest = length-put n ms in
    elim (is_lt (note_order n m)) as (λ b. length (cond b (n ∷ m ∷ ms) (m ∷ put_by note_order n ms)) ≡ length (m ∷ ms) + 1) [
      | true ↦ omega arith
      | false ↦ omega arith
    ]

at_most : (p : Note → Bool) (ns : List Note) → length (filter p ns) ≤ length ns
at_most p [] = omega arith
at_most p (n ∷ ns) =
    let rest = at_most p ns in
    elim (p n) as (λ b. length (cond b (n ∷ filter p ns) (filter p ns)) ≤ length (n ∷ ns)) [ true ↦ omega arith | false ↦ omega arith ]

-- the first that passes a test is this one, or one of the rest
skipped : (n : Note) (b : Bool) (found : Option Note) (m : Note) → b ≡ false → (if b then Some n else found) ≡ Some m → found ≡ Some m
skipped n true found m is e = cc
skipped n false found m is e = e

found_step : (P : Note → Type 0) (n : Note) (b : Bool) (found : Option Note) (m : Note) → (if b then Some n else found) ≡ Some m
    → (b ≡ true → P n) → (found ≡ Some m → P m) → P m
found_step P n true found m e here next = let same : n ≡ m = cc in subst P same (here refl)
found_step P n false found m e here next = next e

pub one_fewer : (region : RegionId) (ns : List Note) (n : Note) → find (is_of region) ns ≡ Some n → length (others region ns) + 1 ≤ length ns
one_fewer region [] n e = cc
one_fewer region (m ∷ ms) n e =
    elim (is_of region m) as (λ b. is_of region m ≡ b → length (cond (not b) (m ∷ others region ms) (others region ms)) + 1 ≤ length (m ∷ ms)) [
      | true ↦ λ is. let few = at_most (λ x. not (is_of region x)) ms in omega arith
      | false ↦ λ is.
          let next : find (is_of region) ms ≡ Some n = skipped m (is_of region m) (find (is_of region) ms) n is e in
          let few = one_fewer region ms n next in omega arith
    ] refl

-- what is found

pub is_found : (region : RegionId) (ns : List Note) (m : Note) → find (is_of region) ns ≡ Some m → is_of region m ≡ true
is_found region [] m e = cc
is_found region (n ∷ ns) m e =
    found_step (λ x. is_of region x ≡ true) n (is_of region n) (find (is_of region) ns) m e (λ is. is) (is_found region ns m)

pub found_every : (P : Note → Type 0) (p : Note → Bool) (ns : List Note) (m : Note) → find p ns ≡ Some m → Every P ns → P m
found_every P p [] m e h = cc
found_every P p (n ∷ ns) m e h = found_step P n (p n) (find p ns) m e (λ is. h.0) (λ f. found_every P p ns m f h.1)

same_region : (region : RegionId) (n : Note) → is_of region n ≡ true → n.region ≡ region
same_region region n e = let same : n.region.0 ≡ region.0 = grind (arith, nat_tests) in
    ap (λ (k : ℕ). let r : RegionId = record { 0 = k } in r) same

-- the note that is taken out is the one of the region, with its last generation
pub found_note : (region : RegionId) (ns : List Note) (m : Note) → find (is_of region) ns ≡ Some m → m ≡ note region (noted_last region ns)
found_note region ns m e =
    let last : noted_last region ns ≡ m.last = ap (option_and_then (λ (n : Note). n.last)) e in
    ap (λ r. note r m.last) (same_region region m (is_found region ns m e)) ∙ ap (note region) (sym last)

-- a region that is noted has a note that is found
pub noted_found : (region : RegionId) (ns : List Note) → is_noted region ns ≡ true → find (is_of region) ns ≡ None → ⊥
noted_found region [] h e = cc
noted_found region (n ∷ ns) h e = at (is_of region n) (is_noted region ns) (find (is_of region) ns) h e (noted_found region ns)
  where
    at : (b any : Bool) (found : Option Note) → (b || any) ≡ true → (if b then Some n else found) ≡ None → (any ≡ true → found ≡ None → ⊥) → ⊥
    at true any found k f next = cc
    at false any found k f next = next k f

-- which regions are noted

put_free : (region : RegionId) (n m : Note) (ms : List Note) (less b : Bool) → is_of region n ≡ false → is_of region m ≡ b
    → (b || is_noted region ms) ≡ false → (is_noted region ms ≡ false → is_noted region (put_by note_order n ms) ≡ false)
    → is_noted region (cond less (n ∷ m ∷ ms) (m ∷ put_by note_order n ms)) ≡ false
put_free region n m ms less true off is k next = cc
put_free region n m ms true false off is k next = rw (off, is) k
put_free region n m ms false false off is k next = rw is (next k)

noted_put : (region : RegionId) (n : Note) (ms : List Note) → is_of region n ≡ false → is_noted region ms ≡ false
    → is_noted region (put_by note_order n ms) ≡ false
noted_put region n [] off free = rw off refl
noted_put region n (m ∷ ms) off free =
    put_free region n m ms (is_lt (note_order n m)) (is_of region m) off refl free (noted_put region n ms off)

pub noted_others : (region other : RegionId) (ns : List Note) → is_noted region ns ≡ false → is_noted region (others other ns) ≡ false
noted_others region other [] free = refl
noted_others region other (n ∷ ns) free =
    let rest = noted_others region other ns in
    at (is_of region n) (is_noted region ns) free rest (not (is_of other n)) refl
  where
    at : (b any : Bool) → (b || any) ≡ false → (any ≡ false → is_noted region (others other ns) ≡ false) → (kept : Bool) → is_of region n ≡ b
        → is_noted region (cond kept (n ∷ others other ns) (others other ns)) ≡ false
    at true any k next kept is = cc
    at false any k next true is = rw is (next k)
    at false any k next false is = next k

pub noted_seen : (g : Published) (region : RegionId) (ns : List Note) → is_noted region (map (seen_in g) ns) ≡ is_noted region ns
noted_seen g region [] = refl
noted_seen g region (n ∷ ns) =
    ap (λ (r : RegionId). (r.0 == region.0) || is_noted region (map (seen_in g) ns)) (seen_region g n)
    ∙ ap (λ b. is_of region n || b) (noted_seen g region ns)

-- no region is there and dropped: after each call

every_others : (P : Note → Type 0) (region : RegionId) (ns : List Note) → Every P ns → Every (λ n. P n × (is_of region n ≡ false)) (others region ns)
every_others P region [] h = tt
every_others P region (n ∷ ns) h =
    let rest = every_others P region ns h.1 in
    elim (is_of region n) as
    (λ b. is_of region n ≡ b → Every (λ m. P m × (is_of region m ≡ false)) (cond (not b) (n ∷ others region ns) (others region ns))) [
      | true ↦ λ is. rest
      | false ↦ λ is. ((h.0, is), rest)
    ] refl

pub apart_made : (region : RegionId) (present dropped : List Note) → is_noted region dropped ≡ false → AreApart present dropped
    → AreApart (put_by note_order (note region None) present) dropped
apart_made region present dropped free h = every_put (λ n. is_noted n.region dropped ≡ false) note_order (note region None) present free h

other_way : (x y : RegionId) (b : Bool) → (x.0 == y.0) ≡ b → (y.0 == x.0) ≡ b
other_way x y true e = grind (arith, nat_tests)
other_way x y false e = grind (arith, nat_tests)

pub apart_dropped : (region : RegionId) (n : Note) (present dropped : List Note) → n.region ≡ region → AreApart present dropped
    → AreApart (others region present) (put_by note_order n dropped)
apart_dropped region n present dropped same h =
    weaker (λ m. (is_noted m.region dropped ≡ false) × (is_of region m ≡ false)) (λ m. is_noted m.region (put_by note_order n dropped) ≡ false)
    (λ m k. noted_put m.region n dropped
    (other_way m.region n.region false (ap (λ (r : RegionId). m.region.0 == r.0) same ∙ k.1)) k.0)
    (others region present) (every_others (λ m. is_noted m.region dropped ≡ false) region present h)

pub apart_released : (region : RegionId) (present dropped : List Note) → AreApart present dropped → AreApart present (others region dropped)
apart_released region present dropped h =
    weaker (λ m. is_noted m.region dropped ≡ false) (λ m. is_noted m.region (others region dropped) ≡ false)
    (λ m k. noted_others m.region region dropped k) present h

pub apart_seen : (g : Published) (present dropped : List Note) → AreApart present dropped → AreApart (map (seen_in g) present) (map (seen_in g) dropped)
apart_seen g present dropped h =
    every_map (λ m. is_noted m.region (map (seen_in g) dropped) ≡ false) (seen_in g) present
    (weaker (λ m. is_noted m.region dropped ≡ false) (λ m. is_noted (seen_in g m).region (map (seen_in g) dropped) ≡ false)
    (λ m k. ap (λ r. is_noted r (map (seen_in g) dropped)) (seen_region g m) ∙ noted_seen g m.region dropped ∙ k) present h)
