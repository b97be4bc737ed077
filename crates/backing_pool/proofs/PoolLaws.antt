-- Laws of a pool after a place was taken or given back.
use Rattle.std.proofs.Common.{◌≡◌, ℕ, zero, suc, ◌+◌, ◌%◌, ◌<◌, ◌≤◌, ◌^◌, Bool, true, false, not, ◌==◌, nat_le, List, [], ◌∷◌, ◌++◌, length}
use Rattle.std.proofs.Common.{get_or, take, drop, map, find, Option, Some, None, option_map, Result, Ok, Err, sym, refl, ap, subst, ◌∙◌}
use Rattle.std.proofs.Common.{arith, if◌then◌else◌}
use Rattle.std.specs.Prelude.{remove}
use Rattle.std.specs.List.{slice_get}
use Rattle.std.proofs.lemmas.List.{append_assoc}
use Rattle.std.proofs.lemmas.Nat.{div-add-mod', mod_below}
use Rattle.std.proofs.lemmas.Bool.Decides.{nat_tests}
use Rattle.std.proofs.lemmas.Option.{slice_get_read}
use Rattle.mem_base.specs.declared.map.ids.RegionId.{RegionId}
use Rattle.mem_base.specs.declared.map.refusals.Refusal.{Refusal}
use Rattle.mem_base.specs.declared.map.refusals.Refusal.TheVariants.{NoBacking}
use Rattle.mem_base.specs.declared.access.cells.Place.{Place}
use Rattle.mem_base.specs.lists.Every.{Every, EveryPair}
use Rattle.mem_base.proofs.EveryLaws.{weaker, every_push, every_filter}
use Rattle.mem_base.specs.access.PlacesByRegion.{place_in}
use Rattle.mem_base.specs.access.EditionPlaces.{ArePlacesApart}
use Rattle.mem_base.specs.lists.Runs.{Run}
use Rattle.mem_base.specs.map.Limits.{page_size}
use Rattle.mem_base.specs.access.Places.{past, is_free, extent, words_of, place_from, first_fit}
use Rattle.backing_pool.specs.Holes.{hole_of, end_of, AreHoles, IsGiven, cut}
use Rattle.backing_pool.specs.Backing.{Backing, IsBacked, AreBacked}
use Rattle.backing_pool.proofs.HoleLaws.{cut_in, put_in, holes_end}
use Rattle.backing_pool.proofs.RunLaws.{holes_of}
use Rattle.backing_pool.proofs.PlaceLaws.{found_region, removed_at, without, was_taken, given_inside, given_below, given_above}
use Rattle.backing_pool.proofs.PlaceLaws.{found_backed, pair_push, new_apart, taken_below, taken_inside, taken_above}
use Rattle.mem_base.proofs.SortingLaws.{pairs_filter}

abbrev pub backing : ℕ → List Place → Backing
backing pool_words places = record { pool_words = pool_words; places = places }

-- the place of a region, at the index at which it was found
pub place_found : (places slice : List Place) (at n : ℕ) (p : Place) (region : RegionId) → slice ≡ places → slice_get slice at ≡ place_in slice region
    → n ≡ length places → at < n → p ≡ get_or places at p → place_in places region ≡ Some p
place_found places slice at n p region same found long l is =
    sym (ap (λ ps. place_in ps region) same) ∙ sym found ∙ ap (λ ps. slice_get ps at) same ∙ slice_get_read places n at p long l is

pub place_left : (places slice : List Place) (at n : ℕ) (p : Place) (region : RegionId) → slice ≡ places → slice_get slice at ≡ place_in slice region
    → n ≡ length places → at < n → p ≡ get_or places at p → EveryPair ArePlacesApart places → remove places at ≡ without region places
place_left places slice at n p region same found long l is apart =
    removed_at region places at p apart (slice_get_read places n at p long l is)
    (found_region region p places (place_found places slice at n p region same found long l is))

pub ends_fit : (free : ℕ → Bool) (pool_words : ℕ) (hs : List (ℕ × ℕ)) → pool_words < 2 ^ 64 → AreHoles free 0 pool_words hs
    → Every (λ h. end_of h < 2 ^ 64) hs
ends_fit free pool_words hs l h =
    weaker (λ h. end_of h ≤ pool_words) (λ h. end_of h < 2 ^ 64) (λ k e. omega (arith, e, l)) hs (holes_end free 0 pool_words hs h)

module _ (pool_words : ℕ) (places : List Place) (hs : List (ℕ × ℕ)) (backed : AreBacked (backing pool_words places))
    (are : AreHoles (is_free places) 0 pool_words hs) where
  -- a place is given back

  module _ (region : RegionId) (p : Place) (found : place_in places region ≡ Some p) where
    own : IsBacked pool_words p
    own = found_backed (IsBacked pool_words) region p places backed.each found

    pub given_holes : (new : List (ℕ × ℕ)) → IsGiven p.start p.words hs new → AreHoles (is_free (without region places)) 0 pool_words new
    given_holes new h =
        subst (AreHoles (is_free (without region places)) 0 pool_words) (sym h.joined)
        (put_in (is_free places) (is_free (without region places)) p.start p.words pool_words own.nonempty own.within
        (λ w l m. was_taken region p w places found l m)
        (λ w l m. given_inside region p w places backed.apart found l m)
        (λ w l. given_below region p places w backed.apart found l)
        (λ w l. given_above region p places w backed.apart found l)
        0 h.before h.after (subst (AreHoles (is_free places) 0 pool_words) h.parts are) (omega arith) h.low h.high)

    pub given_backed : AreBacked (backing pool_words (without region places))
    given_backed = record {
      each = every_filter (IsBacked pool_words) (λ q. not (q.region.0 == region.0)) places backed.each;
      apart = pairs_filter ArePlacesApart (λ q. not (q.region.0 == region.0)) places backed.apart;
    }

    pub place_end : p.start + p.words ≤ pool_words
    place_end = own.within

-- the first hole that fits

find_hole : (words : ℕ) (hs : List (ℕ × ℕ))
    → option_map (λ h. h.start) (find (λ h. nat_le words h.length) (map hole_of hs)) ≡ option_map (λ h. h.0) (find (λ h. nat_le words h.1) hs)
find_hole words [] = refl
find_hole words (k ∷ hs) = go (nat_le words k.1) (find_hole words hs)
  where
    go : (b : Bool) → option_map (λ h. h.start) (find (λ h. nat_le words h.length) (map hole_of hs)) ≡ option_map (λ h. h.0) (find (λ h. nat_le words h.1) hs)
        → option_map (λ h. h.start) (if b then Some (hole_of k) else find (λ h. nat_le words h.length) (map hole_of hs))
        ≡ option_map (λ h. h.0) (if b then Some k else find (λ h. nat_le words h.1) hs)
    go true rest = refl
    go false rest = rest

pub fit_is : (pool_words words : ℕ) (places : List Place) (hs : List (ℕ × ℕ)) (o : Option (ℕ × ℕ)) → AreHoles (is_free places) 0 pool_words hs
    → o ≡ find (λ h. nat_le words h.1) hs → first_fit pool_words places words ≡ option_map (λ h. h.0) o
fit_is pool_words words places hs o are e =
    ap (λ (rs : List Run). option_map (λ h. h.start) (find (λ h. nat_le words h.length) rs)) (sym (holes_of pool_words places hs are))
    ∙ find_hole words hs ∙ ap (option_map (λ (h : ℕ × ℕ). h.0)) (sym e)

-- the same, of the holes as a slice and of the pool as its users see it
pub fit_seen : (pool_words words asked : ℕ) (places : List Place) (hs slice : List (ℕ × ℕ)) (o : Option (ℕ × ℕ)) (b : Backing)
    → AreHoles (is_free places) 0 pool_words hs → slice ≡ hs → o ≡ find (λ h. nat_le words h.1) slice → words ≡ asked → backing pool_words places ≡ b
    → first_fit b.pool_words b.places asked ≡ option_map (λ h. h.0) o
fit_seen pool_words words asked places hs slice o b are same e n seen =
    ap (λ (x : Backing). first_fit x.pool_words x.places asked) (sym seen) ∙ ap (first_fit pool_words places) (sym n)
    ∙ fit_is pool_words words places hs o are (e ∙ ap (find (λ (h : ℕ × ℕ). nat_le words h.1)) same)

pub got_seen : (hs slice : List (ℕ × ℕ)) (at : ℕ) (k : ℕ × ℕ) → slice ≡ hs → slice_get slice at ≡ Some k → slice_get hs at ≡ Some k
got_seen hs slice at k same e = ap (λ xs. slice_get xs at) (sym same) ∙ e

pub fit_enough : (words : ℕ) (hs : List (ℕ × ℕ)) (k : ℕ × ℕ) → Some k ≡ find (λ h. nat_le words h.1) hs → words ≤ k.1
fit_enough words [] k e = absurd (let no : None ≡ Some k = sym e in cc)
fit_enough words (h ∷ hs) k e = go (nat_le words h.1) refl e (fit_enough words hs k)
  where
    go : (b : Bool) → nat_le words h.1 ≡ b → Some k ≡ (if b then Some h else find (λ h. nat_le words h.1) hs)
        → (Some k ≡ find (λ h. nat_le words h.1) hs → words ≤ k.1) → words ≤ k.1
    go true t e ih = let same : k ≡ h = cc in let l : words ≤ h.1 = grind (arith, nat_tests) in rw same l
    go false t e ih = ih e

-- the words of a hole

split_got : {A : Type 0} (xs : List A) (i : ℕ) (x : A) → slice_get xs i ≡ Some x → xs ≡ take i xs ++ x ∷ drop (suc i) xs
split_got [] i x e = absurd (let no : None ≡ Some x = e in cc)
split_got (y ∷ ys) zero x e = let same : y ≡ x = cc in ap (λ z. z ∷ ys) same
split_got (y ∷ ys) (suc i) x e = ap (λ zs. y ∷ zs) (split_got ys i x e)

hole_free : (free : ℕ → Bool) (low high : ℕ) (hs : List (ℕ × ℕ)) (at : ℕ) (k : ℕ × ℕ) → AreHoles free low high hs → slice_get hs at ≡ Some k
    → (w : ℕ) → k.0 ≤ w → w < end_of k → free w ≡ true
hole_free free low high [] at k h e = absurd (let no : None ≡ Some k = e in cc)
hole_free free low high (x ∷ hs) zero k h e = let same : x ≡ k = cc in subst (λ (z : ℕ × ℕ). (w : ℕ) → z.0 ≤ w → w < end_of z → free w ≡ true) same h.4
hole_free free low high (x ∷ hs) (suc at) k h e = hole_free free (end_of x) high hs at k h.6 e

pub hole_within : (free : ℕ → Bool) (low high : ℕ) (hs : List (ℕ × ℕ)) (at : ℕ) (k : ℕ × ℕ) → AreHoles free low high hs → slice_get hs at ≡ Some k
    → end_of k ≤ high
hole_within free low high [] at k h e = absurd (let no : None ≡ Some k = e in cc)
hole_within free low high (x ∷ hs) zero k h e = let same : x ≡ k = cc in subst (λ (z : ℕ × ℕ). end_of z ≤ high) same h.2
hole_within free low high (x ∷ hs) (suc at) k h e = hole_within free (end_of x) high hs at k h.6 e

-- a place is taken

module _ (pool_words : ℕ) (places : List Place) (hs : List (ℕ × ℕ)) (are : AreHoles (is_free places) 0 pool_words hs)
    (at : ℕ) (k : ℕ × ℕ) (got : slice_get hs at ≡ Some k) (p : Place) (begins : p.start ≡ k.0) (enough : p.words ≤ k.1) where
  pub taken_holes : (new : List (ℕ × ℕ)) → new ≡ take at hs ++ cut p.words k ++ drop (at + 1) hs
      → AreHoles (is_free (places ++ p ∷ [])) 0 pool_words new
  taken_holes new e =
      let next : suc at ≡ at + 1 = omega arith in
      let parts : hs ≡ take at hs ++ k ∷ drop (at + 1) hs = split_got hs at k got ∙ ap (λ n. take at hs ++ k ∷ drop n hs) next in
      subst (AreHoles (is_free (places ++ p ∷ [])) 0 pool_words) (sym (e ∙ append_assoc (take at hs) (cut p.words k) (drop (at + 1) hs)))
      (cut_in (is_free places) (is_free (places ++ p ∷ [])) p.words k enough
      (λ w l. taken_below places p w (omega (arith, begins, l)))
      (λ w l m. taken_inside places p w (omega (arith, begins, l)) (omega (arith, begins, m)))
      (λ w l. taken_above places p w (omega (arith, begins, l)))
      0 pool_words (take at hs) (drop (at + 1) hs) (subst (AreHoles (is_free places) 0 pool_words) parts are))

  pub taken_backed : AreBacked (backing pool_words places) → place_in places p.region ≡ None → p ≡ place_from p.region p.start (extent p.bytes p.regs)
      → 0 < p.words → AreBacked (backing pool_words (places ++ p ∷ []))
  taken_backed backed none fits some =
      let within : past p ≤ pool_words = omega (arith, begins, enough, hole_within (is_free places) 0 pool_words hs at k are got) in
      record {
        each = every_push (IsBacked pool_words) places p backed.each (record { fits = fits; nonempty = some; within = within });
        apart = pair_push ArePlacesApart places p backed.apart (new_apart pool_words places p backed.each some none
            (λ w l m. hole_free (is_free places) 0 pool_words hs at k are got w (omega (arith, begins, l)) (omega (arith, begins, enough, m))));
      }

-- a region with bytes or registers has words
pub some_words : (bytes regs : ℕ) → bytes % page_size ≡ 0 → 0 < bytes + regs → 0 < words_of (extent bytes regs)
some_words bytes regs pages some =
    let p : bytes % page_size ≡ 0 = pages in
    omega (arith, div-add-mod' bytes page_size, div-add-mod' bytes 8, mod_below bytes 8 (omega arith), p, some)

pub no_backing : {A : Type 0} (n m : ℕ) (why : Refusal) → n ≡ m → (let r : Result A Refusal = Err (NoBacking n) in r) ≡ Err why → why ≡ NoBacking m
no_backing n m why words e = let same : NoBacking n ≡ why = cc in sym same ∙ ap NoBacking words

pub ok_is_not_err : {A B : Type 0} (x : A) (y : B) → (let r : Result A B = Ok x in r) ≡ Err y → ⊥
ok_is_not_err x y e = cc
