-- Where the ioeventfds of one offset and size stand among those of a region.
use Rattle.std.proofs.Common.{◌≡◌, ℕ, zero, suc, ◌+◌, ◌<◌, ◌≤◌, Bool, true, false, ◌&&◌, List, [], ◌∷◌, length, drop, drop-cons, get_or}
use Rattle.std.proofs.Common.{add-one, None, refl, sym, ap, ◌∙◌, subst, arith}
use Rattle.std.specs.Prelude.{find, option_map, ◌==◌}
use Rattle.std.specs.List.Sorted.{IsPartitionedBy}
use Rattle.std.specs.declared.cmp.Ordering.{Ordering}
use Rattle.std.specs.declared.cmp.Ordering.TheVariants.{Less, Equal, Greater}
use Rattle.std.specs.Ordering.{nat_cmp, bool_cmp, ordering_then}
use Rattle.std.proofs.lemmas.Cmp.{ranked}
use Rattle.std.proofs.lemmas.Bool.Decides.{nat_tests}
use Rattle.mem_base.specs.declared.map.ioevents.Ioevent.{Ioevent}
use Rattle.mem_base.specs.lists.Every.{Every}
use Rattle.mem_base.specs.map.Events.{AreEvents, match_order}
use Rattle.mem_base.specs.access.DeviceAccess.{fits, notifier_of}
use Rattle.mem_base.proofs.EveryLaws.{weaker, every_at}
use Rattle.ioevents.specs.Matching.{is_before, is_after}

-- of two in order, the second has a greater offset, or the same and no lesser size
pub record IsNoLess (x y : Ioevent) : Type 0 where
  pub offset : x.offset ≤ y.offset
  pub size : x.offset ≡ y.offset → x.size ≤ y.size

no_less : (x y : Ioevent) → match_order x y ≡ Less → IsNoLess x y
no_less x y e = by_offset (nat_cmp x.offset y.offset) refl e
  where
    by_size : (o : Ordering) → nat_cmp x.size y.size ≡ o → ordering_then o (ordering_then (bool_cmp x.matched y.matched) (nat_cmp x.value y.value)) ≡ Less →
        x.size ≤ y.size
    by_size Less q e = let l : x.size < y.size = ranked x.size y.size Less (sym q) in omega arith
    by_size Equal q e = let l : x.size ≡ y.size = ranked x.size y.size Equal (sym q) in omega arith
    by_size Greater q e = absurd (let no = e in cc)

    by_offset : (o : Ordering) → nat_cmp x.offset y.offset ≡ o →
        ordering_then o (ordering_then (nat_cmp x.size y.size) (ordering_then (bool_cmp x.matched y.matched) (nat_cmp x.value y.value))) ≡ Less → IsNoLess x y
    by_offset Less q e = let l : x.offset < y.offset = ranked x.offset y.offset Less (sym q) in
        record { offset = omega arith; size = λ s. absurd (omega arith) }
    by_offset Equal q e = let l : x.offset ≡ y.offset = ranked x.offset y.offset Equal (sym q) in
        record { offset = omega arith; size = λ s. by_size (nat_cmp x.size y.size) refl e }
    by_offset Greater q e = absurd (let no = e in cc)

-- ioeventfds that stand before an offset and size are parted from the others
pub before_parted : (offset size : ℕ) (l : List Ioevent) → AreEvents l → IsPartitionedBy (is_before offset size) l
before_parted offset size [] h i j d n m t = absurd (omega arith)
before_parted offset size (e ∷ es) h zero zero d n m t = t
before_parted offset size (e ∷ es) h zero (suc j) d n m t =
    let later = no_less e (get_or es j d) (every_at (λ x. match_order e x ≡ Less) es j d (omega arith) h.0) in
    let offsets = later.offset in
    let sizes = later.size in
    grind (arith, nat_tests)
before_parted offset size (e ∷ es) h (suc i) zero d n m t = absurd (omega arith)
before_parted offset size (e ∷ es) h (suc i) (suc j) d n m t = before_parted offset size es h.1 i j d (omega arith) (omega arith) t

-- what stands before or after those of an offset and size does not fit

before_misfits : (offset size value : ℕ) (e : Ioevent) → is_before offset size e ≡ true → fits offset size value e ≡ false
before_misfits offset size value e t = let no : ((e.offset == offset) && (e.size == size)) ≡ false = grind (arith, nat_tests) in rw no refl

after_misfits : (offset size value : ℕ) (e : Ioevent) → is_after offset size e ≡ true → fits offset size value e ≡ false
after_misfits offset size value e t = let no : ((e.offset == offset) && (e.size == size)) ≡ false = grind (arith, nat_tests) in rw no refl

after_after : (offset size : ℕ) (x y : Ioevent) → is_after offset size x ≡ true → match_order x y ≡ Less → is_after offset size y ≡ true
after_after offset size x y t l =
    let later = no_less x y l in
    let offsets = later.offset in
    let sizes = later.size in
    grind (arith, nat_tests)

none_found : (p : Ioevent → Bool) (l : List Ioevent) → Every (λ e. p e ≡ false) l → find p l ≡ None
none_found p [] h = refl
none_found p (e ∷ es) h = rw h.0 (none_found p es h.1)

-- from one on that stands after those of the offset and size, none fits
pub none_after : (offset size value : ℕ) (e : Ioevent) (es : List Ioevent) → is_after offset size e ≡ true → AreEvents (e ∷ es) →
    notifier_of (e ∷ es) offset size value ≡ None
none_after offset size value e es t h =
    ap (option_map (λ (x : Ioevent). x.number))
    (none_found (fits offset size value) (e ∷ es) (
      after_misfits offset size value e t,
      weaker (λ y. match_order e y ≡ Less) (λ y. fits offset size value y ≡ false)
          (λ y l. after_misfits offset size value y (after_after offset size e y t l)) es h.0,
    ))

pub next_after : (offset size value : ℕ) (es : List Ioevent) (i : ℕ) (d : Ioevent) → i < length es → is_after offset size (get_or es i d) ≡ true →
    AreEvents (drop i es) → notifier_of (drop i es) offset size value ≡ None
next_after offset size value es i d l t h =
    let cut : drop i es ≡ get_or es i d ∷ drop (i + 1) es = drop-cons es i d l ∙ ap (λ n. get_or es i d ∷ drop n es) (sym (add-one i)) in
    ap (λ x. notifier_of x offset size value) cut ∙ none_after offset size value (get_or es i d) (drop (i + 1) es) t (subst AreEvents cut h)

-- those that stand before are passed over
pub passed_over : (offset size value : ℕ) (es : List Ioevent) (i : ℕ) → i ≤ length es →
    ((k : ℕ) (d : Ioevent) → 0 ≤ k → k < i → is_before offset size (get_or es k d) ≡ true) →
    notifier_of (drop i es) offset size value ≡ notifier_of es offset size value
passed_over offset size value es zero l h = refl
passed_over offset size value [] (suc i) l h = refl
passed_over offset size value (e ∷ es) (suc i) l h =
    let first = before_misfits offset size value e (h 0 e (omega arith) (omega arith)) in
    passed_over offset size value es i (omega arith) (λ k d n m. h (suc k) d (omega arith) (omega arith)) ∙ sym (rw first refl)

pub events_dropped : (es : List Ioevent) (i : ℕ) → AreEvents es → AreEvents (drop i es)
events_dropped es zero h = h
events_dropped [] (suc i) h = h
events_dropped (e ∷ es) (suc i) h = events_dropped es i h.1
