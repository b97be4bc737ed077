-- What is live at the addresses is what is live by the ranges that show them.
use Rattle.std.proofs.Common.{◌≡◌, ◌⊎◌, ℕ, zero, suc, ◌+◌, ◌-◌, ◌^◌, ◌<◌, ◌≤◌, Bool, true, false, ◌&&◌, List, [], ◌∷◌, ◌++◌, map, sym, refl}
use Rattle.std.proofs.Common.{ap, ◌∙◌, subst, inl, inr, arith, if◌then◌else◌, Option, Some, None, ⊎_elim, ℤ, pos}
use Rattle.std.specs.Prelude.{filter, flat_map, negsuc, ◌+ℤ◌, ◌-ℤ◌, int_lt, int_le}
use Rattle.std.specs.Option.{option_or}
use Rattle.std.proofs.lemmas.Int.{ints}
use Rattle.std.proofs.lemmas.Bool.{leb-true, cases_lt, and_parts, and_from}
use Rattle.mem_base.specs.declared.map.ids.SpaceId.{SpaceId}
use Rattle.mem_base.specs.declared.map.spots.Spot.{Spot}
use Rattle.mem_base.specs.declared.views.flat.FlatRange.{FlatRange}
use Rattle.mem_base.specs.declared.map.ioevents.Ioevent.{Ioevent}
use Rattle.mem_base.specs.declared.map.ioevents.Live.{Live}
use Rattle.mem_base.specs.declared.map.forests.Forest.{Forest}
use Rattle.mem_base.specs.map.Search.{look}
use Rattle.mem_base.specs.views.View.{holds, shown, IsRanges, Agrees}
use Rattle.mem_base.specs.lists.Sorting.{IsRising}
use Rattle.mem_base.specs.views.LiveEvents.{live_order, events_of, moved_to, meets, lives_at, lives_below, lives_of, lives_of_range, lives_in}
use Rattle.mem_base.proofs.ViewLaws.{spot_at, shown-first, shown-later, IsRanges-within}
use Rattle.view_laws.specs.LiveLists.{HaveBytes}
use Rattle.view_laws.proofs.Tests.{none_is_not_some}
use Rattle.view_laws.proofs.LiveLaws.{In, every_in, unique, in_order_rising, in_order_in, in_order_out}
use Rattle.view_laws.proofs.SortedLaws.{append_in, append_left, append_right}
use Rattle.std.proofs.lemmas.Option.{same_Some}

-- elements of lists that are made of others

-- an ioeventfd that is moved and passes a test
pub record Moved (g : Ioevent → Live) (test : Live → Bool) (es : List Ioevent) (l : Live) : Type 0 where
  pub event : Ioevent
  pub among : In event es
  pub moved : l ≡ g event
  pub passes : test l ≡ true

moved_later : (g : Ioevent → Live) (test : Live → Bool) (e : Ioevent) (es : List Ioevent) (l : Live) → Moved g test es l → Moved g test (e ∷ es) l
moved_later g test e es l m = record { event = m.event; among = inr m.among; moved = m.moved; passes = m.passes }

pub moved_in : (g : Ioevent → Live) (test : Live → Bool) (es : List Ioevent) (l : Live) → In l (filter test (map g es)) → Moved g test es l
moved_in g test [] l m = absurd m
moved_in g test (e ∷ es) l m = go (test (g e)) refl m (λ k. moved_later g test e es l (moved_in g test es l k))
  where
    go : (b : Bool) → test (g e) ≡ b → In l (if b then g e ∷ filter test (map g es) else filter test (map g es))
        → (In l (filter test (map g es)) → Moved g test (e ∷ es) l) → Moved g test (e ∷ es) l
    go true h (inl q) rest = record { event = e; among = inl refl; moved = q; passes = ap test q ∙ h }
    go true h (inr k) rest = rest k
    go false h k rest = rest k

pub moved_out : (g : Ioevent → Live) (test : Live → Bool) (es : List Ioevent) (e : Ioevent) → In e es → test (g e) ≡ true → In (g e) (filter test (map g es))
moved_out g test [] e m h = absurd m
moved_out g test (x ∷ es) e (inl q) h =
    subst (λ (z : Ioevent). In (g e) (if test (g z) then g z ∷ filter test (map g es) else filter test (map g es))) q (rw h (inl refl))
moved_out g test (x ∷ es) e (inr m) h = go (test (g x)) (moved_out g test es e m h)
  where
    go : (b : Bool) → In (g e) (filter test (map g es)) → In (g e) (if b then g x ∷ filter test (map g es) else filter test (map g es))
    go true k = inr k
    go false k = k

-- live at an address

pub record LiveAt (f : Forest) (n : ℕ) (spot_at : ℕ → Option Spot) (l : Live) : Type 0 where
  pub address : ℕ
  pub below : address < n
  pub lives : In l (lives_at f address (spot_at address))

pub below_in : (f : Forest) (n : ℕ) (find : ℕ → Option Spot) (l : Live) → In l (lives_below f n find) → LiveAt f n find l
unfolding lives_below
below_in f zero find l m = absurd m
below_in f (suc a) find l m = ⊎_elim
    (λ here. record { address = a; below = omega arith; lives = here })
    (λ before. let t = below_in f a find l before in let b = t.below in record { address = t.address; below = omega arith; lives = t.lives })
    (append_in l (lives_at f a (find a)) (lives_below f a find) (in_order_in l (lives_at f a (find a) ++ lives_below f a find) m))

pub below_out : (f : Forest) (n : ℕ) (find : ℕ → Option Spot) (l : Live) (a : ℕ) → a < n → In l (lives_at f a (find a)) → In l (lives_below f n find)
unfolding lives_below
below_out f zero find l a h m = absurd (omega arith)
below_out f (suc n) find l a h m = in_order_out l (lives_at f n (find n) ++ lives_below f n find) (⊎_elim
    (λ less. append_right l (lives_at f n (find n)) (lives_below f n find) (below_out f n find l a less m))
    (λ more. append_left l (lives_at f n (find n)) (lives_below f n find) (let e : a ≡ n = omega arith in subst (λ (z : ℕ). In l (lives_at f z (find z))) e m))
    (cases_lt a n))

pub below_rising : (f : Forest) (n : ℕ) (find : ℕ → Option Spot) → IsRising live_order (lives_below f n find)
unfolding lives_below
below_rising f zero find = tt
below_rising f (suc a) find = in_order_rising (lives_at f a (find a) ++ lives_below f a find)

-- live in a range

record LiveIn (f : Forest) (rs : List FlatRange) (l : Live) : Type 0 where
  range : FlatRange
  among : In range rs
  lives : In l (lives_of_range f range)

ranges_in : (f : Forest) (rs : List FlatRange) (l : Live) → In l (flat_map (lives_of_range f) rs) → LiveIn f rs l
ranges_in f [] l m = absurd m
ranges_in f (r ∷ rs) l m = ⊎_elim
    (λ here. record { range = r; among = inl refl; lives = here })
    (λ past. let t = ranges_in f rs l past in record { range = t.range; among = inr t.among; lives = t.lives })
    (append_in l (lives_of_range f r) (flat_map (lives_of_range f) rs) m)

ranges_out : (f : Forest) (rs : List FlatRange) (l : Live) (r : FlatRange) → In r rs → In l (lives_of_range f r) → In l (flat_map (lives_of_range f) rs)
ranges_out f [] l r k m = absurd k
ranges_out f (q ∷ rs) l r (inl e) m = append_left l (lives_of_range f q) (flat_map (lives_of_range f) rs) (subst (λ (z : FlatRange). In l (lives_of_range f z)) e m)
ranges_out f (q ∷ rs) l r (inr k) m = append_right l (lives_of_range f q) (flat_map (lives_of_range f) rs) (ranges_out f rs l r k m)

-- a range that shows an address

record Shows (rs : List FlatRange) (a : ℕ) (spot : Spot) : Type 0 where
  range : FlatRange
  among : In range rs
  from : range.start ≤ a
  to : a ≤ range.last
  spot_is : spot ≡ spot_at range a

shown_by : (rs : List FlatRange) (a : ℕ) (spot : Spot) → shown rs a ≡ Some spot → Shows rs a spot
shown_by [] a spot h = none_is_not_some spot h
shown_by (r ∷ rs) a spot h = go (holds r a) refl h (λ k. let t = shown_by rs a spot k in
    record { range = t.range; among = inr t.among; from = t.from; to = t.to; spot_is = t.spot_is })
  where
    go : (b : Bool) → holds r a ≡ b → option_or (if b then Some (spot_at r a) else None) (shown rs a) ≡ Some spot
        → (shown rs a ≡ Some spot → Shows (r ∷ rs) a spot) → Shows (r ∷ rs) a spot
    go true e h rest = let t = and_parts _ _ e in record {
      range = r;
      among = inl refl;
      from = leb-true _ _ t.0;
      to = leb-true _ _ t.1;
      spot_is = sym (same_Some (spot_at r a) spot h);
    }
    go false e h rest = rest h

-- each range shows its own addresses
range_shows : (from end : ℕ) (rs : List FlatRange) (r : FlatRange) (a : ℕ) → IsRanges from end rs → In r rs → r.start ≤ a → a ≤ r.last
    → (shown rs a ≡ Some (spot_at r a)) × (a < end) × (from ≤ a)
range_shows from end [] r a h m l k = absurd m
range_shows from end (q ∷ rs) r a h (inl e) l k =
    let w = IsRanges-within (q.last + 1) end rs h.3 in let b = h.0 in
    subst (λ (z : FlatRange). z.start ≤ a → a ≤ z.last → (shown (q ∷ rs) a ≡ Some (spot_at z a)) × (a < end) × (from ≤ a)) (sym e)
    (λ l k. (shown-first q rs a l k, omega arith, omega arith)) l k
range_shows from end (q ∷ rs) r a h (inr m) l k =
    let t = range_shows (q.last + 1) end rs r a h.3 m l k in let b = t.2 in let c = h.0 in let d = h.1 in
    (shown-later q rs a (omega arith) ∙ t.0, t.1, omega arith)

-- moved by an address of a range, or by its start

same_address : (a start offset e : ℕ) → start ≤ a → (pos a -ℤ pos (offset + (a - start))) +ℤ pos e ≡ (pos start -ℤ pos offset) +ℤ pos e
same_address a start offset e l = omega (arith, ints)

same_moved : (r : FlatRange) (a : ℕ) (e : Ioevent) → r.start ≤ a → moved_to a (r.offset + (a - r.start)) e ≡ moved_to r.start r.offset e
same_moved r a e l = let p = same_address a r.start r.offset e.offset l in
    λ i. record { addr = p i; size = e.size; matched = e.matched; value = e.value; number = e.number }

wider_le : (x : ℤ) (a b : ℕ) → a ≤ b → int_le x (pos a) ≡ true → int_le x (pos b) ≡ true
wider_le x a b l h = grind (arith, ints)

wider_lt : (x : ℤ) (a b : ℕ) → a ≤ b → int_lt (pos b) x ≡ true → int_lt (pos a) x ≡ true
wider_lt x a b l h = grind (arith, ints)

wider : (l : Live) (start a last : ℕ) → start ≤ a → a ≤ last → meets a a l ≡ true → meets start last l ≡ true
wider l start a last m n h = let t = and_parts _ _ h in and_from _ _ (wider_le l.addr a last n t.0) (wider_lt (l.addr +ℤ pos l.size) start a m t.1)

-- an address of the range at which a byte lies
record Meeting (l : Live) (start last : ℕ) : Type 0 where
  pub address : ℕ
  from : start ≤ address
  to : address ≤ last
  meets_it : meets address address l ≡ true

meeting_by : (l : Live) (start last : ℕ) (x : ℤ) → l.addr ≡ x → start ≤ last → 0 < l.size → int_le x (pos last) ≡ true
    → int_lt (pos start) (x +ℤ pos l.size) ≡ true → Meeting l start last
meeting_by l start last (pos n) e w some h k = ⊎_elim
    (λ less. record {
      address = n;
      from = omega arith;
      to = (let z : n ≤ last = grind (arith, ints) in z);
      meets_it = subst (λ (z : ℤ). (int_le z (pos n) && int_lt (pos n) (z +ℤ pos l.size)) ≡ true) (sym e)
          (and_from _ _ (let z : int_le (pos n) (pos n) ≡ true = grind (arith, ints) in z)
          (let z : int_lt (pos n) (pos n +ℤ pos l.size) ≡ true = grind (arith, ints) in z));
    })
    (λ more. record {
      address = start;
      from = omega arith;
      to = w;
      meets_it = subst (λ (z : ℤ). (int_le z (pos start) && int_lt (pos start) (z +ℤ pos l.size)) ≡ true) (sym e)
          (and_from _ _ (let z : int_le (pos n) (pos start) ≡ true = grind (arith, ints) in z) k);
    })
    (cases_lt start n)
meeting_by l start last (negsuc n) e w some h k =
    record {
      address = start;
      from = omega arith;
      to = w;
      meets_it = subst (λ (z : ℤ). (int_le z (pos start) && int_lt (pos start) (z +ℤ pos l.size)) ≡ true) (sym e) (and_from _ _ refl k);
    }

meeting : (l : Live) (start last : ℕ) → start ≤ last → 0 < l.size → meets start last l ≡ true → Meeting l start last
meeting l start last w some h = let t = and_parts _ _ h in meeting_by l start last l.addr refl w some t.0 t.1

-- each range is nonempty
nonempty : (from end : ℕ) (rs : List FlatRange) (r : FlatRange) → IsRanges from end rs → In r rs → r.start ≤ r.last
nonempty from end [] r h m = absurd m
nonempty from end (q ∷ rs) r h (inl e) = subst (λ (z : FlatRange). z.start ≤ z.last) (sym e) h.1
nonempty from end (q ∷ rs) r h (inr m) = nonempty (q.last + 1) end rs r h.3 m

module _ (f : Forest) (s : SpaceId) (rs : List FlatRange) (bytes : HaveBytes f) (k : Agrees f s rs) where
  abbrev find : ℕ → Option Spot
  find = look f s

  forward : (l : Live) → In l (lives_of f s) → In l (lives_in f rs)
  forward l m =
      let t = below_in f (2 ^ 64) find l m in
      in_order_out l (flat_map (lives_of_range f) rs) (go t.address (find t.address) refl t.below t.lives)
    where
      go : (a : ℕ) (o : Option Spot) → find a ≡ o → a < 2 ^ 64 → In l (lives_at f a o) → In l (flat_map (lives_of_range f) rs)
      go a None e b m = absurd m
      go a (Some spot) e b m =
          let v = shown_by rs a spot (k.shows a b ∙ e) in let r = v.range in
          let here : In l (lives_at f a (Some (spot_at r a))) = subst (λ (z : Spot). In l (lives_at f a (Some z))) v.spot_is m in
          let t = moved_in (moved_to a (r.offset + (a - r.start))) (meets a a) (events_of f r.leaf) l here in
          let same : l ≡ moved_to r.start r.offset t.event = t.moved ∙ same_moved r a t.event v.from in
          ranges_out f rs l r v.among (subst (λ (z : Live). In z (lives_of_range f r)) (sym same)
          (moved_out (moved_to r.start r.offset) (meets r.start r.last) (events_of f r.leaf) t.event t.among
          (subst (λ (z : Live). meets r.start r.last z ≡ true) same (wider l r.start a r.last v.from v.to t.passes))))

  backward : (l : Live) → In l (lives_in f rs) → In l (lives_of f s)
  backward l m =
      let v = ranges_in f rs l (in_order_in l (flat_map (lives_of_range f) rs) m) in let r = v.range in
      let t = moved_in (moved_to r.start r.offset) (meets r.start r.last) (events_of f r.leaf) l v.lives in
      let some : 0 < l.size = subst (λ (z : Live). 0 < z.size) (sym t.moved) (every_in (λ e. 0 < e.size) t.event (events_of f r.leaf) (bytes r.leaf) t.among) in
      let at = meeting l r.start r.last (nonempty 0 (2 ^ 64) rs r k.ranges v.among) some t.passes in
      let a = at.address in
      let shown_here = range_shows 0 (2 ^ 64) rs r a k.ranges v.among at.from at.to in
      let found : find a ≡ Some (spot_at r a) = sym (k.shows a shown_here.1) ∙ shown_here.0 in
      let same : l ≡ moved_to a (r.offset + (a - r.start)) t.event = t.moved ∙ sym (same_moved r a t.event at.from) in
      below_out f (2 ^ 64) find l a shown_here.1 (subst (λ (o : Option Spot). In l (lives_at f a o)) (sym found)
      (subst (λ (z : Live). In z (lives_at f a (Some (spot_at r a)))) (sym same)
      (moved_out (moved_to a (r.offset + (a - r.start))) (meets a a) (events_of f r.leaf) t.event t.among
      (subst (λ (z : Live). meets a a z ≡ true) same at.meets_it))))

  pub lives_agree : lives_of f s ≡ lives_in f rs
  lives_agree = unique (lives_of f s) (lives_in f rs) (below_rising f (2 ^ 64) find) (in_order_rising (flat_map (lives_of_range f) rs)) forward backward
