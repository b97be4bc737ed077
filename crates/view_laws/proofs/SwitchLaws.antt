-- What a listener makes of range calls, and of ioeventfds that are lost and gained in one row.
use Rattle.std.proofs.Common.{◌≡◌, ◌⊎◌, Bool, true, false, ◌||◌, List, [], ◌∷◌, ◌++◌, map, sym, refl, ap, ◌∙◌, subst, inl, inr, arith}
use Rattle.std.proofs.Common.{if◌then◌else◌, Option, Some, None}
use Rattle.std.specs.Prelude.{filter, not, option_and_then, option_map}
use Rattle.std.specs.List.{list_any}
use Rattle.std.specs.declared.cmp.Ordering.{Ordering}
use Rattle.std.specs.declared.cmp.Ordering.TheVariants.{Less, Equal}
use Rattle.std.specs.Ordering.{is_lt, is_eq}
use Rattle.mem_base.specs.declared.views.flat.FlatRange.{FlatRange}
use Rattle.mem_base.specs.declared.map.ioevents.Live.{Live}
use Rattle.mem_base.specs.declared.views.listening.RangeEvent.{RangeEvent}
use Rattle.mem_base.specs.declared.views.listening.RangeEvent.TheVariants.{Delete, Add}
use Rattle.mem_base.specs.declared.views.listening.ListenerEvent.{ListenerEvent}
use Rattle.mem_base.specs.declared.views.listening.ListenerEvent.TheVariants.{Begin, Range, EventAdd, EventDel, Commit}
use Rattle.mem_base.specs.lists.Every.{Every, EveryPair}
use Rattle.mem_base.specs.lists.Sorting.{put_by, sorted_by, IsRising}
use Rattle.mem_base.specs.views.LiveEvents.{live_order, is_same_live, put_live, lives_of, without}
use Rattle.mem_base.specs.views.Walk.{walk}
use Rattle.mem_base.specs.views.Replay.{ListenerState, nothing_heard, ranges_after, ranges_after_all, listener_after, listener_after_all, if_fits}
use Rattle.mem_base.specs.declared.map.forests.Forest.{Forest}
use Rattle.mem_base.specs.declared.map.ids.SpaceId.{SpaceId}
use Rattle.mem_base.specs.views.Flattened.{view_of}
use Rattle.mem_base.specs.views.Listening.{Switch, switch, switch_order, switches, switched, joining, leaving, calls_of, change_of}
use Rattle.mem_base.proofs.PlaceLaws.{rising-filter}
use Rattle.mem_base.proofs.EveryLaws.{weaker, both as every_both}
use Rattle.view_laws.proofs.Tests.{none_is_not_some}
use Rattle.view_laws.proofs.RangeLaws.{Apart}
use Rattle.view_laws.proofs.WalkLaws.{walk_replays_apart}
use Rattle.view_laws.proofs.LiveLaws.{In, unique, every_in, put_in, put_out, put_rising, same_live, order_itself, not_itself}
use Rattle.view_laws.proofs.ViewRanges.{view_apart}
use Rattle.view_laws.proofs.LiveMembers.{lists_live}
use Rattle.view_laws.proofs.SortedLaws.{filter_in, filter_out, each_in, map_in, map_out, append_in, append_left}
use Rattle.view_laws.proofs.SortedLaws.{append_right, sorted_in, sorted_out}
use Rattle.std.proofs.lemmas.Option.{same_Some}
use Rattle.mem_base.proofs.BoolLaws.{true_is_not_false}
use Rattle.std.proofs.lemmas.Bool.{not-true, not_from_false}
use Rattle.mem_base.proofs.ForestLaws.{every_put, every_sorted}

abbrev pub heard : List FlatRange → List Live → Bool → ListenerState
heard ranges lives begun = record { ranges = ranges; lives = lives; begun = begun }

-- calls one after another

pub heard_both : (h : Option ListenerState) (es fs : List ListenerEvent) → listener_after_all h (es ++ fs) ≡ listener_after_all (listener_after_all h es) fs
heard_both h [] fs = refl
heard_both h (e ∷ es) fs = heard_both (option_and_then (λ x. listener_after x e) h) es fs

-- range calls change the ranges as they do by themselves

none_stays : (es : List RangeEvent) → ranges_after_all None es ≡ None
none_stays [] = refl
none_stays (e ∷ es) = none_stays es

pub range_calls : (es : List RangeEvent) (rs qs : List FlatRange) (ls : List Live) (b : Bool) → ranges_after_all (Some rs) es ≡ Some qs
    → listener_after_all (Some (heard rs ls b)) (map (λ e. Range e) es) ≡ Some (heard qs ls b)
range_calls [] rs qs ls b h = ap (λ (zs : List FlatRange). Some (heard zs ls b)) (same_Some rs qs h)
range_calls (e ∷ es) rs qs ls b h = go (ranges_after rs e) h (λ zs k. range_calls es zs qs ls b k)
  where
    go : (o : Option (List FlatRange)) → ranges_after_all o es ≡ Some qs
        → ((zs : List FlatRange) → ranges_after_all (Some zs) es ≡ Some qs → listener_after_all (Some (heard zs ls b)) (map (λ e. Range e) es)
        ≡ Some (heard qs ls b))
        → listener_after_all (option_map (λ zs. heard zs ls b) o) (map (λ e. Range e) es) ≡ Some (heard qs ls b)
    go None h rest = none_is_not_some qs (sym (none_stays es) ∙ h)
    go (Some zs) h rest = rest zs h

-- a test for one ioeventfd

same_test : (x y : Live) → is_same_live x y ≡ true → x ≡ y
same_test x y h = same_live x y (equal_of _ h)
  where
    equal_of : (o : Ordering) → is_eq o ≡ true → o ≡ Equal
    equal_of o h = grind arith

same_itself : (x : Live) → is_same_live x x ≡ true
same_itself x = rw (order_itself x) refl

differs : (x y : Live) → (x ≡ y → ⊥) → is_same_live x y ≡ false
differs x y ne = go (is_same_live x y) refl
  where
    go : (b : Bool) → is_same_live x y ≡ b → b ≡ false
    go true e = absurd (ne (same_test x y e))
    go false e = refl

among : (x : Live) (xs : List Live) → In x xs → list_any (is_same_live x) xs ≡ true
among x [] m = absurd m
among x (y ∷ ys) (inl e) = rw (subst (λ (z : Live). is_same_live x z ≡ true) e (same_itself x)) refl
among x (y ∷ ys) (inr m) = go (is_same_live x y) (among x ys m)
  where
    go : (b : Bool) → list_any (is_same_live x) ys ≡ true → (b || list_any (is_same_live x) ys) ≡ true
    go true h = refl
    go false h = h

one_among : (x : Live) (xs : List Live) → list_any (is_same_live x) xs ≡ true → In x xs
one_among x [] h = absurd (grind arith)
one_among x (y ∷ ys) h = go (is_same_live x y) refl h (one_among x ys)
  where
    go : (b : Bool) → is_same_live x y ≡ b → (b || list_any (is_same_live x) ys) ≡ true → (list_any (is_same_live x) ys ≡ true → In x ys) → In x (y ∷ ys)
    go true e h rest = inl (same_test x y e)
    go false e h rest = inr (rest h)

not_among : (x : Live) (xs : List Live) → (In x xs → ⊥) → list_any (is_same_live x) xs ≡ false
not_among x xs ne = go (list_any (is_same_live x) xs) refl
  where
    go : (b : Bool) → list_any (is_same_live x) xs ≡ b → b ≡ false
    go true e = absurd (ne (one_among x xs e))
    go false e = refl

-- a row of switches, no two of one ioeventfd, each of which fits

abbrev On : Live → List Switch → Type 0
On x zs = In (switch true x) zs

abbrev Off : Live → List Switch → Type 0
Off x zs = In (switch false x) zs

abbrev Differ : Switch → Switch → Type 0
Differ y z = y.live ≡ z.live → ⊥

abbrev Fits : List Live → Switch → Type 0
Fits ls z = (z.on ≡ true → In z.live ls → ⊥) × (z.on ≡ false → In z.live ls)

record Switched (rs : List FlatRange) (b : Bool) (ls : List Live) (zs : List Switch) : Type 0 where
  lives : List Live
  rising : IsRising live_order lives
  runs : listener_after_all (Some (heard rs ls b)) (map switched zs) ≡ Some (heard rs lives b)
  within : (x : Live) → In x lives → (In x ls × (Off x zs → ⊥)) ⊎ On x zs
  stays : (x : Live) → In x ls → (Off x zs → ⊥) → In x lives
  comes : (x : Live) → On x zs → In x lives

not_on_off : (x y : Live) → switch true x ≡ switch false y → ⊥
not_on_off x y e = absurd (let f : true ≡ false = ap (λ (z : Switch). z.on) e in grind arith)

module _ (rs : List FlatRange) (b : Bool) where
  switch_one : (on : Bool) (x : Live) (zs : List Switch) (ls : List Live) → IsRising live_order ls → Every (Differ (switch on x)) zs
      → Fits ls (switch on x) → Every (Fits ls) zs
      → ((ns : List Live) → IsRising live_order ns → Every (Fits ns) zs → Switched rs b ns zs) → Switched rs b ls (switch on x ∷ zs)
  switch_one true x zs ls r d f fs rest =
      let new = put_live x ls in
      let fits : Every (Fits new) zs = weaker (λ z. Differ (switch true x) z × Fits ls z) (Fits new)
      (λ z k. (
        λ on m. elim (put_in z.live x ls m) as (λ c. ⊥) [ inl e ↦ k.0 (sym e) | inr l ↦ k.1.0 on l ],
        λ off. put_out z.live x ls (inr (k.1.1 off)),
      )) zs (every_both (Differ (switch true x)) (Fits ls) zs d fs) in
      let t = rest new (put_rising x ls r) fits in record {
        lives = t.lives;
        rising = t.rising;
        runs = ap (λ (c : Bool). listener_after_all (if_fits (not c) (heard rs new b)) (map switched zs)) (not_among x ls (f.0 refl)) ∙ t.runs;
        within = λ y m. elim (t.within y m) as (λ c. (In y ls × (Off y (switch true x ∷ zs) → ⊥)) ⊎ On y (switch true x ∷ zs)) [
          | inl k ↦ elim (put_in y x ls k.0) as (λ c. (In y ls × (Off y (switch true x ∷ zs) → ⊥)) ⊎ On y (switch true x ∷ zs)) [
            | inl e ↦ inr (inl (ap (switch true) e))
            | inr l ↦ inl (l, λ off. elim off as (λ c. ⊥) [ inl e ↦ not_on_off x y (sym e) | inr o ↦ k.1 o ])
          ]
          | inr o ↦ inr (inr o)
        ];
        stays = λ y m never. t.stays y (put_out y x ls (inr m)) (λ off. never (inr off));
        comes = λ y on. elim on as (λ c. In y t.lives) [
          | inl e ↦ let same : y ≡ x = ap (λ (z : Switch). z.live) e in t.stays y (put_out y x ls (inl same)) (λ off. every_in_not y same off)
          | inr o ↦ t.comes y o
        ];
      }
    where
      every_in_not : (y : Live) → y ≡ x → Off y zs → ⊥
      every_in_not y same off = every_in (Differ (switch true x)) (switch false y) zs d off (sym same)
  switch_one false x zs ls r d f fs rest =
      let test : Live → Bool = λ y. not (is_same_live x y) in
      let new = filter test ls in
      let kept : (y : Live) → In y ls → (x ≡ y → ⊥) → In y new = λ y m ne. filter_out test y ls m (not_from_false (is_same_live x y) (differs x y ne)) in
      let fits : Every (Fits new) zs = weaker (λ z. Differ (switch false x) z × Fits ls z) (Fits new)
      (λ z k. (λ on m. k.1.0 on (filter_in test z.live ls m).0, λ off. kept z.live (k.1.1 off) k.0)) zs
      (every_both (Differ (switch false x)) (Fits ls) zs d fs) in
      let t = rest new (rising-filter live_order test ls r) fits in record {
        lives = t.lives;
        rising = t.rising;
        runs = ap (λ (c : Bool). listener_after_all (if_fits c (heard rs new b)) (map switched zs)) (among x ls (f.1 refl)) ∙ t.runs;
        within = λ y m. elim (t.within y m) as (λ c. (In y ls × (Off y (switch false x ∷ zs) → ⊥)) ⊎ On y (switch false x ∷ zs)) [
          | inl k ↦ let l = filter_in test y ls k.0 in
              inl (l.0, λ off. elim off as (λ c. ⊥) [ inl e ↦ other x y (sym (ap (λ (z : Switch). z.live) e)) l.1 | inr o ↦ k.1 o ])
          | inr o ↦ inr (inr o)
        ];
        stays = λ y m never. t.stays y (kept y m (λ e. never (inl (ap (switch false) (sym e))))) (λ off. never (inr off));
        comes = λ y on. elim on as (λ c. In y t.lives) [
          | inl e ↦ absurd (not_on_off y x e)
          | inr o ↦ t.comes y o
        ];
      }
    where
      other : (x y : Live) → x ≡ y → not (is_same_live x y) ≡ true → ⊥
      other x y e h = true_is_not_false (is_same_live x y) (subst (λ (z : Live). is_same_live x z ≡ true) e (same_itself x)) (not-true (is_same_live x y) h)

  switch_all : (zs : List Switch) (ls : List Live) → IsRising live_order ls → EveryPair Differ zs → Every (Fits ls) zs → Switched rs b ls zs
  switch_all [] ls r d f = record {
    lives = ls;
    rising = r;
    runs = refl;
    within = λ x m. inl (m, λ off. off);
    stays = λ x m never. m;
    comes = λ x on. absurd on;
  }
  switch_all (z ∷ zs) ls r d f = switch_one z.on z.live zs ls r d.0 f.0 f.1 (λ ns p q. switch_all zs ns p d.1 q)

-- such a row in order

pairs_put : (R : Switch → Switch → Ordering) (x : Switch) (xs : List Switch) → Every (Differ x) xs → EveryPair Differ xs → EveryPair Differ (put_by R x xs)
pairs_put R x [] h k = (tt, tt)
pairs_put R x (y ∷ ys) h k = go (is_lt (R x y)) (pairs_put R x ys h.1 k.1)
  where
    go : (b : Bool) → EveryPair Differ (put_by R x ys) → EveryPair Differ (if b then x ∷ y ∷ ys else y ∷ put_by R x ys)
    go true rest = (h, k)
    go false rest = (every_put (Differ y) R x ys (λ e. h.0 (sym e)) k.0, rest)

pairs_sorted : (R : Switch → Switch → Ordering) (xs : List Switch) → EveryPair Differ xs → EveryPair Differ (sorted_by R xs)
pairs_sorted R [] h = tt
pairs_sorted R (x ∷ xs) h = pairs_put R x (sorted_by R xs) (every_sorted (Differ x) R xs h.0) (pairs_sorted R xs h.1)

rising_differ : (b : Bool) (xs : List Live) → IsRising live_order xs → EveryPair Differ (map (switch b) xs)
rising_differ b [] h = tt
rising_differ b (x ∷ xs) h = (
  each_in (Differ (switch b x)) (map (switch b) xs) (λ z m. let t = map_in (switch b) z xs m in
      λ e. not_itself x (subst (λ (y : Live). live_order x y ≡ Less) (sym (e ∙ ap (λ (z : Switch). z.live) t.is))
      (every_in (λ y. live_order x y ≡ Less) t.item xs h.0 t.there))),
  rising_differ b xs h.1,
)

pairs_append : (xs ys : List Switch) → EveryPair Differ xs → EveryPair Differ ys → ((x y : Switch) → In x xs → In y ys → Differ x y)
    → EveryPair Differ (xs ++ ys)
pairs_append [] ys h k c = k
pairs_append (x ∷ xs) ys h k c = (
  each_in (Differ x) (xs ++ ys) (λ z m. elim (append_in z xs ys m) as
      (λ o. Differ x z) [ inl l ↦ every_in (Differ x) z xs h.0 l | inr l ↦ c x z (inl refl) l ]),
  pairs_append xs ys h.1 k (λ y z l m. c y z (inr l) m),
)

-- lost and gained ioeventfds in one row make the old list the new one
pub switches_replay : (rs : List FlatRange) (b : Bool) (old new : List Live) → IsRising live_order old → IsRising live_order new
    → listener_after_all (Some (heard rs old b)) (map switched (switches (without old new) (without new old))) ≡ Some (heard rs new b)
switches_replay rs b old new p q =
    let row = map (switch false) (without old new) ++ map (switch true) (without new old) in
    let by : Switch → Switch → Ordering = switch_order in
    let lost_test : Live → Bool = λ x. not (list_any (is_same_live x) new) in
    let gained_test : Live → Bool = λ x. not (list_any (is_same_live x) old) in
    let lost_out : (x : Live) → In x old → (In x new → ⊥) → In x (without old new) = λ x m ne. filter_out lost_test x old m
    (not_from_false _ (not_among x new ne)) in
    let gained_out : (x : Live) → In x new → (In x old → ⊥) → In x (without new old) = λ x m ne. filter_out gained_test x new m
    (not_from_false _ (not_among x old ne)) in
    let lost_in : (x : Live) → In x (without old new) → In x old × (In x new → ⊥) = λ x m. let t = filter_in lost_test x old m in
    (t.0, λ n. true_is_not_false (list_any (is_same_live x) new) (among x new n) (not-true _ t.1)) in
    let gained_in : (x : Live) → In x (without new old) → In x new × (In x old → ⊥) = λ x m. let t = filter_in gained_test x new m in
    (t.0, λ n. true_is_not_false (list_any (is_same_live x) old) (among x old n) (not-true _ t.1)) in
    let off_in : (z : Switch) → In z (map (switch false) (without old new)) → (z.on ≡ false) × In z.live (without old new) = λ z m. let t =
    map_in (switch false) z (without old new) m in (ap (λ (z : Switch). z.on) t.is, subst (λ (z : Switch). In z.live (without old new)) (sym t.is) t.there) in
    let on_in : (z : Switch) → In z (map (switch true) (without new old)) → (z.on ≡ true) × In z.live (without new old) = λ z m. let t =
    map_in (switch true) z (without new old) m in
    (ap (λ (z : Switch). z.on) t.is, subst (λ (z : Switch). In z.live (without new old)) (sym t.is) t.there) in
    let pairs : EveryPair Differ row = pairs_append (map (switch false) (without old new)) (map (switch true) (without new old))
    (rising_differ false (without old new) (rising-filter live_order lost_test old p))
    (rising_differ true (without new old) (rising-filter live_order gained_test new q))
    (λ x y l m e. (gained_in y.live (on_in y m).1).1 (subst (λ (z : Live). In z old) e (lost_in x.live (off_in x l).1).0)) in
    let fits : Every (Fits old) row =
    each_in (Fits old) row (λ z m. elim (append_in z (map (switch false) (without old new)) (map (switch true) (without new old)) m) as (λ o. Fits old z) [
      | inl l ↦ let t = off_in z l in (λ on. true_is_not_false z.on on t.0, λ off. (lost_in z.live t.1).0)
      | inr l ↦ let t = on_in z l in (λ on. (gained_in z.live t.1).1, λ off. true_is_not_false z.on t.0 off)
    ]) in
    let t = switch_all rs b (sorted_by by row) old p (pairs_sorted by row pairs) (every_sorted (Fits old) by row fits) in
    let on_row : (x : Live) → On x (sorted_by by row) → In x (without new old) =
    λ x m. elim (append_in (switch true x) (map (switch false) (without old new)) (map (switch true) (without new old))
    (sorted_in by (switch true x) row m)) as (λ o. In x (without new old)) [
      | inl l ↦ true_is_not_false true refl (off_in (switch true x) l).0
      | inr l ↦ (on_in (switch true x) l).1
    ] in
    let off_row : (x : Live) → Off x (sorted_by by row) → In x (without old new) =
    λ x m. elim (append_in (switch false x) (map (switch false) (without old new)) (map (switch true) (without new old))
    (sorted_in by (switch false x) row m)) as (λ o. In x (without old new)) [
      | inl l ↦ (off_in (switch false x) l).1
      | inr l ↦ true_is_not_false false (on_in (switch false x) l).0 refl
    ] in
    let to_on : (x : Live) → In x (without new old) → On x (sorted_by by row) = λ x m. sorted_out by (switch true x) row
    (append_right (switch true x) (map (switch false) (without old new)) _ (map_out (switch true) x (without new old) m)) in
    let to_off : (x : Live) → In x (without old new) → Off x (sorted_by by row) = λ x m. sorted_out by (switch false x) row
    (append_left (switch false x) _ (map (switch true) (without new old)) (map_out (switch false) x (without old new) m)) in
    let same : t.lives ≡ new = unique t.lives new t.rising q
    (λ z m. elim (t.within z m) as (λ o. In z new) [
      | inl k ↦ decide z new (λ l. l) (λ ne. absurd (k.1 (to_off z (lost_out z k.0 ne))))
      | inr on ↦
          (gained_in z (on_row z on)).0
    ])
    (λ z m. decide z old (λ l. t.stays z l (λ off. (lost_in z (off_row z off)).1 m)) (λ ne. t.comes z (to_on z (gained_out z m ne)))) in
    t.runs ∙ ap (λ (ls : List Live). Some (heard rs ls b)) same
  where
    decide : {P : Type 0} (z : Live) (xs : List Live) → (In z xs → P) → ((In z xs → ⊥) → P) → P
    decide {P = P} z xs here never = go (list_any (is_same_live z) xs) refl
      where
        go : (b : Bool) → list_any (is_same_live z) xs ≡ b → P
        go true e = here (one_among z xs e)
        go false e = never (λ m. true_is_not_false (list_any (is_same_live z) xs) (among z xs m) e)

-- what one listener is told when it joins, when it leaves, and of one change

all_on : (lives : List Live) → map switched (map (switch true) lives) ≡ map (λ l. EventAdd l) lives
all_on [] = refl
all_on (l ∷ ls) = ap (λ (es : List ListenerEvent). EventAdd l ∷ es) (all_on ls)

all_off : (lives : List Live) → map switched (map (switch false) lives) ≡ map (λ l. EventDel l) lives
all_off [] = refl
all_off (l ∷ ls) = ap (λ (es : List ListenerEvent). EventDel l ∷ es) (all_off ls)

-- all ioeventfds are gained, or lost
adds_lives : (rs : List FlatRange) (b : Bool) (lives : List Live) → IsRising live_order lives → listener_after_all (Some (heard rs [] b))
    (map (λ l. EventAdd l) lives) ≡ Some (heard rs lives b)
adds_lives rs b lives p =
    let row = map (switch true) lives in
    let fits : Every (Fits []) row = each_in (Fits []) row (λ z m. let t = map_in (switch true) z lives m in
    (λ on l. l, λ off. true_is_not_false z.on (ap (λ (z : Switch). z.on) t.is) off)) in
    let t = switch_all rs b row [] tt (rising_differ true lives p) fits in
    let same : t.lives ≡ lives = unique t.lives lives t.rising p
    (λ z m. elim (t.within z m) as (λ o. In z lives) [
      | inl k ↦ absurd k.0
      | inr on ↦ let u = map_in (switch true) (switch true z) lives on in
          subst (λ (l : Live). In l lives) (sym (ap (λ (z : Switch). z.live) u.is)) u.there
    ])
    (λ z m. t.comes z (map_out (switch true) z lives m)) in
    ap (λ (es : List ListenerEvent). listener_after_all (Some (heard rs [] b)) es) (sym (all_on lives)) ∙ t.runs
    ∙ ap (λ (ls : List Live). Some (heard rs ls b)) same

deletes_lives : (rs : List FlatRange) (b : Bool) (lives : List Live) → IsRising live_order lives → listener_after_all (Some (heard rs lives b))
    (map (λ l. EventDel l) lives) ≡ Some (heard rs [] b)
deletes_lives rs b lives p =
    let row = map (switch false) lives in
    let fits : Every (Fits lives) row = each_in (Fits lives) row (λ z m. let t = map_in (switch false) z lives m in (
      λ on l. true_is_not_false z.on on (ap (λ (z : Switch). z.on) t.is),
      λ off. subst (λ (l : Live). In l lives)
          (sym (ap (λ (z : Switch). z.live) t.is)) t.there,
    )) in
    let t = switch_all rs b row lives p (rising_differ false lives p) fits in
    let same : t.lives ≡ [] = unique t.lives [] t.rising tt
    (λ z m. elim (t.within z m) as (λ o. In z []) [
      | inl k ↦ k.1 (map_out (switch false) z lives k.0)
      | inr on ↦ let u = map_in (switch false)
          (switch true z) lives on in not_on_off z u.item u.is
    ])
    (λ z m. absurd m) in
    ap (λ (es : List ListenerEvent). listener_after_all (Some (heard rs lives b)) es) (sym (all_off lives)) ∙ t.runs
    ∙ ap (λ (ls : List Live). Some (heard rs ls b)) same

adds_of : (rs : List FlatRange) → map (λ e. Range e) (walk [] rs) ≡ map (λ r. Range (Add r)) rs
adds_of [] = refl
adds_of (r ∷ rs) = ap (λ (es : List ListenerEvent). Range (Add r) ∷ es) (adds_of rs)

deletes_of : (rs : List FlatRange) → map (λ e. Range e) (walk rs []) ≡ map (λ r. Range (Delete r)) rs
deletes_of [] = refl
deletes_of (r ∷ rs) = ap (λ (es : List ListenerEvent). Range (Delete r) ∷ es) (deletes_of rs)

-- calls between a Begin and a Commit
pub between : (h k : ListenerState) (es : List ListenerEvent) → h.begun ≡ false → listener_after_all (Some (heard h.ranges h.lives true)) es
    ≡ Some (heard k.ranges k.lives true) → k.begun ≡ false
    → listener_after_all (Some h) (Begin ∷ es ++ Commit ∷ []) ≡ Some k
between h k es off run end =
    ap (λ (b : Bool). listener_after_all (if_fits (not b) (heard h.ranges h.lives true)) (es ++ Commit ∷ [])) off
    ∙ heard_both (Some (heard h.ranges h.lives true)) es (Commit ∷ [])
    ∙ ap (λ (o : Option ListenerState). listener_after_all o (Commit ∷ [])) run
    ∙ ap (λ (b : Bool). Some (heard k.ranges k.lives b)) (sym end)

pub joining_replays : (ranges : List FlatRange) (lives : List Live) → Apart ranges → IsRising live_order lives
    → listener_after_all (Some nothing_heard) (joining ranges lives) ≡ Some (heard ranges lives false)
joining_replays ranges lives a p = between nothing_heard (heard ranges lives false) (map (λ r. Range (Add r)) ranges ++ map (λ l. EventAdd l) lives) refl
    (heard_both (Some (heard [] [] true)) (map (λ r. Range (Add r)) ranges) (map (λ l. EventAdd l) lives)
    ∙ ap (λ (o : Option ListenerState). listener_after_all o (map (λ l. EventAdd l) lives))
    (ap (λ (es : List ListenerEvent). listener_after_all (Some (heard [] [] true)) es) (sym (adds_of ranges))
    ∙ range_calls (walk [] ranges) [] ranges [] true (walk_replays_apart [] ranges tt a))
    ∙ adds_lives ranges true lives p) refl

pub leaving_replays : (ranges : List FlatRange) (lives : List Live) → Apart ranges → IsRising live_order lives
    → listener_after_all (Some (heard ranges lives false)) (leaving ranges lives) ≡ Some nothing_heard
leaving_replays ranges lives a p = between (heard ranges lives false) nothing_heard (map (λ l. EventDel l) lives ++ map (λ r. Range (Delete r)) ranges) refl
    (heard_both (Some (heard ranges lives true)) (map (λ l. EventDel l) lives) (map (λ r. Range (Delete r)) ranges)
    ∙ ap (λ (o : Option ListenerState). listener_after_all o (map (λ r. Range (Delete r)) ranges)) (deletes_lives ranges true lives p)
    ∙ ap (λ (es : List ListenerEvent). listener_after_all (Some (heard ranges [] true)) es) (sym (deletes_of ranges))
    ∙ range_calls (walk ranges []) ranges [] [] true (walk_replays_apart ranges [] a tt)) refl

-- the calls of one space, between a Begin and a Commit
pub change_replays : (old new : Forest) (s : SpaceId) → listener_after_all (Some (heard (view_of old s) (lives_of old s) false))
    (Begin ∷ calls_of (change_of old new s) ++ Commit ∷ []) ≡ Some (heard (view_of new s) (lives_of new s) false)
change_replays old new s =
    let c = change_of old new s in
    between (heard (view_of old s) (lives_of old s) false) (heard (view_of new s) (lives_of new s) false) (calls_of c) refl
    (heard_both (Some (heard (view_of old s) (lives_of old s) true)) (map (λ e. Range e) c.walk) (map switched (switches c.lost c.gained))
    ∙ ap (λ (o : Option ListenerState). listener_after_all o (map switched (switches c.lost c.gained)))
    (range_calls c.walk (view_of old s) (view_of new s) (lives_of old s) true
    (walk_replays_apart (view_of old s) (view_of new s) (view_apart old s) (view_apart new s)))
    ∙ switches_replay (view_of new s) true (lives_of old s) (lives_of new s) (lists_live old s).rising (lists_live new s).rising) refl
