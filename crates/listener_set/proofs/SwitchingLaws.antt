-- The lost and the gained ioeventfds of a space, one after another in order.
use Rattle.std.proofs.Common.{◌≡◌, ℕ, zero, suc, ◌+◌, ◌<◌, ◌≤◌, true, false, List, [], ◌∷◌, ◌++◌, Some, None, map, length, length-append}
use Rattle.std.proofs.Common.{drop, drop-drop, drop-cons, get_or, add-one, refl, sym, ap, ◌∙◌, subst, arith, append_assoc}
use Rattle.std.specs.Prelude.{flat_map, filter, slice_get}
use Rattle.std.specs.declared.cmp.Ordering.{Ordering}
use Rattle.std.specs.declared.cmp.Ordering.TheVariants.{Less, Equal, Greater}
use Rattle.std.specs.Ordering.{ordering_reverse}
use Rattle.mem_base.specs.declared.map.ids.SpaceId.{SpaceId}
use Rattle.mem_base.specs.declared.map.ioevents.Live.{Live}
use Rattle.mem_base.specs.declared.views.listening.Change.{Change}
use Rattle.mem_base.specs.declared.views.listening.Listener.{Listener}
use Rattle.mem_base.specs.declared.views.listening.ListenerEvent.TheVariants.{Begin, EventAdd, EventDel, Commit}
use Rattle.mem_base.specs.lists.Every.{Every}
use Rattle.mem_base.specs.lists.Sorting.{IsRising, put_by, sorted_by}
use Rattle.mem_base.specs.views.LiveEvents.{live_order}
use Rattle.mem_base.specs.views.Listening.{Delivery, Switch, switch, switch_order, switches, switched, deliver_each, deliveries_of, deliveries_of_changes}
use Rattle.mem_base.proofs.EveryLaws.{weaker, every_map, every_append}
use Rattle.view_laws.proofs.LiveLaws.{order_total}
use Rattle.listener_set.specs.Sets.{is_told}
use Rattle.listener_set.specs.Switches.{first_live, lesser, next_of, told_all}
use Rattle.listener_set.specs.declared.switching.NextSwitch.{NextSwitch}
use Rattle.listener_set.specs.declared.switching.NextSwitch.TheVariants.{Lost, Gained}
use Rattle.mem_base.proofs.ForestLaws.{every_sorted}

-- one that is less than all others stands first
put_first : (x : Switch) (xs : List Switch) → Every (λ y. switch_order x y ≡ Less) xs → put_by switch_order x xs ≡ x ∷ xs
put_first x [] h = refl
put_first x (y ∷ ys) h = rw h.0 refl

sorted_first : (x : Switch) (xs : List Switch) → Every (λ y. switch_order x y ≡ Less) xs → sorted_by switch_order (x ∷ xs) ≡ x ∷ sorted_by switch_order xs
sorted_first x xs h = put_first x (sorted_by switch_order xs) (every_sorted (λ y. switch_order x y ≡ Less) switch_order xs h)

-- also where it stands among others, which are greater
sorted_among : (x : Switch) (xs ys : List Switch) → Every (λ y. switch_order y x ≡ Greater) xs → Every (λ y. switch_order x y ≡ Less) ys
    → sorted_by switch_order (xs ++ x ∷ ys) ≡ x ∷ sorted_by switch_order (xs ++ ys)
sorted_among x [] ys h k = sorted_first x ys k
sorted_among x (z ∷ zs) ys h k = ap (put_by switch_order z) (sorted_among x zs ys h.1 k) ∙ rw h.0 refl

-- the least of the lost ones, where no gained one is less

lost_first : (x y : Live) → live_order x y ≡ Less → switch_order (switch false x) (switch true y) ≡ Less
lost_first x y e = rw e refl

lost_before : (x y : Live) → live_order x y ≡ Equal → switch_order (switch false x) (switch true y) ≡ Less
lost_before x y e = rw e refl

lost_next : (x : Live) (xs ys : List Live) → Every (λ z. live_order x z ≡ Less) xs → Every (λ z. switch_order (switch false x) (switch true z) ≡ Less) ys
    → switches (x ∷ xs) ys ≡ switch false x ∷ switches xs ys
lost_next x xs ys h k = sorted_first (switch false x) (map (switch false) xs ++ map (switch true) ys)
    (every_append (λ z. switch_order (switch false x) z ≡ Less) (map (switch false) xs) (map (switch true) ys)
    (every_map (λ z. switch_order (switch false x) z ≡ Less) (switch false) xs
    (weaker (λ z. live_order x z ≡ Less) (λ z. switch_order (switch false x) (switch false z) ≡ Less) (λ z e. rw e refl) xs h))
    (every_map (λ z. switch_order (switch false x) z ≡ Less) (switch true) ys k))

-- the least of the gained ones, where each lost one is greater
gained_next : (y : Live) (xs ys : List Live) → Every (λ z. live_order z y ≡ Greater) xs → Every (λ z. live_order y z ≡ Less) ys
    → switches xs (y ∷ ys) ≡ switch true y ∷ switches xs ys
gained_next y xs ys h k = sorted_among (switch true y) (map (switch false) xs) (map (switch true) ys)
    (every_map (λ z. switch_order z (switch true y) ≡ Greater) (switch false) xs
    (weaker (λ z. live_order z y ≡ Greater) (λ z. switch_order (switch false z) (switch true y) ≡ Greater) (λ z e. rw e refl) xs h))
    (every_map (λ z. switch_order (switch true y) z ≡ Less) (switch true) ys
    (weaker (λ z. live_order y z ≡ Less) (λ z. switch_order (switch true y) (switch true z) ≡ Less) (λ z e. rw e refl) ys k))

back : (x y : Live) → live_order x y ≡ Less → live_order y x ≡ Greater
back x y e = order_total.antisymm y x ∙ ap ordering_reverse e

forth : (x y : Live) → live_order x y ≡ Greater → live_order y x ≡ Less
forth x y e = order_total.antisymm y x ∙ ap ordering_reverse e

-- which ioeventfd comes next

lost_of_two : (x y z : Live) (o : Ordering) → live_order x y ≡ o → lesser o x y ≡ Lost z → (x ≡ z) × (switch_order (switch false x) (switch true y) ≡ Less)
    × ((w : Live) → live_order y w ≡ Less → switch_order (switch false x) (switch true w) ≡ Less)
lost_of_two x y z Less e h = (let q = h in cc, lost_first x y e, λ w l. lost_first x w (order_total.trans x y w e l))
lost_of_two x y z Equal e h = (let q = h in cc, lost_before x y e, λ w l. lost_first x w (order_total.congr x y w e ∙ l))
lost_of_two x y z Greater e h = absurd (let no = h in cc)

gained_of_two : (x y z : Live) (o : Ordering) → live_order x y ≡ o → lesser o x y ≡ Gained z → (y ≡ z) × (live_order x y ≡ Greater)
gained_of_two x y z Less e h = absurd (let no = h in cc)
gained_of_two x y z Equal e h = absurd (let no = h in cc)
gained_of_two x y z Greater e h = (let q = h in cc, e)

some_same : (x y : NextSwitch) → Some x ≡ Some y → x ≡ y
some_same x y e = let h = e in cc

-- the next one, and what is left
record IsNext (x : Live) (xs : List Live) : Type 0 where
  are : xs ≡ x ∷ drop 1 xs
  rising : IsRising live_order (drop 1 xs)

next_lost : (x : Live) (xs ys : List Live) → IsRising live_order xs → IsRising live_order ys → next_of (first_live xs) (first_live ys) ≡ Some (Lost x)
    → IsNext x xs × (switches xs ys ≡ switch false x ∷ switches (drop 1 xs) ys)
next_lost x [] [] p q h = absurd (let no = h in cc)
next_lost x [] (g ∷ gs) p q h = absurd (let no = h in cc)
next_lost x (z ∷ zs) [] p q h =
    let same : z ≡ x = let e = h in cc in (
      record { are = ap (λ w. w ∷ zs) same; rising = p.1 },
      subst (λ w. switches (z ∷ zs) [] ≡ switch false w ∷ switches zs []) same (lost_next z zs [] p.0 tt),
    )
next_lost x (z ∷ zs) (g ∷ gs) p q h =
    let t = lost_of_two z g x (live_order z g) refl (some_same _ _ h) in (
      record { are = ap (λ w. w ∷ zs) t.0; rising = p.1 },
      subst (λ w. switches (z ∷ zs) (g ∷ gs) ≡ switch false w ∷ switches zs (g ∷ gs)) t.0
          (lost_next z zs (g ∷ gs) p.0 (t.1, weaker (λ w. live_order g w ≡ Less) (λ w. switch_order (switch false z) (switch true w) ≡ Less) t.2 gs q.0)),
    )

next_gained : (y : Live) (xs ys : List Live) → IsRising live_order xs → IsRising live_order ys
    → next_of (first_live xs) (first_live ys) ≡ Some (Gained y) → IsNext y ys × (switches xs ys ≡ switch true y ∷ switches xs (drop 1 ys))
next_gained y [] [] p q h = absurd (let no = h in cc)
next_gained y (z ∷ zs) [] p q h = absurd (let no = h in cc)
next_gained y [] (g ∷ gs) p q h =
    let same : g ≡ y = let e = h in cc in (
      record { are = ap (λ w. w ∷ gs) same; rising = q.1 },
      subst (λ w. switches [] (g ∷ gs) ≡ switch true w ∷ switches [] gs) same (gained_next g [] gs tt q.0),
    )
next_gained y (z ∷ zs) (g ∷ gs) p q h =
    let t = gained_of_two z g y (live_order z g) refl (some_same _ _ h) in
    let less : live_order g z ≡ Less = forth z g t.1 in (
      record { are = ap (λ w. w ∷ gs) t.0; rising = q.1 },
      subst (λ w. switches (z ∷ zs) (g ∷ gs) ≡ switch true w ∷ switches (z ∷ zs) gs) t.0
          (gained_next g (z ∷ zs) gs (
            t.1,
            weaker (λ w. live_order z w ≡ Less) (λ w. live_order w g ≡ Greater)
                (λ w l. back g w (order_total.trans g z w less l)) zs p.0,
          ) q.0),
    )

next_none : (xs ys : List Live) → next_of (first_live xs) (first_live ys) ≡ None → (xs ≡ []) × (ys ≡ [])
next_none [] [] h = (refl, refl)
next_none [] (g ∷ gs) h = absurd (let no = h in cc)
next_none (z ∷ zs) [] h = absurd (let no = h in cc)
next_none (z ∷ zs) (g ∷ gs) h = absurd (let no = h in cc)

-- an ioeventfd that is left stands at an index within the list
shorter : (i : ℕ) (xs : List Live) (x : Live) → drop i xs ≡ x ∷ drop 1 (drop i xs) → i + 1 ≤ length xs
shorter zero [] x e = absurd (let no = e in cc)
shorter zero (y ∷ ys) x e = omega arith
shorter (suc i) [] x e = absurd (let no = e in cc)
shorter (suc i) (y ∷ ys) x e = let l = shorter i ys x e in omega arith

-- the first of the ioeventfds that are left
pub live_at_is : (i : ℕ) (xs : List Live) → slice_get xs i ≡ first_live (drop i xs)
live_at_is i [] = nothing i
  where
    nothing : (i : ℕ) → slice_get {X = Live} [] i ≡ first_live (drop i [])
    nothing zero = refl
    nothing (suc i) = refl
live_at_is zero (x ∷ xs) = refl
live_at_is (suc i) (x ∷ xs) = live_at_is i xs

-- what is left to tell of the ioeventfds of a space
abbrev pub left_to_tell : SpaceId → List Listener → List Live → List Live → List Delivery
left_to_tell space ls lost gained = told_all space ls (map switched (switches lost gained))

-- one turn: a call, and what is left after it
pub record IsTurn (said left next : List Delivery) (rest : List Live) (i n : ℕ) : Type 0 where
  pub are : left ≡ said ++ next
  pub rising : IsRising live_order rest
  pub within : i + 1 ≤ n

module _ (space : SpaceId) (ls : List Listener) (lost gained : List Live) (i j : ℕ) where
  pub turn_lost : (x : Live) → IsRising live_order (drop i lost) → IsRising live_order (drop j gained)
      → next_of (first_live (drop i lost)) (first_live (drop j gained)) ≡ Some (Lost x)
      → IsTurn (deliver_each (filter (is_told (Some space)) ls) (EventDel x)) (left_to_tell space ls (drop i lost) (drop j gained))
      (left_to_tell space ls (drop (i + 1) lost) (drop j gained)) (drop (i + 1) lost) i (length lost)
  turn_lost x p q h =
      let t = next_lost x (drop i lost) (drop j gained) p q h in
      let further : drop 1 (drop i lost) ≡ drop (i + 1) lost = drop-drop 1 i lost in
      record {
        are = ap (λ s. told_all space ls (map switched s)) t.1
            ∙ ap (λ r. deliver_each (filter (is_told (Some space)) ls) (EventDel x) ++ left_to_tell space ls r (drop j gained)) further;
        rising = subst (IsRising live_order) further t.0.rising;
        within = shorter i lost x t.0.are;
      }

  pub turn_gained : (y : Live) → IsRising live_order (drop i lost) → IsRising live_order (drop j gained)
      → next_of (first_live (drop i lost)) (first_live (drop j gained)) ≡ Some (Gained y)
      → IsTurn (deliver_each (filter (is_told (Some space)) ls) (EventAdd y)) (left_to_tell space ls (drop i lost) (drop j gained))
      (left_to_tell space ls (drop i lost) (drop (j + 1) gained)) (drop (j + 1) gained) j (length gained)
  turn_gained y p q h =
      let t = next_gained y (drop i lost) (drop j gained) p q h in
      let further : drop 1 (drop j gained) ≡ drop (j + 1) gained = drop-drop 1 j gained in
      record {
        are = ap (λ s. told_all space ls (map switched s)) t.1
            ∙ ap (λ r. deliver_each (filter (is_told (Some space)) ls) (EventAdd y) ++ left_to_tell space ls (drop i lost) r) further;
        rising = subst (IsRising live_order) further t.0.rising;
        within = shorter j gained y t.0.are;
      }

  pub nothing_left : next_of (first_live (drop i lost)) (first_live (drop j gained)) ≡ None → left_to_tell space ls (drop i lost) (drop j gained) ≡ []
  nothing_left h = let t = next_none (drop i lost) (drop j gained) h in rw (t.0, t.1) refl

-- calls that are told, and what is left after them

pub step_items : (now said left next old : List Delivery) → left ≡ said ++ next → now ++ left ≡ old → (now ++ said) ++ next ≡ old
step_items now said left next old e h = append_assoc now said next ∙ ap (λ x. now ++ x) (sym e) ∙ h

pub step_len : (said left next : List Delivery) (now then old : ℕ) → left ≡ said ++ next → then ≡ now + length said → now + length left ≡ old
    → then + length next ≡ old
step_len said left next now then old e t h = let both : length left ≡ length said + length next = ap length e ∙ length-append said next in omega arith

pub step_room : (said left next : List Delivery) (now old room then_room : ℕ) → left ≡ said ++ next → now + length left ≡ old → old ≤ room → room ≤ then_room
    → now + length said ≤ then_room
step_room said left next now old room then_room e h l m = let both : length left ≡ length said + length next = ap length e ∙ length-append said next in
    omega arith

-- the next of some changes, and those after it
pub changes_cut : (ls : List Listener) (cs : List Change) (i : ℕ) (c : Change) → i < length cs → c ≡ get_or cs i c
    → flat_map (deliveries_of ls) (drop i cs) ≡ deliveries_of ls c ++ flat_map (deliveries_of ls) (drop (i + 1) cs)
changes_cut ls cs i c l e =
    ap (flat_map (deliveries_of ls)) (drop-cons cs i c l ∙ ap (λ n. get_or cs i c ∷ drop n cs) (sym (add-one i)) ∙ ap (λ x. x ∷ drop (i + 1) cs) (sym e))

-- what everybody is told, whatever the space
pub all_told : (ls : List Listener) → filter (is_told None) ls ≡ ls
all_told [] = refl
all_told (l ∷ ls) = ap (λ xs. l ∷ xs) (all_told ls)

-- a publish is Begin, the changes and Commit
pub publish_cut : (ls : List Listener) (cs : List Change) → deliveries_of_changes ls cs
    ≡ (deliver_each (filter (is_told None) ls) Begin ++ flat_map (deliveries_of ls) cs) ++ deliver_each (filter (is_told None) ls) Commit
publish_cut ls cs = rw (all_told ls) refl

pub publish_length : (ls : List Listener) (cs : List Change) → length (deliveries_of_changes ls cs)
    ≡ (length (deliver_each (filter (is_told None) ls) Begin) + length (flat_map (deliveries_of ls) cs)) + length
    (deliver_each (filter (is_told None) ls) Commit)
publish_length ls cs =
    let begin = deliver_each (filter (is_told None) ls) Begin in
    let told = flat_map (deliveries_of ls) cs in
    let commit = deliver_each (filter (is_told None) ls) Commit in
    ap length (publish_cut ls cs) ∙ length-append (begin ++ told) commit ∙ ap (λ n. n + length commit) (length-append begin told)
