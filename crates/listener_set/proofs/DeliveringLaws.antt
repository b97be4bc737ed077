-- A call to each listener of a space, in ascending or descending order.
use Rattle.std.proofs.Common.{◌≡◌, ℕ, ◌+◌, ◌-◌, ◌<◌, ◌≤◌, Bool, true, false, cond, List, [], ◌∷◌, ◌++◌, map, take, length, get_or, refl, sym, ap}
use Rattle.std.proofs.Common.{◌∙◌, arith, append_assoc, append-nil, length-append}
use Rattle.std.specs.Prelude.{filter, flat_map, reverse, Option}
use Rattle.std.proofs.lemmas.List.{reverse-append, take_more}
use Rattle.mem_base.specs.declared.map.ids.SpaceId.{SpaceId}
use Rattle.mem_base.specs.declared.views.listening.Listener.{Listener}
use Rattle.mem_base.specs.declared.views.listening.ListenerEvent.{ListenerEvent}
use Rattle.mem_base.specs.views.Listening.{Delivery, deliver_each, goes_down}
use Rattle.listener_set.specs.Sets.{is_told, told_one, told_up, told_down}

module _ (space : Option SpaceId) (event : ListenerEvent) where
  abbrev call : Listener → Delivery
  call l = (l.listener, event)

  one_is : (l : Listener) → told_one space event l ≡ map call (filter (is_told space) (l ∷ []))
  one_is l = go (is_told space l)
    where
      go : (b : Bool) → cond b ((l.listener, event) ∷ []) [] ≡ map call (cond b (l ∷ []) [])
      go true = refl
      go false = refl

  up_is : (ls : List Listener) → told_up space event ls ≡ map call (filter (is_told space) ls)
  up_is [] = refl
  up_is (l ∷ ls) = go (is_told space l) (up_is ls)
    where
      go : (b : Bool) → told_up space event ls ≡ map call (filter (is_told space) ls) → cond b ((l.listener, event) ∷ []) []
          ++ told_up space event ls ≡ map call (cond b (l ∷ filter (is_told space) ls) (filter (is_told space) ls))
      go true e = ap (λ x. (l.listener, event) ∷ x) e
      go false e = e

  filter_push : (xs : List Listener) (z : Listener) → filter (is_told space) (xs ++ z ∷ []) ≡ filter (is_told space) xs ++ filter (is_told space) (z ∷ [])
  filter_push [] z = refl
  filter_push (x ∷ xs) z = go (is_told space x) (filter_push xs z)
    where
      go : (b : Bool) → filter (is_told space) (xs ++ z ∷ []) ≡ filter (is_told space) xs ++ filter (is_told space) (z ∷ []) →
          cond b (x ∷ filter (is_told space) (xs ++ z ∷ [])) (filter (is_told space) (xs ++ z ∷ [])) ≡ cond b (x ∷ filter (is_told space) xs)
          (filter (is_told space) xs) ++ filter (is_told space) (z ∷ [])
      go true e = ap (λ l. x ∷ l) e
      go false e = e

  filter_reverse : (ls : List Listener) → filter (is_told space) (reverse ls) ≡ reverse (filter (is_told space) ls)
  filter_reverse [] = refl
  filter_reverse (l ∷ ls) =
      ap (filter (is_told space)) (reverse-append (l ∷ []) ls) ∙ filter_push (reverse ls) l ∙ ap (λ x. x ++ filter (is_told space) (l ∷ [])) (filter_reverse ls)
      ∙ last (is_told space l)
    where
      last : (b : Bool) → reverse (filter (is_told space) ls)
          ++ cond b (l ∷ []) [] ≡ reverse (cond b (l ∷ filter (is_told space) ls) (filter (is_told space) ls))
      last true = sym (reverse-append (l ∷ []) (filter (is_told space) ls))
      last false = append-nil (reverse (filter (is_told space) ls))

  down_is : (ls : List Listener) → told_down space event ls ≡ map call (reverse (filter (is_told space) ls))
  down_is ls = up_is (reverse ls) ∙ ap (map call) (filter_reverse ls)

  pub each_up : (ls : List Listener) → goes_down event ≡ false → deliver_each (filter (is_told space) ls) event ≡ told_up space event ls
  each_up ls e = rw e (sym (up_is ls))

  pub each_down : (ls : List Listener) → goes_down event ≡ true → deliver_each (filter (is_told space) ls) event ≡ told_down space event ls
  each_down ls e = rw e (sym (down_is ls))

  -- the last listener that is left, and then those before it
  pub next_down : (ls : List Listener) (k : ℕ) (d : Listener) → k < length ls →
      told_down space event (take (k + 1) ls) ≡ told_one space event (get_or ls k d) ++ told_down space event (take k ls)
  next_down ls k d l =
      ap (told_down space event) (take_more ls k d l) ∙ ap (flat_map (told_one space event)) (reverse-append (take k ls) (get_or ls k d ∷ []))

  -- one turn from the last to the first: of the first i, the last is told
  pub turn_down : (ls : List Listener) (i : ℕ) (d : Listener) (old now : List Delivery) → 0 < i → i ≤ length ls
      → now ++ told_down space event (take i ls) ≡ old
      → (now ++ told_one space event (get_or ls (i - 1) d)) ++ told_down space event (take (i - 1) ls) ≡ old
  turn_down ls i d old now some most h =
      let here : (i - 1) + 1 ≡ i = omega arith in
      append_assoc now (told_one space event (get_or ls (i - 1) d)) (told_down space event (take (i - 1) ls))
      ∙ ap (λ x. now ++ x) (sym (next_down ls (i - 1) d (omega arith)) ∙ ap (λ n. told_down space event (take n ls)) here)
      ∙ h

  pub count_down : (ls : List Listener) (i : ℕ) (d : Listener) (old now next : ℕ) → 0 < i → i ≤ length ls
      → next ≡ now + length (told_one space event (get_or ls (i - 1) d))
      → now + length (told_down space event (take i ls)) ≡ old
      → next + length (told_down space event (take (i - 1) ls)) ≡ old
  count_down ls i d old now next some most n h =
      let here : i ≡ (i - 1) + 1 = omega arith in
      let both = ap (λ m. length (told_down space event (take m ls))) here ∙ ap length (next_down ls (i - 1) d (omega arith))
      ∙ length-append (told_one space event (get_or ls (i - 1) d)) (told_down space event (take (i - 1) ls)) in
      omega arith
