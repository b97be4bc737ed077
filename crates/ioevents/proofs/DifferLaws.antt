-- What two lists of live ioeventfds in order lose and gain, one ioeventfd after another.
use Rattle.std.proofs.Common.{◌≡◌, ℕ, zero, suc, ◌+◌, ◌<◌, ◌≤◌, ◌⊎◌, inl, inr, Bool, true, false, ◌||◌, cond, List, [], ◌∷◌, ◌++◌, length}
use Rattle.std.proofs.Common.{drop, drop-cons, get_or, add-one, refl, sym, ap, ◌∙◌, subst, arith, append_assoc}
use Rattle.std.specs.Prelude.{filter, not}
use Rattle.std.specs.List.{list_any}
use Rattle.std.specs.declared.cmp.Ordering.TheVariants.{Less, Equal, Greater}
use Rattle.std.specs.Ordering.{ordering_reverse}
use Rattle.mem_base.specs.declared.map.ioevents.Live.{Live}
use Rattle.mem_base.specs.lists.Every.{Every}
use Rattle.mem_base.specs.lists.Sorting.{IsRising}
use Rattle.mem_base.specs.views.LiveEvents.{live_order, is_same_live, without, ShareNoLive}
use Rattle.mem_base.proofs.EveryLaws.{weaker}
use Rattle.mem_base.proofs.PlaceLaws.{rising-filter}
use Rattle.view_laws.proofs.LiveLaws.{order_total, order_itself, same_live}

none_same : (x : Live) (ys : List Live) → Every (λ y. live_order x y ≡ Less) ys → list_any (is_same_live x) ys ≡ false
none_same x [] h = refl
none_same x (y ∷ ys) h = rw h.0 (none_same x ys h.1)

-- an ioeventfd that stands before all of the other list is not in it
pub without_less : (x : Live) (xs ys : List Live) → Every (λ y. live_order x y ≡ Less) ys → without (x ∷ xs) ys ≡ x ∷ without xs ys
without_less x xs ys h = rw (none_same x ys h) refl

-- one of the other list that stands before all of this one is none of it
pub without_past : (y : Live) (xs ys : List Live) → Every (λ x. live_order y x ≡ Less) xs → without xs (y ∷ ys) ≡ without xs ys
without_past y [] ys h = refl
without_past y (x ∷ xs) ys h =
    let after : live_order x y ≡ Greater = order_total.antisymm x y ∙ ap ordering_reverse h.0 in
    rw after (kept x (list_any (is_same_live x) ys) (without xs (y ∷ ys)) (without xs ys) (without_past y xs ys h.1))
  where
    kept : (x : Live) (b : Bool) (us vs : List Live) → us ≡ vs → cond (not b) (x ∷ us) us ≡ cond (not b) (x ∷ vs) vs
    kept x true us vs e = e
    kept x false us vs e = ap (λ w. x ∷ w) e

-- one that both lists begin with is in neither
pub without_both : (x : Live) (xs ys : List Live) → Every (λ z. live_order x z ≡ Less) xs → without (x ∷ xs) (x ∷ ys) ≡ without xs ys
without_both x xs ys h = rw (order_itself x) (without_past x xs ys h)

-- how far the comparison is
pub record IsDiffering (old new lost gained os ns : List Live) : Type 0 where
  pub lost_is : lost ++ without os ns ≡ without old new
  pub gained_is : gained ++ without ns os ≡ without new old
  pub rising_old : IsRising live_order os
  pub rising_new : IsRising live_order ns

before_all : (x y : Live) (ys : List Live) → live_order x y ≡ Less → IsRising live_order (y ∷ ys) → Every (λ z. live_order x z ≡ Less) (y ∷ ys)
before_all x y ys e h = (e, weaker (λ z. live_order y z ≡ Less) (λ z. live_order x z ≡ Less) (λ z l. order_total.trans x y z e l) ys h.0)

module _ (old new lost gained : List Live) (x y : Live) (os ns : List Live) (d : IsDiffering old new lost gained (x ∷ os) (y ∷ ns)) where
  differing_less : live_order x y ≡ Less → IsDiffering old new (lost ++ x ∷ []) gained os (y ∷ ns)
  differing_less e =
      let before = before_all x y ns e d.rising_new in
      record {
        lost_is = append_assoc lost (x ∷ []) (without os (y ∷ ns)) ∙ ap (λ l. lost ++ l) (sym (without_less x os (y ∷ ns) before)) ∙ d.lost_is;
        gained_is = ap (λ l. gained ++ l) (sym (without_past x (y ∷ ns) os before)) ∙ d.gained_is;
        rising_old = d.rising_old.1;
        rising_new = d.rising_new;
      }

  differing_greater : live_order x y ≡ Greater → IsDiffering old new lost (gained ++ y ∷ []) (x ∷ os) ns
  differing_greater e =
      let back : live_order y x ≡ Less = order_total.antisymm y x ∙ ap ordering_reverse e in
      let before = before_all y x os back d.rising_old in
      record {
        lost_is = ap (λ l. lost ++ l) (sym (without_past y (x ∷ os) ns before)) ∙ d.lost_is;
        gained_is = append_assoc gained (y ∷ []) (without ns (x ∷ os)) ∙ ap (λ l. gained ++ l) (sym (without_less y ns (x ∷ os) before)) ∙ d.gained_is;
        rising_old = d.rising_old;
        rising_new = d.rising_new.1;
      }

  differing_equal : live_order x y ≡ Equal → IsDiffering old new lost gained os ns
  differing_equal e =
      let same = same_live x y e in
      let news = subst (λ z. Every (λ w. live_order z w ≡ Less) ns) (sym same) d.rising_new.0 in
      record {
        lost_is = ap (λ l. lost ++ l) (sym (ap (λ z. without (x ∷ os) (z ∷ ns)) (sym same) ∙ without_both x os ns d.rising_old.0)) ∙ d.lost_is;
        gained_is = ap (λ l. gained ++ l) (sym (ap (λ z. without (z ∷ ns) (x ∷ os)) (sym same) ∙ without_both x ns os news)) ∙ d.gained_is;
        rising_old = d.rising_old.1;
        rising_new = d.rising_new.1;
      }

cut : (xs : List Live) (i : ℕ) (d : Live) → i < length xs → drop i xs ≡ get_or xs i d ∷ drop (i + 1) xs
cut xs i d l = drop-cons xs i d l ∙ ap (λ n. get_or xs i d ∷ drop n xs) (sym (add-one i))

module _ (old new lost gained : List Live) (i j : ℕ) (d e : Live) (li : i < length old) (lj : j < length new)
    (w : IsDiffering old new lost gained (drop i old) (drop j new)) where
  at_firsts : IsDiffering old new lost gained (get_or old i d ∷ drop (i + 1) old) (get_or new j e ∷ drop (j + 1) new)
  at_firsts = subst (λ ns. IsDiffering old new lost gained (get_or old i d ∷ drop (i + 1) old) ns) (cut new j e lj)
      (subst (λ os. IsDiffering old new lost gained os (drop j new)) (cut old i d li) w)

  pub turn_less : live_order (get_or old i d) (get_or new j e) ≡ Less → IsDiffering old new (lost ++ get_or old i d ∷ []) gained (drop (i + 1) old) (drop j new)
  turn_less o = subst (λ ns. IsDiffering old new (lost ++ get_or old i d ∷ []) gained (drop (i + 1) old) ns) (sym (cut new j e lj))
      (differing_less old new lost gained (get_or old i d) (get_or new j e) (drop (i + 1) old) (drop (j + 1) new) at_firsts o)

  pub turn_greater : live_order (get_or old i d) (get_or new j e) ≡ Greater →
      IsDiffering old new lost (gained ++ get_or new j e ∷ []) (drop i old) (drop (j + 1) new)
  turn_greater o = subst (λ os. IsDiffering old new lost (gained ++ get_or new j e ∷ []) os (drop (j + 1) new)) (sym (cut old i d li))
      (differing_greater old new lost gained (get_or old i d) (get_or new j e) (drop (i + 1) old) (drop (j + 1) new) at_firsts o)

  pub turn_equal : live_order (get_or old i d) (get_or new j e) ≡ Equal → IsDiffering old new lost gained (drop (i + 1) old) (drop (j + 1) new)
  turn_equal o = differing_equal old new lost gained (get_or old i d) (get_or new j e) (drop (i + 1) old) (drop (j + 1) new) at_firsts o

without_none : (xs : List Live) → without xs [] ≡ xs
without_none [] = refl
without_none (x ∷ xs) = ap (λ l. x ∷ l) (without_none xs)

-- where one list is at its end, the other's rest is lost or gained whole
pub ended : (old new lost gained os ns : List Live) → (os ≡ []) ⊎ (ns ≡ []) → IsDiffering old new lost gained os ns → (lost ++ os ≡ without old new)
    × (gained ++ ns ≡ without new old)
ended old new lost gained os ns (inl e) d =
    let at = subst (λ x. IsDiffering old new lost gained x ns) e d in
    (ap (λ x. lost ++ x) e ∙ at.lost_is, ap (λ x. gained ++ x) (sym (without_none ns)) ∙ at.gained_is)
ended old new lost gained os ns (inr e) d =
    let at = subst (λ x. IsDiffering old new lost gained os x) e d in
    (ap (λ x. lost ++ x) (sym (without_none os)) ∙ at.lost_is, ap (λ x. gained ++ x) e ∙ at.gained_is)

pub without_rising : (xs ys : List Live) → IsRising live_order xs → IsRising live_order (without xs ys)
without_rising xs ys h = rising-filter live_order (λ x. not (list_any (is_same_live x) ys)) xs h

-- nothing that is lost is gained

none_in_part : (p q : Live → Bool) (xs : List Live) → list_any p xs ≡ false → list_any p (filter q xs) ≡ false
none_in_part p q [] e = refl
none_in_part p q (x ∷ xs) e = go (p x) refl e (q x) (none_in_part p q xs)
  where
    go : (b : Bool) → p x ≡ b → (b || list_any p xs) ≡ false → (k : Bool) → (list_any p xs ≡ false → list_any p (filter q xs) ≡ false) →
        list_any p (cond k (x ∷ filter q xs) (filter q xs)) ≡ false
    go true t e k rest = absurd (let no = e in cc)
    go false t e true rest = rw t (rest e)
    go false t e false rest = rest e

pub share_nothing : (new old xs : List Live) → ShareNoLive (without xs new) (without new old)
share_nothing new old [] = tt
share_nothing new old (x ∷ xs) = go (list_any (is_same_live x) new) refl (share_nothing new old xs)
  where
    go : (b : Bool) → list_any (is_same_live x) new ≡ b → ShareNoLive (without xs new) (without new old) →
        ShareNoLive (cond (not b) (x ∷ without xs new) (without xs new)) (without new old)
    go true e rest = rest
    go false e rest = (none_in_part (is_same_live x) (λ n. not (list_any (is_same_live n) old)) new e, rest)

pub drop-past : (i : ℕ) (xs : List Live) → length xs ≤ i → drop i xs ≡ []
drop-past zero [] l = refl
drop-past zero (x ∷ xs) l = absurd (omega arith)
drop-past (suc i) [] l = refl
drop-past (suc i) (x ∷ xs) l = drop-past i xs (omega arith)
