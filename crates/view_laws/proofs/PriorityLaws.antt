-- Listeners by priority, of which some leave.
use Rattle.std.proofs.Common.{◌≡◌, Bool, true, false, List, [], ◌∷◌, refl, sym, ap, ◌∙◌, if◌then◌else◌}
use Rattle.std.specs.Prelude.{filter}
use Rattle.std.specs.List.{fold}
use Rattle.std.specs.declared.cmp.Ordering.{Ordering}
use Rattle.std.specs.declared.cmp.Ordering.TheVariants.{Less, Equal, Greater}
use Rattle.std.specs.Ordering.{is_lt, ordering_reverse}
use Rattle.std.specs.Cmp.{IsTotalOrder}
use Rattle.std.proofs.lemmas.Cmp.{on_total, int_cmp_total}
use Rattle.mem_base.specs.declared.views.listening.Listener.{Listener}
use Rattle.mem_base.specs.lists.Every.{Every}
use Rattle.mem_base.specs.lists.Sorting.{put_by}
use Rattle.mem_base.specs.views.Listening.{priority_order, ascending}
use Rattle.mem_base.proofs.EveryLaws.{weaker, every_filter}
use Rattle.mem_base.proofs.SortingLaws.{lt_less}
use Rattle.mem_base.proofs.ForestLaws.{every_put}

order_total : IsTotalOrder priority_order
order_total = on_total (λ (l : Listener). l.priority) int_cmp_total

abbrev IsBefore : Listener → Listener → Type 0
IsBefore x y = is_lt (priority_order x y) ≡ true

abbrev IsNotAfter : Listener → Listener → Type 0
IsNotAfter x y = is_lt (priority_order y x) ≡ false

-- none stands after one of higher priority
abbrev pub IsUp : List Listener → Type 0
IsUp [] = Unit {0}
IsUp (x ∷ xs) = Every (IsNotAfter x) xs × IsUp xs

before_not_after : (x y : Listener) → IsBefore x y → IsNotAfter x y
before_not_after x y e = ap is_lt (order_total.antisymm y x ∙ ap ordering_reverse (lt_less (priority_order x y) e))

before_then : (x y z : Listener) → IsBefore x y → IsNotAfter y z → IsBefore x z
before_then x y z e h = go (priority_order y z) refl
  where
    go : (o : Ordering) → priority_order y z ≡ o → IsBefore x z
    go Less q = ap is_lt (order_total.trans x y z (lt_less (priority_order x y) e) q)
    go Equal q = ap is_lt (order_total.antisymm x z ∙ ap ordering_reverse (sym (order_total.congr y z x q)) ∙ sym (order_total.antisymm x y)) ∙ e
    go Greater q = absurd (let back : priority_order z y ≡ Less = order_total.antisymm z y ∙ ap ordering_reverse q in
        let no : is_lt (priority_order z y) ≡ true = ap is_lt back in cc)

put_up : (x : Listener) (ys : List Listener) → IsUp ys → IsUp (put_by priority_order x ys)
put_up x [] h = (tt, tt)
put_up x (y ∷ ys) h = go (is_lt (priority_order x y)) refl (put_up x ys h.1)
  where
    go : (b : Bool) → is_lt (priority_order x y) ≡ b → IsUp (put_by priority_order x ys) → IsUp (if b then x ∷ y ∷ ys else y ∷ put_by priority_order x ys)
    go true e rest = (
      (before_not_after x y e, weaker (IsNotAfter y) (IsNotAfter x) (λ z n. before_not_after x z (before_then x y z e n)) ys h.0),
      h,
    )
    go false e rest = (every_put (IsNotAfter y) priority_order x ys e h.0, rest)

put_before : (x : Listener) (ys : List Listener) → Every (IsBefore x) ys → put_by priority_order x ys ≡ x ∷ ys
put_before x [] h = refl
put_before x (y ∷ ys) h = rw h.0 refl

module _ (test : Listener → Bool) where
  abbrev kept : Bool → Listener → List Listener → List Listener
  kept b x ys = if b then put_by priority_order x ys else ys

  -- one that is put and filtered away is as if it was never put
  filter_put : (x : Listener) (ys : List Listener) → IsUp ys
      → filter test (put_by priority_order x ys) ≡ kept (test x) x (filter test ys)
  filter_put x [] h = go (test x)
    where
      go : (b : Bool) → (if b then x ∷ [] else []) ≡ kept b x []
      go true = refl
      go false = refl
  filter_put x (y ∷ ys) h = by (is_lt (priority_order x y)) refl (filter_put x ys h.1)
    where
      first : (b : Bool) → IsBefore x y → (if b then x ∷ filter test (y ∷ ys) else filter test (y ∷ ys)) ≡ kept b x (filter test (y ∷ ys))
      first true e = sym (put_before x (filter test (y ∷ ys)) (every_filter (IsBefore x) test (y ∷ ys)
          (e, weaker (IsNotAfter y) (IsBefore x) (λ z n. before_then x y z e n) ys h.0)))
      first false e = refl

      later : (b d : Bool) → is_lt (priority_order x y) ≡ false → filter test (put_by priority_order x ys) ≡ kept d x (filter test ys)
          → (if b then y ∷ filter test (put_by priority_order x ys) else filter test (put_by priority_order x ys))
          ≡ kept d x (if b then y ∷ filter test ys else filter test ys)
      later true true e ih = rw e (ap (λ zs. y ∷ zs) ih)
      later true false e ih = ap (λ zs. y ∷ zs) ih
      later false d e ih = ih

      by : (b : Bool) → is_lt (priority_order x y) ≡ b
          → filter test (put_by priority_order x ys) ≡ kept (test x) x (filter test ys)
          → filter test (if b then x ∷ y ∷ ys else y ∷ put_by priority_order x ys) ≡ kept (test x) x (filter test (y ∷ ys))
      by true e ih = first (test x) e
      by false e ih = later (test y) (test x) e ih

  abbrev in_order : List Listener → List Listener → List Listener
  in_order before ls = fold (λ before l. put_by priority_order l before) before ls

  filter_order : (before ls : List Listener) → IsUp before → filter test (in_order before ls) ≡ in_order (filter test before) (filter test ls)
  filter_order before [] h = refl
  filter_order before (l ∷ ls) h =
      filter_order (put_by priority_order l before) ls (put_up l before h)
      ∙ ap (λ x. in_order x (filter test ls)) (filter_put l before h) ∙ go (test l)
    where
      go : (b : Bool) → in_order (kept b l (filter test before)) (filter test ls) ≡ in_order (filter test before)
          (if b then l ∷ filter test ls else filter test ls)
      go true = refl
      go false = refl

  -- those that stay, by priority
  pub ascending_filter : (ls : List Listener) → filter test (ascending ls) ≡ ascending (filter test ls)
  ascending_filter ls = filter_order [] ls tt
