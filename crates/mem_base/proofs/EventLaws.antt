-- Laws of the ioeventfds of a region: their order, putting in and taking out.
use Rattle.std.proofs.Common.{◌≡◌, ◌≢◌, ℕ, Bool, true, false, ◌&&◌, ◌||◌, eqb, List, [], ◌∷◌, Result, Ok, Err, refl, sym, ap, ◌∙◌, ◌⊎◌, inl, inr}
use Rattle.std.specs.Prelude.{insert}
use Rattle.std.specs.List.{list_any}
use Rattle.std.specs.declared.cmp.Ordering.{Ordering}
use Rattle.std.specs.declared.cmp.Ordering.TheVariants.{Less, Equal, Greater}
use Rattle.std.specs.Ordering.{nat_cmp, bool_cmp, ordering_then, is_lt, is_eq, ordering_reverse}
use Rattle.std.specs.Cmp.{IsTotalOrder}
use Rattle.std.proofs.lemmas.Cmp.{then_total, on_total, nat_cmp_total}
use Rattle.mem_base.specs.declared.map.ioevents.Ioevent.{Ioevent}
use Rattle.mem_base.specs.lists.Every.{Every}
use Rattle.mem_base.specs.lists.Sorting.{put_by, IsRising, place_of}
use Rattle.mem_base.specs.map.Events.{AreEvents, event_cmp, match_order, is_event, event_order}
use Rattle.mem_base.specs.lists.Booleans.{bool_eq}
use Rattle.mem_base.proofs.PlaceLaws.{Rises, Rises-rising, any-present, insert-place_of}
use Rattle.mem_base.proofs.EveryLaws.{weaker}
use Rattle.mem_base.proofs.EntryLaws.{nat_is}
use Rattle.mem_base.proofs.ForestLaws.{every_put}

bool_is : (a b : Bool) → bool_eq a b ≡ is_eq (bool_cmp a b)
bool_is true true = refl
bool_is true false = refl
bool_is false true = refl
bool_is false false = refl

then_is : (o q : Ordering) → is_eq (ordering_then o q) ≡ is_eq o && is_eq q
then_is Less q = refl
then_is Equal q = refl
then_is Greater q = refl

and_right : (a b c d : Bool) → a && b && c && d ≡ a && (b && (c && d))
and_right true b c d = and_three b c d
  where
    and_three : (b c d : Bool) → b && c && d ≡ b && (c && d)
    and_three true c d = refl
    and_three false c d = refl
and_right false b c d = refl

and_same : (a b c d a' b' c' d' : Bool) → a ≡ a' → b ≡ b' → c ≡ c' → d ≡ d' → a && (b && (c && d)) ≡ a' && (b' && (c' && d'))
and_same a b c d a' b' c' d' p q r s = cc

pub is_event-is : (offset size : ℕ) (matched : Bool) (value : ℕ) (e : Ioevent) →
    is_event offset size matched value e ≡ is_eq (event_cmp offset size matched value e)
is_event-is offset size matched value e =
    let all = event_cmp offset size matched value e in
    let last = ordering_then (bool_cmp e.matched matched) (nat_cmp e.value value) in
    and_right (eqb e.offset offset) (eqb e.size size) (bool_eq e.matched matched) (eqb e.value value)
    ∙ and_same _ _ _ _ _ _ _ _ (nat_is e.offset offset) (nat_is e.size size) (bool_is e.matched matched) (nat_is e.value value)
    ∙ sym (then_is (nat_cmp e.offset offset) (ordering_then (nat_cmp e.size size) last)
    ∙ ap (λ b. is_eq (nat_cmp e.offset offset) && b) (then_is (nat_cmp e.size size) last
    ∙ ap (λ b. is_eq (nat_cmp e.size size) && b) (then_is (bool_cmp e.matched matched) (nat_cmp e.value value))))

bool_antisymm : (x y : Bool) → bool_cmp x y ≡ ordering_reverse (bool_cmp y x)
bool_antisymm true true = refl
bool_antisymm true false = refl
bool_antisymm false true = refl
bool_antisymm false false = refl

bool_trans : (x y z : Bool) → bool_cmp x y ≡ Less → bool_cmp y z ≡ Less → bool_cmp x z ≡ Less
bool_trans true true z e h = cc
bool_trans true false z e h = cc
bool_trans false true true e h = cc
bool_trans false true false e h = cc
bool_trans false false z e h = cc

bool_congr : (x y z : Bool) → bool_cmp x y ≡ Equal → bool_cmp x z ≡ bool_cmp y z
bool_congr true true z e = refl
bool_congr true false z e = cc
bool_congr false true z e = cc
bool_congr false false z e = refl

bool_total : IsTotalOrder bool_cmp
bool_total = record { antisymm = bool_antisymm; trans = bool_trans; congr = bool_congr }

pub match_total : IsTotalOrder match_order
match_total = then_total (on_total (λ (e : Ioevent). e.offset) nat_cmp_total)
    (then_total (on_total (λ (e : Ioevent). e.size) nat_cmp_total)
    (then_total (on_total (λ (e : Ioevent). e.matched) bool_total) (on_total (λ (e : Ioevent). e.value) nat_cmp_total)))

then_assoc : (o p q : Ordering) → ordering_then (ordering_then o p) q ≡ ordering_then o (ordering_then p q)
then_assoc Less p q = refl
then_assoc Equal p q = refl
then_assoc Greater p q = refl

-- the order of ioeventfds goes on to the notifier only where the rest is one
event_order-is : (x y : Ioevent) → event_order x y ≡ ordering_then (match_order x y) (nat_cmp x.number y.number)
event_order-is x y =
    let a = nat_cmp x.offset y.offset in
    let b = nat_cmp x.size y.size in
    let c = bool_cmp x.matched y.matched in
    let d = nat_cmp x.value y.value in
    let n = nat_cmp x.number y.number in
    sym (then_assoc a (ordering_then b (ordering_then c d)) n
    ∙ ap (ordering_then a) (then_assoc b (ordering_then c d) n
    ∙ ap (ordering_then b) (then_assoc c d n)))

-- where they differ, so do the places
pub event_order-lt : (x y : Ioevent) → match_order x y ≢ Equal → is_lt (event_order x y) ≡ is_lt (match_order x y)
event_order-lt x y k =
    elim (match_order x y) as (λ o. match_order x y ≡ o → is_lt (event_order x y) ≡ is_lt o) [
      | Less ↦ λ e. ap is_lt (event_order-is x y ∙ ap (λ o. ordering_then o (nat_cmp x.number y.number)) e)
      | Equal ↦ λ e. absurd (k e)
      | Greater ↦ λ e. ap is_lt (event_order-is x y ∙ ap (λ o. ordering_then o (nat_cmp x.number y.number)) e)
    ] refl

-- one that differs from each may be put in
rising-put : {K : Type 0} (R O : K → K → Ordering) (o : IsTotalOrder R) (e : K) → ((y : K) → R e y ≢ Equal → is_lt (O e y) ≡ is_lt (R e y)) → (l : List K) →
    Every (λ y. R e y ≢ Equal) l → IsRising R l → IsRising R (put_by O e l)
rising-put R O o e agrees [] off h = (tt, tt)
rising-put R O o e agrees (y ∷ ys) off h =
    elim (R e y) as (λ q. R e y ≡ q → IsRising R (put_by O e (y ∷ ys))) [
      | Less ↦ λ t.
          let first : is_lt (O e y) ≡ true = agrees y off.0 ∙ ap is_lt t in
          rw first ((t, weaker (λ z. R y z ≡ Less) (λ z. R e z ≡ Less) (λ z w. o.trans e y z t w) ys h.0), h)
      | Equal ↦ λ t. absurd (off.0 t)
      | Greater ↦ λ t.
          let later : is_lt (O e y) ≡ false = agrees y off.0 ∙ ap is_lt t in
          let back : R y e ≡ Less = o.antisymm y e ∙ ap ordering_reverse t in
          rw later (every_put (λ z. R y z ≡ Less) O e ys back h.0, rising-put R O o e agrees ys off.1 h.1)
    ] refl

none_equal : (p : Ioevent → Bool) (e : Ioevent) → ((y : Ioevent) → p y ≡ is_eq (match_order y e)) → (l : List Ioevent) → list_any p l ≡ false →
    Every (λ y. match_order e y ≢ Equal) l
none_equal p e says [] h = tt
none_equal p e says (y ∷ ys) h =
    elim (p y) as (λ b. p y ≡ b → b || list_any p ys ≡ false → (match_order e y ≢ Equal) × Every (λ z. match_order e z ≢ Equal) ys) [
      | true ↦ λ t w. cc
      | false ↦ λ t w. (
        λ q. let back : match_order y e ≡ Equal = match_total.antisymm y e ∙ ap ordering_reverse q in let yes : p y ≡ true = says y
            ∙ ap is_eq back in cc,
        none_equal p e says ys w,
      )
    ] refl h

pub events-put : (e : Ioevent) (l : List Ioevent) → list_any (is_event e.offset e.size e.matched e.value) l ≡ false → AreEvents l →
    AreEvents (put_by event_order e l)
events-put e l free h =
    rising-put match_order event_order match_total e (λ y k. event_order-lt e y k) l
    (none_equal (is_event e.offset e.size e.matched e.value) e (λ y. is_event-is e.offset e.size e.matched e.value y) l free) h

-- an ioeventfd with these four, which the search compares with
abbrev event_at : ℕ → ℕ → Bool → ℕ → Ioevent
event_at offset size matched value = record { offset = offset; size = size; matched = matched; value = value; number = 0 }

pub rises_events : (offset size : ℕ) (matched : Bool) (value : ℕ) (l : List Ioevent) → AreEvents l → Rises (event_cmp offset size matched value) l
rises_events offset size matched value l h = Rises-rising match_order match_total (event_at offset size matched value) l h

-- how an ioeventfd stands to another
abbrev pub stands_to : Ioevent → Ioevent → Ordering
stands_to e = event_cmp e.offset e.size e.matched e.value

-- whether an ioeventfd is another, whatever their notifiers
abbrev pub is_same : Ioevent → Ioevent → Bool
is_same e = is_event e.offset e.size e.matched e.value

-- one that is not there has a place where it would stand
pub event_gap : (e : Ioevent) (l : List Ioevent) (r : Result ℕ ℕ) (p q : ℕ) → list_any (is_same e) l ≡ false → r ≡ place_of (stands_to e) l → (r ≡ Ok p)
    ⊎ (r ≡ Err p) → q ≡ p → place_of (stands_to e) l ≡ Err q
event_gap e l r p q free is (inl at) same =
    let there = any-present (stands_to e) (is_same e) (is_event-is e.offset e.size e.matched e.value) l p (sym is ∙ at) in
    cc
event_gap e l r p q free is (inr at) same = sym is ∙ at ∙ ap (λ k. let x : Result ℕ ℕ = Err k in x) (sym same)

less_after : (e y : Ioevent) → stands_to e y ≡ Less → is_lt (event_order e y) ≡ false
less_after e y t =
    let is : match_order e y ≡ Greater = match_total.antisymm e y ∙ ap ordering_reverse t in
    event_order-lt e y (λ k. cc) ∙ ap is_lt is

greater_before : (e y : Ioevent) → stands_to e y ≡ Greater → is_lt (event_order e y) ≡ true
greater_before e y t =
    let is : match_order e y ≡ Less = match_total.antisymm e y ∙ ap ordering_reverse t in
    event_order-lt e y (λ k. cc) ∙ ap is_lt is

pub event-inserted : (e : Ioevent) (l : List Ioevent) (i : ℕ) → place_of (stands_to e) l ≡ Err i → insert l i e ≡ put_by event_order e l
event-inserted e l i at = insert-place_of (stands_to e) event_order e (less_after e) (greater_before e) l i at
