-- Laws of truth values and tests of numbers.
use Rattle.std.proofs.Common.{◌≡◌, ◌&&◌, Bool, true, false, refl, arith, ℕ, eqb, ◌||◌, true≢false, sym, ◌∙◌}
use Rattle.mem_base.specs.lists.Booleans.{bool_eq}
use Rattle.std.proofs.lemmas.Bool.Decides.{nat_tests}
use Rattle.std.specs.Prelude.{not, ◌==◌}

pub left_of : (a b : Bool) → (a && b) ≡ true → a ≡ true
left_of true b h = refl
left_of false b h = h

pub right_of : (a b : Bool) → (a && b) ≡ true → b ≡ true
right_of true b h = h
right_of false b h = cc

pub bool_same : (x y : Bool) → bool_eq x y ≡ true → x ≡ y
bool_same true true e = refl
bool_same true false e = absurd (grind arith)
bool_same false true e = absurd (grind arith)
bool_same false false e = refl

pub bool_itself : (x : Bool) → bool_eq x x ≡ true
bool_itself true = refl
bool_itself false = refl

pub number_itself : (n : ℕ) → eqb n n ≡ true
number_itself n = grind (arith, nat_tests)

pub holds_where : (b c : Bool) → (not b || c) ≡ true → b ≡ true → c ≡ true
holds_where true c h e = h
holds_where false c h e = absurd (grind arith)

pub holds_if : (u b : Bool) → (u ≡ true → b ≡ true) → (not u || b) ≡ true
holds_if true b h = h refl
holds_if false b h = refl

pub or_joins : (x y z : Bool) → (x || (y || z)) ≡ ((x || y) || z)
or_joins true y z = refl
or_joins false y z = refl

pub and_nothing : (b : Bool) → (b && false) ≡ false
and_nothing true = refl
and_nothing false = refl

pub and_always : (b : Bool) → (b && true) ≡ b
and_always true = refl
and_always false = refl

pub neither_first : (x y : Bool) → (x || y) ≡ false → x ≡ false
neither_first true y h = h
neither_first false y h = refl

pub neither_second : (a b : Bool) → (a || b) ≡ false → b ≡ false
neither_second false b h = h
neither_second true b h = absurd (true≢false h)

pub same_number : (x : ℕ) → (x == x) ≡ true
same_number x = grind (arith, nat_tests)

pub both_ways : (x y : Bool) → (x ≡ true → y ≡ true) → (y ≡ true → x ≡ true) → x ≡ y
both_ways true y f g = sym (f refl)
both_ways false true f g = g refl
both_ways false false f g = refl

pub and_first : (b c : Bool) → (b && c) ≡ false → c ≡ true → b ≡ false
and_first true true h e = h
and_first true false h e = sym e ∙ h
and_first false c h e = refl

pub true_is_not_false : {A : Type 0} (b : Bool) → b ≡ true → b ≡ false → A
true_is_not_false true h k = absurd (grind arith)
true_is_not_false false h k = absurd (grind arith)

pub number_swap : (a b : ℕ) → eqb a b ≡ eqb b a
number_swap a b = grind (arith, nat_tests)

pub or_false : (a b : Bool) → b ≡ false → a || b ≡ a
or_false true b e = refl
or_false false b e = e

pub or_nothing : (b : Bool) → (b || false) ≡ b
or_nothing true = refl
or_nothing false = refl

pub or_true : (b : Bool) → (b || true) ≡ true
or_true true = refl
or_true false = refl
