-- Laws of optional values and of results.
use Rattle.std.proofs.Common.{◌≡◌, Option, Some, None, refl, false, Result, Ok, Err, OnErr}
use Rattle.std.specs.Option.{option_or}
use Rattle.std.specs.Prelude.{is_some, IfErr}

pub or_assoc : {A : Type 0} (x y z : Option A) → option_or (option_or x y) z ≡ option_or x (option_or y z)
or_assoc None y z = refl
or_assoc (Some x) y z = refl

pub or_none : {A : Type 0} (x : Option A) → option_or x None ≡ x
or_none None = refl
or_none (Some x) = refl

pub none_of : {A : Type 0} (o : Option A) → is_some o ≡ false → o ≡ None
none_of None e = refl
none_of (Some x) e = cc

pub on_failure : {T E : Type 0} (r : Result T E) (P : Type 0) → P → OnErr r P
on_failure (Ok x) P p = tt
on_failure (Err e) P p = p

pub if_err : {T E : Type 0} (P Q : E → Type 0) (r : Result T E) → ((e : E) → P e → Q e) → IfErr r P → IfErr r Q
if_err P Q (Ok x) f h = tt
if_err P Q (Err e) f h = f e h
