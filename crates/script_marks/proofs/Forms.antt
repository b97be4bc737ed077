-- What the answers of a form tell: whether some line has these first tokens.
use Rattle.std.proofs.Common.{◌≡◌, ◌⊎◌, inl, inr, Bool, true, false, cond, List, [], ◌∷◌, ◌++◌, Option, Some, None, Result, Ok, Err, is_ok}
use Rattle.std.proofs.Common.{refl, ap, ◌∙◌, subst, option_map, codes}
use Rattle.std.specs.Option.{option_or}
use Rattle.std.specs.Str.{bytes_eq}
use Rattle.mem_base.specs.declared.script.faults.Cause.{Cause}
use Rattle.mem_base.specs.declared.script.faults.Cause.TheVariants as causes
use Rattle.mem_base.specs.lists.Every.{Every}
use Rattle.mem_base.specs.script.Spelling.{Text}
use Rattle.mem_base.specs.script.Operands.{◌>>=◌, Form, Operand, ends, ends_after_options, last_option, made_by, optional, then_read, token_as}
use Rattle.mem_base.specs.script.Operands.{value_in, with_value}

-- a token that no operand takes
abbrev pub probe : Text
probe = codes "?"

-- the cause of a token that is there
abbrev pub own : Cause → Bool
own causes.Word = true
own causes.Name = true
own causes.Number = true
own _ = false

-- a token is missing after these: some make a line of them, and at another one it is at fault
pub record Lacking {Y : Type 0} (form : Form Y) (ts : List Text) : Type 0 where
  pub is : form ts ≡ Err causes.Count
  pub more : List Text
  pub completes : is_ok (form (ts ++ more)) ≡ true
  pub cause : Cause
  pub owned : own cause ≡ true
  pub stops : form (ts ++ probe ∷ []) ≡ Err cause

-- whatever follows these, they are at fault
pub record Failing {Y : Type 0} (form : Form Y) (ts : List Text) : Type 0 where
  pub cause : Cause
  pub told : (own cause ≡ true) ⊎ (cause ≡ causes.Count)
  pub always : (more : List Text) → form (ts ++ more) ≡ Err cause

abbrev pub Tells : {Y : Type 0} → Form Y → List Text → Type 0
Tells form ts = (is_ok (form ts) ≡ true) ⊎ (Lacking form ts ⊎ Failing form ts)

-- some tokens have the form, and of all it tells
pub record Good {Y : Type 0} (form : Form Y) : Type 0 where
  pub more : List Text
  pub completes : is_ok (form more) ≡ true
  pub tells : (ts : List Text) → Tells form ts

-- Forms that agree

pub later : {Y : Type 0} (form next : Form Y) (t : Text) (ts : List Text) → ((us : List Text) → form (t ∷ us) ≡ next us) → Tells next ts → Tells form (t ∷ ts)
later form next t ts same (inl h) = inl (ap is_ok (same ts) ∙ h)
later form next t ts same (inr (inl h)) = inr (inl (record {
  is = same ts ∙ h.is;
  more = h.more;
  completes = ap is_ok (same (ts ++ h.more)) ∙ h.completes;
  cause = h.cause;
  owned = h.owned;
  stops = same (ts ++ probe ∷ []) ∙ h.stops;
}))
later form next t ts same (inr (inr h)) =
    inr (inr (record { cause = h.cause; told = h.told; always = λ more. same (ts ++ more) ∙ h.always more }))

pub alike : {Y : Type 0} (form next : Form Y) (t : Text) (ts : List Text) → ((us : List Text) → form (t ∷ us) ≡ next (t ∷ us)) → Tells next (t ∷ ts)
    → Tells form (t ∷ ts)
alike form next t ts same (inl h) = inl (ap is_ok (same ts) ∙ h)
alike form next t ts same (inr (inl h)) = inr (inl (record {
  is = same ts ∙ h.is;
  more = h.more;
  completes = ap is_ok (same (ts ++ h.more)) ∙ h.completes;
  cause = h.cause;
  owned = h.owned;
  stops = same (ts ++ probe ∷ []) ∙ h.stops;
}))
alike form next t ts same (inr (inr h)) =
    inr (inr (record { cause = h.cause; told = h.told; always = λ more. same (ts ++ more) ∙ h.always more }))

fails : {Y : Type 0} (form : Form Y) (t : Text) (ts : List Text) (c : Cause) → (own c ≡ true) ⊎ (c ≡ causes.Count)
    → ((us : List Text) → form (t ∷ us) ≡ Err c) → Tells form (t ∷ ts)
fails form t ts c told never = inr (inr (record { cause = c; told = told; always = λ more. never (ts ++ more) }))

-- the same where a form agrees with another at all tokens
pub good_same : {Y : Type 0} (form next : Form Y) → ((ts : List Text) → form ts ≡ next ts) → Good next → Good form
good_same {Y} form next same g = record {
  more = g.more;
  completes = ap is_ok (same g.more) ∙ g.completes;
  tells = λ ts. by ts (g.tells ts);
}
  where
    by : (ts : List Text) → Tells next ts → Tells form ts
    by ts (inl h) = inl (ap is_ok (same ts) ∙ h)
    by ts (inr (inl h)) = inr (inl (record {
      is = same ts ∙ h.is;
      more = h.more;
      completes = ap is_ok (same (ts ++ h.more)) ∙ h.completes;
      cause = h.cause;
      owned = h.owned;
      stops = same (ts ++ probe ∷ []) ∙ h.stops;
    }))
    by ts (inr (inr h)) = inr (inr (record { cause = h.cause; told = h.told; always = λ more. same (ts ++ more) ∙ h.always more }))

made_ok : {X Y : Type 0} (make : X → Y) (r : Result X Cause) → is_ok (made_by make r) ≡ is_ok r
made_ok make (Ok x) = refl
made_ok make (Err c) = refl

-- a value that is made of what a form gives
pub good_made : {X Y : Type 0} (make : X → Y) (form : Form X) → Good form → Good (λ ts. made_by make (form ts))
good_made {X} {Y} make form g = record {
  more = g.more;
  completes = made_ok make (form g.more) ∙ g.completes;
  tells = λ ts. by ts (g.tells ts);
}
  where
    by : (ts : List Text) → Tells form ts → Tells (λ us. made_by make (form us)) ts
    by ts (inl h) = inl (made_ok make (form ts) ∙ h)
    by ts (inr (inl h)) = inr (inl (record {
      is = ap (made_by make) h.is;
      more = h.more;
      completes = made_ok make (form (ts ++ h.more)) ∙ h.completes;
      cause = h.cause;
      owned = h.owned;
      stops = ap (made_by make) h.stops;
    }))
    by ts (inr (inr h)) = inr (inr (record { cause = h.cause; told = h.told; always = λ more. ap (made_by make) (h.always more) }))

-- The end of a line

pub good_ends : {Y : Type 0} (y : Y) → Good (ends y)
good_ends {Y} y = record { more = []; completes = refl; tells = by }
  where
    by : (ts : List Text) → Tells (ends y) ts
    by [] = inl refl
    by (t ∷ ts) = fails (ends y) t ts causes.Count (inr refl) (λ us. refl)

pub good_ends_after : {Y : Type 0} (given : Bool) (y : Y) → Good (ends_after_options given y)
good_ends_after {Y} given y = record { more = []; completes = refl; tells = by given }
  where
    by : (b : Bool) → (ts : List Text) → Tells (ends_after_options b y) ts
    by b [] = inl refl
    by true (t ∷ ts) = fails (ends_after_options true y) t ts causes.Count (inr refl) (λ us. refl)
    by false (t ∷ ts) = fails (ends_after_options false y) t ts causes.Word (inl refl) (λ us. refl)

-- Operands

-- a token that has a value, and then a rest for each value that there is
pub good_each : {X Y : Type 0} (c : Cause) (v : Text → Option X) (example : Text) (value : X) → own c ≡ true → v example ≡ Some value → v probe ≡ None
    → (rest : X → Form Y) → ((t : Text) (x : X) → v t ≡ Some x → Good (rest x)) → Good (token_as c v >>= rest)
good_each {X} {Y} c v example value owned is none rest good = record {
  more = example ∷ (good example value is).more;
  completes = done;
  tells = tells;
}
  where
    found : (t : Text) (x : X) → v t ≡ Some x → (us : List Text) → (token_as c v >>= rest) (t ∷ us) ≡ rest x us
    found t x e us = ap (λ o. then_read (with_value c o us) rest) e

    lost : (t : Text) → v t ≡ None → (us : List Text) → (token_as c v >>= rest) (t ∷ us) ≡ Err c
    lost t e us = ap (λ o. then_read (with_value c o us) rest) e

    done : is_ok ((token_as c v >>= rest) (example ∷ (good example value is).more)) ≡ true
    done = ap is_ok (found example value is (good example value is).more) ∙ (good example value is).completes

    by : (t : Text) (ts : List Text) (o : Option X) → v t ≡ o → Tells (token_as c v >>= rest) (t ∷ ts)
    by t ts None e = fails (token_as c v >>= rest) t ts c (inl owned) (lost t e)
    by t ts (Some x) e = later (token_as c v >>= rest) (rest x) t ts (found t x e) ((good t x e).tells ts)

    tells : (ts : List Text) → Tells (token_as c v >>= rest) ts
    tells [] = inr (inl (record {
      is = refl;
      more = example ∷ (good example value is).more;
      completes = done;
      cause = c;
      owned = owned;
      stops = lost probe none [];
    }))
    tells (t ∷ ts) = by t ts (v t) refl

-- a token that has a value, and then the rest
pub good_token : {X Y : Type 0} (c : Cause) (v : Text → Option X) (example : Text) (value : X) → own c ≡ true → v example ≡ Some value → v probe ≡ None
    → (rest : X → Form Y) → ((x : X) → Good (rest x)) → Good (token_as c v >>= rest)
good_token c v example value owned is none rest good = good_each c v example value owned is none rest (λ t x e. good x)

-- operands that are read one within another
joined : {X Y Z : Type 0} (r : Result (X × List Text) Cause) (f : X → Operand Y) (g : Y → Form Z)
    → then_read (then_read r f) g ≡ then_read r (λ x ts. then_read (f x ts) g)
joined (Ok taken) f g = refl
joined (Err c) f g = refl

pub good_within : {X Y Z : Type 0} (operand : Operand X) (f : X → Operand Y) (g : Y → Form Z) → Good (operand >>= λ x. (f x >>= g))
    → Good ((operand >>= f) >>= g)
good_within operand f g good =
    good_same ((operand >>= f) >>= g) (operand >>= λ x. (f x >>= g)) (λ ts. joined (operand ts) f g) good

-- Options, where a line may end

-- an operand after a word, or a default, and then the rest
pub good_optional : {X Y : Type 0} (word : Text) (operand : Operand X) (default : X) (rest : X → Form Y) → is_ok (rest default []) ≡ true
    → Good (rest default) → Good (operand >>= rest) → Good (optional word operand default >>= rest)
good_optional {X} {Y} word operand default rest closed out given = record { more = []; completes = closed; tells = tells }
  where
    yes : (t : Text) → bytes_eq t word ≡ true → (us : List Text) → (optional word operand default >>= rest) (t ∷ us) ≡ (operand >>= rest) us
    yes t e us = ap (λ b. then_read (cond b (operand us) (Ok (default, t ∷ us))) rest) e

    left_out : (t : Text) → bytes_eq t word ≡ false → (us : List Text) → (optional word operand default >>= rest) (t ∷ us) ≡ rest default (t ∷ us)
    left_out t e us = ap (λ b. then_read (cond b (operand us) (Ok (default, t ∷ us))) rest) e

    by : (t : Text) (ts : List Text) (b : Bool) → bytes_eq t word ≡ b → Tells (optional word operand default >>= rest) (t ∷ ts)
    by t ts true e = later (optional word operand default >>= rest) (operand >>= rest) t ts (yes t e) (given.tells ts)
    by t ts false e = alike (optional word operand default >>= rest) (rest default) t ts (left_out t e) (out.tells (t ∷ ts))

    tells : (ts : List Text) → Tells (optional word operand default >>= rest) ts
    tells [] = inl closed
    tells (t ∷ ts) = by t ts (bytes_eq t word) refl

-- an operand after a word at the end of a line, or a default
pub good_last : {X Y : Type 0} (word : Text) (operand : Operand X) (default : X) (rest : X → Form Y) → is_ok (rest default []) ≡ true
    → Good (operand >>= rest) → Good (last_option word operand default >>= rest)
good_last {X} {Y} word operand default rest closed given = record { more = []; completes = closed; tells = tells }
  where
    yes : (t : Text) → bytes_eq t word ≡ true → (us : List Text) → (last_option word operand default >>= rest) (t ∷ us) ≡ (operand >>= rest) us
    yes t e us = ap (λ b. then_read (cond b (operand us) (Err causes.Word)) rest) e

    other : (t : Text) → bytes_eq t word ≡ false → (us : List Text) → (last_option word operand default >>= rest) (t ∷ us) ≡ Err causes.Word
    other t e us = ap (λ b. then_read (cond b (operand us) (Err causes.Word)) rest) e

    by : (t : Text) (ts : List Text) (b : Bool) → bytes_eq t word ≡ b → Tells (last_option word operand default >>= rest) (t ∷ ts)
    by t ts true e = later (last_option word operand default >>= rest) (operand >>= rest) t ts (yes t e) (given.tells ts)
    by t ts false e = fails (last_option word operand default >>= rest) t ts causes.Word (inl refl) (other t e)

    tells : (ts : List Text) → Tells (last_option word operand default >>= rest) ts
    tells [] = inl closed
    tells (t ∷ ts) = by t ts (bytes_eq t word) refl

-- Choices

abbrev pub IfGood : {Y : Type 0} → Option (Form Y) → Type 0
IfGood None = Unit {0}
IfGood (Some form) = Good form

pub if_found : {Y : Type 0} (o : Option (Form Y)) (form : Form Y) → o ≡ Some form → IfGood o → Good form
if_found o form e h = subst IfGood e h

pub good_choice : {Y : Type 0} (forms : Text → Option (Form Y)) (example : Text) (form : Form Y) → forms example ≡ Some form → forms probe ≡ None
    → ((t : Text) → IfGood (forms t)) → Good (token_as causes.Word forms >>= λ f. f)
good_choice forms example form is none good =
    good_each causes.Word forms example form refl is none (λ f. f) (λ t f e. if_found (forms t) f e (good t))

pub good_in : {Y : Type 0} (table : List (Text × Form Y)) (word : Text) → Every (λ e. Good e.1) table → IfGood (value_in table word)
good_in [] word h = tt
good_in {Y} (e ∷ table) word h = by (bytes_eq word e.0) (good_in table word h.1) where
  by : (b : Bool) → IfGood (value_in table word) → IfGood (cond b (Some e.1) (value_in table word))
  by true rest = h.0
  by false rest = rest

pub good_or : {Y : Type 0} (f g : Option (Form Y)) → IfGood f → IfGood g → IfGood (option_or f g)
good_or (Some f) g h k = h
good_or None g h k = k

pub good_made_or : {X Y : Type 0} (make : X → Y) (o : Option (Form X)) → IfGood o → IfGood (option_map (λ form ts. made_by make (form ts)) o)
good_made_or make None h = tt
good_made_or make (Some form) h = good_made make form h
