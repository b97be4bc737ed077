-- A form that gave something, taken apart: what each of its operands read.
use Rattle.std.proofs.Common.{◌≡◌, ℕ, zero, suc, List, [], ◌∷◌, Bool, true, false, cond, None, Some, Option, Ok, Err, Result, refl, sym, ap}
use Rattle.std.proofs.Common.{subst, ◌∙◌, arith, codes, bytes_eq, ℤ, pos, negsuc, is_ok, true≢false}
use Rattle.std.specs.Fmt.{signed_decimal}
use Rattle.std.proofs.lemmas.Option.{none-some, same_Some}
use Rattle.mem_base.specs.declared.script.faults.Cause.{Cause}
use Rattle.mem_base.specs.declared.script.faults.Cause.TheVariants as causes
use Rattle.mem_base.specs.script.Spelling.{Text, most_address, most_size, number_of, priority_of}
use Rattle.mem_base.specs.script.Operands.{◌>>=◌, Form, Operand, address, ends, ends_after_options, give, last_data, last_option}
use Rattle.mem_base.specs.script.Operands.{last_priority, priority, then_read, token_as, value_in, with_value}
use Rattle.mem_base.specs.script.Printing.{data_tokens, number_text, prio_tokens}
use Rattle.script_laws.proofs.Tokens.{Law, Spelled, are_tokens}
use Rattle.script_laws.proofs.Spelled.{number_law, priority_law}

pub no_ok : {X E G : Type 0} {c : E} {x : X} → Err c ≡ Ok x → G
no_ok e = absurd (true≢false (sym (ap is_ok e)))

abbrev value_or : {X E : Type 0} → X → Result X E → X
value_or x (Ok y) = y
value_or x (Err e) = x

abbrev pub Outcome : Type 0 → Type 0
Outcome X = Result X Cause

pub same_Ok : {X : Type 0} (x y : X) (r : Outcome X) → r ≡ Ok x → r ≡ Ok y → x ≡ y
same_Ok x y r e f = ap (value_or x) (sym e ∙ f)

pub address_law : Law (number_of most_address) number_text
address_law = number_law most_address (omega arith)

pub size_law : Law (number_of most_size) number_text
size_law = number_law most_size (omega arith)

-- one token was read, and its value is spelled
pub took : {X Y G : Type 0} {value : Text → Option X} {show : X → Text} → Law value show
    → (t : List Text) (cause : Cause) (rest : X → Form Y) (y : Y) → then_read (token_as cause value t) rest ≡ Ok y
    → ((x : X) → Spelled value (show x) x → (t : List Text) → rest x t ≡ Ok y → G) → G
took law [] cause rest y e k = no_ok e
took {X} {Y} {G} {value} {show} law (token ∷ t) cause rest y e k = by (value token) refl e
  where
    by : (o : Option X) → value token ≡ o → then_read (with_value cause o t) rest ≡ Ok y → G
    by None is e = no_ok e
    by (Some x) is e = k x (law token x is) t e

-- nothing was left
pub ended : {Y : Type 0} (P : Y → Type 0) (x : Y) (t : List Text) (y : Y) → ends x t ≡ Ok y → P x → P y
ended P x [] y e p = subst P (same_Ok x y (Ok x) refl e) p
ended P x (token ∷ t) y e p = no_ok e

pub ended_after : {Y : Type 0} (P : Y → Type 0) (given : Bool) (x : Y) (t : List Text) (y : Y) → ends_after_options given x t ≡ Ok y → P x → P y
ended_after P given x [] y e p = subst P (same_Ok x y (Ok x) refl e) p
ended_after P given x (token ∷ t) y e p = no_ok e

-- these are all the tokens, and the operand reads them as this
pub record EndsWith {X : Type 0} (operand : Operand X) (all : List Text) (x : X) : Type 0 where
  pub tokens : are_tokens all ≡ true
  pub reads : operand all ≡ Ok (x, [])

priority_spelled : (n : ℤ) → Spelled priority_of (signed_decimal n) n → EndsWith last_priority (prio_tokens n) n
priority_spelled (pos zero) p = record { tokens = refl; reads = refl }
priority_spelled (pos (suc n)) p = record { tokens = rw p.token refl; reads = rw p.reads refl }
priority_spelled (negsuc n) p = record { tokens = rw p.token refl; reads = rw p.reads refl }

-- a last option was read or left out
pub took_option : {X Y G : Type 0} (keyword : Text) (operand : Operand X) (default : X) (rest : X → Form Y) (t : List Text) (y : Y)
    → then_read (last_option keyword operand default t) rest ≡ Ok y
    → ((t : List Text) → rest default t ≡ Ok y → G) → ((t : List Text) → then_read (operand t) rest ≡ Ok y → G) → G
took_option keyword operand default rest [] y e left_out given = left_out [] e
took_option {X} {Y} {G} keyword operand default rest (token ∷ t) y e left_out given = by (bytes_eq token keyword) e
  where
    by : (b : Bool) → then_read (cond b (operand t) (Err causes.Word)) rest ≡ Ok y → G
    by true e = given t e
    by false e = no_ok e

pub took_priority : {Y G : Type 0} (t : List Text) (rest : ℤ → Form Y) (y : Y) → then_read (last_priority t) rest ≡ Ok y
    → ((n : ℤ) → EndsWith last_priority (prio_tokens n) n → (t : List Text) → rest n t ≡ Ok y → G) → G
took_priority t rest y e k =
    took_option (codes "prio") priority (pos 0) rest t y e (λ t e. k (pos 0) (record { tokens = refl; reads = refl }) t e)
    (λ t e. took priority_law t causes.Number rest y e λ n p t e. k n (priority_spelled n p) t e)

value_spelled : (n : ℕ) → Spelled (number_of most_address) (number_text n) n → EndsWith last_data (data_tokens (Some n)) (Some n)
value_spelled n p = record { tokens = rw p.token refl; reads = rw p.reads refl }

pub took_data : {Y G : Type 0} (t : List Text) (rest : Option ℕ → Form Y) (y : Y) → then_read (last_data t) rest ≡ Ok y
    → ((o : Option ℕ) → EndsWith last_data (data_tokens o) o → (t : List Text) → rest o t ≡ Ok y → G) → G
took_data {Y} {G} t rest y e k =
    took_option (codes "data") data_value None rest t y e (λ t e. k None (record { tokens = refl; reads = refl }) t e) (λ t e. after_data t (address t) refl e)
  where
    data_value : Operand (Option ℕ)
    data_value = address >>= λ value. give (Some value)

    after_data : (t : List Text) (o : Outcome (ℕ × List Text)) → address t ≡ o → then_read (then_read o (λ n. give (Some n))) rest ≡ Ok y → G
    after_data t (Err c) is e = no_ok e
    after_data t (Ok p) is e = took address_law t causes.Number (λ n t. Ok (n, t)) p (ap (λ r. then_read r (λ n t. Ok (n, t))) is) λ n s t2 same.
        k (Some p.0) (value_spelled p.0 (subst (λ m. Spelled (number_of most_address) (number_text m) m)
        (ap (λ q. q.0) (same_Ok (n, t2) p (Ok (n, t2)) refl same)) s)) p.1 e

-- Tables of forms

abbrev pub Every : {Y : Type 0} → (Form Y → Type 0) → List (Text × Form Y) → Type 0
Every P [] = Unit {0}
Every P (entry ∷ table) = P entry.1 × Every P table

-- the form that was found in a table
pub found : {Y G : Type 0} (P : Form Y → Type 0) (table : List (Text × Form Y)) (word : Text) (form : Form Y)
    → value_in table word ≡ Some form → Every P table → (P form → G) → G
found P [] word form e all k = absurd (none-some form e)
found {Y} {G} P (entry ∷ table) word form e all k = by (bytes_eq word entry.0) (λ e. found P table word form e all.1 k) e
  where
    by : (b : Bool) → (value_in table word ≡ Some form → G) → cond b (Some entry.1) (value_in table word) ≡ Some form → G
    by true rest e = k (subst P (same_Some entry.1 form e) all.0)
    by false rest e = rest e

-- a line that begins with a word of a table
pub took_form : {Y G : Type 0} (P : Form Y → Type 0) (table : List (Text × Form Y)) (t : List Text) (y : Y)
    → Every P table → then_read (token_as causes.Word (value_in table) t) (λ form. form) ≡ Ok y
    → ((form : Form Y) → P form → (t : List Text) → form t ≡ Ok y → G) → G
took_form P table [] y all e k = no_ok e
took_form {Y} {G} P table (token ∷ t) y all e k = by (value_in table token) refl e
  where
    by : (o : Option (Form Y)) → value_in table token ≡ o → then_read (with_value causes.Word o t) (λ form. form) ≡ Ok y → G
    by None is e = no_ok e
    by (Some form) is e = found P table token form is all (λ p. k form p t e)
