-- A device that was read is printed so that it reads as the same, with its defaults left out.
use Rattle.std.proofs.Common.{◌≡◌, ◌==◌, ◌&&◌, ◌++◌, ℕ, List, [], ◌∷◌, Bool, true, false, not, cond, Some, Option, Ok, Err, refl, sym, ap}
use Rattle.std.proofs.Common.{ap₂, subst, ◌∙◌, arith, codes, decimal, bytes_eq, eqb-true}
use Rattle.std.proofs.lemmas.List.Folds.{list_all-append}
use Rattle.mem_base.specs.declared.script.faults.Cause.{Cause}
use Rattle.mem_base.specs.declared.script.faults.Cause.TheVariants as causes
use Rattle.mem_base.specs.declared.map.kinds.Device.{Device}
use Rattle.mem_base.specs.declared.map.kinds.DeviceKind.{DeviceKind}
use Rattle.mem_base.specs.script.Spelling.{Text, digits, range_of}
use Rattle.mem_base.specs.script.Operands.{Form, Operand, flag, give, optional, then_read, token_as, value_in}
use Rattle.mem_base.specs.script.RegionForms.{device, device_kinds, device_with}
use Rattle.mem_base.specs.script.Printing.{device_kind_text, device_tokens, flag_tokens, range_text, range_tokens, regs_tokens}
use Rattle.script_laws.proofs.Tokens.{Law, Spelled, are_tokens, is_token}
use Rattle.script_laws.proofs.Spelled.{decimal_law, device_kind_law, range_law}
use Rattle.script_laws.proofs.Reading.{Outcome, no_ok, same_Ok, took}
use Rattle.std.proofs.lemmas.Bool.{not-true, and_parts, and_from}

-- Taken apart

took_optional : {X Y G : Type 0} {value : Text → Option X} {show : X → Text} → Law value show → (default : X) → Spelled value (show default) default
    → (keyword : Text) (t : List Text) (cause : Cause) (rest : X → Form Y) (y : Y) → then_read (optional keyword (token_as cause value) default t) rest ≡ Ok y
    → ((x : X) → Spelled value (show x) x → (t : List Text) → rest x t ≡ Ok y → G) → G
took_optional law default usual keyword [] cause rest y e k = k default usual [] e
took_optional {X} {Y} {G} {value} law default usual keyword (token ∷ t) cause rest y e k = by (bytes_eq token keyword) e
  where
    by : (b : Bool) → then_read (cond b (token_as cause value t) (Ok (default, token ∷ t))) rest ≡ Ok y → G
    by true e = took law t cause rest y e k
    by false e = k default usual (token ∷ t) e

took_flag : {Y G : Type 0} (keyword : Text) (t : List Text) (rest : Bool → Form Y) (y : Y) → then_read (flag keyword t) rest ≡ Ok y
    → ((b : Bool) (t : List Text) → rest b t ≡ Ok y → G) → G
took_flag keyword [] rest y e k = k false [] e
took_flag {Y} {G} keyword (token ∷ t) rest y e k = by (bytes_eq token keyword) e
  where
    by : (b : Bool) → then_read (cond b (Ok (true, t)) (Ok (false, token ∷ t))) rest ≡ Ok y → G
    by true e = k true t e
    by false e = k false (token ∷ t) e

-- Put together

-- an option, which is left out where this is true
abbrev part : Bool → Text → Text → List Text
part is_default keyword text = cond is_default [] (keyword ∷ text ∷ [])

-- the keyword does not stand next
abbrev differs : Text → List Text → Bool
differs keyword [] = true
differs keyword (token ∷ t) = not (bytes_eq token keyword)

left_out : {X : Type 0} (keyword : Text) (operand : Operand X) (default : X) (rest : List Text) → differs keyword rest ≡ true →
    optional keyword operand default rest ≡ Ok (default, rest)
left_out keyword operand default [] h = refl
left_out keyword operand default (token ∷ t) h = rw (not-true (bytes_eq token keyword) h) refl

option_reads : {X : Type 0} (keyword : Text) (cause : Cause) (value : Text → Option X) (default x : X) (text : Text) (b : Bool) (rest : List Text)
    → bytes_eq keyword keyword ≡ true → value text ≡ Some x → (b ≡ true → x ≡ default) → differs keyword rest ≡ true
    → optional keyword (token_as cause value) default (part b keyword text ++ rest) ≡ Ok (x, rest)
option_reads keyword cause value default x text true rest same is usual h = left_out keyword (token_as cause value) default rest h
    ∙ ap (λ d. Ok (d, rest)) (sym (usual refl))
option_reads keyword cause value default x text false rest same is usual h = rw (same, is) refl

flag_reads : (keyword : Text) (b : Bool) (rest : List Text) → bytes_eq keyword keyword ≡ true → differs keyword rest ≡ true
    → flag keyword (flag_tokens keyword b ++ rest) ≡ Ok (b, rest)
flag_reads keyword true rest same h = rw same refl
flag_reads keyword false rest same h = left_out keyword (give true) false rest h

last_flag_reads : (keyword : Text) (b : Bool) → bytes_eq keyword keyword ≡ true → flag keyword (flag_tokens keyword b) ≡ Ok (b, [])
last_flag_reads keyword true same = rw same refl
last_flag_reads keyword false same = refl

part_differs : (k keyword text : Text) (b : Bool) (rest : List Text) → not (bytes_eq keyword k) ≡ true → differs k rest ≡ true →
    differs k (part b keyword text ++ rest) ≡ true
part_differs k keyword text true rest h more = more
part_differs k keyword text false rest h more = h

flag_differs : (k keyword : Text) (b : Bool) (rest : List Text) → not (bytes_eq keyword k) ≡ true → differs k rest ≡ true →
    differs k (flag_tokens keyword b ++ rest) ≡ true
flag_differs k keyword true rest h more = h
flag_differs k keyword false rest h more = more

last_differs : (k keyword : Text) (b : Bool) → not (bytes_eq keyword k) ≡ true → differs k (flag_tokens keyword b) ≡ true
last_differs k keyword true h = h
last_differs k keyword false h = refl

part_tokens : (b : Bool) (keyword text : Text) → is_token keyword ≡ true → is_token text ≡ true → are_tokens (part b keyword text) ≡ true
part_tokens true keyword text h k = refl
part_tokens false keyword text h k = rw (h, k) refl

flag_are : (keyword : Text) (b : Bool) → is_token keyword ≡ true → are_tokens (flag_tokens keyword b) ≡ true
flag_are keyword true h = rw h refl
flag_are keyword false h = refl

and_then : (a b : List Text) → are_tokens a ≡ true → are_tokens b ≡ true → are_tokens (a ++ b) ≡ true
and_then a b h k = list_all-append is_token a b ∙ and_from (are_tokens a) (are_tokens b) h k

abbrev pub DeviceReads : Device → Type 0
DeviceReads d = (are_tokens (device_tokens d) ≡ true) × (device (device_tokens d) ≡ Ok (d, []))

usual_regs : (n : ℕ) → (n == 1) ≡ true → n ≡ 1
usual_regs n e = eqb-true n 1 e

usual_range : (r : ℕ × ℕ) → ((r.0 == 1) && (r.1 == 4)) ≡ true → r ≡ (1, 4)
usual_range r e = let both = and_parts (r.0 == 1) (r.1 == 4) e in ap₂ (λ a b. (a, b)) (eqb-true r.0 1 both.0) (eqb-true r.1 4 both.1)

device_reads : (kind : DeviceKind) (regs : ℕ) (valid impl : ℕ × ℕ) (vu iu big : Bool)
    → Spelled (value_in device_kinds) (device_kind_text kind) kind → Spelled (digits 10 65535) (decimal regs) regs →
    Spelled range_of (range_text valid) valid → Spelled range_of (range_text impl) impl
    → DeviceReads (device_with kind regs valid impl vu iu big)
device_reads kind regs valid impl vu iu big k r v i =
    let five : List Text = flag_tokens (codes "big") big in
    let four : List Text = flag_tokens (codes "iunaligned") iu ++ five in
    let three : List Text = flag_tokens (codes "vunaligned") vu ++ four in
    let two : List Text = range_tokens (codes "impl") impl ++ three in
    let one : List Text = range_tokens (codes "valid") valid ++ two in
    let usual_valid : Bool = (valid.0 == 1) && (valid.1 == 4) in
    let usual_impl : Bool = (impl.0 == 1) && (impl.1 == 4) in
    let regs_five = last_differs (codes "regs") (codes "big") big refl in
    let regs_four = flag_differs (codes "regs") (codes "iunaligned") iu five refl regs_five in
    let regs_three = flag_differs (codes "regs") (codes "vunaligned") vu four refl regs_four in
    let regs_two = part_differs (codes "regs") (codes "impl") (range_text impl) usual_impl three refl regs_three in
    let regs_one = part_differs (codes "regs") (codes "valid") (range_text valid) usual_valid two refl regs_two in
    let valid_five = last_differs (codes "valid") (codes "big") big refl in
    let valid_four = flag_differs (codes "valid") (codes "iunaligned") iu five refl valid_five in
    let valid_three = flag_differs (codes "valid") (codes "vunaligned") vu four refl valid_four in
    let valid_two = part_differs (codes "valid") (codes "impl") (range_text impl) usual_impl three refl valid_three in
    let impl_five = last_differs (codes "impl") (codes "big") big refl in
    let impl_four = flag_differs (codes "impl") (codes "iunaligned") iu five refl impl_five in
    let impl_three = flag_differs (codes "impl") (codes "vunaligned") vu four refl impl_four in
    let vu_five = last_differs (codes "vunaligned") (codes "big") big refl in
    let vu_four = flag_differs (codes "vunaligned") (codes "iunaligned") iu five refl vu_five in
    let iu_five = last_differs (codes "iunaligned") (codes "big") big refl in
    let a = option_reads (codes "regs") causes.Number (digits 10 65535) 1 regs (decimal regs) (regs == 1) one refl r.reads (usual_regs regs) regs_one in
    let b = option_reads (codes "valid") causes.Number range_of (1, 4) valid (range_text valid) usual_valid two refl v.reads (usual_range valid) valid_two in
    let c = option_reads (codes "impl") causes.Number range_of (1, 4) impl (range_text impl) usual_impl three refl i.reads (usual_range impl) impl_three in
    let d = flag_reads (codes "vunaligned") vu four refl vu_four in
    let e = flag_reads (codes "iunaligned") iu five refl iu_five in
    let f = last_flag_reads (codes "big") big refl in
    let tokens = and_then (regs_tokens regs) one (part_tokens (regs == 1) (codes "regs") (decimal regs) refl r.token)
    (and_then (range_tokens (codes "valid") valid) two (part_tokens usual_valid (codes "valid") (range_text valid) refl v.token)
    (and_then (range_tokens (codes "impl") impl) three (part_tokens usual_impl (codes "impl") (range_text impl) refl i.token)
    (and_then (flag_tokens (codes "vunaligned") vu) four (flag_are (codes "vunaligned") vu refl)
    (and_then (flag_tokens (codes "iunaligned") iu) five (flag_are (codes "iunaligned") iu refl) (flag_are (codes "big") big refl))))) in
    (rw k.token tokens, rw (k.reads, a, b, c, d, e, f) refl)

-- what was read of a device
device_again : (t : List Text) (p : Device × List Text) → device t ≡ Ok p → DeviceReads p.0
device_again t p e =
    took device_kind_law t _ _ _ e λ kind k t e.
    took_optional (decimal_law 65535 (omega arith)) 1 (decimal_law 65535 (omega arith) (codes "1") 1 refl) (codes "regs") t _ _ _ e λ regs r t e.
    took_optional range_law (1, 4) (range_law (codes "1-4") (1, 4) refl) (codes "valid") t _ _ _ e λ valid v t e.
    took_optional range_law (1, 4) (range_law (codes "1-4") (1, 4) refl) (codes "impl") t _ _ _ e λ impl i t e.
    took_flag (codes "vunaligned") t _ _ e λ vu t e. took_flag (codes "iunaligned") t _ _ e λ iu t e. took_flag (codes "big") t _ _ e λ big t e.
    subst (λ q. DeviceReads q.0) (same_Ok (device_with kind regs valid impl vu iu big, t) p (Ok (device_with kind regs valid impl vu iu big, t)) refl e)
    (device_reads kind regs valid impl vu iu big k r v i)

pub took_device : {Y G : Type 0} (t : List Text) (rest : Device → Form Y) (y : Y) → then_read (device t) rest ≡ Ok y
    → ((d : Device) → DeviceReads d → (t : List Text) → rest d t ≡ Ok y → G) → G
took_device {Y} {G} t rest y e k = by (device t) refl e
  where
    by : (o : Outcome (Device × List Text)) → device t ≡ o → then_read o rest ≡ Ok y → G
    by (Err c) is e = no_ok e
    by (Ok p) is e = k p.0 (device_again t p is) p.1 e
