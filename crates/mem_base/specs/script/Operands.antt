-- The operands of a line. Each is read from the first of the tokens that are left.
-- `x ← operand` in a `do` block reads one and goes on with the tokens after it; at the first token that is at fault, the
-- line has the cause of that token.
use Rattle.std.specs.Prelude.{ℕ, ◌-◌, Bool, true, false, if◌then◌else◌, List, [], ◌∷◌, Option, Some, None, Result, Ok, Err, codes, ℤ, pos}
use Rattle.std.specs.Str.{bytes_eq}
use Rattle.mem_base.specs.declared.script.faults.Cause.{Cause}
use Rattle.mem_base.specs.declared.script.faults.Cause.TheVariants as causes
use Rattle.mem_base.specs.declared.map.kinds.Client.{Client}
use Rattle.mem_base.specs.declared.map.kinds.Client.TheVariants.{Vga, Code, Migration}
use Rattle.mem_base.specs.declared.map.translations.Perm.{Perm}
use Rattle.mem_base.specs.declared.map.translations.Perm.TheVariants.{Nothing, Read, Write, Both}
use Rattle.mem_base.specs.map.Limits.{notifier_count}
use Rattle.mem_base.specs.script.Spelling.{Text, bytes_of, digits, length_of, machine_size, most_address, most_size, name_of, number_of, priority_of, range_of}

-- what the tokens of a line give, or the cause of the first token at fault
abbrev pub Form : Type 0 → Type 0
Form Y = List Text → Result Y Cause

-- what the first tokens say, and the tokens after them
abbrev pub Operand : Type 0 → Type 0
Operand X = Form (X × List Text)

-- what follows an operand that was read: its value and the tokens that are left go on, a cause ends the line
abbrev pub then_read : {X Y : Type 0} → Result (X × List Text) Cause → (X → Form Y) → Result Y Cause
then_read (Ok taken) rest = rest taken.0 taken.1
then_read (Err cause) rest = Err cause

infixl 10 ◌>>=◌
abbrev pub ◌>>=◌ : {X Y : Type 0} → Operand X → (X → Form Y) → Form Y
operand >>= rest = λ tokens. then_read (operand tokens) rest

-- no token stands after the last operand
abbrev pub ends : {Y : Type 0} → Y → Form Y
ends y [] = Ok y
ends y (token ∷ tokens) = Err causes.Count

-- no token stands after options, of which the last was given or not. Where it was given, one token more is one too
-- many; where it was not, that token could have been it
abbrev pub ends_after_options : {Y : Type 0} → Bool → Y → Form Y
ends_after_options given y [] = Ok y
ends_after_options given y (token ∷ tokens) = Err (if given then causes.Count else causes.Word)

-- something made of what a form gives
abbrev pub made_by : {X Y : Type 0} → (X → Y) → Result X Cause → Result Y Cause
made_by make (Ok x) = Ok (make x)
made_by make (Err cause) = Err cause

-- an operand that takes no token
abbrev pub give : {X : Type 0} → X → Operand X
give x tokens = Ok (x, tokens)

-- a value and the tokens after it, or this cause where there is no value
abbrev pub with_value : {X : Type 0} → Cause → Option X → Operand X
with_value cause None tokens = Err cause
with_value cause (Some x) tokens = Ok (x, tokens)

-- one token with a value; a token that has none is at fault with this cause
abbrev pub token_as : {X : Type 0} → Cause → (Text → Option X) → Operand X
token_as cause value [] = Err causes.Count
token_as cause value (token ∷ tokens) = with_value cause (value token) tokens

-- Names and numbers

-- NAME, REGION, SPACE
abbrev pub name : Operand Text
name = token_as causes.Name name_of

-- a number of at most `limit`
abbrev pub number : ℕ → Operand ℕ
number limit = token_as causes.Number (number_of limit)

-- decimal digits alone, with a value of at most `limit`
abbrev pub decimal_number : ℕ → Operand ℕ
decimal_number limit = token_as causes.Number (digits 10 limit)

-- SIZE
abbrev pub size : Operand ℕ
size = number most_size

-- OFFSET, ADDR, IOVA, VALUE, FIRST, LAST
abbrev pub address : Operand ℕ
address = number most_address

-- the SIZE of a machine
abbrev pub memory_size : Operand ℕ
memory_size = token_as causes.Number machine_size

-- LEN
abbrev pub len : Operand ℕ
len = token_as causes.Number length_of

-- N of a notifier, from 0 to 63
abbrev pub notifier : Operand ℕ
notifier = number (notifier_count - 1)

-- N of a priority
abbrev pub priority : Operand ℤ
priority = token_as causes.Number priority_of

-- A-B
abbrev pub range : Operand (ℕ × ℕ)
range = token_as causes.Number range_of

-- BYTES
abbrev pub bytes : Operand (List ℕ)
bytes = token_as causes.Number bytes_of

-- Words

-- the value of a word in a table
abbrev pub value_in : {X : Type 0} → List (Text × X) → Text → Option X
value_in [] word = None
value_in (entry ∷ table) word = if bytes_eq word entry.0 then Some entry.1 else value_in table word

-- one of the words of a table
abbrev pub one_of : {X : Type 0} → List (Text × X) → Operand X
one_of table = token_as causes.Word (value_in table)

-- on|off
abbrev pub switches : List (Text × Bool)
switches = (codes "on", true) ∷ (codes "off", false) ∷ []

-- on or off
abbrev pub switch : Operand Bool
switch = one_of switches

-- vga|code|migration
abbrev pub clients : List (Text × Client)
clients = (codes "vga", Vga) ∷ (codes "code", Code) ∷ (codes "migration", Migration) ∷ []

-- a client of marks
abbrev pub client : Operand Client
client = one_of clients

-- none|r|w|rw
abbrev pub perms : List (Text × Perm)
perms = (codes "none", Nothing) ∷ (codes "r", Read) ∷ (codes "w", Write) ∷ (codes "rw", Both) ∷ []

-- the permission of a translation
abbrev pub perm : Operand Perm
perm = one_of perms

-- this word
abbrev pub keyword : Text → Operand (Unit {0})
keyword word = one_of ((word, tt) ∷ [])

-- Options

-- an operand after its keyword; where the keyword does not stand next, the default
abbrev pub optional : {X : Type 0} → Text → Operand X → X → Operand X
optional keyword operand default [] = Ok (default, [])
optional keyword operand default (token ∷ tokens) =
    if bytes_eq token keyword then operand tokens else Ok (default, token ∷ tokens)

-- whether the keyword stands next
abbrev pub flag : Text → Operand Bool
flag keyword = optional keyword (give true) false

-- an operand after its keyword at the end of the line; where no token is left, the default
abbrev pub last_option : {X : Type 0} → Text → Operand X → X → Operand X
last_option keyword operand default [] = Ok (default, [])
last_option keyword operand default (token ∷ tokens) =
    if bytes_eq token keyword then operand tokens else Err causes.Word

-- [prio N]
abbrev pub last_priority : Operand ℤ
last_priority = last_option (codes "prio") priority (pos 0)

-- [data VALUE]
abbrev pub last_data : Operand (Option ℕ)
last_data = last_option (codes "data") (address >>= λ value. give (Some value)) None
