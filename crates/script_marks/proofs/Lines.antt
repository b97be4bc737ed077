-- Each form of the language is good.
use Rattle.std.proofs.Common.{◌≡◌, ℕ, ◌-◌, Bool, true, false, List, [], ◌∷◌, Option, Some, None, refl, codes, is_ok, option_map, pos, ℤ}
use Rattle.std.specs.Option.{option_or}
use Rattle.mem_base.specs.map.PassIds.{PassId}
use Rattle.mem_base.specs.map.Limits.{notifier_count}
use Rattle.mem_base.specs.declared.map.kinds.Device.{Device}
use Rattle.mem_base.specs.declared.map.kinds.Client.{Client}
use Rattle.mem_base.specs.declared.map.kinds.Client.TheVariants.{Vga}
use Rattle.mem_base.specs.declared.map.kinds.DeviceKind.{DeviceKind}
use Rattle.mem_base.specs.declared.map.kinds.DeviceKind.TheVariants.{Latch}
use Rattle.mem_base.specs.declared.map.translations.Perm.{Perm}
use Rattle.mem_base.specs.declared.map.translations.Perm.TheVariants.{Nothing}
use Rattle.mem_base.specs.declared.script.faults.Cause.TheVariants as causes
use Rattle.mem_base.specs.declared.script.changes.MapChange.TheVariants as changes
use Rattle.mem_base.specs.declared.script.commands.Command.{Command}
use Rattle.mem_base.specs.declared.script.commands.Command.TheVariants as commands
use Rattle.mem_base.specs.declared.script.commands.RegionKind.TheVariants as region_kinds
use Rattle.mem_base.specs.declared.script.commands.PassCommand.TheVariants as pass_commands
use Rattle.mem_base.specs.lists.Every.{Every}
use Rattle.mem_base.specs.script.Spelling.{Text, bytes_of, digits, length_of, machine_size, most_address, most_size, name_of, number_of, pass_of, priority_of, range_of}
use Rattle.mem_base.specs.script.Operands.{◌>>=◌, Form, Operand, address, bytes, client, clients, decimal_number, ends, ends_after_options, flag, give, keyword, last_data, last_priority}
use Rattle.mem_base.specs.script.Operands.{len, memory_size, name, notifier, optional, perm, perms, priority, range, size, switch, switches, value_in}
use Rattle.mem_base.specs.script.ChangeForms as form
use Rattle.mem_base.specs.script.DeskForms as desk
use Rattle.mem_base.specs.script.RegionForms as region
use Rattle.mem_base.specs.script.PassForms as pass
use Rattle.mem_base.specs.script.Forms.{changed, command, form_of}
use Rattle.script_marks.proofs.Forms.{Good, IfGood, good_choice, good_ends, good_ends_after, good_in, good_last, good_made, good_made_or, good_optional, good_or, good_same}
use Rattle.script_marks.proofs.Forms.{good_token, good_within}

-- One operand, and then the rest

name_then : {Y : Type 0} (rest : Text → Form Y) → ((x : Text) → Good (rest x)) → Good (name >>= rest)
name_then rest good = good_token causes.Name name_of (codes "a") (codes "a") refl refl refl rest good

address_then : {Y : Type 0} (rest : ℕ → Form Y) → ((x : ℕ) → Good (rest x)) → Good (address >>= rest)
address_then rest good = good_token causes.Number (number_of most_address) (codes "0") 0 refl refl refl rest good

size_then : {Y : Type 0} (rest : ℕ → Form Y) → ((x : ℕ) → Good (rest x)) → Good (size >>= rest)
size_then rest good = good_token causes.Number (number_of most_size) (codes "1") 1 refl refl refl rest good

memory_then : {Y : Type 0} (rest : ℕ → Form Y) → ((x : ℕ) → Good (rest x)) → Good (memory_size >>= rest)
memory_then rest good = good_token causes.Number machine_size (codes "4K") 4096 refl refl refl rest good

len_then : {Y : Type 0} (rest : ℕ → Form Y) → ((x : ℕ) → Good (rest x)) → Good (len >>= rest)
len_then rest good = good_token causes.Number length_of (codes "1") 1 refl refl refl rest good

notifier_then : {Y : Type 0} (rest : ℕ → Form Y) → ((x : ℕ) → Good (rest x)) → Good (notifier >>= rest)
notifier_then rest good = good_token causes.Number (number_of (notifier_count - 1)) (codes "0") 0 refl refl refl rest good

decimal_then : {Y : Type 0} (rest : ℕ → Form Y) → ((x : ℕ) → Good (rest x)) → Good (decimal_number 255 >>= rest)
decimal_then rest good = good_token causes.Number (digits 10 255) (codes "1") 1 refl refl refl rest good

bytes_then : {Y : Type 0} (rest : List ℕ → Form Y) → ((x : List ℕ) → Good (rest x)) → Good (bytes >>= rest)
bytes_then rest good = good_token causes.Number bytes_of (codes "00") (0 ∷ []) refl refl refl rest good

switch_then : {Y : Type 0} (rest : Bool → Form Y) → ((x : Bool) → Good (rest x)) → Good (switch >>= rest)
switch_then rest good = good_token causes.Word (value_in switches) (codes "on") true refl refl refl rest good

client_then : {Y : Type 0} (rest : Client → Form Y) → ((x : Client) → Good (rest x)) → Good (client >>= rest)
client_then rest good = good_token causes.Word (value_in clients) (codes "vga") Vga refl refl refl rest good

perm_then : {Y : Type 0} (rest : Perm → Form Y) → ((x : Perm) → Good (rest x)) → Good (perm >>= rest)
perm_then rest good = good_token causes.Word (value_in perms) (codes "none") Nothing refl refl refl rest good

kind_then : {Y : Type 0} (rest : DeviceKind → Form Y) → ((x : DeviceKind) → Good (rest x)) → Good (region.device_kind >>= rest)
kind_then rest good = good_token causes.Word (value_in region.device_kinds) (codes "latch") Latch refl refl refl rest good

to_then : {Y : Type 0} (rest : Unit {0} → Form Y) → ((x : Unit {0}) → Good (rest x)) → Good (keyword (codes "to") >>= rest)
to_then rest good = good_token causes.Word (value_in ((codes "to", tt) ∷ [])) (codes "to") tt refl refl refl rest good

-- [prio N] and [data VALUE] at the end of a line

priority_ends : {Y : Type 0} (make : ℤ → Y) → Good (last_priority >>= λ x. ends (make x))
priority_ends make =
    good_last (codes "prio") priority (pos 0) (λ x. ends (make x)) refl
    (good_token causes.Number priority_of (codes "0") (pos 0) refl refl refl (λ x. ends (make x)) (λ x. good_ends (make x)))

data_ends : {Y : Type 0} (make : Option ℕ → Y) → Good (last_data >>= λ x. ends (make x))
data_ends make =
    good_last (codes "data") (address >>= λ value. give (Some value)) None (λ x. ends (make x)) refl
    (good_within address (λ value. give (Some value)) (λ x. ends (make x))
    (address_then (λ value ts. ends (make (Some value)) ts) (λ value. good_ends (make (Some value)))))

-- The lines that change the map

one_name : {Y : Type 0} (make : Text → Y) → Good (name >>= λ a. ends (make a))
one_name make = name_then _ (λ a. good_ends (make a))

two_names : {Y : Type 0} (make : Text → Text → Y) → Good (name >>= λ a. name >>= λ b. ends (make a b))
two_names make = name_then _ (λ a. one_name (make a))

one_address : {Y : Type 0} (make : ℕ → Y) → Good (address >>= λ a. ends (make a))
one_address make = address_then _ (λ a. good_ends (make a))

name_address : {Y : Type 0} (make : Text → ℕ → Y) → Good (name >>= λ a. address >>= λ b. ends (make a b))
name_address make = name_then _ (λ a. one_address (make a))

one_switch : {Y : Type 0} (make : Bool → Y) → Good (switch >>= λ a. ends (make a))
one_switch make = switch_then _ (λ a. good_ends (make a))

name_switch : {Y : Type 0} (make : Text → Bool → Y) → Good (name >>= λ a. switch >>= λ b. ends (make a b))
name_switch make = name_then _ (λ a. one_switch (make a))

sized : {Y : Type 0} (make : ℕ → Y) → Good (size >>= λ a. ends (make a))
sized make = size_then _ (λ a. good_ends (make a))

add : Good form.add
add = name_then _ (λ a. address_then _ (λ b. name_then _ (λ c. priority_ends (changes.Add a b c))))

log : Good form.log
log = name_then _ (λ a. client_then _ (λ b. one_switch (changes.Log a b)))

map_page : Good form.map_page
map_page = name_then _ (λ a. address_then _ (λ b. size_then _ (λ c. name_then _ (λ d. address_then _ (λ e. perm_then _ (λ f.
    good_ends (changes.Map a b c d e f)))))))

event : Good form.event
event = name_then _ (λ a. address_then _ (λ b. decimal_then _ (λ c. notifier_then _ (λ d. data_ends (changes.Event a b c d)))))

unevent : Good form.unevent
unevent = name_then _ (λ a. address_then _ (λ b. decimal_then _ (λ c. data_ends (changes.Unevent a b c))))

changes_good : Every (λ e. Good e.1) form.change_forms
changes_good = (
  add,
  (
    two_names changes.Del,
    (
      name_address changes.Move,
      (
        name_then _ (λ a. sized (changes.Resize a)),
        (
          name_address changes.Retarget,
          (
            one_name changes.Enable,
            (
              one_name changes.Disable,
              (
                name_switch changes.Readonly,
                (
                  name_switch changes.Nonvolatile,
                  (
                    name_switch changes.Unmergeable,
                    (
                      name_switch changes.Romd,
                      (
                        log,
                        (
                          one_switch changes.Global,
                          (
                            map_page,
                            (
                              name_address changes.Unmap,
                              (event, (unevent, tt)),
                            ),
                          ),
                        ),
                      ),
                    ),
                  ),
                ),
              ),
            ),
          ),
        ),
      ),
    ),
  ),
)

change_good : Good form.change
change_good = good_choice (value_in form.change_forms) (codes "add") form.add refl refl (λ t. good_in form.change_forms t changes_good)

-- A device at the end of a line: what is left to read after each of its parts

abbrev ending : (Device → Command) → Device → Form Command
ending make d = ends_after_options d.ops.big (make d)

abbrev from_big : DeviceKind → ℕ → ℕ × ℕ → ℕ × ℕ → Bool → Bool → Operand Device
from_big kind regs valid impl v i = flag (codes "big") >>= λ big. give (region.device_with kind regs valid impl v i big)

abbrev from_iunaligned : DeviceKind → ℕ → ℕ × ℕ → ℕ × ℕ → Bool → Operand Device
from_iunaligned kind regs valid impl v = flag (codes "iunaligned") >>= from_big kind regs valid impl v

abbrev from_vunaligned : DeviceKind → ℕ → ℕ × ℕ → ℕ × ℕ → Operand Device
from_vunaligned kind regs valid impl = flag (codes "vunaligned") >>= from_iunaligned kind regs valid impl

abbrev from_impl : DeviceKind → ℕ → ℕ × ℕ → Operand Device
from_impl kind regs valid = optional (codes "impl") range (1, 4) >>= from_vunaligned kind regs valid

abbrev from_valid : DeviceKind → ℕ → Operand Device
from_valid kind regs = optional (codes "valid") range (1, 4) >>= from_impl kind regs

abbrev from_regs : DeviceKind → Operand Device
from_regs kind = optional (codes "regs") (decimal_number 65535) 1 >>= from_valid kind

-- a word that may be left out, and then the rest of a device
flag_then : {Y : Type 0} (word : Text) (f : Bool → Operand Device) (rest : Device → Form Y) → is_ok ((f false >>= rest) []) ≡ true
    → ((b : Bool) → Good (f b >>= rest)) → Good ((flag word >>= f) >>= rest)
flag_then word f rest closed good =
    good_within (flag word) f rest
    (good_optional word (give true) false (λ b. (f b >>= rest)) closed (good false) (good_same _ (f true >>= rest) (λ ts. refl) (good true)))

-- an operand that may be left out, and then the rest of a device
range_then : {Y : Type 0} (word : Text) (f : ℕ × ℕ → Operand Device) (rest : Device → Form Y) → is_ok ((f (1, 4) >>= rest) []) ≡ true
    → ((x : ℕ × ℕ) → Good (f x >>= rest)) → Good ((optional word range (1, 4) >>= f) >>= rest)
range_then word f rest closed good =
    good_within (optional word range (1, 4)) f rest
    (good_optional word range (1, 4) (λ x. (f x >>= rest)) closed (good (1, 4))
    (good_token causes.Number range_of (codes "1-4") (1, 4) refl refl refl (λ x. (f x >>= rest)) good))

device_big : (make : Device → Command) (kind : DeviceKind) (regs : ℕ) (valid impl : ℕ × ℕ) (v i : Bool) → Good (from_big kind regs valid impl v i >>= ending make)
device_big make kind regs valid impl v i =
    flag_then (codes "big") (λ big. give (region.device_with kind regs valid impl v i big)) (ending make) refl
    (λ big. good_same _ (ends_after_options big (make (region.device_with kind regs valid impl v i big))) (λ ts. refl)
    (good_ends_after big (make (region.device_with kind regs valid impl v i big))))

device_impl : (make : Device → Command) (kind : DeviceKind) (regs : ℕ) (valid : ℕ × ℕ) → Good (from_impl kind regs valid >>= ending make)
device_impl make kind regs valid =
    range_then (codes "impl") (from_vunaligned kind regs valid) (ending make) refl
    (λ impl. flag_then (codes "vunaligned") (from_iunaligned kind regs valid impl) (ending make) refl
    (λ v. flag_then (codes "iunaligned") (from_big kind regs valid impl v) (ending make) refl (device_big make kind regs valid impl v)))

device_ends : (make : Device → Command) → Good (region.with_device make)
device_ends make =
    good_within region.device_kind from_regs (ending make)
    (kind_then (λ kind. (from_regs kind >>= ending make)) (λ kind.
    good_within (optional (codes "regs") (decimal_number 65535) 1) (from_valid kind) (ending make)
    (good_optional (codes "regs") (decimal_number 65535) 1 (λ regs. (from_valid kind regs >>= ending make)) refl (valid kind 1)
    (good_token causes.Number (digits 10 65535) (codes "1") 1 refl refl refl (λ regs. (from_valid kind regs >>= ending make)) (valid kind)))))
  where
    valid : (kind : DeviceKind) (regs : ℕ) → Good (from_valid kind regs >>= ending make)
    valid kind regs = range_then (codes "valid") (from_impl kind regs) (ending make) refl (device_impl make kind regs)

with_device : (make : ℕ → Device → Command) → Good (size >>= λ n. region.with_device (make n))
with_device make = size_then _ (λ n. device_ends (make n))

kinds_good : (name : Text) → Every (λ e. Good e.1) (region.region_forms name)
kinds_good n = (
  sized (λ a. commands.Region n a region_kinds.Container),
  (
    sized (λ a. commands.Region n a region_kinds.Ram),
    (
      sized (λ a. commands.Region n a region_kinds.Rom),
      (
        with_device (λ a d. commands.Region n a (region_kinds.RomDevice d)),
        (
          with_device (λ a d. commands.Region n a (region_kinds.Io d)),
          (
            sized (λ a. commands.Region n a region_kinds.Iommu),
            (size_then _ (λ a. name_then _ (λ b. one_address (λ c. commands.Region n a (region_kinds.Alias b c)))), (sized (λ a. commands.Region n a region_kinds.Reserve), tt)),
          ),
        ),
      ),
    ),
  ),
)

region_good : Good region.region
region_good =
    name_then _ (λ n. good_choice (value_in (region.region_forms n)) (codes "container") (region.container n) refl refl
    (λ t. good_in (region.region_forms n) t (kinds_good n)))

-- The lines of a virtual CPU

bytes_at : {Y : Type 0} (make : Text → ℕ → List ℕ → Y) → Good (name >>= λ a. address >>= λ b. bytes >>= λ c. ends (make a b c))
bytes_at make = name_then _ (λ a. address_then _ (λ b. bytes_then _ (λ c. good_ends (make a b c))))

deeds_good : (p : PassId) → Every (λ e. Good e.1) (pass.pass_forms p)
deeds_good p = (
  good_ends (commands.Pass p pass_commands.Enter),
  (
    good_ends (commands.Pass p pass_commands.Leave),
    (
      name_then _ (λ a. address_then _ (λ b. len_then _ (λ c. good_ends (commands.Pass p (pass_commands.Read a b c))))),
      (
        bytes_at (λ a b c. commands.Pass p (pass_commands.Write a b c)),
        (
          good_made (λ c. commands.Pass p (pass_commands.Do c)) form.change change_good,
          (name_then _ (λ a. address_then _ (λ b. len_then _ (λ c. to_then _ (λ w. name_address (λ d e. commands.Pass p (pass_commands.Dma a b c d e)))))), tt),
        ),
      ),
    ),
  ),
)

pass_good : (n : ℕ) → Good (pass.pass_line n)
pass_good n =
    good_choice (value_in (pass.pass_forms (record { 0 = n }))) (codes "enter") (ends (commands.Pass (record { 0 = n }) pass_commands.Enter)) refl refl
    (λ t. good_in (pass.pass_forms (record { 0 = n })) t (deeds_good (record { 0 = n })))

passes_good : (o : Option ℕ) → IfGood (option_map pass.pass_line o)
passes_good None = tt
passes_good (Some n) = pass_good n

-- The other lines of the desk

desk_good : Every (λ e. Good e.1) desk.desk_forms
desk_good = (
  memory_then _ (λ a. good_ends (commands.Machine a)),
  (
    region_good,
    (
      two_names commands.Space,
      (
        bytes_at commands.Load,
        (
          one_name commands.Drop,
          (
            good_ends commands.Begin,
            (
              good_ends commands.Commit,
              (
                good_ends commands.Reap,
                (
                  name_then _ (λ a. name_then _ (λ b. priority_ends (commands.Listen a b))),
                  (
                    one_name commands.Unlisten,
                    (
                      name_then _ (λ a. name_then _ (λ b. address_then _ (λ c. one_address (commands.Watch a b c)))),
                      (
                        one_name commands.Unwatch,
                        (
                          one_name commands.Show,
                          (
                            name_address commands.At,
                            (
                              notifier_then _ (λ a. good_ends (commands.Notified a)),
                              (name_then _ (λ a. client_then _ (λ b. good_ends (commands.Dirty a b))), (good_ends commands.Par, (good_ends commands.End, tt))),
                            ),
                          ),
                        ),
                      ),
                    ),
                  ),
                ),
              ),
            ),
          ),
        ),
      ),
    ),
  ),
)

forms_good : (word : Text) → IfGood (form_of word)
forms_good word =
    good_or (value_in desk.desk_forms word) (option_or (option_map changed (value_in form.change_forms word)) (option_map pass.pass_line (pass_of word)))
    (good_in desk.desk_forms word desk_good)
    (good_or (option_map changed (value_in form.change_forms word)) (option_map pass.pass_line (pass_of word))
    (good_made_or commands.Change (value_in form.change_forms word) (good_in form.change_forms word changes_good))
    (passes_good (pass_of word)))

-- what the answers for the tokens of a line tell
pub command_good : Good command
command_good = good_choice form_of (codes "begin") (ends commands.Begin) refl refl forms_good
