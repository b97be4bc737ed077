-- The numbers in every command that was read fit.
use Rattle.std.proofs.Common.{◌≡◌, ◌<◌, ◌≤◌, ◌==◌, List, [], ◌∷◌, ℕ, Bool, true, false, Ok, Err, Some, None, Option, refl, ap, subst, ◌∙◌, arith, decimal}
use Rattle.std.proofs.Common.{codes, option_map, if◌then◌else◌}
use Rattle.std.specs.Prelude.{◌-◌, ◌&&◌, ◌%◌, ◌^◌, drop, nat_le, take}
use Rattle.std.specs.Option.{option_or, option_and_then}
use Rattle.std.specs.Str.{bytes_eq}
use Rattle.mem_base.specs.declared.script.faults.Cause.TheVariants as causes
use Rattle.mem_base.specs.map.PassIds.{PassId}
use Rattle.mem_base.specs.declared.script.changes.MapChange.{MapChange}
use Rattle.mem_base.specs.declared.script.changes.MapChange.TheVariants as changes
use Rattle.mem_base.specs.declared.script.commands.Command.{Command}
use Rattle.mem_base.specs.declared.script.commands.Command.TheVariants as commands
use Rattle.mem_base.specs.declared.script.commands.PassCommand.TheVariants as pass_commands
use Rattle.mem_base.specs.declared.script.commands.RegionKind.TheVariants as region_kinds
use Rattle.mem_base.specs.declared.script.places.Section.{Section}
use Rattle.mem_base.specs.declared.script.places.Section.TheVariants.{Start}
use Rattle.mem_base.specs.map.Limits.{most_bytes, most_passes, most_words, notifier_count, page_size}
use Rattle.mem_base.specs.script.Spelling.{Text, digits, leads_with_no_zero, length_of, machine_size, name_of, nonzero, number_of, most_address, most_size}
use Rattle.mem_base.specs.script.Spelling.{pass_of, whole_pages}
use Rattle.mem_base.specs.script.Scripts.{Line, script_of}
use Rattle.mem_base.specs.script.Sound.{Sound}
use Rattle.mem_base.specs.script.Operands.{Form, ends, then_read, value_in, with_value, made_by}
use Rattle.mem_base.specs.script.RegionForms.{alias, container, io, iommu, ram, region, region_forms, reserve, rom, romdev}
use Rattle.mem_base.specs.script.DeskForms.{at, desk_forms, dirty, drop_region, listen, load, machine, notified, show, space, unlisten, unwatch, watch}
use Rattle.mem_base.specs.script.ChangeForms.{add, change, change_forms, del, disable, enable, event, global, log, map_page, move}
use Rattle.mem_base.specs.script.ChangeForms.{nonvolatile, readonly, resize, retarget, romd, unevent, unmap, unmergeable}
use Rattle.mem_base.specs.script.Forms.{changed, command, form_of}
use Rattle.mem_base.specs.script.PassForms.{pass_dma, pass_do, pass_forms, pass_line, pass_read, pass_write}
use Rattle.mem_base.specs.script.Printing.{command_tokens, number_text}
use Rattle.script_laws.proofs.Tokens.{Spelled}
use Rattle.script_laws.proofs.Numerals.{digits_fit, number_fits}
use Rattle.script_laws.proofs.ScriptLaws.{script_sound}
use Rattle.script_laws.proofs.Spelled.{perm_law, switch_law, bytes_law, client_law, length_law, machine_law, mapped_some, name_law}
use Rattle.script_laws.proofs.Reading.{Every, Outcome, address_law, ended, ended_after, found, no_ok, same_Ok, size_law, took, took_data}
use Rattle.script_laws.proofs.Reading.{took_form, took_priority}
use Rattle.script_laws.proofs.DeviceLaws.{took_device}
use Rattle.view_laws.proofs.Tests.{none_is_not_some}
use Rattle.mem_base.specs.script.Run.{pool_words, words_named}
use Rattle.run_laws.specs.Fitting.{AreFitting, FitsChange, FitsCommand}
use Rattle.script_laws.proofs.CommandLaws.{either, to_law}
use Rattle.script_laws.proofs.ChangeLaws.{notifier_law, decimal_255_law}
use Rattle.std.proofs.lemmas.Option.{same_Some}
use Rattle.mem_base.specs.script.Race.{NamesItsPass}

-- whatever the form gives has its numbers in bounds
abbrev Fits : Form Command → Type 0
Fits f = (t : List Text) (y : Command) → f t ≡ Ok y → FitsCommand y

pass_fits : (word : Text) (n : ℕ) → pass_of word ≡ Some n → n < most_passes
pass_fits word n e = go (bytes_eq (take 1 word) (codes "v") && leads_with_no_zero (drop 1 word)) e
  where
    go : (b : Bool) → (if b then digits 10 15 (drop 1 word) else None) ≡ Some n → n < most_passes
    go true e = let most = digits_fit 10 15 (drop 1 word) n e in omega arith
    go false e = none_is_not_some n e

length_fits : (text : Text) (n : ℕ) → length_of text ≡ Some n → n ≤ 64
length_fits text n e = go (number_of 64 text) refl e
  where
    not_zero : (m : ℕ) (b : Bool) → (if b then None else Some m) ≡ Some n → m ≡ n
    not_zero m true e = none_is_not_some n e
    not_zero m false e = same_Some m n e

    go : (o : Option ℕ) → number_of 64 text ≡ o → option_and_then nonzero o ≡ Some n → n ≤ 64
    go None is e = none_is_not_some n e
    go (Some m) is e = let most = number_fits 64 text m is in let same = not_zero m (m == 0) e in omega arith

machine_small : (text : Text) (n : ℕ) → machine_size text ≡ Some n → n ≤ most_bytes
machine_small text n e = go (number_of most_bytes text) refl e
  where
    whole : (m : ℕ) (b : Bool) → (if b then Some m else None) ≡ Some n → m ≡ n
    whole m true e = same_Some m n e
    whole m false e = none_is_not_some n e

    go : (o : Option ℕ) → number_of most_bytes text ≡ o → option_and_then whole_pages o ≡ Some n → n ≤ most_bytes
    go None is e = none_is_not_some n e
    go (Some m) is e = let most = number_fits most_bytes text m is in let same = whole m ((m % page_size == 0) && nat_le page_size m) e in
        omega arith

size_fits : (text : Text) (n : ℕ) → number_of most_size text ≡ Some n → n ≤ 2 ^ 64
size_fits text n e = number_fits most_size text n e

address_fits : (text : Text) (n : ℕ) → number_of most_address text ≡ Some n → n < 2 ^ 64
address_fits text n e = let most : n ≤ 2 ^ 64 - 1 = number_fits most_address text n e in omega (arith, most)

-- Changes of the map

abbrev FitsAll : Form MapChange → Type 0
FitsAll f = (t : List Text) (y : MapChange) → f t ≡ Ok y → FitsChange y

add_fits : FitsAll add
add_fits t y e =
    took name_law t _ _ _ e λ parent p t e. took address_law t _ _ _ e λ offset o t e. took name_law t _ _ _ e λ child c t e. took_priority t _ _ e λ n q t e.
    ended FitsChange (changes.Add parent offset child n) t _ e tt

del_fits : FitsAll del
del_fits t y e =
    took name_law t _ _ _ e λ parent p t e. took name_law t _ _ _ e λ child c t e.
    ended FitsChange (changes.Del parent child) t _ e tt

move_fits : FitsAll move
move_fits t y e =
    took name_law t _ _ _ e λ child c t e. took address_law t _ _ _ e λ offset o t e.
    ended FitsChange (changes.Move child offset) t _ e tt

resize_fits : FitsAll resize
resize_fits t y e =
    took name_law t _ _ _ e λ region r t e. took size_law t _ _ _ e λ bytes b t e.
    ended FitsChange (changes.Resize region bytes) t _ e (size_fits (number_text bytes) bytes b.reads)

retarget_fits : FitsAll retarget
retarget_fits t y e =
    took name_law t _ _ _ e λ region r t e. took address_law t _ _ _ e λ offset o t e.
    ended FitsChange (changes.Retarget region offset) t _ e tt

enable_fits : FitsAll enable
enable_fits t y e =
    took name_law t _ _ _ e λ region r t e.
    ended FitsChange (changes.Enable region) t _ e tt

disable_fits : FitsAll disable
disable_fits t y e =
    took name_law t _ _ _ e λ region r t e.
    ended FitsChange (changes.Disable region) t _ e tt

readonly_fits : FitsAll readonly
readonly_fits t y e =
    took name_law t _ _ _ e λ region r t e. took switch_law t _ _ _ e λ on s t e.
    ended FitsChange (changes.Readonly region on) t _ e tt

nonvolatile_fits : FitsAll nonvolatile
nonvolatile_fits t y e =
    took name_law t _ _ _ e λ region r t e. took switch_law t _ _ _ e λ on s t e.
    ended FitsChange (changes.Nonvolatile region on) t _ e tt

unmergeable_fits : FitsAll unmergeable
unmergeable_fits t y e =
    took name_law t _ _ _ e λ region r t e. took switch_law t _ _ _ e λ on s t e.
    ended FitsChange (changes.Unmergeable region on) t _ e tt

romd_fits : FitsAll romd
romd_fits t y e =
    took name_law t _ _ _ e λ region r t e. took switch_law t _ _ _ e λ on s t e.
    ended FitsChange (changes.Romd region on) t _ e tt

log_fits : FitsAll log
log_fits t y e =
    took name_law t _ _ _ e λ region r t e. took client_law t _ _ _ e λ who w t e. took switch_law t _ _ _ e λ on s t e.
    ended FitsChange (changes.Log region who on) t _ e tt

global_fits : FitsAll global
global_fits t y e =
    took switch_law t _ _ _ e λ on s t e.
    ended FitsChange (changes.Global on) t _ e tt

map_page_fits : FitsAll map_page
map_page_fits t y e =
    took name_law t _ _ _ e λ region r t e. took address_law t _ _ _ e λ iova i t e. took size_law t _ _ _ e λ bytes b t e. took name_law t _ _ _ e
    λ space s t e. took address_law t _ _ _ e λ to a t e. took perm_law t _ _ _ e λ perm p t e.
    ended FitsChange (changes.Map region iova bytes space to perm) t _ e
    (address_fits (number_text iova) iova i.reads, size_fits (number_text bytes) bytes b.reads)

unmap_fits : FitsAll unmap
unmap_fits t y e =
    took name_law t _ _ _ e λ region r t e. took address_law t _ _ _ e λ iova i t e.
    ended FitsChange (changes.Unmap region iova) t _ e tt

event_fits : FitsAll event
event_fits t y e =
    took name_law t _ _ _ e λ region r t e. took address_law t _ _ _ e λ offset o t e. took decimal_255_law t _ _ _ e λ bytes b t e. took notifier_law t _ _
    _ e λ n m t e. took_data t _ _ e λ value v t e.
    ended FitsChange (changes.Event region offset bytes n value) t _ e tt

unevent_fits : FitsAll unevent
unevent_fits t y e =
    took name_law t _ _ _ e λ region r t e. took address_law t _ _ _ e λ offset o t e. took decimal_255_law t _ _ _ e λ bytes b t e. took_data t _ _ e
    λ value v t e.
    ended FitsChange (changes.Unevent region offset bytes value) t _ e tt

change_table : Every FitsAll change_forms
change_table = (
  add_fits,
  (
    del_fits,
    (
      move_fits,
      (
        resize_fits,
        (
          retarget_fits,
          (
            enable_fits,
            (
              disable_fits,
              (
                readonly_fits,
                (
                  nonvolatile_fits,
                  (unmergeable_fits, (romd_fits, (log_fits, (global_fits, (map_page_fits, (unmap_fits, (event_fits, (unevent_fits, tt)))))))),
                ),
              ),
            ),
          ),
        ),
      ),
    ),
  ),
)

change_fits : FitsAll change
change_fits t y e = took_form FitsAll change_forms t y change_table e λ form again t e. again t y e

-- Regions

container_fits : (name : Text) → Spelled name_of name name → Fits (container name)
container_fits name n t y e =
    took size_law t _ _ _ e λ bytes b t e.
    ended FitsCommand (commands.Region name bytes region_kinds.Container) t _ e (size_fits (number_text bytes) bytes b.reads)

ram_fits : (name : Text) → Spelled name_of name name → Fits (ram name)
ram_fits name n t y e =
    took size_law t _ _ _ e λ bytes b t e.
    ended FitsCommand (commands.Region name bytes region_kinds.Ram) t _ e (size_fits (number_text bytes) bytes b.reads)

rom_fits : (name : Text) → Spelled name_of name name → Fits (rom name)
rom_fits name n t y e =
    took size_law t _ _ _ e λ bytes b t e.
    ended FitsCommand (commands.Region name bytes region_kinds.Rom) t _ e (size_fits (number_text bytes) bytes b.reads)

romdev_fits : (name : Text) → Spelled name_of name name → Fits (romdev name)
romdev_fits name n t y e =
    took size_law t _ _ _ e λ bytes b t e. took_device t _ _ e λ d v t e.
    ended_after FitsCommand d.ops.big (commands.Region name bytes (region_kinds.RomDevice d)) t _ e (size_fits (number_text bytes) bytes b.reads)

io_fits : (name : Text) → Spelled name_of name name → Fits (io name)
io_fits name n t y e =
    took size_law t _ _ _ e λ bytes b t e. took_device t _ _ e λ d v t e.
    ended_after FitsCommand d.ops.big (commands.Region name bytes (region_kinds.Io d)) t _ e (size_fits (number_text bytes) bytes b.reads)

iommu_fits : (name : Text) → Spelled name_of name name → Fits (iommu name)
iommu_fits name n t y e =
    took size_law t _ _ _ e λ bytes b t e.
    ended FitsCommand (commands.Region name bytes region_kinds.Iommu) t _ e (size_fits (number_text bytes) bytes b.reads)

alias_fits : (name : Text) → Spelled name_of name name → Fits (alias name)
alias_fits name n t y e =
    took size_law t _ _ _ e λ bytes b t e. took name_law t _ _ _ e λ target g t e. took address_law t _ _ _ e λ offset o t e.
    ended FitsCommand (commands.Region name bytes (region_kinds.Alias target offset)) t _ e (size_fits (number_text bytes) bytes b.reads)

reserve_fits : (name : Text) → Spelled name_of name name → Fits (reserve name)
reserve_fits name n t y e =
    took size_law t _ _ _ e λ bytes b t e.
    ended FitsCommand (commands.Region name bytes region_kinds.Reserve) t _ e (size_fits (number_text bytes) bytes b.reads)

region_table : (name : Text) → Spelled name_of name name → Every Fits (region_forms name)
region_table name n = (
  container_fits name n,
  (
    ram_fits name n,
    (
      rom_fits name n,
      (
        romdev_fits name n,
        (io_fits name n, (iommu_fits name n, (alias_fits name n, (reserve_fits name n, tt)))),
      ),
    ),
  ),
)

region_fits : Fits region
region_fits t y e =
    took name_law t _ _ _ e λ name n t e. took_form Fits (region_forms name) t y (region_table name n) e λ f again t e. again t
    y e

-- The other lines of the desk

machine_fits : Fits machine
machine_fits t y e =
    took machine_law t _ _ _ e λ bytes b t e.
    ended FitsCommand (commands.Machine bytes) t _ e (machine_small (number_text bytes) bytes b.reads)

space_fits : Fits space
space_fits t y e =
    took name_law t _ _ _ e λ name n t e. took name_law t _ _ _ e λ root r t e.
    ended FitsCommand (commands.Space name root) t _ e tt

load_fits : Fits load
load_fits t y e =
    took name_law t _ _ _ e λ region r t e. took address_law t _ _ _ e λ offset o t e. took bytes_law t _ _ _ e λ content c t e.
    ended FitsCommand (commands.Load region offset content) t _ e tt

drop_region_fits : Fits drop_region
drop_region_fits t y e =
    took name_law t _ _ _ e λ region r t e.
    ended FitsCommand (commands.Drop region) t _ e tt

listen_fits : Fits listen
listen_fits t y e =
    took name_law t _ _ _ e λ name n t e. took name_law t _ _ _ e λ space s t e. took_priority t _ _ e λ i p t e.
    ended FitsCommand (commands.Listen name space i) t _ e tt

unlisten_fits : Fits unlisten
unlisten_fits t y e =
    took name_law t _ _ _ e λ name n t e.
    ended FitsCommand (commands.Unlisten name) t _ e tt

watch_fits : Fits watch
watch_fits t y e =
    took name_law t _ _ _ e λ name n t e. took name_law t _ _ _ e λ region r t e. took address_law t _ _ _ e λ first f t e. took
    address_law t _ _ _ e
    λ last l t e.
    ended FitsCommand (commands.Watch name region first last) t _ e tt

unwatch_fits : Fits unwatch
unwatch_fits t y e =
    took name_law t _ _ _ e λ name n t e.
    ended FitsCommand (commands.Unwatch name) t _ e tt

show_fits : Fits show
show_fits t y e =
    took name_law t _ _ _ e λ space s t e.
    ended FitsCommand (commands.Show space) t _ e tt

at_fits : Fits at
at_fits t y e =
    took name_law t _ _ _ e λ space s t e. took address_law t _ _ _ e λ addr a t e.
    ended FitsCommand (commands.At space addr) t _ e tt

notified_fits : Fits notified
notified_fits t y e =
    took notifier_law t _ _ _ e λ number n t e.
    ended FitsCommand (commands.Notified number) t _ e (let most = number_fits (notifier_count - 1) (decimal number) number n.reads in omega arith)

dirty_fits : Fits dirty
dirty_fits t y e =
    took name_law t _ _ _ e λ region r t e. took client_law t _ _ _ e λ who w t e.
    ended FitsCommand (commands.Dirty region who) t _ e tt

begin_fits : Fits (ends commands.Begin)
begin_fits t y e = ended FitsCommand commands.Begin t _ e tt

commit_fits : Fits (ends commands.Commit)
commit_fits t y e = ended FitsCommand commands.Commit t _ e tt

reap_fits : Fits (ends commands.Reap)
reap_fits t y e = ended FitsCommand commands.Reap t _ e tt

par_fits : Fits (ends commands.Par)
par_fits t y e = ended FitsCommand commands.Par t _ e tt

end_fits : Fits (ends commands.End)
end_fits t y e = ended FitsCommand commands.End t _ e tt

desk_table : Every Fits desk_forms
desk_table = (
  machine_fits,
  (
    region_fits,
    (
      space_fits,
      (
        load_fits,
        (
          drop_region_fits,
          (
            begin_fits,
            (
              commit_fits,
              (
                reap_fits,
                (
                  listen_fits,
                  (
                    unlisten_fits,
                    (
                      watch_fits,
                      (
                        unwatch_fits,
                        (
                          show_fits,
                          (
                            at_fits,
                            (notified_fits, (dirty_fits, (par_fits, (end_fits, tt)))),
                          ),
                        ),
                      ),
                    ),
                  ),
                ),
              ),
            ),
          ),
        ),
      ),
    ),
  ),
)

-- The lines of a pass

abbrev pass : ℕ → PassId
pass n = record { 0 = n }

abbrev IsPass : ℕ → Type 0
IsPass n = n < most_passes

pass_enter_fits : (n : ℕ) → IsPass n → Fits (ends (commands.Pass (pass n) pass_commands.Enter))
pass_enter_fits n v t y e =
    ended FitsCommand (commands.Pass (pass n) pass_commands.Enter) t _ e (v, tt)

pass_leave_fits : (n : ℕ) → IsPass n → Fits (ends (commands.Pass (pass n) pass_commands.Leave))
pass_leave_fits n v t y e =
    ended FitsCommand (commands.Pass (pass n) pass_commands.Leave) t _ e (v, tt)

pass_read_fits : (n : ℕ) → IsPass n → Fits (pass_read (pass n))
pass_read_fits n v t y e =
    took name_law t _ _ _ e λ space s t e. took address_law t _ _ _ e λ addr a t e. took length_law t _ _ _ e λ count l t e.
    ended FitsCommand (commands.Pass (pass n) (pass_commands.Read space addr count)) t _ e (v, length_fits (decimal count) count l.reads)

pass_write_fits : (n : ℕ) → IsPass n → Fits (pass_write (pass n))
pass_write_fits n v t y e =
    took name_law t _ _ _ e λ space s t e. took address_law t _ _ _ e λ addr a t e. took bytes_law t _ _ _ e λ content c t e.
    ended FitsCommand (commands.Pass (pass n) (pass_commands.Write space addr content)) t _ e (v, tt)

pass_do_fits : (n : ℕ) → IsPass n → Fits (pass_do (pass n))
pass_do_fits n v t y e = by (change t) refl e
  where
    by : (o : Outcome MapChange) → change t ≡ o → made_by (λ c. commands.Pass (pass n) (pass_commands.Do c)) o ≡ Ok y → FitsCommand y
    by (Err c) is e = no_ok e
    by (Ok c) is e = subst FitsCommand (same_Ok (commands.Pass (pass n) (pass_commands.Do c)) y (Ok (commands.Pass (pass n) (pass_commands.Do c))) refl e)
        (v, change_fits t c is)

abbrev to_words : List (Text × Unit {0})
to_words = (codes "to", tt) ∷ []

pass_dma_fits : (n : ℕ) → IsPass n → Fits (pass_dma (pass n))
pass_dma_fits n v t y e =
    took name_law t _ _ _ e λ space s t e. took address_law t _ _ _ e λ addr a t e. took length_law t _ _ _ e λ count l t e.
    took to_law t _ _ _ e λ word w t e. took name_law t _ _ _ e λ to_space p t e. took address_law t _ _ _ e λ to_addr q t e.
    ended FitsCommand (commands.Pass (pass n) (pass_commands.Dma space addr count to_space to_addr)) t _ e
    (v, length_fits (decimal count) count l.reads)

pass_table : (n : ℕ) → IsPass n → Every Fits (pass_forms (pass n))
pass_table n v = (
  pass_enter_fits n v,
  (
    pass_leave_fits n v,
    (pass_read_fits n v, (pass_write_fits n v, (pass_do_fits n v, (pass_dma_fits n v, tt)))),
  ),
)

-- All lines

desk_line : (word : Text) (t : List Text) (f : Form Command) (y : Command) → value_in desk_forms word ≡ Some f → f t ≡ Ok y
    → FitsCommand y
desk_line word t f y is e = found Fits desk_forms word f is desk_table λ again. again t y e

change_line : (word : Text) (f : Form MapChange) (t : List Text) (y : Command) → value_in change_forms word ≡ Some f
    → changed f t ≡ Ok y → FitsCommand y
change_line word f t y is e = by (f t) refl e
  where
    by : (o : Outcome MapChange) → f t ≡ o → made_by commands.Change o ≡ Ok y → FitsCommand y
    by (Err c) read e = no_ok e
    by (Ok c) read e = subst FitsCommand (same_Ok (commands.Change c) y (Ok (commands.Change c)) refl e)
        (found FitsAll change_forms word f is change_table λ again. again t c read)

pass_line_fits : (word : Text) (n : ℕ) (t : List Text) (y : Command) → pass_of word ≡ Some n → pass_line n t ≡ Ok y
    → FitsCommand y
pass_line_fits word n t y is e = took_form Fits (pass_forms (pass n)) t y (pass_table n (pass_fits word n is)) e
    λ f again t e. again t y e

line_fits : (word : Text) (t : List Text) (f : Form Command) (y : Command) → form_of word ≡ Some f → f t ≡ Ok y → FitsCommand y
line_fits word t f y is e =
    either (value_in desk_forms word) (option_or (option_map changed (value_in change_forms word))
    (option_map pass_line (pass_of word))) f is
    (λ is. desk_line word t f y is e) λ is.
    either (option_map changed (value_in change_forms word)) (option_map pass_line (pass_of word)) f is
    (λ is. mapped_some changed (value_in change_forms word) f is λ g is same. change_line word g t y is (ap (λ h. h t) same ∙ e))
    (λ is. mapped_some pass_line (pass_of word) f is λ n is same. pass_line_fits word n t y is (ap (λ h. h t) same ∙ e))

pub command_fits : Fits command
command_fits [] y e = no_ok e
command_fits (word ∷ t) y e = by (form_of word) refl e
  where
    by : (o : Option (Form Command)) → form_of word ≡ o → then_read (with_value causes.Word o t) (λ form. form) ≡ Ok y
        → FitsCommand y
    by None is e = no_ok e
    by (Some f) is e = line_fits word t f y is e

-- every command of a script that was read
pub sound_fits : (section : Section) (lines : List Line) → Sound section lines → AreFitting lines
sound_fits section [] sound = tt
sound_fits section (line ∷ lines) sound =
    (command_fits (command_tokens line.1) line.1 sound.0.1, sound_fits sound.1.0 lines sound.1.2)

pub lines_fit : (text : Text) (lines : List Line) → script_of text ≡ Ok lines → AreFitting lines
lines_fit text lines e = sound_fits Start lines (script_sound text lines e)

-- the words of a pool are no more than the largest one has
words_fit : (c : Command) → FitsCommand c → words_named c ≤ most_words
words_fit (commands.Machine size) b = omega (arith, b)
words_fit _ b = omega arith

pub pool_fits : (lines : List Line) → AreFitting lines → pool_words lines ≤ most_words
pool_fits [] h = omega arith
pool_fits (line ∷ lines) h = words_fit line.1 h.0

pub names_its : (c : Command) → FitsCommand c → NamesItsPass c
names_its (commands.Pass pass command) f = f.0
names_its c f = tt
