-- Each line that was read is printed so that it reads as the same.
use Rattle.std.proofs.Common.{◌≡◌, List, [], ◌∷◌, ℕ, Ok, Err, Some, None, Option, refl, ap, subst, ◌∙◌, codes, option_map}
use Rattle.std.specs.Option.{option_or}
use Rattle.mem_base.specs.declared.script.faults.Cause.TheVariants as causes
use Rattle.mem_base.specs.map.PassIds.{PassId}
use Rattle.mem_base.specs.declared.script.changes.MapChange.{MapChange}
use Rattle.mem_base.specs.declared.script.commands.Command.{Command}
use Rattle.mem_base.specs.declared.script.commands.Command.TheVariants as commands
use Rattle.mem_base.specs.declared.script.commands.PassCommand.TheVariants as pass_commands
use Rattle.mem_base.specs.declared.script.commands.RegionKind.TheVariants as region_kinds
use Rattle.mem_base.specs.script.Spelling.{Text, name_of, pass_of}
use Rattle.mem_base.specs.script.Operands.{Form, ends, then_read, value_in, with_value}
use Rattle.mem_base.specs.script.RegionForms.{alias, container, io, iommu, ram, region, region_forms, reserve, rom, romdev}
use Rattle.mem_base.specs.script.DeskForms.{at, desk_forms, dirty, drop_region, listen, load, machine, notified, show, space, unlisten, unwatch, watch}
use Rattle.mem_base.specs.script.ChangeForms.{change, change_forms}
use Rattle.mem_base.specs.script.Forms.{changed, command, form_of}
use Rattle.mem_base.specs.script.Operands.{made_by}
use Rattle.mem_base.specs.script.PassForms.{pass_dma, pass_do, pass_forms, pass_line, pass_read, pass_write}
use Rattle.mem_base.specs.script.Printing.{pass_text}
use Rattle.script_laws.proofs.Tokens.{Law, Spelled}
use Rattle.script_laws.proofs.Spelled.{bytes_law, client_law, length_law, machine_law, mapped_some, name_law, pass_law}
use Rattle.script_laws.proofs.Reading.{Every, Outcome, address_law, ended, ended_after, found, no_ok, same_Ok, size_law, took, took_form, took_priority}
use Rattle.script_laws.proofs.ChangeLaws.{change_again, change_table, notifier_law}
use Rattle.script_laws.proofs.ChangeLaws as of_change
use Rattle.script_laws.proofs.DeviceLaws.{took_device}
pub use Rattle.mem_base.specs.script.Sound.{ReadsAsItself as Reads}

-- whatever the form gives reads as itself when it is printed
abbrev pub Again : Form Command → Type 0
Again f = (t : List Text) (y : Command) → f t ≡ Ok y → Reads y

-- Regions

container_again : (name : Text) → Spelled name_of name name → Again (container name)
container_again name n t y e =
    took size_law t _ _ _ e λ bytes b t e.
    ended Reads (commands.Region name bytes region_kinds.Container) t _ e (rw (n.token, n.reads, b.token, b.reads) (refl, refl))

ram_again : (name : Text) → Spelled name_of name name → Again (ram name)
ram_again name n t y e =
    took size_law t _ _ _ e λ bytes b t e.
    ended Reads (commands.Region name bytes region_kinds.Ram) t _ e (rw (n.token, n.reads, b.token, b.reads) (refl, refl))

rom_again : (name : Text) → Spelled name_of name name → Again (rom name)
rom_again name n t y e =
    took size_law t _ _ _ e λ bytes b t e.
    ended Reads (commands.Region name bytes region_kinds.Rom) t _ e (rw (n.token, n.reads, b.token, b.reads) (refl, refl))

romdev_again : (name : Text) → Spelled name_of name name → Again (romdev name)
romdev_again name n t y e =
    took size_law t _ _ _ e λ bytes b t e. took_device t _ _ e λ d v t e.
    ended_after Reads d.ops.big (commands.Region name bytes (region_kinds.RomDevice d)) t _ e (rw (n.token, n.reads, b.token, b.reads, v.0, v.1) (refl, refl))

io_again : (name : Text) → Spelled name_of name name → Again (io name)
io_again name n t y e =
    took size_law t _ _ _ e λ bytes b t e. took_device t _ _ e λ d v t e.
    ended_after Reads d.ops.big (commands.Region name bytes (region_kinds.Io d)) t _ e (rw (n.token, n.reads, b.token, b.reads, v.0, v.1) (refl, refl))

iommu_again : (name : Text) → Spelled name_of name name → Again (iommu name)
iommu_again name n t y e =
    took size_law t _ _ _ e λ bytes b t e.
    ended Reads (commands.Region name bytes region_kinds.Iommu) t _ e (rw (n.token, n.reads, b.token, b.reads) (refl, refl))

alias_again : (name : Text) → Spelled name_of name name → Again (alias name)
alias_again name n t y e =
    took size_law t _ _ _ e λ bytes b t e. took name_law t _ _ _ e λ target g t e. took address_law t _ _ _ e λ offset o t e.
    ended Reads (commands.Region name bytes (region_kinds.Alias target offset)) t _ e (rw (n.token, n.reads, b.token, b.reads, g.token, g.reads, o.token, o.reads) (refl, refl))

reserve_again : (name : Text) → Spelled name_of name name → Again (reserve name)
reserve_again name n t y e =
    took size_law t _ _ _ e λ bytes b t e.
    ended Reads (commands.Region name bytes region_kinds.Reserve) t _ e (rw (n.token, n.reads, b.token, b.reads) (refl, refl))

region_table : (name : Text) → Spelled name_of name name → Every Again (region_forms name)
region_table name n = (
  container_again name n,
  (ram_again name n, (rom_again name n, (romdev_again name n, (io_again name n, (iommu_again name n, (alias_again name n, (reserve_again name n, tt))))))),
)

region_again : Again region
region_again t y e =
    took name_law t _ _ _ e λ name n t e. took_form Again (region_forms name) t y (region_table name n) e λ f again t e. again t y e

-- The other lines of the desk

machine_again : Again machine
machine_again t y e =
    took machine_law t _ _ _ e λ bytes b t e.
    ended Reads (commands.Machine bytes) t _ e (rw (b.token, b.reads) (refl, refl))

space_again : Again space
space_again t y e =
    took name_law t _ _ _ e λ name n t e. took name_law t _ _ _ e λ root r t e.
    ended Reads (commands.Space name root) t _ e (rw (n.token, n.reads, r.token, r.reads) (refl, refl))

load_again : Again load
load_again t y e =
    took name_law t _ _ _ e λ region r t e. took address_law t _ _ _ e λ offset o t e. took bytes_law t _ _ _ e λ content c t e.
    ended Reads (commands.Load region offset content) t _ e (rw (r.token, r.reads, o.token, o.reads, c.token, c.reads) (refl, refl))

drop_region_again : Again drop_region
drop_region_again t y e =
    took name_law t _ _ _ e λ region r t e.
    ended Reads (commands.Drop region) t _ e (rw (r.token, r.reads) (refl, refl))

listen_again : Again listen
listen_again t y e =
    took name_law t _ _ _ e λ name n t e. took name_law t _ _ _ e λ space s t e. took_priority t _ _ e λ i p t e.
    ended Reads (commands.Listen name space i) t _ e (rw (n.token, n.reads, s.token, s.reads, p.tokens, p.reads) (refl, refl))

unlisten_again : Again unlisten
unlisten_again t y e =
    took name_law t _ _ _ e λ name n t e.
    ended Reads (commands.Unlisten name) t _ e (rw (n.token, n.reads) (refl, refl))

watch_again : Again watch
watch_again t y e =
    took name_law t _ _ _ e λ name n t e. took name_law t _ _ _ e λ region r t e. took address_law t _ _ _ e λ first f t e. took address_law t _ _ _ e
    λ last l t e.
    ended Reads (commands.Watch name region first last) t _ e (rw (n.token, n.reads, r.token, r.reads, f.token, f.reads, l.token, l.reads) (refl, refl))

unwatch_again : Again unwatch
unwatch_again t y e =
    took name_law t _ _ _ e λ name n t e.
    ended Reads (commands.Unwatch name) t _ e (rw (n.token, n.reads) (refl, refl))

show_again : Again show
show_again t y e =
    took name_law t _ _ _ e λ space s t e.
    ended Reads (commands.Show space) t _ e (rw (s.token, s.reads) (refl, refl))

at_again : Again at
at_again t y e =
    took name_law t _ _ _ e λ space s t e. took address_law t _ _ _ e λ addr a t e.
    ended Reads (commands.At space addr) t _ e (rw (s.token, s.reads, a.token, a.reads) (refl, refl))

notified_again : Again notified
notified_again t y e =
    took notifier_law t _ _ _ e λ number n t e.
    ended Reads (commands.Notified number) t _ e (rw (n.token, n.reads) (refl, refl))

dirty_again : Again dirty
dirty_again t y e =
    took name_law t _ _ _ e λ region r t e. took client_law t _ _ _ e λ who w t e.
    ended Reads (commands.Dirty region who) t _ e (rw (r.token, r.reads, w.token, w.reads) (refl, refl))

begin_again : Again (ends commands.Begin)
begin_again t y e = ended Reads commands.Begin t _ e (refl, refl)

commit_again : Again (ends commands.Commit)
commit_again t y e = ended Reads commands.Commit t _ e (refl, refl)

reap_again : Again (ends commands.Reap)
reap_again t y e = ended Reads commands.Reap t _ e (refl, refl)

par_again : Again (ends commands.Par)
par_again t y e = ended Reads commands.Par t _ e (refl, refl)

end_again : Again (ends commands.End)
end_again t y e = ended Reads commands.End t _ e (refl, refl)

desk_table : Every Again desk_forms
desk_table = (
  machine_again,
  (
    region_again,
    (
      space_again,
      (
        load_again,
        (
          drop_region_again,
          (
            begin_again,
            (
              commit_again,
              (
                reap_again,
                (
                  listen_again,
                  (
                    unlisten_again,
                    (
                      watch_again,
                      (unwatch_again, (show_again, (at_again, (notified_again, (dirty_again, (par_again, (end_again, tt))))))),
                    ),
                  ),
                ),
              ),
            ),
          ),
        ),
      ),
    ),
  ),
)

-- The lines of a pass

abbrev pass : ℕ → PassId
pass n = record { 0 = n }

abbrev IsPass : ℕ → Type 0
IsPass n = Spelled pass_of (pass_text (pass n)) n

pass_enter_again : (n : ℕ) → IsPass n → Again (ends (commands.Pass (pass n) pass_commands.Enter))
pass_enter_again n v t y e =
    ended Reads (commands.Pass (pass n) pass_commands.Enter) t _ e (rw (v.token, v.reads) (refl, refl))

pass_leave_again : (n : ℕ) → IsPass n → Again (ends (commands.Pass (pass n) pass_commands.Leave))
pass_leave_again n v t y e =
    ended Reads (commands.Pass (pass n) pass_commands.Leave) t _ e (rw (v.token, v.reads) (refl, refl))

pass_read_again : (n : ℕ) → IsPass n → Again (pass_read (pass n))
pass_read_again n v t y e =
    took name_law t _ _ _ e λ space s t e. took address_law t _ _ _ e λ addr a t e. took length_law t _ _ _ e λ count l t e.
    ended Reads (commands.Pass (pass n) (pass_commands.Read space addr count)) t _ e (rw (v.token, v.reads, s.token, s.reads, a.token, a.reads, l.token, l.reads) (refl, refl))

pass_write_again : (n : ℕ) → IsPass n → Again (pass_write (pass n))
pass_write_again n v t y e =
    took name_law t _ _ _ e λ space s t e. took address_law t _ _ _ e λ addr a t e. took bytes_law t _ _ _ e λ content c t e.
    ended Reads (commands.Pass (pass n) (pass_commands.Write space addr content)) t _ e
    (rw (v.token, v.reads, s.token, s.reads, a.token, a.reads, c.token, c.reads) (refl, refl))

pass_do_again : (n : ℕ) → IsPass n → Again (pass_do (pass n))
pass_do_again n v t y e = by (change t) refl e
  where
    of : (c : MapChange) → of_change.Reads c → Reads (commands.Pass (pass n) (pass_commands.Do c))
    of c r = rw (v.token, v.reads, r.0, r.1) (refl, refl)

    by : (o : Outcome MapChange) → change t ≡ o → made_by (λ c. commands.Pass (pass n) (pass_commands.Do c)) o ≡ Ok y → Reads y
    by (Err c) is e = no_ok e
    by (Ok c) is e = subst Reads (same_Ok (commands.Pass (pass n) (pass_commands.Do c)) y (Ok (commands.Pass (pass n) (pass_commands.Do c))) refl e) (of c (change_again t c is))

abbrev to_words : List (Text × Unit {0})
to_words = (codes "to", tt) ∷ []

pub to_law : Law (value_in to_words) (λ _. codes "to")
to_law token tt e = record { token = refl; reads = refl }

pass_dma_again : (n : ℕ) → IsPass n → Again (pass_dma (pass n))
pass_dma_again n v t y e =
    took name_law t _ _ _ e λ space s t e. took address_law t _ _ _ e λ addr a t e. took length_law t _ _ _ e λ count l t e.
    took to_law t _ _ _ e λ word w t e. took name_law t _ _ _ e λ to_space p t e. took address_law t _ _ _ e λ to_addr q t e.
    ended Reads (commands.Pass (pass n) (pass_commands.Dma space addr count to_space to_addr)) t _ e
    (rw (v.token, v.reads, s.token, s.reads, a.token, a.reads, l.token, l.reads, p.token, p.reads, q.token, q.reads) (refl, refl))

pass_table : (n : ℕ) → IsPass n → Every Again (pass_forms (pass n))
pass_table n v = (pass_enter_again n v, (pass_leave_again n v, (pass_read_again n v, (pass_write_again n v, (pass_do_again n v, (pass_dma_again n v, tt))))))

-- All lines

desk_line : (word : Text) (t : List Text) (f : Form Command) (y : Command) → value_in desk_forms word ≡ Some f → f t ≡ Ok y → Reads y
desk_line word t f y is e = found Again desk_forms word f is desk_table λ again. again t y e

change_line : (t : List Text) (f : Form MapChange) (y : Command) → of_change.Again f → (o : Outcome MapChange) → f t ≡ o → made_by commands.Change o ≡ Ok y →
    Reads y
change_line t f y again (Err c) is e = no_ok e
change_line t f y again (Ok c) is e =
    let r = again t c is in
    subst Reads (same_Ok (commands.Change c) y (Ok (commands.Change c)) refl e) (r.0, r.2)

pass_line_again : (word : Text) (n : ℕ) (t : List Text) (y : Command) → pass_of word ≡ Some n → pass_line n t ≡ Ok y → Reads y
pass_line_again word n t y is e = took_form Again (pass_forms (pass n)) t y (pass_table n (pass_law word n is)) e λ f again t e. again t y e

pub either : {X P : Type 0} (a b : Option X) (x : X) → option_or a b ≡ Some x → (a ≡ Some x → P) → (b ≡ Some x → P) → P
either None b x e f g = g e
either (Some z) b x e f g = f e

line_again : (word : Text) (t : List Text) (f : Form Command) (y : Command) → form_of word ≡ Some f → f t ≡ Ok y → Reads y
line_again word t f y is e =
    either (value_in desk_forms word) (option_or (option_map changed (value_in change_forms word)) (option_map pass_line (pass_of word))) f is
    (λ is. desk_line word t f y is e) λ is.
    either (option_map changed (value_in change_forms word)) (option_map pass_line (pass_of word)) f is
    (λ is. mapped_some changed (value_in change_forms word) f is λ g is same.
    found of_change.Again change_forms word g is change_table λ again. change_line t g y again (g t) refl (ap (λ h. h t) same ∙ e))
    (λ is. mapped_some pass_line (pass_of word) f is λ n is same. pass_line_again word n t y is (ap (λ h. h t) same ∙ e))

pub command_again : Again command
command_again [] y e = no_ok e
command_again (word ∷ t) y e = by (form_of word) refl e
  where
    by : (o : Option (Form Command)) → form_of word ≡ o → then_read (with_value causes.Word o t) (λ form. form) ≡ Ok y → Reads y
    by None is e = no_ok e
    by (Some f) is e = line_again word t f y is e
