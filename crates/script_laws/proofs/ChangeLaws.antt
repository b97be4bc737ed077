-- Each change that was read is printed so that it reads as the same.
use Rattle.std.proofs.Common.{◌≡◌, ◌-◌, List, true, Ok, refl, arith, decimal}
use Rattle.mem_base.specs.map.Limits.{notifier_count}
use Rattle.mem_base.specs.declared.script.changes.MapChange.{MapChange}
use Rattle.mem_base.specs.declared.script.changes.MapChange.TheVariants as changes
use Rattle.mem_base.specs.declared.script.commands.Command.TheVariants as commands
use Rattle.mem_base.specs.script.Spelling.{Text, digits, number_of}
use Rattle.mem_base.specs.script.Operands.{Form}
use Rattle.mem_base.specs.script.ChangeForms.{add, change, change_forms, del, disable, enable, event, global, log, map_page, move}
use Rattle.mem_base.specs.script.ChangeForms.{nonvolatile, readonly, resize, retarget, romd, unevent, unmap, unmergeable}
use Rattle.mem_base.specs.script.Forms.{command}
use Rattle.mem_base.specs.script.Printing.{change_tokens}
use Rattle.script_laws.proofs.Tokens.{Law, are_tokens}
use Rattle.script_laws.proofs.Spelled.{client_law, decimal_law, name_law, perm_law, short_law, switch_law}
use Rattle.script_laws.proofs.Reading.{Every, address_law, ended, size_law, took, took_data, took_form, took_priority}

-- what is printed of the change are tokens, which read as the change, and as the line that is the change
abbrev pub Reads : MapChange → Type 0
Reads c = (are_tokens (change_tokens c) ≡ true) × (change (change_tokens c) ≡ Ok c) × (command (change_tokens c) ≡ Ok (commands.Change c))

-- so is whatever the form gives
abbrev pub Again : Form MapChange → Type 0
Again f = (t : List Text) (y : MapChange) → f t ≡ Ok y → Reads y

pub decimal_255_law : Law (digits 10 255) decimal
decimal_255_law = decimal_law 255 (omega arith)

pub notifier_law : Law (number_of (notifier_count - 1)) decimal
notifier_law = short_law (notifier_count - 1) (omega arith)

add_again : Again add
add_again t y e =
    took name_law t _ _ _ e λ parent p t e. took address_law t _ _ _ e λ offset o t e. took name_law t _ _ _ e λ child c t e. took_priority t _ _ e λ n q t e.
    ended Reads (changes.Add parent offset child n) t _ e (rw (p.token, p.reads, o.token, o.reads, c.token, c.reads, q.tokens, q.reads) (refl, refl, refl))

del_again : Again del
del_again t y e =
    took name_law t _ _ _ e λ parent p t e. took name_law t _ _ _ e λ child c t e.
    ended Reads (changes.Del parent child) t _ e (rw (p.token, p.reads, c.token, c.reads) (refl, refl, refl))

move_again : Again move
move_again t y e =
    took name_law t _ _ _ e λ child c t e. took address_law t _ _ _ e λ offset o t e.
    ended Reads (changes.Move child offset) t _ e (rw (c.token, c.reads, o.token, o.reads) (refl, refl, refl))

resize_again : Again resize
resize_again t y e =
    took name_law t _ _ _ e λ region r t e. took size_law t _ _ _ e λ bytes b t e.
    ended Reads (changes.Resize region bytes) t _ e (rw (r.token, r.reads, b.token, b.reads) (refl, refl, refl))

retarget_again : Again retarget
retarget_again t y e =
    took name_law t _ _ _ e λ region r t e. took address_law t _ _ _ e λ offset o t e.
    ended Reads (changes.Retarget region offset) t _ e (rw (r.token, r.reads, o.token, o.reads) (refl, refl, refl))

enable_again : Again enable
enable_again t y e =
    took name_law t _ _ _ e λ region r t e.
    ended Reads (changes.Enable region) t _ e (rw (r.token, r.reads) (refl, refl, refl))

disable_again : Again disable
disable_again t y e =
    took name_law t _ _ _ e λ region r t e.
    ended Reads (changes.Disable region) t _ e (rw (r.token, r.reads) (refl, refl, refl))

readonly_again : Again readonly
readonly_again t y e =
    took name_law t _ _ _ e λ region r t e. took switch_law t _ _ _ e λ on s t e.
    ended Reads (changes.Readonly region on) t _ e (rw (r.token, r.reads, s.token, s.reads) (refl, refl, refl))

nonvolatile_again : Again nonvolatile
nonvolatile_again t y e =
    took name_law t _ _ _ e λ region r t e. took switch_law t _ _ _ e λ on s t e.
    ended Reads (changes.Nonvolatile region on) t _ e (rw (r.token, r.reads, s.token, s.reads) (refl, refl, refl))

unmergeable_again : Again unmergeable
unmergeable_again t y e =
    took name_law t _ _ _ e λ region r t e. took switch_law t _ _ _ e λ on s t e.
    ended Reads (changes.Unmergeable region on) t _ e (rw (r.token, r.reads, s.token, s.reads) (refl, refl, refl))

romd_again : Again romd
romd_again t y e =
    took name_law t _ _ _ e λ region r t e. took switch_law t _ _ _ e λ on s t e.
    ended Reads (changes.Romd region on) t _ e (rw (r.token, r.reads, s.token, s.reads) (refl, refl, refl))

log_again : Again log
log_again t y e =
    took name_law t _ _ _ e λ region r t e. took client_law t _ _ _ e λ who w t e. took switch_law t _ _ _ e λ on s t e.
    ended Reads (changes.Log region who on) t _ e (rw (r.token, r.reads, w.token, w.reads, s.token, s.reads) (refl, refl, refl))

global_again : Again global
global_again t y e =
    took switch_law t _ _ _ e λ on s t e.
    ended Reads (changes.Global on) t _ e (rw (s.token, s.reads) (refl, refl, refl))

map_page_again : Again map_page
map_page_again t y e =
    took name_law t _ _ _ e λ region r t e. took address_law t _ _ _ e λ iova i t e. took size_law t _ _ _ e λ bytes b t e. took name_law t _ _ _ e
    λ space s t e. took address_law t _ _ _ e λ to a t e. took perm_law t _ _ _ e λ perm p t e.
    ended Reads (changes.Map region iova bytes space to perm) t _ e
    (rw (r.token, r.reads, i.token, i.reads, b.token, b.reads, s.token, s.reads, a.token, a.reads, p.token, p.reads) (refl, refl, refl))

unmap_again : Again unmap
unmap_again t y e =
    took name_law t _ _ _ e λ region r t e. took address_law t _ _ _ e λ iova i t e.
    ended Reads (changes.Unmap region iova) t _ e (rw (r.token, r.reads, i.token, i.reads) (refl, refl, refl))

event_again : Again event
event_again t y e =
    took name_law t _ _ _ e λ region r t e. took address_law t _ _ _ e λ offset o t e. took decimal_255_law t _ _ _ e λ bytes b t e. took notifier_law t _ _
    _ e λ n m t e. took_data t _ _ e λ value v t e.
    ended Reads (changes.Event region offset bytes n value) t _ e
    (rw (r.token, r.reads, o.token, o.reads, b.token, b.reads, m.token, m.reads, v.tokens, v.reads) (refl, refl, refl))

unevent_again : Again unevent
unevent_again t y e =
    took name_law t _ _ _ e λ region r t e. took address_law t _ _ _ e λ offset o t e. took decimal_255_law t _ _ _ e λ bytes b t e. took_data t _ _ e
    λ value v t e.
    ended Reads (changes.Unevent region offset bytes value) t _ e
    (rw (r.token, r.reads, o.token, o.reads, b.token, b.reads, v.tokens, v.reads) (refl, refl, refl))

pub change_table : Every Again change_forms
change_table = (
  add_again,
  (
    del_again,
    (
      move_again,
      (
        resize_again,
        (
          retarget_again,
          (
            enable_again,
            (
              disable_again,
              (
                readonly_again,
                (
                  nonvolatile_again,
                  (unmergeable_again, (romd_again, (log_again, (global_again, (map_page_again, (unmap_again, (event_again, (unevent_again, tt)))))))),
                ),
              ),
            ),
          ),
        ),
      ),
    ),
  ),
)

pub change_again : Again change
change_again t y e = took_form Again change_forms t y change_table e λ form again t e. again t y e
