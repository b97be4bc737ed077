-- Worked texts, by computing.
use Rattle.std.specs.Prelude.{◌≡◌, ℕ, true, false, [], ◌∷◌, Some, Ok, Err, negsuc, codes, refl}
use Rattle.mem_base.specs.declared.script.faults.Cause.TheVariants as causes
use Rattle.mem_base.specs.map.PassIds.{PassId}
use Rattle.mem_base.specs.declared.map.kinds.DeviceKind.TheVariants.{Bell, Latch}
use Rattle.mem_base.specs.declared.script.changes.MapChange.TheVariants as changes
use Rattle.mem_base.specs.declared.script.commands.Command.TheVariants as commands
use Rattle.mem_base.specs.declared.script.commands.PassCommand.TheVariants as pass_commands
use Rattle.mem_base.specs.declared.script.commands.RegionKind.TheVariants as region_kinds
use Rattle.std.specs.Fmt.{digits}
use Rattle.mem_base.specs.script.RegionForms.{device_with}
use Rattle.mem_base.specs.script.Lines.{line_of}
use Rattle.mem_base.specs.script.Scripts.{bad, script_of}
use Rattle.mem_base.specs.script.Printing.{printed}

abbrev pass : ℕ → PassId
pass n = record { 0 = n }

-- one line of each kind of operand
add : line_of (codes " add\tsys 0x1fK  r0 prio -7 # low") ≡ Ok (Some (commands.Change (changes.Add (codes "sys") 31744 (codes "r0") (negsuc 6))))
add = refl

device : line_of (codes "region D io 16 bell regs 002 impl 1-8 iunaligned big") ≡ Ok
    (Some (commands.Region (codes "D") 16 (region_kinds.Io (device_with Bell 2 (1, 4) (1, 8) false true true))))
device = refl

write : line_of (codes "v15 write S 0X 0aFf") ≡ Err causes.Number
write = refl

write-good : line_of (codes "v15 write S 0 0aFf") ≡ Ok (Some (commands.Pass (pass 15) (pass_commands.Write (codes "S") 0 (10 ∷ 255 ∷ []))))
write-good = refl

doing : line_of (codes "v0 do event D 8 4 0x3f data 1G") ≡ Ok (Some (commands.Pass (pass 0) (pass_commands.Do (changes.Event (codes "D") 8 4 63 (Some 1073741824)))))
doing = refl

dma : line_of (codes "v3 dma S 0 0x10 to T 4K") ≡ Ok (Some (commands.Pass (pass 3) (pass_commands.Dma (codes "S") 0 16 (codes "T") 4096)))
dma = refl

-- causes
repeated-option : line_of (codes "region D io 8 latch valid 1-4 regs 2") ≡ Err causes.Word
repeated-option = refl

after-big : line_of (codes "region D io 8 latch big regs") ≡ Err causes.Count
after-big = refl

missing : line_of (codes "add A 0") ≡ Err causes.Count
missing = refl

left-over : line_of (codes "add A 0 B prio 1 x") ≡ Err causes.Count
left-over = refl

no-option : line_of (codes "add A 0 B x") ≡ Err causes.Word
no-option = refl

no-pass : line_of (codes "v16 enter") ≡ Err causes.Word
no-pass = refl

leading-zero : line_of (codes "v01 enter") ≡ Err causes.Word
leading-zero = refl

no-change : line_of (codes "v1 do drop A") ≡ Err causes.Word
no-change = refl

no-command : line_of (codes "v1 do") ≡ Err causes.Count
no-command = refl

kind-first : line_of (codes "region A ramm x") ≡ Err causes.Word
kind-first = refl

one-page : line_of (codes "machine 4097") ≡ Err causes.Number
one-page = refl

-- whole texts
places : script_of (codes "machine 4K\r\n\nregion A ram 4K\npar\nv0 enter\nend") ≡ Ok
    ((1, commands.Machine 4096) ∷ (3, commands.Region (codes "A") 4096 region_kinds.Ram) ∷ (4, commands.Par) ∷ (5, commands.Pass (pass 0) pass_commands.Enter) ∷ (6, commands.End) ∷ [])
places = refl

no-end : script_of (codes "reap\npar\nshow S") ≡ bad 2 causes.Place
no-end = refl

worse : script_of (codes "reap\npar\nshow 5") ≡ bad 3 causes.Name
worse = refl

late-machine : script_of (codes "#\nreap\nmachine 4K") ≡ bad 3 causes.Place
late-machine = refl

in-block : script_of (codes "par\nspace S A\nend") ≡ bad 2 causes.Place
in-block = refl

last-return : script_of (codes "reap\r") ≡ bad 1 causes.Byte
last-return = refl

nothing : script_of [] ≡ Ok []
nothing = refl

print : printed ((1, commands.Change (changes.Add (codes "A") 255 (codes "B") (negsuc 6))) ∷
    (2, commands.Region (codes "D") 16 (region_kinds.Io (device_with Latch 1 (1, 4) (2, 8) false true true))) ∷ []) ≡ codes
    "add A 0xff B prio -7\nregion D io 0x10 latch impl 2-8 iunaligned big\n"
unfolding digits
print = refl
