-- Draws of one turn, beside the definitions of whole lists.
use Rattle.std.specs.Prelude.{◌≡◌, ◌+◌, ◌++◌, suc, [], ◌∷◌, ℕ, Bool, if◌then◌else◌, List, Option, None, ℤ, pos, ◌-ℤ◌}
use Rattle.mem_base.specs.map.PassIds.{PassId}
use Rattle.mem_base.specs.declared.script.commands.Command.{Command}
use Rattle.mem_base.specs.declared.script.commands.Command.TheVariants as commands
use Rattle.mem_base.specs.declared.script.commands.PassCommand.TheVariants as pass_commands
use Rattle.mem_base.specs.script.Make.{Drawn, Generator, draw, draw_access, draw_accesses, draw_regions, draw_write, give, space}

-- a priority from -2 to 2
abbrev pub draw_priority : {G : Type 0} → Generator G → Drawn G ℤ
draw_priority next g = let x = draw next 5 g in (pos x.0 -ℤ pos 2, x.1)

-- a length from 1 to 8
abbrev pub draw_len : {G : Type 0} → Generator G → Drawn G ℕ
draw_len next g = let x = draw next 8 g in (1 + x.0, x.1)

-- a read, or else a write of bytes that are drawn
abbrev pub draw_either : {G : Type 0} → Generator G → Bool → PassId → ℕ → ℕ → Drawn G Command
draw_either next reads pass addr len = if reads then give (commands.Pass pass (pass_commands.Read space addr len)) else draw_write next pass addr len

-- what was made so far, and then what a list of draws gives
abbrev pub onto : {X G : Type 0} → List X → List X × G → List X × G
onto before drawn = (before ++ drawn.0, drawn.1)

-- a command was drawn and pushed
unfoldable pub Pushed : {G : Type 0} → List Command → List Command → G → Command × G → Type 0
Pushed before after g drawn = (after ≡ before ++ drawn.0 ∷ []) × (g ≡ drawn.1)

-- a list of commands was drawn and appended
unfoldable pub Appended : {G : Type 0} → List Command → List Command → G → List Command × G → Type 0
Appended before after g drawn = (after ≡ before ++ drawn.0) × (g ≡ drawn.1)

-- region i was drawn: whatever is drawn afterwards, the list from region i on is what was pushed and then that
unfoldable pub RegionPushed : {G : Type 0} → Generator G → ℕ → Option ℕ → Option ℕ → List Command → List Command → G → G → Type 0
RegionPushed next i latest later before after g g' =
    (left : ℕ) → onto before (draw_regions next (suc left) i latest g) ≡ onto after (draw_regions next left (i + 1) later g')

-- the same of access t
unfoldable pub AccessPushed : {G : Type 0} → Generator G → ℕ → List Command → List Command → G → G → Type 0
AccessPushed next t before after g g' =
    (left : ℕ) → onto before (draw_accesses next (suc left) t g) ≡ onto after (draw_accesses next left (t + 1) g')

-- the lines of the first `count` regions
unfoldable pub first_regions : {G : Type 0} → Generator G → ℕ → Drawn G (List Command)
first_regions next count = draw_regions next count 0 None

-- the lines of the first `count` accesses
unfoldable pub first_accesses : {G : Type 0} → Generator G → ℕ → Drawn G (List Command)
first_accesses next count = draw_accesses next count 0

-- the line of an access was drawn and pushed
unfoldable pub AccessDrawn : {G : Type 0} → Generator G → List Command → List Command → G → G → Type 0
AccessDrawn next before after g g' = (after ≡ before ++ (draw_access next g).0 ∷ []) × (g' ≡ (draw_access next g).1)

-- one access, as a word that stays shut
unfoldable pub one_access : {G : Type 0} → Generator G → Drawn G Command
one_access next = draw_access next
