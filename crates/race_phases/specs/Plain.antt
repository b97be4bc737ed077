-- The parts of a script: the lines before the block, in it, and after it; and actors that have a line in a phase.
use Rattle.std.specs.Prelude.{◌≡◌, ◌⊎◌, not, ◌||◌, Bool, ℕ, List, [], ◌∷◌, ◌++◌, length, nat_le}
use Rattle.std.specs.List.{prefix_len}
use Rattle.mem_base.specs.declared.script.commands.Command.{Command}
use Rattle.mem_base.specs.script.Scripts.{Line}
use Rattle.mem_base.specs.script.Race.{Phase, actor_number, is_end, is_par, lines_by}

-- a command that neither begins nor ends the block
abbrev pub is_plain : Command → Bool
is_plain c = not (is_par c || is_end c)

-- how many of the first lines neither begin nor end the block
abbrev pub plain_count : List Line → ℕ
plain_count lines = prefix_len (λ line. is_plain line.1) lines

-- whose line it is
abbrev pub whose_line : Line → ℕ
whose_line line = actor_number line.1

-- all lines stand before the block, or two lines stand around it
abbrev pub AreParts : List Line → List Line → List Line → List Line → Type 0
AreParts lines before inside after = ((lines ≡ before) × (inside ≡ []) × (after ≡ []))
    ⊎ ((par : Line) × (end : Line) × (lines ≡ before ++ par ∷ (inside ++ end ∷ after)))

abbrev pub has_lines : Phase → ℕ → Bool
has_lines phase who = nat_le 1 (length (lines_by who phase))
