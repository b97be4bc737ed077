-- Whole texts of the monitor, line by line.
use Rattle.std.specs.Prelude.{ℕ, ◌+◌, ◌==◌, ◌≡◌, List, [], ◌∷◌, ◌++◌, Option, Some, None, Result, Ok, Err}
use Rattle.std.specs.Global.{Vec}
use Rattle.std.specs.List.{slice_split}
use Rattle.mem_base.specs.script.Spelling.{Text}
use Rattle.mem_base.specs.script.Lines.{without_return}
use Rattle.monitor_text.specs.declared.faults.MonitorFault.{MonitorFault}
use Rattle.monitor_text.specs.declared.faults.MonitorFault.TheVariants.{Bad, Memory}

-- what a text gives: what each line says with its number, or the number of the first line that has no form
abbrev pub Given : Type 0 → Type 0
Given X = Result (List (ℕ × X)) ℕ

-- what a line says before what the rest gives
abbrev pub before_rest : {X : Type 0} → ℕ → Option X → Given X → Given X
before_rest line None rest = Err line
before_rest line (Some x) (Err fault) = Err fault
before_rest line (Some x) (Ok xs) = Ok ((line, x) ∷ xs)

-- these lines, of which the first has this number; each without a carriage return at its end
abbrev pub lines_from : {X : Type 0} → (Text → Option X) → ℕ → List Text → Given X
lines_from form line [] = Ok []
lines_from form line (text ∷ texts) = before_rest line (form (without_return text)) (lines_from form (line + 1) texts)

-- a whole text
abbrev pub lines_of : {X : Type 0} → (Text → Option X) → Text → Given X
lines_of form text = lines_from form 1 (slice_split (λ b. b == 10) text)

-- what was read is what the definition gives
abbrev pub ReadsText : {X : Type 0} → Result (Vec (ℕ × X)) MonitorFault → Given X → Type 0
ReadsText (Ok lines) given = given ≡ Ok lines.items
ReadsText (Err (Bad line)) given = given ≡ Err line
ReadsText (Err Memory) given = Unit {0}

-- lines that were read before, and what the rest gives
abbrev pub behind_lines : {X : Type 0} → List (ℕ × X) → Given X → Given X
behind_lines lines (Ok xs) = Ok (lines ++ xs)
behind_lines lines (Err line) = Err line

-- what reading one line does, whatever the rest gives
abbrev pub TakesLine : {X : Type 0} → Result (Unit {0}) MonitorFault → ℕ → Option X → List (ℕ × X) → List (ℕ × X) → Type 0
TakesLine {X} (Ok u) line read old new = (rest : Given X) → behind_lines old (before_rest line read rest) ≡ behind_lines new rest
TakesLine {X} (Err (Bad fault)) line read old new = (rest : Given X) → before_rest line read rest ≡ Err fault
TakesLine {X} (Err Memory) line read old new = Unit {0}
