-- What is told of a text that is no script.
use Rattle.std.specs.Prelude.{◌≡◌, ℕ, zero, suc, ◌-◌, ◌==◌, if◌then◌else◌, List, [], ◌∷◌, ◌++◌, length, take, drop, Option, Some, None, codes, decimal, flat_map}
use Rattle.std.specs.List.{slice_split}
use Rattle.mem_base.specs.declared.script.faults.BadScript.{BadScript}
use Rattle.mem_base.specs.script.Lines.{uncommented, without_return}
use Rattle.mem_base.specs.script.RefusalLines.{bad_line, line_feed}
use Rattle.mem_base.specs.script.Spelling.{Text}
use Rattle.script_marks.specs.Marks.{Marks}
use Rattle.script_marks.specs.declared.marks.Mark.{Mark}

-- a part that a line feed ends, or the last one
abbrev pub ended : List Text → Text → Text
ended [] part = part
ended (next ∷ parts) part = without_return part

-- the line with this number, counted from 0, of parts between line feeds
abbrev pub part_at : ℕ → List Text → Text
part_at n [] = []
part_at zero (part ∷ parts) = ended parts part
part_at (suc n) (part ∷ parts) = part_at n parts

-- the line of a script with this number, counted from 1, without what ends it
abbrev pub line_at : ℕ → Text → Text
line_at number script = part_at (number - 1) (slice_split (λ b. b == 10) script)

-- what stands before a line that is shown: its number
abbrev pub number_text : ℕ → Text
number_text number = codes "  " ++ decimal number

-- a line after its number
abbrev pub source_text : Text → Text → Text
source_text number line = number ++ (codes " | " ++ (line ++ line_feed))

-- a byte as a blank that is as wide
abbrev pub blank : ℕ → Text
blank b = if b == 9 then codes "\t" else codes " "

-- a caret below each byte, or one where there is none
abbrev pub carets : Text → Text
carets marked = if length marked == 0 then codes "^" else flat_map (λ b. codes "^") marked

-- carets below what is marked of a line
abbrev pub caret_text : Text → Text → Mark → Text
caret_text number line m =
    flat_map blank number ++ (codes " | " ++ (flat_map blank (take m.start line) ++ (carets (take m.len (drop m.start line)) ++ line_feed)))

-- the same where something is marked
abbrev pub under_text : Text → Text → Option Mark → Text
under_text number line None = []
under_text number line (Some m) = caret_text number line m

-- a line with its number and what is marked of it; nothing of a text that is too long
abbrev pub shown_text : ℕ → Text → Option Mark → Text
shown_text number line mark = if number == 0 then [] else source_text (number_text number) line ++ under_text (number_text number) line mark

-- the fault of a script: its line and cause, the line with what is at fault marked, and more
pub record TellsFault (script : Text) (bad : BadScript) (text : Text) : Type 0 where
  pub mark : Option Mark
  pub marks : Marks bad.cause (uncommented (line_at bad.line script)) mark
  pub more : Text
  pub text_is : text ≡ bad_line bad ++ (shown_text bad.line (line_at bad.line script) mark ++ more)

-- a text of which this holds was added
abbrev pub Adds : (Text → Type 0) → Text → Text → Type 0
Adds holds old new = (here : Text) × (new ≡ old ++ here) × holds here
