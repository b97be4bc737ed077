-- Where a line of a script is at fault.
use Rattle.std.specs.Prelude.{◌≡◌, ℕ, ◌+◌, ◌<◌, ◌≤◌, ◌==◌, ◌&&◌, Bool, true, false, not, List, ◌∷◌, ◌++◌, length, position, take, drop, is_ok, Option, Some, None, MatchOption}
use Rattle.std.specs.List.{list_all}
use Rattle.mem_base.specs.declared.script.faults.Cause.{Cause}
use Rattle.mem_base.specs.declared.script.faults.Cause.TheVariants as causes
use Rattle.mem_base.specs.script.Spelling.{Text}
use Rattle.mem_base.specs.script.Forms.{command}
use Rattle.mem_base.specs.script.Lines.{may_stand, tokens_of}
use Rattle.script_marks.specs.declared.marks.Mark.{Mark}
use Rattle.script_marks.specs.declared.marks.Part.{Part}
use Rattle.script_marks.specs.declared.marks.Part.TheVariants as parts

-- a byte that may stand in a line and begins no comment
abbrev pub is_plain : ℕ → Bool
is_plain b = may_stand b && not (b == 35)

-- a text that is looked at: it has no comment, all its bytes may stand, and it is not too long
abbrev pub IsShort : Text → Type 0
IsShort text = (list_all is_plain text ≡ true) × (length text ≤ 65536)

-- some line of the language has these first tokens
abbrev pub Opens : List Text → Type 0
Opens tokens = (more : List Text) × (is_ok (command (tokens ++ more)) ≡ true)

-- no line of the language has them
abbrev pub OpensNone : List Text → Type 0
OpensNone tokens = (more : List Text) → is_ok (command (tokens ++ more)) ≡ false

-- the token at which the grammar fails, by its first byte and how many it has: what stands before it opens a line, with it none. Where a
-- token is missing the mark has no bytes, and no token stands after it
pub record Fails (text : Text) (m : Mark) : Type 0 where
  pub opens : Opens (tokens_of (take m.start text))
  pub fails : 0 < m.len → OpensNone (tokens_of (take (m.start + m.len) text))
  pub token : 0 < m.len → (after : List Text) × (tokens_of text ≡ tokens_of (take m.start text) ++ (take m.len (drop m.start text) ∷ after))
  pub missing : m.len ≡ 0 → tokens_of text ≡ tokens_of (take m.start text)

-- which part of a script a cause speaks of
abbrev pub part_of : Cause → Part
part_of causes.Byte = parts.Byte
part_of causes.Place = parts.Line
part_of causes.Long = parts.Whole
part_of _ = parts.Token

-- what is marked in a line: its first byte that may not stand, all of it, or the token at which the grammar fails, unless the line is not
-- short; and nothing where the text as a whole is at fault
abbrev pub MarksPart : Part → Text → Option Mark → Type 0
MarksPart parts.Byte text mark =
    MatchOption mark (position (λ b. not (may_stand b)) text ≡ None) (λ m. (position (λ b. not (may_stand b)) text ≡ Some m.start) × (m.len ≡ 1))
MarksPart parts.Line text mark = mark ≡ Some (record { start = 0; len = length text })
MarksPart parts.Token text mark = MatchOption mark (IsShort text → ⊥) (λ m. Fails text m)
MarksPart parts.Whole text mark = mark ≡ None

-- what is marked in a line with this cause
abbrev pub Marks : Cause → Text → Option Mark → Type 0
Marks cause text mark = MarksPart (part_of cause) text mark
