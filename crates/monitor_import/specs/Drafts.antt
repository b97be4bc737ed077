-- What is answered for a machine's texts.
use Rattle.std.specs.Prelude.{◌≡◌, ◌≤◌, ◌⊎◌, ◌^◌, ℕ, Bool, true, false, not, List, length, position, Option, Some, None, Ok, Err, ⊤}
use Rattle.std.specs.List.{list_any}
use Rattle.std.specs.Str.{bytes_eq}
use Rattle.mem_base.specs.script.Spelling.{Text}
use Rattle.mem_base.specs.script.Scripts.{Line, script_of}
use Rattle.script_text.specs.declared.faults.ParseFault.{ParseFault}
use Rattle.script_text.specs.declared.faults.ParseFault.TheVariants as parse_faults
use Rattle.monitor_text.specs.Rows.{flat_line, tree_line}
use Rattle.monitor_text.specs.Texts.{lines_of}
use Rattle.monitor_text.specs.declared.tree_text.TreeLine.{TreeLine}
use Rattle.monitor_text.specs.declared.tree_text.TreeLine.TheVariants as tree_lines
use Rattle.monitor_import.specs.declared.faults.ImportFault.{ImportFault}
use Rattle.monitor_import.specs.declared.faults.ImportFault.TheVariants.{Long, Tree, Flat, NoSpace, Unknown, Made, Memory}

-- the text is a script
abbrev pub IsScript : Text → Type 0
IsScript text = (lines : List Line) × (script_of text ≡ Ok lines)

-- a line names a space, or the space of this name
abbrev pub is_space : TreeLine → Bool
is_space (tree_lines.Space name) = true
is_space _ = false

abbrev pub is_space_of : Text → TreeLine → Bool
is_space_of wanted (tree_lines.Space name) = bytes_eq name wanted
is_space_of wanted _ = false

-- one of the lines does
abbrev pub has_space : List (ℕ × TreeLine) → Bool
has_space lines = list_any (λ line. is_space line.1) lines

abbrev pub names_space : Text → List (ℕ × TreeLine) → Bool
names_space wanted lines = list_any (λ line. is_space_of wanted line.1) lines

-- which of the names is the first that no line names, counted from 0
abbrev pub unknown_in : List (ℕ × TreeLine) → List Text → Option ℕ
unknown_in lines wanted = position (λ name. not (names_space name lines)) wanted

-- a tree's text reads as lines of which this holds
abbrev pub OfTree : Text → (List (ℕ × TreeLine) → Type 0) → Type 0
OfTree tree fact = (lines : List (ℕ × TreeLine)) × (lines_of tree_line tree ≡ Ok lines) × fact lines

-- lines name a space, and all those of these names
abbrev pub NamesAll : List (ℕ × TreeLine) → List Text → Type 0
NamesAll lines wanted = (has_space lines ≡ true) × (unknown_in lines wanted ≡ None)

-- why a text is no script, as it was found
abbrev pub IsFault : Text → ParseFault → Type 0
IsFault text (parse_faults.Bad bad) = script_of text ≡ Err bad
IsFault text parse_faults.Memory = ⊤

-- a tree's text names a space, and all those of these names
abbrev pub NamesSpaces : Text → List Text → Type 0
NamesSpaces tree wanted = OfTree tree (λ lines. (has_space lines ≡ true) × (unknown_in lines wanted ≡ None))

-- why there is no script of a tree's text and the views' text with the spaces of these names
abbrev pub Explains : Text → Text → List Text → ImportFault → Type 0
Explains tree flat wanted Long = (2 ^ 31 ≤ length tree) ⊎ (2 ^ 31 ≤ length flat)
Explains tree flat wanted (Tree line) = lines_of tree_line tree ≡ Err line
Explains tree flat wanted (Flat line) = lines_of flat_line flat ≡ Err line
Explains tree flat wanted NoSpace = OfTree tree (λ lines. has_space lines ≡ false)
Explains tree flat wanted (Unknown at) = OfTree tree (λ lines. unknown_in lines wanted ≡ Some at)
Explains tree flat wanted (Made text bad) = script_of text.items ≡ Err bad
Explains tree flat wanted Memory = ⊤
