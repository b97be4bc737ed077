-- How many commands of a script are refused.
use Rattle.std.specs.Prelude.{◌≡◌, ℕ, length}
use Rattle.mem_base.specs.script.Spelling.{Text}
use Rattle.script_map.specs.Left.{Left}
use Rattle.script_map.specs.Reads.{IsLeftByText}

-- the text is a script of which this many commands are refused
pub record HasRefused (text : Text) (count : ℕ) : Type 0 where
  pub left : Left
  pub reads : IsLeftByText text left
  pub refused : length left.refused ≡ count
