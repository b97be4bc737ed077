-- What is counted over lines, one after another.
use Rattle.std.specs.Prelude.{ℕ, ◌+◌, ◌≤◌, if◌then◌else◌, Bool, List, [], ◌∷◌, ◌++◌, length, reverse, Option, Some, None}
use Rattle.std.specs.Prelude.{option_map, codes, IfSome}
use Rattle.mem_base.specs.script.Spelling.{Text}
use Rattle.mem_base.specs.script.Summary.{count, generation_in, is_decode, is_error, is_ok, is_refusal, is_view, last_view}
use Rattle.mem_base.specs.script.Summary.{number_line}

pub record Counted : Type 0 where
  pub lines : ℕ
  pub refused : ℕ
  pub ok : ℕ
  pub error : ℕ
  pub decode : ℕ
  pub view : Option (ℕ × ℕ)  -- of the last view, if there is one: its generation, and how many lines followed its first

-- the generation of a view, and how many lines stand after its first
abbrev pub viewed : Option (Text × ℕ) → Option (ℕ × ℕ)
viewed None = None
viewed (Some view) = Some (generation_in (Some (view.0, 0)), view.1)

abbrev pub counted : List Text → Counted
counted lines = record {
  lines = length lines;
  refused = count is_refusal lines;
  ok = count is_ok lines;
  error = count is_error lines;
  decode = count is_decode lines;
  view = viewed (last_view 0 (reverse lines));
}

abbrev pub one_if : Bool → ℕ
one_if test = if test then 1 else 0

abbrev pub view_after : Option (ℕ × ℕ) → Text → Option (ℕ × ℕ)
view_after view line = if is_view line then Some (generation_in (Some (line, 0)), 0) else option_map (λ v. (v.0, v.1 + 1)) view

-- after one more line
abbrev pub after_line : Counted → Text → Counted
after_line c line = record {
  lines = c.lines + 1;
  refused = c.refused + one_if (is_refusal line);
  ok = c.ok + one_if (is_ok line);
  error = c.error + one_if (is_error line);
  decode = c.decode + one_if (is_decode line);
  view = view_after c.view line;
}

abbrev pub after_lines : Counted → List Text → Counted
after_lines c [] = c
after_lines c (line ∷ lines) = after_lines (after_line c line) lines

-- none is counted more often than lines are
pub record AreCounts (c : Counted) : Type 0 where
  pub refused : c.refused ≤ c.lines
  pub ok : c.ok ≤ c.lines
  pub error : c.error ≤ c.lines
  pub decode : c.decode ≤ c.lines
  pub view : IfSome c.view (λ v. v.1 ≤ c.lines)

abbrev pub ranges_at : Option (ℕ × ℕ) → ℕ
ranges_at None = 0
ranges_at (Some view) = view.1

abbrev pub generation_at : Option (ℕ × ℕ) → ℕ
generation_at None = 0
generation_at (Some view) = view.0

-- the first five lines of the summary, and the last two
abbrev pub kinds_of : Counted → Text
kinds_of c =
    number_line (codes "lines") c.lines ++ (number_line (codes "refused") c.refused
    ++ (number_line (codes "ok") c.ok ++ (number_line (codes "error") c.error ++ number_line (codes "decode") c.decode)))

abbrev pub view_of : Counted → Text
view_of c = number_line (codes "ranges") (ranges_at c.view) ++ number_line (codes "generation") (generation_at c.view)
