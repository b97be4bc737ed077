-- `lint`: what looks wrong in a script and in its map.
use Rattle.std.specs.Prelude.{List, ◌++◌, flat_map, nat_lt, Bool, length}
use Rattle.mem_base.specs.script.Scripts.{Line}
use Rattle.mem_base.specs.script.Shows.{shown_forest}
use Rattle.mem_base.specs.script.Spelling.{Text}
use Rattle.mem_base.specs.script.States.{State}
use Rattle.map_lint.specs.Faults.{findings_of}
use Rattle.scope_lines.specs.Faults.{finding_lines}
use Rattle.script_map.specs.Left.{first_of, refused_in}
use Rattle.script_map.specs.Refusals.{Refused}
use Rattle.script_lint.specs.Blocks.{idle_par, idle_text}
use Rattle.script_lint.specs.Refusals.{refusals_text}
use Rattle.script_lint.specs.Transactions.{unclosed_text}
use Rattle.scope_run.specs.Scripts.{left_by}

-- what looks wrong in the lines of a script: refused commands, transactions that are left open, a block in which nothing runs side by side
abbrev pub line_findings_text : List Line → List Refused → Text
line_findings_text lines refused = refusals_text lines refused ++ (unclosed_text lines refused ++ idle_text (idle_par lines))

-- what looks wrong in the current generation
abbrev pub faults_text : State → Text
faults_text s = finding_lines s.names (flat_map (findings_of (shown_forest s)) (shown_forest s).nodes)

-- what looks wrong in a script, and then what looks wrong in the map that is left
abbrev pub lint_text : List Line → Text
lint_text lines = line_findings_text lines (refused_in (first_of lines) lines) ++ faults_text (left_by lines)

-- a text tells of something
abbrev pub tells_something : Text → Bool
tells_something text = nat_lt 0 (length text)
