-- `lint` as JSON: what looks wrong in the lines of a script, and in the map that it leaves.
use Rattle.std.specs.Prelude.{ℕ, [], ◌∷◌, ◌++◌, ◌||◌, Bool, List, Option, Some, None, codes, flat_map, is_some, map}
use Rattle.serde_json.specs.Data.{Data, null, number, unsigned}
use Rattle.json_build.specs.Parts.{list_of, name_of, record_of}
use Rattle.mem_base.specs.script.Named.{Names}
use Rattle.mem_base.specs.script.Scripts.{Line}
use Rattle.mem_base.specs.script.Shows.{shown_forest}
use Rattle.mem_base.specs.script.Spelling.{Text}
use Rattle.mem_base.specs.script.States.{State}
use Rattle.map_lint.specs.Faults.{findings_of}
use Rattle.map_lint.specs.declared.findings.Finding.{Finding}
use Rattle.script_map.specs.Left.{first_of, refused_in}
use Rattle.script_map.specs.Refusals.{Refused}
use Rattle.scope_run.specs.HandedOn.{idle_par, taken_along_by, unclosed}
use Rattle.scope_values.specs.Findings.{finding_data}
use Rattle.scope_run.specs.Scripts.{left_by}
use Rattle.scope_json.specs.Texts.{answer_of, has_any}

-- a refused command: the number of its line, and the words of its refusal
abbrev pub refused_fields : Refused → List (Text × Data)
refused_fields r = (codes "line", number (unsigned r.line)) ∷ (codes "refusal", name_of r.words) ∷ []

-- the number of a line
abbrev pub number_data : ℕ → Data
number_data line = number (unsigned line)

-- the same, if there is one
abbrev pub line_data : Option ℕ → Data
line_data None = null
line_data (Some line) = number_data line

-- a refused command, with the refused line that takes it along
abbrev pub taken_fields : List Line → List Refused → Refused → List (Text × Data)
taken_fields lines rs r = refused_fields r ++ (codes "since", line_data (taken_along_by lines rs r)) ∷ []

abbrev pub taken_data : List Line → List Refused → Refused → Data
taken_data lines rs r = record_of (taken_fields lines rs r)

-- the refused commands, the lines whose transactions stay open, the line of an idle block, and what looks wrong in the map
abbrev pub lint_fields : List Line → List Refused → List ℕ → Option ℕ → Names → List Finding → List (Text × Data)
lint_fields lines rs begun idle names findings =
    (codes "refused", list_of (map (taken_data lines rs) rs)) ∷ (codes "unclosed", list_of (map number_data begun))
    ∷ (codes "idle", line_data idle) ∷ (codes "findings", list_of (map (finding_data names) findings)) ∷ []

-- there is something to mend: one of these
abbrev pub mends : List Refused → List ℕ → Option ℕ → List Finding → Bool
mends rs begun idle findings = (has_any rs || has_any begun) || (is_some idle || has_any findings)

-- what looks wrong in the current generation
abbrev pub findings_in : State → List Finding
findings_in s = flat_map (findings_of (shown_forest s)) (shown_forest s).nodes

-- the same of lines, by what is refused of them and by what they leave
abbrev pub lint_by : List Line → List Refused → State → Data
lint_by lines rs s = answer_of (codes "lint") (lint_fields lines rs (unclosed lines rs) (idle_par lines) s.names (findings_in s))

abbrev pub mends_by : List Line → List Refused → State → Bool
mends_by lines rs s = mends rs (unclosed lines rs) (idle_par lines) (findings_in s)

-- and of a script
abbrev pub lint_data : List Line → Data
lint_data lines = lint_by lines (refused_in (first_of lines) lines) (left_by lines)

abbrev pub lint_mends : List Line → Bool
lint_mends lines = mends_by lines (refused_in (first_of lines) lines) (left_by lines)
