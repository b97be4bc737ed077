-- Views that are read line by line.
use Rattle.std.proofs.Common.{◌≡◌, List, [], ◌∷◌, ◌++◌, append_assoc, sym, ap, ◌∙◌}
use Rattle.std.proofs.lemmas.List.{append-nil}
use Rattle.mem_base.specs.script.Spelling.{Text}
use Rattle.monitor_text.specs.declared.rows.FlatRow.{FlatRow}
use Rattle.monitor_text.specs.declared.flat_text.FlatLine.TheVariants.{View, Space, Row}
use Rattle.script_check.specs.Blocks.{Cut, Printed, behind, printed, put}

pub view_line : (done : List Printed) (last : Printed) (rest : Cut) → behind (done ++ last ∷ []) (printed [] []) rest ≡ behind done last (put View rest)
view_line done last rest =
    append_assoc done (last ∷ []) (rest.0 ∷ rest.1)
    ∙ (λ i. done ++ (printed (sym (append-nil last.spaces) i) (sym (append-nil last.rows) i) ∷ rest.0 ∷ rest.1))

pub space_line : (done : List Printed) (last : Printed) (name : Text) (rest : Cut)
    → behind done (printed (last.spaces ++ name ∷ []) last.rows) rest ≡ behind done last (put (Space name) rest)
space_line done last name rest =
    ap (λ names. done ++ (printed names (last.rows ++ rest.0.rows) ∷ rest.1)) (append_assoc last.spaces (name ∷ []) rest.0.spaces)

pub row_line : (done : List Printed) (last : Printed) (row : FlatRow) (rest : Cut)
    → behind done (printed last.spaces (last.rows ++ row ∷ [])) rest ≡ behind done last (put (Row row) rest)
row_line done last row rest =
    ap (λ rows. done ++ (printed (last.spaces ++ rest.0.spaces) rows ∷ rest.1)) (append_assoc last.rows (row ∷ []) rest.0.rows)

-- at the end of the lines
pub all_read : (done : List Printed) (last : Printed) → behind done last (printed [] [], []) ≡ done ++ last ∷ []
all_read done last = λ i. done ++ (printed (append-nil last.spaces i) (append-nil last.rows i) ∷ [])
