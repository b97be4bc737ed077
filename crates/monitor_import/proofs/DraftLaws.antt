-- What holds of the texts holds of whatever is made of them.
use Rattle.std.proofs.Common.{◌≡◌, ℕ, List, Result, Ok, Err}
use Rattle.std.specs.Prelude.{IfOk}
use Rattle.mem_base.specs.script.Spelling.{Text}
use Rattle.monitor_text.specs.Rows.{tree_line}
use Rattle.monitor_text.specs.Texts.{lines_of}
use Rattle.monitor_text.specs.declared.tree_text.TreeLine.{TreeLine}
use Rattle.monitor_import.specs.Drafts.{NamesAll, NamesSpaces}

pub whenever : {T E : Type 0} (r : Result T E) (P : Type 0) → P → IfOk r (λ x. P)
whenever (Ok x) P p = p
whenever (Err e) P p = tt

pub named_by_text : {T E : Type 0} (r : Result T E) (tree : Text) (wanted : List Text) (lines : List (ℕ × TreeLine)) → lines_of tree_line tree ≡ Ok lines
    → IfOk r (λ x. NamesAll lines wanted) → IfOk r (λ x. NamesSpaces tree wanted)
named_by_text (Ok x) tree wanted lines e all = (lines, e, all)
named_by_text (Err e) tree wanted lines e' all = tt
