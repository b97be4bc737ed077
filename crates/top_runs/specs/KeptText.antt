-- What a sink of the program keeps.
use Rattle.std.specs.Prelude.{ℕ, List}
use Rattle.top_runs.specs.declared.kept.Kept.{Kept}

-- all that it took
abbrev pub kept_text : Kept → List ℕ
kept_text k = k.text.items
