-- Tokens as they are written, each after a space.
use Rattle.std.specs.Prelude.{List, [], ◌∷◌, ◌++◌}
use Rattle.mem_base.specs.script.Spelling.{Text}

abbrev pub after_spaces : List Text → Text
after_spaces [] = []
after_spaces (token ∷ tokens) = 32 ∷ token ++ after_spaces tokens
