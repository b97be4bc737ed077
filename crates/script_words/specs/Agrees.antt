-- What clap makes of the words, beside what they say.
use Rattle.std.specs.Prelude.{◌≡◌, List, [], ◌∷◌, None}
use Rattle.std.specs.declared.option.Option.{Option}
use Rattle.clap.specs.Words.{Kinds, Row, Text}
use Rattle.script_words.specs.App.{task_in}
use Rattle.mem_base.specs.declared.script.tasks.Task.{Task}

-- clap takes the words, and its matches give the task; or it refuses them, and they have none
abbrev pub Agrees : Kinds → Option (Text × List Row) → Option Task → Type 0
Agrees [] found task = task_in found ≡ task
Agrees (kind ∷ kinds) found task = task ≡ None
