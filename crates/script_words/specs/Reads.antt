-- What reading the words gives, beside what they ask for.
use Rattle.std.specs.Prelude.{◌≡◌, Option, None, Some, Result, Ok, Err}
use Rattle.mem_base.specs.declared.script.tasks.Task.{Task}
use Rattle.script_words.specs.declared.stops.WordsStop.{WordsStop}
use Rattle.script_words.specs.declared.stops.WordsStop.TheVariants.{Usage, Memory}

-- the words ask for nothing, unless memory ran out
abbrev pub Fails : WordsStop → Option Task → Type 0
Fails Memory task = Unit {0}
Fails Usage task = task ≡ None

-- what was read is what the words ask for
abbrev pub Reads : Result Task WordsStop → Option Task → Type 0
Reads (Ok read) task = task ≡ Some read
Reads (Err stop) task = Fails stop task
