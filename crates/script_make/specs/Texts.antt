-- The text of the script that a seed gives.
use Rattle.std.specs.Prelude.{ℕ, List}
use Rattle.rand_pcg.specs.Lcg.{increment_of, started}
use Rattle.rand_pcg.specs.Pcg.{multiplier_64, pcg32}
use Rattle.mem_base.specs.declared.script.commands.Command.{Command}
use Rattle.mem_base.specs.script.Spelling.{Text}
use Rattle.mem_base.specs.script.Scripts.{Line}
use Rattle.mem_base.specs.script.Make.{made}
use Rattle.mem_base.specs.script.Printing.{numbered_commands, printed}

-- the commands of the script of a seed, by the words of `Lcg64Xsh32::new(seed, 54)`
unfoldable pub commands_of_seed : ℕ → List Command
commands_of_seed seed = (made pcg32 (started 64 multiplier_64 seed (increment_of 64 54))).0

-- its script: one command a line
abbrev pub script_of_seed : ℕ → List Line
script_of_seed seed = numbered_commands 1 (commands_of_seed seed)

-- the text of that script
abbrev pub text_of_seed : ℕ → Text
text_of_seed seed = printed (script_of_seed seed)
