-- Whose a command may be.
use Rattle.std.proofs.Common.{◌≢◌, ◌<◌, refl}
use Rattle.mem_base.specs.declared.script.commands.Command.{Command}
use Rattle.mem_base.specs.declared.script.commands.Command.TheVariants as commands
use Rattle.mem_base.specs.map.Limits.{most_passes}
use Rattle.mem_base.specs.script.Race.{actor_number, desk_number}
use Rattle.run_laws.specs.Fitting.{FitsCommand}

-- a command that is not the desk's is one of the sixteen passes'
pub is_pass : (c : Command) → FitsCommand c → actor_number c ≢ desk_number → actor_number c < most_passes
is_pass (commands.Pass pass command) h other = h.0
is_pass _ h other = absurd (other refl)
