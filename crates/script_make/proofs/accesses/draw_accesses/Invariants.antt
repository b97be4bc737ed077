use Rattle.std.proofs.Common.{◌≡◌, ◌-◌}
use Rattle.rand_pcg.specs.Pcg.{pcg32}
use Rattle.mem_base.specs.script.Make.{draw_accesses}
use Rattle.script_make.specs.Draws.{onto}
use Rattle.script_make.proofs.accesses.draw_accesses.Given as goal

abbrev pub invariant-loop-t : goal.invariant-loop-t
invariant-loop-t l = onto l.commands.items (draw_accesses pcg32 (l.count - l.t) l.t l.rng) ≡ draw_accesses pcg32 l.count 0 l.fn.rng
