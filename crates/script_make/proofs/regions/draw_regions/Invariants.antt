use Rattle.std.proofs.Common.{◌≡◌, ◌-◌, None}
use Rattle.rand_pcg.specs.Pcg.{pcg32}
use Rattle.mem_base.specs.script.Make.{draw_regions}
use Rattle.script_make.specs.Draws.{onto}
use Rattle.script_make.proofs.regions.draw_regions.Given as goal

abbrev pub invariant-loop-i : goal.invariant-loop-i
invariant-loop-i l = onto l.commands.items (draw_regions pcg32 (l.count - l.i) l.i l.latest l.rng) ≡ draw_regions pcg32 l.count 0 None l.fn.rng
