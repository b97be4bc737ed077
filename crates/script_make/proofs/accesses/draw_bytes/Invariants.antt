use Rattle.std.proofs.Common.{◌≡◌, ◌-◌}
use Rattle.rand_pcg.specs.Pcg.{pcg32}
use Rattle.mem_base.specs.script.Make.{draw_bytes}
use Rattle.script_make.specs.Draws.{onto}
use Rattle.script_make.proofs.accesses.draw_bytes.Given as goal

abbrev pub invariant-loop-i : goal.invariant-loop-i
invariant-loop-i l = onto l.bytes.items (draw_bytes pcg32 (l.count - l.i) l.rng) ≡ draw_bytes pcg32 l.count l.fn.rng
