use Rattle.std.proofs.Common.{ap, arith}
use Rattle.machine_tests.proofs.crowds.moved.window_at.Goals as goal

pub returns-then-len-eq-LEN : goal.returns-then-len-eq-LEN
returns-then-len-eq-LEN g c = (
  ap (λ s. s.write) c.in-Ok.ensures.opened.start,
  omega (arith, c.len.ensures, c.if-len-eq-LEN.true),
  c.in-Ok.ensures.opened.nothing_put,
)
