use Rattle.std.proofs.Common.{◌≡◌, drop}
use Rattle.mem_base.specs.map.Calls.{after_all}
use Rattle.transact.proofs.spare.do_all.Given as goal

abbrev pub invariant-loop-call : goal.invariant-loop-call
invariant-loop-call l = after_all l.tree (drop l.call-index l.calls) ≡ after_all l.fn.tree l.calls
