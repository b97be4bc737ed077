use Rattle.std.proofs.Common.{◌≡◌, ◌++◌, drop}
use Rattle.find_why.specs.Looked.{answering}
use Rattle.libvobrekan.proofs.paths.answering.Given as goal

abbrev pub invariant-loop-look : goal.invariant-loop-look
invariant-loop-look l = l.path.items ++ answering (drop l.look-index l.looks) ≡ answering l.looks
