use Rattle.std.proofs.Common.{◌≡◌, take}
use Rattle.std.specs.Prelude.{flat_map}
use Rattle.map_lint.specs.Around.{AreIn}
use Rattle.map_lint.specs.Faults.{findings_of}
use Rattle.map_lint.proofs.lint.Given as goal

-- what looks wrong in the regions so far, and the regions in some container
abbrev pub invariant-loop-node : goal.invariant-loop-node
invariant-loop-node l = (l.found ≡ flat_map (findings_of l.generation.forest) (take l.node-index l.node-items)) × AreIn l.generation.forest.nodes l.siblings
