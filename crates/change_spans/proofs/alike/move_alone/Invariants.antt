use Rattle.std.proofs.Common.{◌≡◌, true, take}
use Rattle.mem_base.specs.lists.Every.{Every}
use Rattle.mem_base.specs.map.Region.{node_of}
use Rattle.change_spans.specs.Alike.{moves_alone}
use Rattle.change_spans.proofs.alike.move_alone.Given as goal

abbrev pub invariant-loop-region : goal.invariant-loop-region
invariant-loop-region l = Every (λ r. moves_alone (node_of l.old.nodes r) (node_of l.new.nodes r) ≡ true) (take l.region-index l.regions)
