use Rattle.std.proofs.Common.{◌≡◌, true, take}
use Rattle.mem_base.specs.lists.Every.{Every}
use Rattle.mem_base.specs.map.Region.{node_of}
use Rattle.change_spans.specs.Alike.{keeps_ways}
use Rattle.change_spans.proofs.ways.keep_ways.Given as goal

abbrev pub invariant-loop-region : goal.invariant-loop-region
invariant-loop-region l = Every (λ r. keeps_ways (node_of l.old.nodes r) (node_of l.new.nodes r) ≡ true) (take l.region-index l.regions)
