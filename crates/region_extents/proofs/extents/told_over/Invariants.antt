use Rattle.std.proofs.Common.{◌≡◌, ◌+◌, max, map, drop}
use Rattle.mem_base.specs.map.Steps.{greatest, total}
use Rattle.region_extents.specs.Extents.{told_of}
use Rattle.region_extents.proofs.extents.told_over.Given as goal

-- what is told so far, and of those that are left
abbrev pub invariant-loop-id : goal.invariant-loop-id
invariant-loop-id l = record {
  depth : greatest (map (λ q. (told_of l.slots l.known q).depth) l.ids) ≡ max l.depth
      (greatest (map (λ q. (told_of l.slots l.known q).depth) (drop l.id-index l.ids)));
  weight : total (map (λ q. (told_of l.slots l.known q).weight) l.ids) ≡ l.weight + total
      (map (λ q. (told_of l.slots l.known q).weight) (drop l.id-index l.ids));
}
