use Rattle.std.proofs.Common.{◌≡◌, drop}
use Rattle.node_chunks.specs.Near.{is_touched}
use Rattle.node_chunks.proofs.near.is_touched.Given as goal

-- none of the regions so far is in the place
abbrev pub invariant-loop-region : goal.invariant-loop-region
invariant-loop-region l = is_touched l.from.0 l.bound (drop l.region-index l.regions) ≡ is_touched l.from.0 l.bound l.regions
