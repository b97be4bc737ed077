use Rattle.std.proofs.Common.{◌≡◌, false, take}
use Rattle.mem_base.specs.declared.map.ids.RegionId.{RegionId}
use Rattle.region_extents.specs.Kept.{listed}
use Rattle.region_extents.proofs.raising.await_all.Given as goal

-- those that waited and those so far wait
abbrev pub invariant-loop-region : goal.invariant-loop-region
invariant-loop-region l = (v : RegionId) → listed v l.waiting ≡ false → (listed v l.initial.waiting ≡ false)
    × (listed v (take l.region-index l.regions) ≡ false)
