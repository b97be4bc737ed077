use Rattle.std.proofs.Common.{◌≡◌, take}
use Rattle.region_extents.proofs.kept.Kept.try_copy.Given as goal

-- the lists so far are copied
abbrev pub invariant-loop-list : goal.invariant-loop-list
invariant-loop-list l = l.aliases.items ≡ take l.list-index l.list-items
