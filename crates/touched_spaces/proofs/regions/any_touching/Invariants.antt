use Rattle.std.proofs.Common.{◌≡◌, drop}
use Rattle.std.specs.List.{list_any}
use Rattle.change_laws.specs.Touching.{is_touching}
use Rattle.touched_spaces.proofs.regions.any_touching.Given as goal

-- one that touches the space is among those that are left, if there is one
abbrev pub invariant-loop-region : goal.invariant-loop-region
invariant-loop-region l = list_any (is_touching l.old l.new l.space) (drop l.region-index l.regions) ≡ list_any (is_touching l.old l.new l.space) l.regions
