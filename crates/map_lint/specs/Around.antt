-- The regions in one container, as they are known while a map is looked through.
use Rattle.std.specs.Prelude.{◌≡◌, List, map}
use Rattle.mem_base.specs.declared.map.forests.Node.{Node}
use Rattle.map_lint.specs.Faults.{siblings_of}
use Rattle.map_lint.specs.declared.siblings.Siblings.{Siblings}

-- they are the children of their container, in the order of search; none, where it is none or is not there
abbrev pub AreIn : List Node → Siblings → Type 0
AreIn nodes s = map (λ m. m.now) s.regions.items ≡ siblings_of nodes s.container
