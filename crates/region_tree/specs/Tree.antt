-- What the fields of a tree are seen as, and what they keep.
use Rattle.mem_base.specs.declared.map.forests.Forest.{Forest}
use Rattle.mem_base.specs.map.Forest.{IsOrderedForest, IsClosedForest}
use Rattle.region_tree.specs.declared.tree.Tree.TheInside.{Inside}
use Rattle.region_extents.specs.Kept.{IsBeside}

abbrev pub forest_of : Inside → Forest
forest_of a = record {
  nodes = a.slots;
  spaces = a.spaces.items;
  made = a.made;
  placings = a.placings;
  calls = a.calls;
  global = a.global;
}

-- all that holds of a forest of accepted calls
pub record IsWhole (f : Forest) : Type 0 where
  pub forest : IsOrderedForest f
  pub sound : IsClosedForest f

-- what a tree keeps: such a forest, and beside it how deep and how wide its regions are
pub record IsTree (a : Inside) : Type 0 where
  pub whole : IsWhole (forest_of a)
  pub beside : IsBeside a.kept (forest_of a).nodes
