-- In which of two views the range that comes next stands.
use Rattle.std.specs.Prelude.{nat_le, if◌then◌else◌, List, [], ◌∷◌, Option, Some, None}
use Rattle.mem_base.specs.declared.views.flat.FlatRange.{FlatRange}
use Rattle.mem_base.specs.views.Walk.{is_same_range}
use Rattle.view_walk.specs.declared.sides.Side.{Side}
use Rattle.view_walk.specs.declared.sides.Side.TheVariants.{OldOnly, Both, NewOnly}

-- by the next range of each view: where they are not the same, the one that begins first, and of two that begin
-- together the old one
abbrev pub side_of : Option FlatRange → Option FlatRange → Option Side
side_of None None = None
side_of (Some old) None = Some (OldOnly old)
side_of None (Some new) = Some (NewOnly new)
side_of (Some old) (Some new) =
    if is_same_range old new then Some (Both old new) else if nat_le old.start new.start then Some (OldOnly old) else Some (NewOnly new)

-- the first of some ranges
abbrev pub first_of : List FlatRange → Option FlatRange
first_of [] = None
first_of (r ∷ rs) = Some r
