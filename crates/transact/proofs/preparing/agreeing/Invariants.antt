use Rattle.std.proofs.Common.{◌≡◌, ◌++◌, ◌≤◌, Bool, filter, take, drop, length}
use Rattle.std.specs.Arc.{arc_value}
use Rattle.mem_base.specs.declared.access.cells.Place.{Place}
use Rattle.transact.specs.Preparing.{is_shown_in}
use Rattle.transact.proofs.preparing.agreeing.Given as goal

-- the first of the others, and those that are left
abbrev pub invariant-loop-i : goal.invariant-loop-i
invariant-loop-i l =
    let is_kept : Place → Bool = is_shown_in arc_value l.atlases l.notifies in
    record {
      within : l.at ≤ length l.others;
      kept : take l.at l.others ++ filter is_kept (drop l.i l.places) ≡ filter is_kept l.places;
    }
