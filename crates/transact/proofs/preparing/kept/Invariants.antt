use Rattle.std.proofs.Common.{◌≡◌, ◌++◌, Bool, filter, drop}
use Rattle.std.specs.Arc.{arc_value}
use Rattle.mem_base.specs.declared.access.cells.Place.{Place}
use Rattle.transact.specs.Preparing.{is_shown_in}
use Rattle.transact.proofs.preparing.kept.Given as goal

-- those that are kept so far, and those that are left
abbrev pub invariant-loop-place : goal.invariant-loop-place
invariant-loop-place l =
    let is_kept : Place → Bool = is_shown_in arc_value l.atlases l.notifies in
    l.list.items ++ filter is_kept (drop l.place-index l.others) ≡ l.first ++ filter is_kept l.others
