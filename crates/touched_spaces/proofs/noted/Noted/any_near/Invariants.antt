use Rattle.std.proofs.Common.{◌≡◌, ◌||◌, drop}
use Rattle.std.specs.List.{list_any}
use Rattle.mem_base.specs.map.Region.{node_of}
use Rattle.change_laws.specs.Meeting.{is_among}
use Rattle.touched_spaces.specs.Noted.{is_placed_among}
use Rattle.touched_spaces.proofs.noted.Noted.any_near.Given as goal

-- one that is near is among those that are left, if there is one
abbrev pub invariant-loop-region : goal.invariant-loop-region
invariant-loop-region l = list_any (λ r. is_among l.reach r || is_placed_among l.reach (node_of l.tree.nodes r)) (drop l.region-index l.region-items)
    ≡ list_any (λ r. is_among l.reach r || is_placed_among l.reach (node_of l.tree.nodes r)) l.region-items
