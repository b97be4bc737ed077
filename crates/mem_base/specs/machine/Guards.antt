-- When a step on a cell may be made, by what both machines ask of a pass.
use Rattle.std.specs.Prelude.{ℕ, Bool, false, ◌&&◌, ◌||◌, nat_lt, Option, Some, None}
use Rattle.mem_base.specs.declared.map.ids.RegionId.{RegionId}
use Rattle.mem_base.specs.declared.access.cells.Cell.{Cell}
use Rattle.mem_base.specs.declared.access.cells.Place.{Place}
use Rattle.mem_base.specs.map.Limits.{notifier_count}
use Rattle.mem_base.specs.access.Places.{is_notifiers, is_data_or_register, pages_in}
use Rattle.mem_base.specs.views.Naming.{names}
use Rattle.mem_base.specs.machine.Generations.{Generation}

-- the cell is a notifier
abbrev pub is_notifier : Cell → Bool
is_notifier c = is_notifiers c.region && nat_lt c.word notifier_count

-- a pass that is entered in this generation may step on a cell: the generation names the region, and the word is one
-- of its data or registers by the region's place; or the cell is a notifier
abbrev pub may_reach : Option Generation → Place → Cell → Bool
may_reach None p c = false
may_reach (Some x) p c = names x.forest c.region && is_data_or_register p c.word || is_notifier c

-- it may mark a page of a region: the generation names the region, and the page is in it
abbrev pub may_mark : Option Generation → Place → RegionId → ℕ → Bool
may_mark None p region page = false
may_mark (Some x) p region page = names x.forest region && nat_lt page (pages_in p)
