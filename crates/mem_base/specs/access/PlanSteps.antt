-- What the words of this project's machines do for each thing that an access reaches. An access is the steps of its plan, which
-- `access_is_planned` of plan_laws shows.
-- These are this project's own rules, in place of RAM blocks and device models: `on_words` of memory, and the four devices.
use Rattle.std.specs.Prelude.{ℕ, ◌%◌, List, [], ◌∷◌, Option, Some, None}
use Rattle.mem_base.specs.declared.map.ids.RegionId.{RegionId}
use Rattle.mem_base.specs.declared.map.forests.Node.{Node}
use Rattle.mem_base.specs.declared.map.forests.Forest.{Forest}
use Rattle.mem_base.specs.declared.map.kinds.Kind.{Kind}
use Rattle.mem_base.specs.declared.map.kinds.Kind.TheVariants.{RomDevice, Io}
use Rattle.mem_base.specs.declared.map.kinds.Device.{Device}
use Rattle.mem_base.specs.declared.access.cells.WordStep.TheVariants.{Or}
use Rattle.mem_base.specs.map.Limits.{word_size}
use Rattle.mem_base.specs.map.Region.{node_of}
use Rattle.mem_base.specs.access.Places.{data_words}
use Rattle.mem_base.specs.access.Cells.{notifier_cell}
use Rattle.mem_base.specs.access.MemoryAccess.{on_words}
use Rattle.mem_base.specs.access.DeviceAccess.{step_of, on_device}
use Rattle.mem_base.specs.access.AccessSteps.{reading, writing, AccessStep, blank, steps, marks, shown_part, nothing_shown}
use Rattle.mem_base.specs.access.Plans.{Request, answers, takes, Reached, memory, callback, notifier, mark, nothing}

-- a callback, by one of the four devices; register 0 is the word `base` of the region
abbrev pub by_register : RegionId → Device → ℕ → ℕ → ℕ → Request → AccessStep
by_register region device base offset size (answers n big) =
    on_device region base (step_of device offset size None) (shown_part (offset % word_size) size big n) (reading n)
by_register region device base offset size (takes value) =
    on_device region base (step_of device offset size (Some value)) nothing_shown (writing [])

-- the registers come after the region's data
abbrev pub by_kind : Kind → Node → ℕ → ℕ → Request → List AccessStep
by_kind (RomDevice device) n offset size r = by_register n.id device (data_words n.size) offset size r ∷ []
by_kind (Io device) n offset size r = by_register n.id device 0 offset size r ∷ []
by_kind _ n offset size r = []

-- the steps of a callback of a region, where there is one
abbrev pub by_region : Option Node → ℕ → ℕ → Request → List AccessStep
by_region None offset size r = []
by_region (Some n) offset size r = by_kind n.kind n offset size r

-- the steps on words of one thing that an access reaches
abbrev pub steps_of : Forest → Reached → List AccessStep
steps_of f (memory region offset transfer) = on_words region offset transfer
steps_of f (callback region offset size r) = by_region (node_of f.nodes region) offset size r
steps_of f (notifier number) = steps (notifier_cell number) (Or 1) nothing_shown ∷ []
steps_of f (mark region client page) = marks region client page ∷ []
steps_of f (nothing n result) = blank n result ∷ []
