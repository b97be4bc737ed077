-- Events that replace a part of a word.
use Rattle.std.specs.Prelude.{Bool, false, nat_lt}
use Rattle.mem_base.specs.declared.access.cells.WordStep.TheVariants.{Replace}
use Rattle.mem_base.specs.declared.machine.events.Event.{Event}
use Rattle.mem_base.specs.declared.machine.events.Event.TheVariants as events
use Rattle.mem_base.specs.map.Limits.{word_size}

abbrev pub is_partial_event : Event → Bool
is_partial_event (events.Word hand cell (Replace first bytes value)) = nat_lt bytes word_size
is_partial_event _ = false
