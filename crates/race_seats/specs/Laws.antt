-- What a block does to the race so far.
use Rattle.std.specs.Prelude.{◌≡◌, false, List, Option}
use Rattle.std.specs.List.{list_any}
use Rattle.mem_base.specs.declared.machine.records.Differs.{Differs}
use Rattle.mem_base.specs.machine.Records.{Clerk}
use Rattle.mem_base.specs.script.Scripts.{Line}
use Rattle.mem_base.specs.script.Tasks.{Known}
use Rattle.mem_base.specs.script.Race.{block}
use Rattle.desk_orders.specs.Records.{RecordState}
use Rattle.race_block.specs.declared.blocks.BlockActor.{BlockActor}
use Rattle.race_levels.specs.Outside.{StepsOn, StopsIn}
use Rattle.race_seats.specs.Ran.{HasRunBlock, block_text, is_out_of_memory, known_after_block}

-- where memory lasted for all actors, the race so far takes the block, with its text
abbrev pub BlocksStepOn : Type 0
BlocksStepOn = (k : Known) (lines : List Line) (v w : RecordState) (olds news : List BlockActor) (clerks : List Clerk) (differs : Option Differs)
    → HasRunBlock k lines v w olds news clerks differs → list_any is_out_of_memory news ≡ false
    → StepsOn v k (block lines) w (known_after_block k news) (block_text k lines w news clerks differs)

-- whether or not it lasted, the race could have gone on from what was seen
abbrev pub BlocksMayStop : Type 0
BlocksMayStop = (k : Known) (lines : List Line) (v w : RecordState) (olds news : List BlockActor) (clerks : List Clerk) (differs : Option Differs)
    → HasRunBlock k lines v w olds news clerks differs → StopsIn v k (block lines) w
