-- What a runner of a race has between two of its phases.
use Rattle.std.specs.Prelude.{◌≡◌, All, List, length}
use Rattle.mem_base.specs.map.Limits.{most_passes}
use Rattle.generation.specs.Published.{Published}
use Rattle.epoch_rule.specs.Values.{PassValue}
use Rattle.pass_lines.specs.Doing.{IsInItsGeneration}
use Rattle.desk_orders.specs.Records.{RecordState}
use Rattle.race_levels.specs.Levels.{IsOfCabinet}
use Rattle.race_levels.specs.Settling.{AreLevel}

-- all sixteen virtual CPUs are of the record's machine and stand at their numbers, each has seen just what the record has, and
-- is in the generation in which its own entries say that it is, or in none
pub record AreReady (r : RecordState) (cpus : List (PassValue Published)) : Type 0 where
  pub all : length cpus ≡ most_passes
  pub own : All (IsOfCabinet r.seat.cabinet) cpus
  pub level : AreLevel r.seat.seen cpus
  pub inside : All IsInItsGeneration cpus
