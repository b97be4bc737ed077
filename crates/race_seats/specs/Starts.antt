-- The actors of a block as it starts: those that have a line, the desk first and then the passes ascending.
use Rattle.std.specs.Prelude.{◌≡◌, ℕ, ◌<◌, List, [], ◌∷◌}
use Rattle.mem_base.specs.declared.machine.events.HistoryEntry.{HistoryEntry}
use Rattle.mem_base.specs.map.Limits.{most_passes}
use Rattle.mem_base.specs.script.Scripts.{Line}
use Rattle.mem_base.specs.script.Tasks.{Known}
use Rattle.mem_base.specs.script.Race.{block, desk_number, lines_by}
use Rattle.race_block.specs.declared.blocks.BlockActor.{BlockActor}
use Rattle.race_block.specs.declared.blocks.BlockActor.TheVariants.{Desk, Pass, Gone}
use Rattle.race_block.specs.declared.desks.DeskActor.{DeskActor}
use Rattle.race_block.specs.declared.passes.PassActor.{PassActor}
use Rattle.race_block.specs.Desks.{lines_meant}
use Rattle.race_block.specs.Resolving.{AreLinesBy}
use Rattle.race_block.specs.Joined.{new_clerk}

-- the desk has its lines of the block, knows what is known before it, and ordered nothing yet
pub record DeskStarts (k : Known) (lines : List Line) (a : DeskActor) : Type 0 where
  pub known : a.known ≡ k
  pub clerk : a.clerk ≡ new_clerk desk_number
  pub lines_are : lines_meant a.lines.items ≡ lines_by desk_number (block lines)

-- the pass of a number has its lines, whose names are resolved by what is known before the block; it has seen what all have seen, and ordered nothing yet
pub record PassStarts (k : Known) (lines : List Line) (seen : List HistoryEntry) (who : ℕ) (a : PassActor) : Type 0 where
  pub near : who < most_passes
  pub number : a.vcpu.number ≡ who
  pub level : a.vcpu.seen ≡ seen
  pub clerk : a.clerk ≡ new_clerk who
  pub lines_are : AreLinesBy k (lines_by who (block lines)) a.lines

-- the actor is the one of this number
abbrev pub IsAtStart : Known → List Line → List HistoryEntry → ℕ → BlockActor → Type 0
IsAtStart k lines seen who (Desk a) = (who ≡ desk_number) × DeskStarts k lines a
IsAtStart k lines seen who (Pass a) = PassStarts k lines seen who a
IsAtStart k lines seen who Gone = ⊥

-- one for each of these numbers, in order
abbrev pub AreAtStart : Known → List Line → List HistoryEntry → List ℕ → List BlockActor → Type 0
AreAtStart k lines seen [] [] = Unit {0}
AreAtStart k lines seen (who ∷ whos) (a ∷ actors) = IsAtStart k lines seen who a × AreAtStart k lines seen whos actors
AreAtStart k lines seen _ _ = ⊥
