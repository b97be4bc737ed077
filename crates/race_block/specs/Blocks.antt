-- What the actors of a block do beside one another.
use Rattle.std.specs.Prelude.{◌≡◌}
use Rattle.atomic_table.specs.Seated.{TableId}
use Rattle.race_block.specs.declared.blocks.BlockActor.{BlockActor}
use Rattle.race_block.specs.declared.blocks.BlockActor.TheVariants.{Desk, Pass, Gone}
use Rattle.race_block.specs.Lines as passes
use Rattle.race_block.specs.Desks as desks

-- an actor may begin: its virtual CPU is of this cabinet
abbrev pub CanAct : TableId → BlockActor → Type 0
CanAct cabinet (Desk a) = desks.IsReady a
CanAct cabinet (Pass a) = passes.IsReady a × (a.vcpu.cabinet ≡ cabinet)
CanAct cabinet Gone = Unit {0}

-- it did its lines, or out of memory the first of them
abbrev pub HasActed : TableId → BlockActor → BlockActor → Type 0
HasActed cabinet (Desk a) (Desk b) = desks.HasRun a b × desks.AreNotesOf cabinet b.notes.items
HasActed cabinet (Pass a) (Pass b) = passes.HasRun a b
HasActed cabinet Gone Gone = Unit {0}
HasActed cabinet _ _ = ⊥
