use Rattle.std.proofs.Common.{◌≡◌, length, take}
use Rattle.race_block.specs.Desks.{AreNotesOf, HasDoneLines, lines_meant}
use Rattle.race_block.proofs.desks.DeskActor.run.Given as goal

abbrev pub invariant-loop-at : goal.invariant-loop-at
invariant-loop-at g l = HasDoneLines l.fn.self.known (lines_meant (take l.at l.fn.self.lines.items)) l.fn.self.clerk l.clerk l.notes.items l.known l.said.items
    × (g.O.Orderly.cabinet l.desk ≡ g.O.Orderly.cabinet l.fn.desk) × (l.at-end ≡ length l.fn.self.lines.items)
    × AreNotesOf (g.O.Orderly.cabinet l.fn.desk) l.notes.items
