-- A load leaves the generations that the writer's seat keeps.
use Rattle.std.proofs.Common.{◌≡◌, ℕ, List, ap, ◌∙◌}
use Rattle.mem_base.specs.declared.map.ids.RegionId.{RegionId}
use Rattle.mem_base.specs.declared.machine.events.HistoryEntry.{HistoryEntry}
use Rattle.mem_base.specs.machine.Answers.{Answer}
use Rattle.mem_base.specs.machine.Generations.{Generations}
use Rattle.mem_base.specs.machine.Orders.{load}
use Rattle.mem_base.specs.machine.Reaps.{Writer}
use Rattle.writer_desk.specs.declared.idle.IdleDesk.{IdleDesk}
use Rattle.writer_run.specs.Parts.{part_of}
use Rattle.writer_run.specs.Turns.{IsTurn}
use Rattle.writer_run.proofs.WordLaws.{load_leaves}

pub loaded_kept : (g h : Generations) (d : IdleDesk) (region : RegionId) (offset : ℕ) (bytes : List ℕ) (makes : List HistoryEntry → Type 0)
    (answer : Answer) → IsTurn (part_of d g) (load region offset bytes) makes answer (part_of d h) → h.kept ≡ g.kept
loaded_kept g h d region offset bytes makes answer t =
    ap (λ (x : Writer). x.generations.kept) (t.writer ∙ load_leaves (part_of d g) region offset bytes t.replies)
