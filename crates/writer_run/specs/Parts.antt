-- The writer's part of a machine between two calls: the desk with its listeners, the dropped regions, and the generations of its
-- hand.
use Rattle.std.specs.Prelude.{◌≡◌, ℕ, ◌+◌, false, List, [], map}
use Rattle.mem_base.specs.declared.map.ids.RegionId.{RegionId}
use Rattle.mem_base.specs.map.Limits.{notifier_count}
use Rattle.mem_base.specs.machine.Generations.{Generations}
use Rattle.mem_base.specs.machine.Publishing.{current_forest}
use Rattle.mem_base.specs.machine.Reaps.{Writer, writer}
use Rattle.history_laws.proofs.DroppedLaws.{Dropped}
use Rattle.history_laws.proofs.Idles.{Idle}
use Rattle.writer_desk.specs.Writers.{WriterState, Beside, desk_of}
use Rattle.writer_desk.specs.Listened.{ListenedState, resting}
use Rattle.writer_desk.specs.declared.idle.IdleDesk.{IdleDesk}

-- what is kept beside the desk: nothing is unfilled, and no pass is swept
abbrev pub idle_beside : List RegionId → Generations → Beside
idle_beside dropped g = record { dropped = dropped; unfilled = []; swept = map (λ k. false) g.passes }

abbrev pub idle_writer : WriterState → List RegionId → Generations → Writer
idle_writer s dropped g = writer (desk_of s (idle_beside dropped g)) g

abbrev pub part_with : ListenedState → List RegionId → Generations → Writer
part_with s dropped g = idle_writer (resting s) dropped g

abbrev pub part_of : IdleDesk → Generations → Writer
part_of d g = part_with d.listened d.dropped.items g

-- the parts belong together: no dropped region is there any more, the desk's current generation is the hand's, and the hand has the
-- words of the pool and of the notifiers
pub record BelongTogether (s : ListenedState) (dropped : List RegionId) (g : Generations) (words : ℕ) : Type 0 where
  pub idle : Idle (part_with s dropped g)
  pub gone : Dropped (part_with s dropped g).desk
  pub current : current_forest g ≡ s.backed.desk.current.forest
  pub number : s.backed.desk.current.number ≡ g.current
  pub wide : words ≡ s.backed.backing.pool_words + notifier_count

abbrev pub AreParts : IdleDesk → Generations → ℕ → Type 0
AreParts d g words = BelongTogether d.listened d.dropped.items g words
