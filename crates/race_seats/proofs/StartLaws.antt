-- Each actor of a block with its number, as it started and as the block left it, with its clerk.
use Rattle.std.proofs.Common.{◌≡◌, ◌<◌, ℕ, suc, List, [], ◌∷◌, length, get_or, arith}
use Rattle.atomic_table.specs.Seated.{TableId}
use Rattle.mem_base.specs.declared.machine.events.HistoryEntry.{HistoryEntry}
use Rattle.mem_base.specs.machine.Records.{Clerk}
use Rattle.mem_base.specs.script.Scripts.{Line}
use Rattle.mem_base.specs.script.Tasks.{Known}
use Rattle.race_block.specs.declared.blocks.BlockActor.{BlockActor}
use Rattle.race_block.specs.Blocks.{CanAct}
use Rattle.race_block.specs.Joined.{HasJoined}
use Rattle.race_seats.specs.Starts.{AreAtStart, IsAtStart}
use Rattle.race_seats.proofs.ListLaws.{Each}

module _ (k : Known) (lines : List Line) (cabinet : TableId) (before seen : List HistoryEntry) where
  -- what an actor was, and how it came to what it is
  pub record WasActor (who : ℕ) (now : BlockActor) (c : Clerk) : Type 0 where
    pub was : BlockActor
    pub starts : IsAtStart k lines before who was
    pub can : CanAct cabinet was
    pub joined : HasJoined seen was now c

  pub were_actors : (whos : List ℕ) (olds news : List BlockActor) (clerks : List Clerk) → AreAtStart k lines before whos olds
      → length news ≡ length olds → length clerks ≡ length olds
      → ((i : ℕ) (d : BlockActor) → i < length olds → CanAct cabinet (get_or olds i d))
      → ((i : ℕ) (d : BlockActor) (c : Clerk) → i < length olds → HasJoined seen (get_or olds i d) (get_or news i d) (get_or clerks i c))
      → Each WasActor whos news clerks
  were_actors [] [] [] [] start long wide can joined = tt
  were_actors (who ∷ whos) (a ∷ olds) (b ∷ news) (c ∷ clerks) start long wide can joined = (
    record { was = a; starts = start.0; can = can 0 a (omega arith); joined = joined 0 a c (omega arith) },
    were_actors whos olds news clerks start.1 (omega (arith, long)) (omega (arith, wide)) (λ i d l. can (suc i) d (omega (arith, l)))
        (λ i d e l. joined (suc i) d e (omega (arith, l))),
  )
  were_actors [] (a ∷ olds) news clerks start long wide can joined = absurd start
  were_actors (who ∷ whos) [] news clerks start long wide can joined = absurd start
  were_actors [] [] (b ∷ news) clerks start long wide can joined = absurd (omega (arith, long))
  were_actors [] [] [] (c ∷ clerks) start long wide can joined = absurd (omega (arith, wide))
  were_actors (who ∷ whos) (a ∷ olds) [] clerks start long wide can joined = absurd (omega (arith, long))
  were_actors (who ∷ whos) (a ∷ olds) (b ∷ news) [] start long wide can joined = absurd (omega (arith, wide))
