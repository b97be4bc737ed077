-- Turns end in the world that the last writer's part and the shared state show.
use Rattle.std.proofs.Common.{◌≡◌, ℕ, ◌+◌, List, sym, ap, ◌∙◌}
use Rattle.std.specs.Prelude.{flat_map}
use Rattle.mem_base.specs.declared.machine.events.HistoryEntry.{HistoryEntry}
use Rattle.mem_base.specs.map.Limits.{notifier_count}
use Rattle.mem_base.specs.access.Cells.{Block}
use Rattle.mem_base.specs.machine.Desk.{places_of}
use Rattle.mem_base.specs.machine.Reaps.{Writer, first_writer}
use Rattle.mem_base.specs.machine.World.{World, world, opening}
use Rattle.mem_base.specs.machine.History.{after_entries}
use Rattle.mem_base.specs.machine.SharedHistory.{Shared}
use Rattle.mem_base.specs.machine.SharedHistory as running
use Rattle.mem_base.specs.machine.Turns.{Answered, turns, entries_of_turn, last_writer, writers_of}
use Rattle.mem_base.specs.machine.JoinedHistory.{joined_history}
use Rattle.history_laws.proofs.Idles.{Idle, opens_idle}
use Rattle.history_laws.proofs.ShownLaws.{generations_show_places}
use Rattle.turn_laws.proofs.Joining.{Anything, Ends, reaches_end}
use Rattle.turn_laws.proofs.Turning.{at_rest}
use Rattle.turn_laws.proofs.TurnsLaw.{idle_last, turns_join, turns_reach}
use Rattle.mem_base.specs.access.PlaceCells.{blocks_at}
use Rattle.mem_base.specs.machine.ShownWorlds.{world_shown}
use Rattle.end_laws.specs.Shown.{EndsIn}
use Rattle.end_laws.proofs.BlockLaws.{cells_are, its_cells}

module _ (pool_words passes : ℕ) (os : List Answered) (xs : List HistoryEntry) (legal : running.IsSharedLegal (pool_words + notifier_count) passes xs)
    (same : writers_of xs ≡ flat_map entries_of_turn (turns (first_writer pool_words passes) os)) where
  abbrev h : Writer
  h = first_writer pool_words passes

  abbrev end : Writer
  end = last_writer h (turns h os)

  abbrev final : Shared
  final = running.after_shared_entries (running.shared_opening (pool_words + notifier_count) passes) xs

  abbrev last : World
  last = after_entries (opening pool_words passes) (joined_history (turns h os) xs)

  pub idle : Idle end
  idle = idle_last end os h (opens_idle pool_words passes)

  pub ends : Ends end final last
  ends = reaches_end Anything end final (opening pool_words passes) (joined_history (turns h os) xs) (turns_reach pool_words passes os xs legal same)

  its_blocks : last.blocks ≡ blocks_at ends.words (places_of last.writer.desk)
  its_blocks = cells_are pool_words last ends.words ends.coupled (ap (λ (z : Writer). z.desk.unfilled) ends.writer ∙ idle.filled)
      (its_cells pool_words passes (joined_history (turns h os) xs))
      (generations_show_places pool_words passes (joined_history (turns h os) xs) (turns_join pool_words passes os xs legal same).legal)

  pub leads : last ≡ world_shown end final
  leads =
      ap (λ (bs : List Block). world last.writer last.passes bs) its_blocks
      ∙ (λ i. world_shown (ends.writer i) (ends.shows i))

  pub turns_end_in : EndsIn pool_words passes (turns h os) xs end final
  turns_end_in = record {
    rests = at_rest end.desk idle.due idle.filled;
    generations = sym (ap (λ (s : Shared). s.generations) ends.shows) ∙ ap (λ (z : Writer). z.generations) ends.writer;
    leads = leads;
  }
