-- What holds in every history of the pure machine.
use Rattle.std.specs.Prelude.{◌≡◌, ℕ, ◌+◌, ◌-◌, ◌≤◌, true, List, length, IsSome}
use Rattle.mem_base.specs.declared.machine.events.Event.{Event}
use Rattle.mem_base.specs.map.Limits.{most_generations}
use Rattle.mem_base.specs.machine.Generations.{Generations, is_held, generation_of, held_generations}
use Rattle.mem_base.specs.machine.World.{World, possible, world_after, opening}
use Rattle.mem_base.specs.machine.History.{PureEntry, after_entries, IsLegal, IsOrderly}

-- each event that is possible keeps the four facts of every pass
abbrev pub EachEventKeepsOrder : Type 0
EachEventKeepsOrder = (w : World) (e : Event) → IsOrderly w → possible w e ≡ true → IsOrderly (world_after w e)

-- so they hold after every legal history
abbrev pub LegalHistoriesAreInOrder : Type 0
LegalHistoriesAreInOrder = (pool_words passes : ℕ) (xs : List PureEntry) → IsLegal pool_words passes xs →
    IsOrderly (after_entries (opening pool_words passes) xs)

-- a generation that is held is one of the last eight, and is kept; the held ones are at most eight
pub record KeepsHeld (g : Generations) : Type 0 where
  pub near : (number : ℕ) → is_held g number ≡ true → (number ≤ g.current) × (g.current ≤ number + (most_generations - 1))
  pub kept : (number : ℕ) → is_held g number ≡ true → IsSome (generation_of g number)
  pub few : length (held_generations g) ≤ most_generations

abbrev pub FewGenerationsAreKept : Type 0
FewGenerationsAreKept = (pool_words passes : ℕ) (xs : List PureEntry) → IsLegal pool_words passes xs →
    KeepsHeld (after_entries (opening pool_words passes) xs).writer.generations
