-- What holds after every legal history of the running machine, by its shared part alone.
use Rattle.std.specs.Prelude.{◌≡◌, ℕ, ◌+◌, ◌-◌, ◌<◌, ◌≤◌, true, List, length, slice_get, Some}
use Rattle.mem_base.specs.declared.machine.events.HistoryEntry.{HistoryEntry}
use Rattle.mem_base.specs.map.Limits.{most_generations}
use Rattle.mem_base.specs.machine.Passes.{PassState, pass_id, pass_of}
use Rattle.mem_base.specs.machine.Generations.{Generation, PassTrack, known_of}
use Rattle.mem_base.specs.machine.SharedHistory.{Shared, shared_opening, after_shared_entries, IsSharedLegal}
use Rattle.mem_base.specs.machine.Actors.{own_entries, generations_published}
use Rattle.mem_base.specs.machine.Turns.{writers_of}

-- how the numbers of a pass stand to the current one
pub record InNumbers (current : ℕ) (k : PassTrack) (p : PassState) : Type 0 where
  -- its lowest number is among the last `most_generations`, and not the first of these where it has its copy of the next
  pub near : current ≤ k.lowest + (most_generations - 1)
  pub low : k.lowest ≤ current
  pub placed : k.placed ≡ true → current ≤ k.lowest + (most_generations - 2)
  -- it knows no number above the current one
  pub looked : (number : ℕ) → p.looked ≡ Some number → number ≤ current
  pub announced : (number : ℕ) → p.announced ≡ Some number → number ≤ current
  -- it is entered in no generation below its lowest number, or below the number that it announced
  pub entered : (number : ℕ) → p.entered ≡ Some number → (before : ℕ) × (p.announced ≡ Some before) × (before ≤ number) × (k.lowest ≤ number) ×
      (number ≤ current)

-- of a machine with these numbers of words and passes, after a history that published these generations
pub record HasSoundNumbers (words passes : ℕ) (gs : List Generation) (s : Shared) : Type 0 where
  pub wide : length s.words ≡ words
  pub many : length s.passes ≡ passes
  pub known : length s.generations.passes ≡ passes
  -- the current number is the number of Publishes
  pub counted : length gs ≡ s.generations.current + 1
  -- the last `most_generations` are kept, each as its Publish carried it
  pub kept : (number : ℕ) → number ≤ s.generations.current → s.generations.current ≤ number + (most_generations - 1)
      → slice_get s.generations.kept (s.generations.current - number) ≡ slice_get gs number
  pub each : (v : ℕ) → v < passes → InNumbers s.generations.current (known_of s.generations (pass_id v)) (pass_of s.passes (pass_id v))

-- so it is after every legal history, whoever made its events
abbrev pub SharedHistoriesAreSound : Type 0
SharedHistoriesAreSound = (words passes : ℕ) (xs : List HistoryEntry) → IsSharedLegal words passes xs →
    HasSoundNumbers words passes (generations_published xs) (after_shared_entries (shared_opening words passes) xs)

-- the entries of actor 0 are those that are the writer's
abbrev pub OwnEntriesAreTheWriters : Type 0
OwnEntriesAreTheWriters = (xs : List HistoryEntry) → own_entries 0 xs ≡ writers_of xs
