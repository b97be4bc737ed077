-- Histories of the pure machine: which are legal, and four facts of each pass that hold in every legal one.
use Rattle.std.specs.Prelude.{◌≡◌, ℕ, ◌+◌, ◌<◌, ◌≤◌, min, Bool, true, false, List, [], ◌∷◌, length, slice_index_or, Some, None, Result, ◌-◌}
use Rattle.mem_base.specs.map.PassIds.{PassId}
use Rattle.mem_base.specs.declared.map.refusals.Refusal.{Refusal}
use Rattle.mem_base.specs.declared.machine.events.Event.{Event}
use Rattle.mem_base.specs.declared.machine.events.Reply.{Reply}
use Rattle.mem_base.specs.map.Limits.{most_generations}
use Rattle.mem_base.specs.machine.Passes.{PassState, pass_of}
use Rattle.mem_base.specs.machine.Generations.{Generations, PassTrack, known_of}
use Rattle.mem_base.specs.machine.Histories.{after_each, IsLegalBy}
use Rattle.mem_base.specs.machine.World.{World, opening, possible, reply, world_after, after_telling, number_in}

-- an event with its reply
pub record PureEntry : Type 0 where
  pub event : Event
  pub reply : Result Reply Refusal

-- an entry, by its event and its reply
abbrev pub pure_entry : Event → Result Reply Refusal → PureEntry
pure_entry event reply = record { event = event; reply = reply }

-- the world after an entry, by the reply that stands there
abbrev pub after_entry : World → PureEntry → World
after_entry w x = after_telling w x.event (number_in x.reply)

-- the world after some entries
abbrev pub after_entries : World → List PureEntry → World
after_entries w xs = after_each after_entry w xs

-- each event is possible where it stands, and its reply is the world's
abbrev pub IsLegalFrom : World → List PureEntry → Type 0
IsLegalFrom w xs = IsLegalBy (λ v x. possible v x.event) (λ v x. x.reply ≡ reply v x.event) after_entry w xs

-- a legal history from the opening on, by the words of the pool and the number of passes
abbrev pub IsLegal : ℕ → ℕ → List PureEntry → Type 0
IsLegal pool_words passes xs = IsLegalFrom (opening pool_words passes) xs

-- a world and the entries that led to it
pub record Ran : Type 0 where
  pub world : World
  pub entries : List PureEntry

-- such a pair
abbrev pub ran : World → List PureEntry → Ran
ran world entries = record { world = world; entries = entries }

-- some events one after another, each with the world's own reply
abbrev pub run_events : World → List Event → Ran
run_events w [] = ran w []
run_events w (e ∷ es) = let rest = run_events (world_after w e) es in ran rest.world (pure_entry e (reply w e) ∷ rest.entries)

-- what holds of one pass: where the current number is `current`, a publish is due or not, and the pass was swept or
-- not since the last private event
pub record IsInOrder (current : ℕ) (due swept : Bool) (k : PassTrack) (p : PassState) : Type 0 where
  -- its lowest number is one of the eight that may be kept
  pub near : current ≤ k.lowest + (most_generations - 1)
  pub low : k.lowest ≤ current
  -- where it was swept, the lowest number is no less than what was found, and near the current one where nothing was
  pub found_low : swept ≡ true → (number : ℕ) → k.found ≡ Some number → number ≤ k.lowest
  pub free_low : swept ≡ true → k.found ≡ None → current ≤ k.lowest + 1
  pub free_due : swept ≡ true → k.found ≡ None → due ≡ true → current ≤ k.lowest
  -- it knows no number above the current one, and is entered in no generation below its lowest number or below the
  -- number that it announced
  pub looked : (number : ℕ) → p.looked ≡ Some number → number ≤ current
  pub announced : (number : ℕ) → p.announced ≡ Some number → number ≤ current
  pub entered : (number : ℕ) → p.entered ≡ Some number → (before : ℕ) × (p.announced ≡ Some before) × (before ≤ number) × (k.lowest ≤ number) ×
      (number ≤ current)
  -- while a publish is due, it is one of those that are kept after it too
  pub due_near : due ≡ true → current ≤ k.lowest + (most_generations - 2)

-- the flag of a pass that says whether it was swept
abbrev pub is_swept : List Bool → PassId → Bool
is_swept swept pass = slice_index_or swept pass.0 false

-- the same of all passes, each of which has a track and a flag that says whether it was swept; as many generations are
-- kept as there were, up to eight
pub record AllInOrder (due : Bool) (swept : List Bool) (g : Generations) (ps : List PassState) : Type 0 where
  pub all_known : length g.passes ≡ length ps
  pub all_flagged : length swept ≡ length ps
  pub kept : length g.kept ≡ min (g.current + 1) most_generations
  pub each : (pass : PassId) → pass.0 < length ps → IsInOrder g.current due (is_swept swept pass) (known_of g pass) (pass_of ps pass)

-- what the writer has seen of the passes agrees with where they stand
abbrev pub IsOrderly : World → Type 0
IsOrderly w = AllInOrder w.writer.desk.due w.writer.desk.swept w.writer.generations w.passes
