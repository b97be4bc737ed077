-- The forests of the generations, in every history of the pure machine.
use Rattle.std.specs.Prelude.{◌≡◌, ℕ, ◌+◌, true, if◌then◌else◌, List, [], ◌∷◌, ◌++◌, length, slice_get, Some}
use Rattle.mem_base.specs.declared.map.forests.Forest.{Forest}
use Rattle.mem_base.specs.declared.machine.events.Event.{Event}
use Rattle.mem_base.specs.declared.machine.events.Event.TheVariants as events
use Rattle.mem_base.specs.map.Calls.{empty}
use Rattle.mem_base.specs.machine.Desk.{Desk}
use Rattle.mem_base.specs.machine.Committed.{committed_forests}
use Rattle.mem_base.specs.machine.Generations.{Generation, generation_of}
use Rattle.mem_base.specs.machine.Reaps.{Writer}
use Rattle.mem_base.specs.machine.World.{World, opening}
use Rattle.mem_base.specs.machine.History.{PureEntry, after_entry, after_entries, IsLegal}
use Rattle.mem_base.specs.machine.JoinedHistory.{accepted}

-- the generations carry these forests: one for each number up to the current one, and the last of them waits while a
-- publish is due
pub record CarriesForests (h : Writer) (fs : List Forest) : Type 0 where
  pub count : length fs ≡ h.generations.current + (if h.desk.due then 2 else 1)
  pub carried : (number : ℕ) (x : Generation) → generation_of h.generations number ≡ Some x → slice_get fs number ≡ Some x.forest
  pub waiting : h.desk.due ≡ true → slice_get fs (h.generations.current + 1) ≡ Some h.desk.forest

-- they are the committed forests of the calls, begins and commits that were accepted
abbrev pub GenerationsAreCommitted : Type 0
GenerationsAreCommitted = (pool_words passes : ℕ) (xs : List PureEntry) → IsLegal pool_words passes xs →
    CarriesForests (after_entries (opening pool_words passes) xs).writer (committed_forests (accepted xs))

-- the forests that the publishes of a history make current, one after another, from a world on
abbrev pub forest_at : World → Event → List Forest
forest_at w events.Publish = w.writer.desk.forest ∷ []
forest_at w e = []

abbrev pub forests_published : World → List PureEntry → List Forest
forests_published w [] = []
forests_published w (x ∷ xs) = forest_at w x.event ++ forests_published (after_entry w x) xs

-- what waits for its publish
abbrev pub forest_due : Desk → List Forest
forest_due d = if d.due then d.forest ∷ [] else []

-- the empty forest, those that were published, and the one that waits are the committed forests
abbrev pub PublishesAreCommitted : Type 0
PublishesAreCommitted = (pool_words passes : ℕ) (xs : List PureEntry) → IsLegal pool_words passes xs →
    empty ∷ forests_published (opening pool_words passes) xs ++ forest_due (after_entries (opening pool_words passes) xs).writer.desk
    ≡ committed_forests (accepted xs)
