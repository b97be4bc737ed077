-- The history that the atomic steps of a running machine make: which are legal. Everything that changes by them is
-- what changes in the pure machine, with words of the pool in place of cells; what differs is when a copy is placed,
-- a generation is published, and a step is made on a cell.
-- This project's own rule: every entry is one atomic step on one word, so the history is one list.
use Rattle.std.specs.Prelude.{◌≡◌, ℕ, ◌+◌, Bool, false, ◌==◌, ◌&&◌, nat_lt, nat_le, if◌then◌else◌, List, length, replicate, ◌-◌}
use Rattle.std.specs.Prelude.{slice_index, Option, Some, None, option_map}
use Rattle.std.specs.List.{list_any}
use Rattle.mem_base.specs.map.PassIds.{PassId}
use Rattle.mem_base.specs.declared.access.cells.Place.{Place}
use Rattle.mem_base.specs.declared.machine.events.Hand.TheVariants as hands
use Rattle.mem_base.specs.declared.machine.events.Event.{Event}
use Rattle.mem_base.specs.declared.machine.events.Event.TheVariants as events
use Rattle.mem_base.specs.declared.machine.events.Carried.{Carried}
use Rattle.mem_base.specs.declared.machine.events.Carried.TheVariants.{Nothing, Edition, At}
use Rattle.mem_base.specs.declared.machine.events.HistoryEntry.{HistoryEntry}
use Rattle.mem_base.specs.access.Places.{mark_word, past}
use Rattle.mem_base.specs.access.Cells.{Touch, touch_of, words_after}
use Rattle.mem_base.specs.machine.Passes.{PassState, idle, passes_after}
use Rattle.mem_base.specs.machine.Generations.{Generation, Generations, first_generations, known_of, may, number_told, generations_after, entered_generation}
use Rattle.mem_base.specs.machine.Guards.{may_reach, may_mark}
use Rattle.mem_base.specs.machine.Histories.{after_each, IsLegalBy}
use Rattle.mem_base.specs.map.Limits.{most_generations}

-- what all actors share: the generations, where each pass stands, and the words
pub record Shared : Type 0 where
  pub generations : Generations
  pub passes : List PassState
  pub words : List ℕ  -- the pool's, and after them the notifiers'

-- these, as one
abbrev pub shared : Generations → List PassState → List ℕ → Shared
shared generations passes words = record { generations = generations; passes = passes; words = words }

-- two places are one: of the same region, with the same words
abbrev pub is_same_place : Place → Place → Bool
is_same_place p q = (p.region.0 == q.region.0) && (p.start == q.start) && (p.words == q.words) && (p.bytes == q.bytes) && (p.regs == q.regs)

-- the Publish of the generation carried this place
abbrev pub carries : Option Generation → Place → Bool
carries None p = false
carries (Some x) p = list_any (is_same_place p) x.places

-- the word is one of the place's, and the place ends within the shared words: the pool's, and after them the notifiers'
abbrev pub is_within : Shared → Place → ℕ → Bool
is_within s p word = nat_lt word p.words && nat_le (past p) (length s.words)

-- a step on a cell with the place that it names, which has to be that of the cell's region. A pass
-- does what the pure machine lets it do, and its generation carries the place; the writer needs only that the word is
-- there
abbrev pub may_touch : Shared → Event → Place → Bool
may_touch s (events.Word (hands.Pass pass) c step) p =
    let entered = entered_generation s.generations s.passes pass in
    (p.region.0 == c.region.0) && may_reach entered p c && carries entered p
may_touch s (events.Mark pass region client page) p =
    let entered = entered_generation s.generations s.passes pass in
    (p.region.0 == region.0) && may_mark entered p region page && carries entered p
may_touch s (events.Word hands.Writer c step) p = (p.region.0 == c.region.0) && is_within s p c.word
may_touch s (events.Harvest region client index) p = (p.region.0 == region.0) && is_within s p (mark_word p client index)
may_touch s (events.Fill c) p = (p.region.0 == c.region.0) && is_within s p c.word
may_touch s _ p = false

-- the pass can't be in the generation eight before the next one, whose copy the next one's copy takes the place of
abbrev pub is_near : Shared → PassId → Bool
is_near s pass = nat_le s.generations.current ((known_of s.generations pass).lowest + (most_generations - 2))

-- the event is possible where it stands, with what it carries: a Publish carries an edition, a step on a cell its
-- place, and any other event nothing. Private events are not shared
abbrev pub shared_possible : Shared → Event → Carried → Bool
shared_possible s e (At p) = may_touch s e p
shared_possible s events.Publish (Edition forest places) = may s.generations s.passes events.Publish
shared_possible s e (Edition forest places) = false
shared_possible s events.Publish Nothing = false
shared_possible s (events.Place pass) Nothing = is_near s pass && may s.generations s.passes (events.Place pass)
shared_possible s e Nothing = may s.generations s.passes e

-- the touch of an event, on one of the shared words
pub record PoolTouch : Type 0 where
  pub word : ℕ
  pub touch : Touch

-- a step on a word of a place, with the word's number in the pool
abbrev pub pool_touch : Place → Touch → PoolTouch
pool_touch p t = record { word = p.start + t.word; touch = t }

-- the step on a word that an entry makes, if it makes one
abbrev pub pool_touch_of : Event → Carried → Option PoolTouch
pool_touch_of e (At p) = option_map (pool_touch p) (touch_of p e)
pool_touch_of e _ = None

-- the value that such a step tells: the word's before it, where it tells one
abbrev pub old_in : List ℕ → Option PoolTouch → ℕ
old_in words None = 0
old_in words (Some t) = if t.touch.tells then slice_index words t.word else 0

-- the words after it
abbrev pub pool_after : List ℕ → Option PoolTouch → List ℕ
pool_after words None = words
pool_after words (Some t) = words_after words t.word t.touch.step

-- what an event answers
abbrev pub shared_reply : Shared → Event → Carried → ℕ
shared_reply s e (At p) = old_in s.words (pool_touch_of e (At p))
shared_reply s e _ = number_told s.generations s.passes e

-- all that is shared, after an entry
abbrev pub after_shared_entry : Shared → HistoryEntry → Shared
after_shared_entry s x = shared
    (generations_after s.generations x.event x.carried x.reply)
    (passes_after s.passes x.event x.reply)
    (pool_after s.words (pool_touch_of x.event x.carried))

-- the same after some entries
abbrev pub after_shared_entries : Shared → List HistoryEntry → Shared
after_shared_entries s xs = after_each after_shared_entry s xs

-- at first, with the words of the pool and of the notifiers
abbrev pub shared_opening : ℕ → ℕ → Shared
shared_opening cabinet_words passes = shared (first_generations passes) (replicate passes idle) (replicate cabinet_words 0)

-- each event is possible where it stands, and its reply is the machine's
abbrev pub IsSharedLegalFrom : Shared → List HistoryEntry → Type 0
IsSharedLegalFrom s xs = IsLegalBy (λ z x. shared_possible z x.event x.carried) (λ z x. x.reply ≡ shared_reply z x.event x.carried) after_shared_entry s xs

-- each entry of a history may stand where it stands, from the first on: what is shared permits it
abbrev pub IsSharedLegal : ℕ → ℕ → List HistoryEntry → Type 0
IsSharedLegal cabinet_words passes xs = IsSharedLegalFrom (shared_opening cabinet_words passes) xs
