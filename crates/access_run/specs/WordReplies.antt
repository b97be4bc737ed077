-- What a hand answers that is asked as a bus, by the words before its steps.
use Rattle.std.specs.Prelude.{◌≡◌, ℕ, List, [], ◌∷◌, length, take, drop, map, flat_map, Some, None, false}
use Rattle.mem_base.specs.map.PassIds.{PassId}
use Rattle.mem_base.specs.declared.map.ids.SpaceId.{SpaceId}
use Rattle.mem_base.specs.declared.map.forests.Forest.{Forest}
use Rattle.mem_base.specs.declared.access.cells.WordStep.{WordStep}
use Rattle.mem_base.specs.declared.access.cells.WordStep.TheVariants.{Or}
use Rattle.mem_base.specs.map.Region.{node_of}
use Rattle.mem_base.specs.access.AccessSteps.{Transfer, reading, writing, AccessStep, events_of_steps, bytes_read, result_of}
use Rattle.mem_base.specs.access.MemoryAccess.{on_words}
use Rattle.mem_base.specs.access.DeviceAccess.{reply_of}
use Rattle.mem_base.specs.access.Access.{access}
use Rattle.mem_base.specs.access.Plans.{answers, takes, Reached, memory, callback, notifier, mark, nothing, plan}
use Rattle.mem_base.specs.access.PlanSteps.{by_region, steps_of}
use Rattle.access_reach.specs.Asking as asking
use Rattle.access_reach.specs.Asking.{Asked, Reply, Outcome}
use Rattle.access_reach.specs.Reaching.{HasReached}
use Rattle.access_run.specs.Runs.{Makes, HasDone, TakesAll}

-- the number that a callback answers, by the word before its step
abbrev pub number_told : Reached → List ℕ → ℕ
number_told (callback region offset size (answers n big)) (old ∷ ws) = reply_of offset size old
number_told _ _ = 0

-- the bytes of memory that is read
abbrev pub memory_told : Reached → List ℕ → List ℕ
memory_told (memory region offset (reading n)) ws = bytes_read (on_words region offset (reading n)) ws
memory_told _ ws = []

abbrev pub word_reply : Forest → Reached → List ℕ → Reply
word_reply f x ws = record { bytes = memory_told x ws; number = number_told x ws; result = result_of (steps_of f x) }

-- how many words the steps for it tell
abbrev pub words_told : Forest → PassId → Reached → ℕ
words_told f p x = length (events_of_steps p (steps_of f x))

-- the replies to all that is asked, each by its own words
abbrev pub word_replies : Forest → PassId → List Reached → List ℕ → List Reply
word_replies f p [] ws = []
word_replies f p (nothing n result ∷ xs) ws = word_replies f p xs ws
word_replies f p (x ∷ xs) ws = word_reply f x (take (words_told f p x) ws) ∷ word_replies f p xs (drop (words_told f p x) ws)

-- what is asked, as a thing that is reached; how much of a number is read is no part of it
abbrev pub as_reached : Asked → Reached
as_reached (asking.reads region offset n) = memory region offset (reading n)
as_reached (asking.writes region offset bs) = memory region offset (writing bs)
as_reached (asking.calls region offset size None) = callback region offset size (answers 0 false)
as_reached (asking.calls region offset size (Some value)) = callback region offset size (takes value)
as_reached (asking.sets number) = notifier number
as_reached (asking.marks region client page) = mark region client page

abbrev pub steps_asked : Forest → List Asked → List AccessStep
steps_asked f es = flat_map (steps_of f) (map as_reached es)

-- from one state of a hand to another it made just the word events of what was asked, and the replies are told by their replies
pub record AsksWords {S : Type 0} (makes : Makes S) (p : PassId) (f : Forest) (before : S) (es : List Asked) (rs : List Reply) (after : S) : Type 0 where
  pub words : List ℕ
  pub made : makes before (events_of_steps p (steps_asked f es)) words after
  pub each : length words ≡ length (events_of_steps p (steps_asked f es))
  pub told : rs ≡ word_replies f p (map as_reached es) words

-- a hand that was asked what the plan reaches has done the defined access
abbrev pub ReachedByWords : {S : Type 0} → Makes S → Type 0
ReachedByWords {S} makes = (p : PassId) (f : Forest) (s : SpaceId) (a : ℕ) (t : Transfer) (x y : S) (end : Outcome)
    → HasReached (AsksWords makes p f) x (plan f s a t) end y
    → HasDone makes p x (access f s a t) end.bytes y × (end.result ≡ result_of (access f s a t))

-- the hand takes the steps of what is asked
abbrev pub TakesAsked : (WordStep → Type 0) → Forest → Asked → Type 0
TakesAsked allowed f (asking.writes region offset bs) = TakesAll allowed (on_words region offset (writing bs))
TakesAsked allowed f (asking.calls region offset size (Some value)) = TakesAll allowed (by_region (node_of f.nodes region) offset size (takes value))
TakesAsked allowed f (asking.sets number) = allowed (Or 1)
TakesAsked allowed f _ = Unit {0}
