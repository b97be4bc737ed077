-- Who makes an event of the running machine, what an actor's own entries are, and what it has seen of the history.
-- This project's own rule: the actors are the writer and the passes.
use Rattle.std.specs.Prelude.{ℕ, ◌+◌, ◌-◌, ◌==◌, if◌then◌else◌, List, [], ◌∷◌, ◌++◌, length, slice_index_or}
use Rattle.mem_base.specs.declared.machine.events.Hand.{Hand}
use Rattle.mem_base.specs.declared.machine.events.Hand.TheVariants as hands
use Rattle.mem_base.specs.declared.machine.events.Event.{Event}
use Rattle.mem_base.specs.declared.machine.events.Event.TheVariants as events
use Rattle.mem_base.specs.declared.machine.events.Carried.{Carried}
use Rattle.mem_base.specs.declared.machine.events.Carried.TheVariants.{Edition}
use Rattle.mem_base.specs.declared.machine.events.HistoryEntry.{HistoryEntry}
use Rattle.mem_base.specs.map.Calls.{empty}
use Rattle.mem_base.specs.machine.Passes.{PassState, pass_after}
use Rattle.mem_base.specs.machine.Generations.{Generation, Generations, generation, generations_after}

-- an actor's number: the writer's is 0, and that of pass v is v + 1
abbrev pub actor_of_hand : Hand → ℕ
actor_of_hand (hands.Pass pass) = pass.0 + 1
actor_of_hand hands.Writer = 0

-- the actor that makes an event
abbrev pub actor_of : Event → ℕ
actor_of (events.Look pass) = pass.0 + 1
actor_of (events.Announce pass) = pass.0 + 1
actor_of (events.Enter pass) = pass.0 + 1
actor_of (events.Leave pass) = pass.0 + 1
actor_of (events.Word hand c step) = actor_of_hand hand
actor_of (events.Mark pass region client page) = pass.0 + 1
actor_of _ = 0

-- an actor's own entries
abbrev pub own_entries : ℕ → List HistoryEntry → List HistoryEntry
own_entries actor [] = []
own_entries actor (x ∷ xs) = if actor_of x.event == actor then x ∷ own_entries actor xs else own_entries actor xs

-- what a pass's own entries make of it
abbrev pub pass_after_all : PassState → List HistoryEntry → PassState
pass_after_all p [] = p
pass_after_all p (x ∷ xs) = pass_after_all (pass_after p x.event x.reply) xs

-- what the writer's own entries make of the generations
abbrev pub generations_after_all : Generations → List HistoryEntry → Generations
generations_after_all g [] = g
generations_after_all g (x ∷ xs) = generations_after_all (generations_after g x.event x.carried x.reply) xs

-- all generations that were published, also those that are kept no more; generation 0 is empty

-- the first generation: no regions, no places
abbrev pub first_generation : Generation
first_generation = generation empty []

-- the generations after an entry: a publish adds the one that it carries
abbrev pub published_with : List Generation → Event → Carried → List Generation
published_with gs events.Publish (Edition forest places) = gs ++ generation forest places ∷ []
published_with gs _ _ = gs

-- the generations after some entries
abbrev pub published_from : List Generation → List HistoryEntry → List Generation
published_from gs [] = gs
published_from gs (x ∷ xs) = published_from (published_with gs x.event x.carried) xs

-- by ascending number, from generation 0 on
abbrev pub generations_published : List HistoryEntry → List Generation
generations_published xs = published_from (first_generation ∷ []) xs

-- the generation of a number: what its Publish carries
abbrev pub generation_published : List HistoryEntry → ℕ → Generation
generation_published xs number = slice_index_or (generations_published xs) number first_generation

-- the current number, as it stands at the end of what was seen: that of the last Publish in it
abbrev pub number_seen : List HistoryEntry → ℕ
number_seen xs = length (generations_published xs) - 1
