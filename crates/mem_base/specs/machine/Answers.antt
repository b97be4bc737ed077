-- What a call of the writer answers.
use Rattle.std.specs.Prelude.{ℕ, ◌+◌, if◌then◌else◌, List, [], ◌∷◌, length, Option, Some, None, Result, Ok, Err}
use Rattle.mem_base.specs.declared.map.ids.RegionId.{RegionId}
use Rattle.mem_base.specs.declared.map.calls.Applied.{Applied}
use Rattle.mem_base.specs.declared.map.calls.Config.{Config}
use Rattle.mem_base.specs.declared.map.calls.Config.TheVariants as configs
use Rattle.mem_base.specs.declared.map.refusals.Refusal.{Refusal}
use Rattle.mem_base.specs.access.Marks.{pages_from}
use Rattle.mem_base.specs.views.Listening.{Delivery}
use Rattle.mem_base.specs.machine.Generations.{Generation, generation_of}
use Rattle.mem_base.specs.machine.Reaps.{Writer, released}
use Rattle.mem_base.specs.machine.Configs.{configured}
use Rattle.mem_base.specs.machine.Orders.{Order, configure, reap, load, harvest, notified, journal, current, load_refusal, harvest_refusal}
use Rattle.mem_base.specs.map.Refusals.{or_refused}

-- an answer, by the sort of call
pub data Answer : Type 0 where
  call_answer : Result (Applied × Option ℕ) Refusal → Answer  -- of a call, with the number that it published, if any
  commit_answer : Result (Option ℕ) Refusal → Answer  -- of a commit, likewise
  plain_answer : Result (Unit {0}) Refusal → Answer  -- of a begin, a load, a listener that joins or leaves
  reap_answer : Result (List RegionId) Refusal → Answer  -- the released regions
  harvest_answer : Result (List ℕ) Refusal → Answer  -- the marked pages
  notifier_answer : ℕ → Answer  -- of a notifier
  journal_answer : List Delivery → Answer  -- the journal
  current_answer : ℕ → Option Generation → Answer  -- the current number and generation

-- the number that is about to be published
abbrev pub number_due : Writer → Option ℕ
number_due w = if w.desk.due then Some (w.generations.current + 1) else None

-- the answer with something else made of what was accepted
abbrev pub answer_with : {A B : Type 0} → (A → B) → Result A Refusal → Result B Refusal
answer_with f (Ok x) = Ok (f x)
answer_with f (Err why) = Err why

-- what a call without a result answers: that it is done, or its refusal
abbrev pub finishes : {A : Type 0} → Result A Refusal → Result (Unit {0}) Refusal
finishes answer = answer_with (λ x. tt) answer

-- the answer of a call, a begin, a commit, or a listener that joins or leaves, with the number that was published
abbrev pub answer_of_config : Config → Result Applied Refusal → Option ℕ → Answer
answer_of_config (configs.Call call) answer number = call_answer (answer_with (λ applied. (applied, number)) answer)
answer_of_config configs.Commit answer number = commit_answer (answer_with (λ applied. number) answer)
answer_of_config _ answer number = plain_answer (finishes answer)

-- the first of some numbers, 0 of none
abbrev pub first_or_zero : List ℕ → ℕ
first_or_zero [] = 0
first_or_zero (n ∷ ns) = n

-- the answer, by the writer's part before the private event, that after it, and the replies to the events after it
abbrev pub answer_to : Writer → Writer → Order → List ℕ → Answer
answer_to w next (configure k) replies = answer_of_config k (configured w.generations w.desk k).answer (number_due next)
answer_to w next reap replies = reap_answer (Ok (released w))
answer_to w next (load region offset bytes) replies = plain_answer (or_refused (load_refusal w.desk.forest region offset (length bytes)) tt)
answer_to w next (harvest region client) replies = harvest_answer (or_refused (harvest_refusal w.desk.forest region) (pages_from 0 replies))
answer_to w next (notified number) replies = notifier_answer (first_or_zero replies)
answer_to w next journal replies = journal_answer w.desk.listening.journal
answer_to w next current replies = current_answer w.generations.current (generation_of w.generations w.generations.current)
