-- What the calls of a virtual CPU add to the shared history, and what they answer.
use Rattle.std.specs.Prelude.{◌≡◌, ℕ, ◌<◌, ◌≤◌, Bool, true, false, List, [], length, None, is_some, IfSome}
use Rattle.mem_base.specs.declared.map.ids.SpaceId.{SpaceId}
use Rattle.mem_base.specs.declared.access.accesses.Access.{Access}
use Rattle.mem_base.specs.access.AccessSteps.{Transfer, events_of_steps, result_of, bytes_read}
use Rattle.mem_base.specs.access.Access.{access}
use Rattle.mem_base.specs.machine.Passes.{pass_id}
use Rattle.mem_base.specs.machine.Generations.{Generation}
use Rattle.mem_base.specs.machine.Composites.{enters_anew, access_events, is_not_whole, word_write, word_write_events, leaves}
use Rattle.mem_base.specs.machine.Actors.{number_seen, generations_published, generation_published}
use Rattle.generation.specs.Published.{Published}
use Rattle.epoch_rule.specs.Values.{PassValue}
use Rattle.epoch_rule.specs.Wrote.{Made}
use Rattle.mem_base.specs.machine.PassTurns.{entries_of}
use Rattle.vcpu_pass.specs.Entries.{replies_anew, replies_around, replies_to_leave}

-- the pass is entered
abbrev pub is_entered : PassValue Published → Bool
is_entered v = is_some v.edition

-- the pass left where it was entered, and did nothing where it was not
abbrev pub HasLeft : PassValue Published → PassValue Published → Type 0
HasLeft v w = (w.edition ≡ None)
    × IfSome v.edition (λ g. Made v (entries_of [] (leaves (pass_id v.number)) replies_to_leave) w)
    × (v.edition ≡ None → w ≡ v)

-- The pass entered the generation that was current then, which is no older than what it had seen, and left before where
-- it was entered
pub record HasEntered (v : PassValue Published) (number : ℕ) (w : PassValue Published) : Type 0 where
  pub looked : ℕ
  pub made : Made v (entries_of [] (enters_anew (is_entered v) (pass_id v.number)) (replies_anew (is_entered v) looked number)) w
  pub current : number ≡ number_seen w.seen
  pub newest : number_seen v.seen ≤ number

-- The number is that of the generation in which the pass is entered, and it stays there; or that of one which it entered,
-- no older than what it had seen
pub record GoesBy (v : PassValue Published) (number : ℕ) (w : PassValue Published) : Type 0 where
  pub entered : IfSome v.edition (λ g. number ≡ g.number)
  pub newest : v.edition ≡ None → number_seen v.seen ≤ number
  pub edition : w.edition ≡ v.edition

-- a generation of this number was published, as the pass has seen
abbrev pub IsPublishedIn : PassValue Published → ℕ → Type 0
IsPublishedIn w number = number < length (generations_published w.seen)

-- the generation that the Publish of a number carried, as the pass has seen
abbrev pub generation_of : PassValue Published → ℕ → Generation
generation_of w number = generation_published w.seen number

-- An access to the forest of a generation: the pass made just its events, between an enter and a leave where it was not
-- entered, and it ended and read as these replies give
pub record HasAccessedBy (x : Generation) (v : PassValue Published) (space : SpaceId) (addr : ℕ) (transfer : Transfer) (answer : Access) (bytes : List ℕ)
    (w : PassValue Published) : Type 0 where
  pub goes_by : GoesBy v answer.number w
  pub published : IsPublishedIn w answer.number
  pub looked : ℕ
  pub replies : List ℕ
  pub each : length replies ≡ length (events_of_steps (pass_id v.number) (access x.forest space addr transfer))
  pub made : Made v (entries_of x.places (access_events (is_entered v) (pass_id v.number) x.forest space addr transfer)
      (replies_around (is_entered v) looked answer.number replies)) w
  pub result : answer.result ≡ result_of (access x.forest space addr transfer)
  pub read : bytes ≡ bytes_read (access x.forest space addr transfer) replies

-- the access went by the generation that the Publish of its number carried
abbrev pub HasAccessed : PassValue Published → SpaceId → ℕ → Transfer → Access → List ℕ → PassValue Published → Type 0
HasAccessed v space addr transfer answer bytes w = HasAccessedBy (generation_of w answer.number) v space addr transfer answer bytes w

-- a write of one word that would replace only a part of some word: none of its events was made
pub record HasRefusedBy (x : Generation) (v : PassValue Published) (space : SpaceId) (addr value number : ℕ) (w : PassValue Published) : Type 0 where
  pub goes_by : GoesBy v number w
  pub published : IsPublishedIn w number
  pub not_whole : is_not_whole x.forest space addr value ≡ true
  pub looked : ℕ
  pub made : Made v (entries_of x.places (word_write_events (is_entered v) (pass_id v.number) x.forest space addr value)
      (replies_around (is_entered v) looked number [])) w

abbrev pub HasRefused : PassValue Published → SpaceId → ℕ → ℕ → ℕ → PassValue Published → Type 0
HasRefused v space addr value number w = HasRefusedBy (generation_of w number) v space addr value number w

-- a write of one word that replaces whole words alone
abbrev pub HasWritten8 : PassValue Published → SpaceId → ℕ → ℕ → Access → PassValue Published → Type 0
HasWritten8 v space addr value answer w =
    (is_not_whole (generation_of w answer.number).forest space addr value ≡ false) × HasAccessed v space addr (word_write value) answer [] w
