-- What is known once a block has run, and what it writes.
use Rattle.std.specs.Prelude.{◌≡◌, ℕ, ◌+◌, ◌<◌, Bool, false, All, List, [], ◌∷◌, ◌++◌, length, flat_map, slice_index_or, Option}
use Rattle.mem_base.specs.declared.machine.records.Differs.{Differs}
use Rattle.mem_base.specs.map.Limits.{most_passes}
use Rattle.mem_base.specs.views.Listening.{Delivery}
use Rattle.mem_base.specs.machine.Actors.{own_entries}
use Rattle.mem_base.specs.machine.Passes.{pass_id}
use Rattle.mem_base.specs.machine.Records.{Clerk, Closes}
use Rattle.mem_base.specs.script.Named.{Names}
use Rattle.mem_base.specs.script.Spelling.{Text}
use Rattle.mem_base.specs.script.Scripts.{Line}
use Rattle.mem_base.specs.script.Tasks.{Known}
use Rattle.mem_base.specs.script.RaceLines.{said_text}
use Rattle.mem_base.specs.script.Race.{actors_in, block, differs_line, lines_by}
use Rattle.epoch_rule.specs.Rule.{IsLegal}
use Rattle.desk_orders.specs.Records.{IsLater, RecordState, later_entries}
use Rattle.race_block.specs.declared.blocks.BlockActor.{BlockActor}
use Rattle.race_block.specs.declared.blocks.BlockActor.TheVariants.{Desk, Pass, Gone}
use Rattle.race_block.specs.Blocks.{CanAct}
use Rattle.race_block.specs.Laws.{saids}
use Rattle.race_block.specs.Joined.{HasJoined}
use Rattle.race_seats.specs.Starts.{AreAtStart}
use Rattle.race_seats.specs.Texts.{text_or}

-- The lines ran as a block, from a record to a later one, where this was known: what the actors were and are, what their clerks wrote
-- down, and how that stands to the record. All have seen the same then, and a pass without lines made nothing
pub record HasRunBlock (k : Known) (lines : List Line) (v w : RecordState) (olds news : List BlockActor) (clerks : List Clerk) (differs : Option Differs)
    : Type 0 where
  pub starts : AreAtStart k lines v.seat.seen (actors_in (block lines)) olds
  pub can : All (CanAct v.seat.cabinet) olds
  pub later : IsLater v w
  pub legal : IsLegal w.seat.sizes w.seat.seen
  pub closes : Closes (later_entries v w) clerks differs
  pub all_news : length news ≡ length olds
  pub all_clerks : length clerks ≡ length olds
  pub joined : (i : ℕ) (d : BlockActor) (c : Clerk) → i < length olds
      → HasJoined w.seat.seen (slice_index_or olds i d) (slice_index_or news i d) (slice_index_or clerks i c)
  pub rest : (p : ℕ) → p < most_passes → lines_by p (block lines) ≡ [] → own_entries (p + 1) w.seat.seen ≡ own_entries (p + 1) v.seat.seen

-- memory ran out for the actor
abbrev pub is_out_of_memory : BlockActor → Bool
is_out_of_memory (Desk a) = a.out_of_memory
is_out_of_memory (Pass a) = a.out_of_memory
is_out_of_memory Gone = false

-- what is known after the block: what the desk knows then, if it had lines
abbrev pub known_after_block : Known → List BlockActor → Known
known_after_block k [] = k
known_after_block k (Desk a ∷ actors) = a.known
known_after_block k (a ∷ actors) = known_after_block k actors

-- what an actor's lines write: the text that a pass has made of them, or else by what they got and what its clerk wrote down
abbrev pub actor_text : Known → List Line → Names → List Delivery → BlockActor → Clerk → Text
actor_text k lines names journal (Desk a) c = flat_map (said_text names journal) a.said.items
actor_text k lines names journal (Pass a) c = text_or a.text
    (flat_map (said_text names journal) (saids names k (pass_id a.vcpu.number) (lines_by a.vcpu.number (block lines)) a.got.items c.got))
actor_text k lines names journal Gone c = []

-- those of the actors, each with its clerk, one after another
abbrev pub actors_text : Known → List Line → Names → List Delivery → List BlockActor → List Clerk → Text
actors_text k lines names journal (a ∷ actors) (c ∷ clerks) = actor_text k lines names journal a c ++ actors_text k lines names journal actors clerks
actors_text k lines names journal _ _ = []

-- and then, where what an actor got is not the record's, the line that says so
abbrev pub block_text : Known → List Line → RecordState → List BlockActor → List Clerk → Option Differs → Text
block_text k lines w actors clerks differs =
    actors_text k lines (known_after_block k actors).names w.part.desk.listening.journal actors clerks ++ differs_line differs
