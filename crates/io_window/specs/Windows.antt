-- What a window is seen as, and what its parts do.
use Rattle.std.specs.Prelude.{◌≡◌, ℕ, ◌+◌, ◌%◌, ◌≤◌, Bool, true, List, [], length, Option, Some, None, option_map}
use Rattle.std.specs.Prelude.{is_some, IsSomeAnd, IfSome, MatchOption}
use Rattle.mem_base.specs.declared.map.forests.Forest.{Forest}
use Rattle.mem_base.specs.declared.access.accesses.TxResult.{TxResult}
use Rattle.mem_base.specs.map.Limits.{most_bytes, page_size}
use Rattle.mem_base.specs.access.AccessSteps.{Transfer}
use Rattle.mem_base.specs.access.MemoryAccess.{on_words, marked}
use Rattle.generation.specs.Published.{Published}
use Rattle.epoch_rule.specs.Values.{PassValue}
use Rattle.access_run.specs.Hands.{IsPlaceOf}
use Rattle.vcpu_pass.specs.Steps.{generation_in}
use Rattle.mem_base.specs.declared.access.accesses.WindowStart.{WindowStart}
use Rattle.io_window.specs.declared.direct.Memory.{Memory}
use Rattle.mem_base.specs.access.Windows.{is_direct, target_at, part_steps, mark_steps}

-- a window: the pass of its virtual CPU, which stands in the window's generation; whether the virtual CPU was entered before and stays
-- so; where it begins; how long it is; whether it is direct; the greatest end of a put; the bytes of the bounce that was handed
-- in; and how the filling of it ended
pub record WindowValue : Type 0 where
  pub pass : PassValue Published
  pub stays : Bool
  pub start : WindowStart
  pub len : ℕ
  pub direct : Bool
  pub put_end : ℕ
  pub buffer : Option (List ℕ)
  pub filling : TxResult

-- the forest and the number of its generation
abbrev pub forest_of : WindowValue → Forest
forest_of w = (generation_in w.pass).forest

abbrev pub number_of : WindowValue → ℕ
number_of w = (generation_in w.pass).number

-- the bytes of a bounce, if there is one, and its room
abbrev pub held_in : Option (List ℕ) → List ℕ
held_in None = []
held_in (Some bytes) = bytes

abbrev pub room_of : Option (List ℕ) → Option ℕ
room_of buffer = option_map length buffer

-- the memory is that of a direct window of this length in this generation
pub record IsMemoryOf (g : Published) (s : WindowStart) (len : ℕ) (m : Memory) : Type 0 where
  pub directly : is_direct g.forest s ≡ true
  pub parts : (at : ℕ) (t : Transfer) → on_words m.place.region (m.offset + at) t ≡ part_steps (target_at g.forest s) at t
  pub pages_marked : (used : ℕ) → marked m.place.region m.log m.offset used ≡ mark_steps (target_at g.forest s) used
  pub placed : IsPlaceOf g m.place
  pub pages : m.place.bytes % page_size ≡ 0
  pub few : m.place.bytes ≤ most_bytes
  pub within : m.offset + len ≤ m.place.bytes

-- what a window lies on: memory, or a bounce with room for it
abbrev pub IsBacked : Published → WindowStart → ℕ → Option Memory → Option (List ℕ) → Type 0
IsBacked g s len memory buffer = MatchOption memory (IsSomeAnd buffer (λ b. len ≤ length b)) (λ m. IsMemoryOf g s len m)

-- a window's pass is entered, and what it lies on is there in its generation; a bounce has room
pub record IsWindow (pass : PassValue Published) (s : WindowStart) (len : ℕ) (memory : Option Memory) (buffer : Option (List ℕ)) : Type 0 where
  pub entered : is_some pass.edition ≡ true
  pub backed : IsBacked (generation_in pass) s len memory buffer
  pub room : IfSome buffer (λ b. 1 ≤ length b)
