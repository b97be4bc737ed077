-- What is ready before a block starts: the lines of its actors, and room for them.
use Rattle.std.specs.Prelude.{◌≡◌, ℕ, ◌+◌, ◌<◌, ◌≤◌, Bool, true, All, List, [], ◌∷◌, ◌++◌, length, map, nat_le, slice_index_or}
use Rattle.std.specs.Prelude.{vec_capacity}
use Rattle.mem_base.specs.map.Limits.{most_passes}
use Rattle.mem_base.specs.script.Scripts.{Line}
use Rattle.mem_base.specs.script.Tasks.{Known}
use Rattle.mem_base.specs.script.Race.{block, desk_number, lines_by}
use Rattle.race_phases.specs.Plain.{has_lines}
use Rattle.race_block.specs.declared.tasks.OwnLine.{OwnLine}
use Rattle.race_block.specs.Desks.{lines_meant}
use Rattle.race_block.specs.Lines as passes
use Rattle.race_block.specs.Resolving.{AreTasksOf, IsPassLine, copy_room}
use Rattle.race_seats.specs.declared.rooms.Work.{Work}
use Rattle.race_seats.specs.declared.rooms.PassRoom.{PassRoom}
use Rattle.race_seats.specs.declared.rooms.Room.{Room}

-- the passes, and after them the desk
abbrev pub most_actors : ℕ
most_actors = 17

-- How the lines are dealt

-- nothing to do yet
pub record IsIdle (work : Work) : Type 0 where
  pub no_lines : work.own.items ≡ []
  pub bounce : work.bounce ≡ copy_room

-- no actor has anything to do yet
pub record AreIdle (works : List Work) : Type 0 where
  pub all : length works ≡ most_actors
  pub each : (p : ℕ) (d : Work) → p < length works → IsIdle (slice_index_or works p d)

-- the actor of a number has its lines of the block, and a bounce in which there is room for what they copy
pub record HasOwn (lines : List Line) (p : ℕ) (work : Work) : Type 0 where
  pub own : lines_meant work.own.items ≡ lines_by p (block lines)
  pub bounce : work.bounce ≡ copy_room

abbrev pub AreOwn : List Line → List Work → Type 0
AreOwn lines works = (p : ℕ) (d : Work) → p < length works → HasOwn lines p (slice_index_or works p d)

-- all actors have their lines
pub record AreAll (lines : List Line) (works : List Work) : Type 0 where
  pub all : length works ≡ most_actors
  pub own : AreOwn lines works

-- the last has these lines
abbrev pub HasDesksWork : List Work → List Work → List OwnLine → Type 0
HasDesksWork olds news own = (work : Work) × (olds ≡ news ++ work ∷ []) × (own ≡ work.own.items)

-- What the passes have to do

-- the tasks of the lines were made, by what is known
pub record IsPrepared (k : Known) (work later : Work) : Type 0 where
  pub own : later.own.items ≡ work.own.items
  pub bounce : later.bounce ≡ work.bounce
  pub tasks : AreTasksOf k (lines_meant work.own.items) later.tasks.items
  pub fits : All (passes.FitsLine copy_room) later.tasks.items

pub record ArePrepared (k : Known) (works after : List Work) : Type 0 where
  pub all : length after ≡ length works
  pub each : (p : ℕ) (d : Work) → p < length works → IsPrepared k (slice_index_or works p d) (slice_index_or after p d)

-- these are its tasks
pub record HasTasks (k : Known) (lines : List Line) (p : ℕ) (work : Work) : Type 0 where
  pub tasks : AreTasksOf k (lines_by p (block lines)) work.tasks.items
  pub fits : All (passes.FitsLine copy_room) work.tasks.items

-- what the pass of a number has to do in the block: its lines, the numbers of whose commands fit; with their tasks, where the desk has lines; and a
-- bounce in which there is room for what they copy
pub record IsWorkOf (k : Known) (lines : List Line) (p : ℕ) (work : Work) : Type 0 where
  pub own : lines_meant work.own.items ≡ lines_by p (block lines)
  pub fits : All IsPassLine work.own.items
  pub bounce : work.bounce ≡ copy_room
  pub tasks : has_lines (block lines) desk_number ≡ true → HasTasks k lines p work

abbrev pub AreWorksOf : Known → List Line → List Work → Type 0
AreWorksOf k lines works = (p : ℕ) (d : Work) → p < length works → IsWorkOf k lines p (slice_index_or works p d)

-- the pass has something to do
abbrev pub acts : Work → Bool
acts work = nat_le 1 (length work.own.items)

-- what each pass has to do is ready, and so is the room for those that wait, for all virtual CPUs and for the clerks
pub record IsPassRoomFor (k : Known) (lines : List Line) (r : PassRoom) : Type 0 where
  pub all_works : length r.works.items ≡ most_passes
  pub works : AreWorksOf k lines r.works.items
  pub busy : r.busy.items ≡ map acts r.works.items
  pub no_waiting : r.waiting.items ≡ []
  pub waiting_fit : most_passes ≤ vec_capacity r.waiting
  pub no_cpus : r.cpus.items ≡ []
  pub cpus_fit : most_passes ≤ vec_capacity r.cpus
  pub no_clerks : r.clerks.items ≡ []
  pub clerks_fit : most_passes + 1 ≤ vec_capacity r.clerks

-- the desk's lines are ready, and room for all actors
pub record IsRoomFor (k : Known) (lines : List Line) (r : Room) : Type 0 where
  pub desk : lines_meant r.desk_lines.items ≡ lines_by desk_number (block lines)
  pub no_actors : r.actors.items ≡ []
  pub actors_fit : most_passes + 1 ≤ vec_capacity r.actors
  pub passes : IsPassRoomFor k lines r.passes
