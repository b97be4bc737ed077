-- How the virtual CPUs take their places before a block, and stand in order of their numbers again after it.
use Rattle.std.specs.Prelude.{◌≡◌, ℕ, ◌+◌, ◌<◌, ◌≤◌, not, Bool, true, false, List, [], ◌∷◌, ◌++◌, length, filter, slice_index_or, vec_capacity}
use Rattle.std.specs.Prelude.{Option, Some, None}
use Rattle.std.specs.List.{range_with_len}
use Rattle.mem_base.specs.lists.Every.{Every}
use Rattle.mem_base.specs.map.Limits.{most_passes}
use Rattle.mem_base.specs.script.Scripts.{Line}
use Rattle.mem_base.specs.script.Tasks.{Known}
use Rattle.mem_base.specs.script.Race.{block, desk_number}
use Rattle.generation.specs.Published.{Published}
use Rattle.epoch_rule.specs.Values.{PassValue}
use Rattle.race_block.specs.HandedOn.{IsInItsGeneration}
use Rattle.desk_orders.specs.Records.{RecordState}
use Rattle.race_phases.specs.Plain.{has_lines}
use Rattle.race_block.specs.declared.blocks.BlockActor.{BlockActor}
use Rattle.race_block.specs.declared.blocks.BlockActor.TheVariants.{Desk, Pass}
use Rattle.race_block.specs.declared.passes.PassActor.{PassActor}
use Rattle.race_block.specs.declared.tasks.BlockLine.{BlockLine}
use Rattle.race_block.specs.declared.tasks.OwnLine.{OwnLine}
use Rattle.race_block.specs.declared.tasks.PassLines.{PassLines}
use Rattle.race_block.specs.declared.tasks.PassLines.TheVariants.{Unresolved, Resolved}
use Rattle.race_block.specs.Blocks.{CanAct}
use Rattle.race_block.specs.Desks as desks
use Rattle.race_block.specs.Joined.{new_clerk}
use Rattle.race_seats.specs.Starts.{AreAtStart, DeskStarts}
use Rattle.race_seats.specs.declared.rooms.Work.{Work}
use Rattle.race_seats.specs.Rooms.{acts}
use Rattle.race_seats.specs.declared.seats.Seated.{Seated}

-- Before the block

-- a virtual CPU of this number and the record's machine, which has seen just what the record has, and is in the generation in which its own
-- entries say that it is
pub record IsSeatOf (r : RecordState) (p : ℕ) (x : PassValue Published) : Type 0 where
  pub number : x.number ≡ p
  pub level : x.seen ≡ r.seat.seen
  pub own : x.cabinet ≡ r.seat.cabinet
  pub inside : IsInItsGeneration x

-- each of these stands at its number
abbrev pub AreSeatsOf : RecordState → List (PassValue Published) → Type 0
AreSeatsOf r cpus = (p : ℕ) (d : PassValue Published) → p < length cpus → IsSeatOf r p (slice_index_or cpus p d)

-- one for each of these numbers, in order
abbrev pub AreSeats : RecordState → List ℕ → List (PassValue Published) → Type 0
AreSeats r [] [] = Unit {0}
AreSeats r (p ∷ ps) (x ∷ xs) = IsSeatOf r p x × AreSeats r ps xs
AreSeats r _ _ = ⊥

-- of the first passes, those that have lines, and those that have none
abbrev pub acting : List Line → ℕ → List ℕ
acting lines n = filter (has_lines (block lines)) (range_with_len 0 n)

abbrev pub idle : List Line → ℕ → List ℕ
idle lines n = filter (λ p. not (has_lines (block lines) p)) (range_with_len 0 n)

-- the desk has its lines and knows this, where it has some; else this is kept
abbrev pub SeatsDesk : Known → List Line → Option Known → List BlockActor → Type 0
SeatsDesk k lines (Some kept) [] = (has_lines (block lines) desk_number ≡ false) × (kept ≡ k)
SeatsDesk k lines None (Desk a ∷ []) = (has_lines (block lines) desk_number ≡ true) × DeskStarts k lines a × desks.IsReady a
SeatsDesk k lines _ _ = ⊥

-- what is known is kept, or the desk has lines
abbrev pub KeepsKnown : Known → List Line → Option Known → Type 0
KeepsKnown k lines (Some kept) = kept ≡ k
KeepsKnown k lines None = has_lines (block lines) desk_number ≡ true

-- a pass gets its lines as they stand, with what is known, where this is kept; else with their tasks
abbrev pub GivesLines : Option Known → List OwnLine → List BlockLine → PassLines → Type 0
GivesLines (Some kept) own tasks (Unresolved lines names) = (lines.items ≡ own) × (names.now ≡ kept)
GivesLines None own tasks (Resolved xs) = xs.items ≡ tasks
GivesLines _ own tasks _ = ⊥

-- an actor that has this virtual CPU, the lines of this work and its bounce, and did nothing yet
pub record IsNewActor (who : ℕ) (known : Option Known) (cpu : PassValue Published) (work : Work) (a : PassActor) : Type 0 where
  pub cpu_is : a.vcpu ≡ cpu
  pub clerk : a.clerk ≡ new_clerk who
  pub lines : GivesLines known work.own.items work.tasks.items a.lines
  pub room : a.bounce ≡ work.bounce
  pub nothing : a.got.items ≡ []

-- a pass that has lines is one actor more, and any other waits
abbrev pub TakesSeat : Bool → ℕ → Option Known → PassValue Published → Work → List BlockActor → List BlockActor → List (PassValue Published)
    → List (PassValue Published) → Type 0
TakesSeat true who known cpu work olds news before after =
    (after ≡ before) × (a : PassActor) × (news ≡ olds ++ Pass a ∷ []) × IsNewActor who known cpu work a
TakesSeat false who known cpu work olds news before after = (news ≡ olds) × (after ≡ before ++ cpu ∷ [])

abbrev pub SeatsPass : ℕ → Option Known → PassValue Published → Work → List BlockActor → List BlockActor → List (PassValue Published)
    → List (PassValue Published) → Type 0
SeatsPass who known cpu work = TakesSeat (acts work) who known cpu work

-- the first `n` passes have their places: those with lines are actors, and the others wait
pub record HaveSeats (k : Known) (lines : List Line) (r : RecordState) (n : ℕ) (olds news : List BlockActor) (before after : List (PassValue Published))
    : Type 0 where
  pub actors : List BlockActor
  pub put : news ≡ olds ++ actors
  pub starts : AreAtStart k lines r.seat.seen (acting lines n) actors
  pub can : Every (CanAct r.seat.cabinet) actors
  pub others : List (PassValue Published)
  pub aside : after ≡ before ++ others
  pub wait : AreSeats r (idle lines n) others

-- these are the passes that have lines, of the first ones
abbrev pub AreBusy : List Line → List Bool → Type 0
AreBusy lines busy = (p : ℕ) (d : Bool) → p < length busy → slice_index_or busy p d ≡ has_lines (block lines) p

-- all have their places
pub record AreSeated (k : Known) (lines : List Line) (r : RecordState) (s : Seated) : Type 0 where
  pub front : List BlockActor
  pub passes : List BlockActor
  pub actors : s.actors.items ≡ front ++ passes
  pub desk : SeatsDesk k lines s.known.now front
  pub starts : AreAtStart k lines r.seat.seen (acting lines most_passes) passes
  pub can : Every (CanAct r.seat.cabinet) passes
  pub wait : AreSeats r (idle lines most_passes) s.waiting.items
  pub all_busy : length s.busy.items ≡ most_passes
  pub busy : AreBusy lines s.busy.items
  pub no_cpus : s.cpus.items ≡ []
  pub cpus_fit : most_passes ≤ vec_capacity s.cpus
  pub no_clerks : s.clerks.items ≡ []
  pub clerks_fit : length s.actors.items ≤ vec_capacity s.clerks

-- After the block

-- the actors of these passes, whose virtual CPUs have seen just what the record has
abbrev pub HaveSeatOf : RecordState → ℕ → BlockActor → Type 0
HaveSeatOf r p (Pass a) = IsSeatOf r p a.vcpu
HaveSeatOf r p _ = ⊥

abbrev pub AreActorsOf : RecordState → List ℕ → List BlockActor → Type 0
AreActorsOf r [] [] = Unit {0}
AreActorsOf r (p ∷ ps) (a ∷ actors) = HaveSeatOf r p a × AreActorsOf r ps actors
AreActorsOf r _ _ = ⊥

-- what is taken from the end of the actors, or of those that wait
abbrev pub TakesCpu : Bool → List BlockActor → List BlockActor → List (PassValue Published) → List (PassValue Published) → Option (PassValue Published)
    → Type 0
TakesCpu true olds news before after got =
    (after ≡ before) × ((front : List BlockActor) (a : PassActor) → olds ≡ front ++ Pass a ∷ [] → (news ≡ front) × (got ≡ Some a.vcpu))
TakesCpu false olds news before after got =
    (news ≡ olds) × ((front : List (PassValue Published)) (x : PassValue Published) → before ≡ front ++ x ∷ [] → (after ≡ front) × (got ≡ Some x))

-- a pass that had lines has seen what the later record has, and any other what the earlier one had
abbrev pub IsBack : Bool → RecordState → RecordState → ℕ → PassValue Published → Type 0
IsBack true v w p x = IsSeatOf w p x
IsBack false v w p x = IsSeatOf v p x

-- the first `n` stand in order of their numbers again
pub record AreBack (lines : List Line) (v w : RecordState) (n : ℕ) (front rest : List BlockActor) (before after : List (PassValue Published))
    : Type 0 where
  pub rest_is : rest ≡ front
  pub back : List (PassValue Published)
  pub put : after ≡ before ++ back
  pub count : length back ≡ n
  pub each : (p : ℕ) (d : PassValue Published) → p < n → IsBack (has_lines (block lines) p) v w p (slice_index_or back p d)

abbrev pub ComeBack : List Line → ℕ → List BlockActor → List BlockActor → List (PassValue Published) → List (PassValue Published)
    → List (PassValue Published) → Type 0
ComeBack lines n olds rest waiting before after =
    (v w : RecordState) (front passes : List BlockActor) → olds ≡ front ++ passes → AreActorsOf w (acting lines n) passes
    → AreSeats v (idle lines n) waiting → AreBack lines v w n front rest before after

-- all of the first ones, as many as are told of, by which of them are busy
abbrev pub AllComeBack : List Bool → List BlockActor → List BlockActor → List (PassValue Published) → List (PassValue Published)
    → List (PassValue Published) → Type 0
AllComeBack busy olds rest waiting before after =
    (lines : List Line) → AreBusy lines busy → ComeBack lines (length busy) olds rest waiting before after

-- What is known, after the block

-- it was kept, or the desk has it
abbrev pub IsKnown : Option Known → List BlockActor → Type 0
IsKnown (Some kept) front = Unit {0}
IsKnown None (Desk a ∷ actors) = Unit {0}
IsKnown None _ = ⊥

abbrev pub known_now : Known → Option Known → List BlockActor → Known
known_now k (Some kept) actors = kept
known_now k None (Desk a ∷ actors) = a.known
known_now k None _ = k

-- what the desk knows, where it acted
abbrev pub desks_known : List BlockActor → Option Known
desks_known (Desk a ∷ actors) = Some a.known
desks_known _ = None

-- what is known is told by one of them
abbrev pub IsTold : Option Known → Option Known → Type 0
IsTold (Some kept) desks = Unit {0}
IsTold None (Some now) = Unit {0}
IsTold None None = ⊥

abbrev pub names_then : Known → Option Known → Option Known → Known
names_then k (Some kept) desks = kept
names_then k None (Some now) = now
names_then k None None = k
