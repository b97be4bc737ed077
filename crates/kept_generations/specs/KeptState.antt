-- The generations that are kept, with what is known of each pass, as their users see them.
-- This project's own rule: at most eight generations are kept, the current one first.
use Rattle.std.specs.Prelude.{◌≡◌, ℕ, ◌+◌, ◌-◌, ◌^◌, ◌<◌, ◌≤◌, Bool, false, nat_le, if◌then◌else◌, List, [], ◌∷◌, length, map, replicate, take}
use Rattle.std.specs.Prelude.{Option, Some, None}
use Rattle.std.specs.List.{slice_get}
use Rattle.mem_base.specs.map.PassIds.{PassId}
use Rattle.mem_base.specs.map.Limits.{most_generations, most_passes}
use Rattle.mem_base.specs.machine.Passes.{PassState, idle, is_pass, pass_of}
use Rattle.mem_base.specs.machine.Generations.{Generation, generation, Generations, PassTrack, nothing_known, with_placed}
use Rattle.generation.specs.Published.{Published}

-- the generations from the current one back; of each pass what the writer knows, what it has done, and whether it was
-- swept; and the current number
pub record KeptState : Type 0 where
  pub kept : List Published
  pub tracks : List PassTrack
  pub states : List PassState
  pub swept : List Bool
  pub current : ℕ

abbrev pub kept_state : List Published → List PassTrack → List PassState → List Bool → ℕ → KeptState
kept_state kept tracks states swept current = record { kept = kept; tracks = tracks; states = states; swept = swept; current = current }

-- a published generation as the machine has it
abbrev pub shown_by : Published → Generation
shown_by p = generation p.forest p.places

-- the machine's generations
abbrev pub generations_of : KeptState → Generations
generations_of k = record { current = k.current; kept = map shown_by k.kept; passes = k.tracks }

-- one generation, and passes that have done nothing
abbrev pub first_kept : ℕ → Published → KeptState
first_kept passes first = kept_state (first ∷ []) (replicate passes nothing_known) (replicate passes idle) (replicate passes false) 0

abbrev pub with_states : KeptState → List PassState → KeptState
with_states k states = record k { states = states }

abbrev pub with_tracks : KeptState → List PassTrack → KeptState
with_tracks k tracks = record k { tracks = tracks }

abbrev pub with_swept : KeptState → List Bool → KeptState
with_swept k swept = record k { swept = swept }

-- the next generation is current, the oldest of eight is kept no more, and no pass has its copy of one yet
abbrev pub after_publish : KeptState → Published → KeptState
after_publish k next =
    kept_state (next ∷ take (most_generations - 1) k.kept) (map (with_placed false) k.tracks) k.states k.swept (k.current + 1)

-- the generation of a number, where it is kept
abbrev pub kept_at : KeptState → ℕ → Option Published
kept_at k number = if nat_le number k.current then slice_get k.kept (k.current - number) else None

abbrev pub kept_at_option : KeptState → Option ℕ → Option Published
kept_at_option k None = None
kept_at_option k (Some number) = kept_at k number

-- the generation in which a pass is entered
abbrev pub kept_entered : KeptState → PassId → Option Published
kept_entered k pass = if is_pass k.states pass then kept_at_option k (pass_of k.states pass).entered else None

-- the numbers fall by one from the current one on
abbrev pub AreNumbered : ℕ → ℕ → List Published → Type 0
AreNumbered current back [] = Unit {0}
AreNumbered current back (p ∷ ps) = (p.number + back ≡ current) × AreNumbered current (back + 1) ps

-- what always holds
pub record AreKept (k : KeptState) : Type 0 where
  pub some : 0 < length k.kept
  pub few : length k.kept ≤ most_generations
  pub numbered : AreNumbered k.current 0 k.kept
  pub some_passes : 0 < length k.tracks
  pub few_passes : length k.tracks ≤ most_passes
  pub each_state : length k.states ≡ length k.tracks
  pub each_swept : length k.swept ≡ length k.tracks
  -- so that a pin word holds every number
  pub fits : k.current + 1 < 2 ^ 64
