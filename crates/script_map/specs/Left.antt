-- What the commands of a script leave, which of them are refused, and which generations they publish.
use Rattle.std.specs.Prelude.{◌≡◌, ℕ, ◌==◌, if◌then◌else◌, List, [], ◌∷◌, ◌++◌, map}
use Rattle.std.specs.Arc.{arc_value}
use Rattle.std.specs.declared.sync.Arc.{Arc}
use Rattle.mem_base.specs.declared.map.forests.Forest.{Forest}
use Rattle.mem_base.specs.machine.World.{World}
use Rattle.mem_base.specs.script.Scripts.{Line}
use Rattle.mem_base.specs.script.States.{State}
use Rattle.mem_base.specs.script.Shows.{shown_forest}
use Rattle.mem_base.specs.script.Tasks.{Known}
use Rattle.mem_base.specs.script.Run.{pool_words, start, step}
use Rattle.run_laws.specs.TaskSteps.{known_state}
use Rattle.generation.specs.Published.{Published}
use Rattle.script_run.specs.Standing.{MayGoOn, Standing, state_of}
use Rattle.script_map.specs.Refusals.{Refused, refused_by}

-- the state that commands leave, one after another
abbrev pub state_after : State → List Line → State
state_after s [] = s
state_after s (line ∷ lines) = state_after (step s line.0 line.1).1 lines

-- those of them that are refused
abbrev pub refused_in : State → List Line → List Refused
refused_in s [] = []
refused_in s (line ∷ lines) = let x = step s line.0 line.1 in refused_by line.0 x.0 ++ refused_in x.1 lines

-- a generation by its number and its forest
pub record Shown : Type 0 where
  pub number : ℕ
  pub forest : Forest

-- the current generation of a state
abbrev pub shown_in : State → Shown
shown_in s = record { number = s.world.writer.generations.current; forest = shown_forest s }

-- the same of a generation
abbrev pub shown_by : Published → Shown
shown_by g = record { number = g.number; forest = g.forest }

-- and of each of some generations
abbrev pub all_shown : {Z : Type 0} → List (Arc Published Z) → List Shown
all_shown gs = map (λ g. shown_by (arc_value g)) gs

-- the current generation of a state, unless it has this number
abbrev pub shown_unless : ℕ → State → List Shown
shown_unless number s = if s.world.writer.generations.current == number then [] else shown_in s ∷ []

-- the generation that a command published, if it did, by the states before and after it
abbrev pub published_by : State → State → List Shown
published_by s t = shown_unless s.world.writer.generations.current t

-- the generations that commands publish, in order
abbrev pub published_in : State → List Line → List Shown
published_in s [] = []
published_in s (line ∷ lines) = let t = (step s line.0 line.1).1 in published_by s t ++ published_in t lines

-- the state before the first command of a script
abbrev pub first_of : List Line → State
first_of lines = start (pool_words lines)

-- what a script leaves: what is known of names, the machine, and the refusals
pub record Left : Type 0 where
  pub known : Known
  pub world : World
  pub refused : List Refused

-- the state of the run
abbrev pub left_state : Left → State
left_state m = known_state m.known m.world

-- this is what these commands leave
pub record IsLeftBy (lines : List Line) (m : Left) : Type 0 where
  pub state : left_state m ≡ state_after (first_of lines) lines
  pub refused : m.refused ≡ refused_in (first_of lines) lines

-- what a command leaves of a session and of the refusals so far
pub record TakesLine (old : Standing) (old_refused : List Refused) (new : Standing) (new_refused : List Refused) (line : Line) : Type 0 where
  pub state : state_of new ≡ (step (state_of old) line.0 line.1).1
  pub refused : new_refused ≡ old_refused ++ refused_by line.0 (step (state_of old) line.0 line.1).0
  pub ready : MayGoOn new
