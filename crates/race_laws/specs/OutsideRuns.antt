-- What a race does outside its block is what a run does. And the laws of races for scripts that were read.
use Rattle.std.specs.Prelude.{◌≡◌, ℕ, ◌+◌, false, List, ◌∷◌, ◌++◌, None, Ok}
use Rattle.mem_base.specs.declared.machine.events.HistoryEntry.{HistoryEntry}
use Rattle.mem_base.specs.declared.script.commands.Command.TheVariants as commands
use Rattle.mem_base.specs.lists.Every.{Every}
use Rattle.mem_base.specs.map.Limits.{most_passes, notifier_count}
use Rattle.mem_base.specs.machine.Generations.{Generation}
use Rattle.mem_base.specs.machine.SharedHistory.{after_shared_entries, shared_opening}
use Rattle.mem_base.specs.machine.Actors.{generations_published}
use Rattle.mem_base.specs.script.Spelling.{Text}
use Rattle.mem_base.specs.script.Scripts.{Line, script_of}
use Rattle.mem_base.specs.script.States.{State}
use Rattle.mem_base.specs.script.Run.{pool_words, start, text_from, text_of}
use Rattle.mem_base.specs.script.Race.{Course, IsAlone, IsPhase, IsTextOfRace, Stand, block, is_end, is_par, phase_text, phases_of, stand_after}
use Rattle.run_laws.specs.LawfulRuns.{state_after}
use Rattle.mem_base.specs.machine.ShownWorlds.{world_shown}
use Rattle.run_laws.specs.TaskSteps.{known_state}

-- a script that was read, without a block or with an empty one, writes what its run writes
abbrev pub ReadRaceIsRun : Type 0
ReadRaceIsRun = (source : Text) (lines : List Line) (xs : List HistoryEntry) (text : Text) → script_of source ≡ Ok lines
    → Every IsAlone (phases_of lines) → IsTextOfRace lines xs text → text ≡ text_of lines

-- where a race stands between two phases, as the state of a run
abbrev pub state_at_stand : ℕ → Stand → State
state_at_stand pool s =
    known_state s.known (world_shown s.writer (after_shared_entries (shared_opening (pool + notifier_count) most_passes) s.seen))

-- lines that are neither `par` nor `end`
abbrev pub AreLines : List Line → Type 0
AreLines lines = Every (λ line. (is_par line.1 ≡ false) × (is_end line.1 ≡ false)) lines

-- a script with a block, by the lines before it, in it, and after it
abbrev pub with_block : List Line → ℕ → List Line → ℕ → List Line → List Line
with_block before par inner end after = before ++ ((par, commands.Par) ∷ (inner ++ ((end, commands.End) ∷ after)))

-- a text: that of a run of the lines before the block, the block's from where these left the machine, and the rest
pub record IsRoundBlock (pool : ℕ) (published : List Generation) (before inner after : List Line) (text : Text) : Type 0 where
  pub stand : Stand
  pub course : Course
  pub rest : Text
  pub parts : text ≡ text_from (start pool) before ++ (phase_text published stand (block inner) course ++ rest)
  pub begins : state_at_stand pool stand ≡ state_after (start pool) before
  pub phase : IsPhase published stand (block inner) course
  -- where each actor of the block got what the record has, the rest is that of a run of the lines after it, from where it
  -- left the machine
  pub ends : course.differs ≡ None → rest ≡ text_from (state_at_stand pool (stand_after published stand (block inner) course)) after

-- so it is of every text of a race that was read, with a block that has lines
abbrev pub OutsideIsRun : Type 0
OutsideIsRun = (source : Text) (before inner after : List Line) (first : Line) (par end : ℕ) (xs : List HistoryEntry) (text : Text) →
    let lines = with_block before par (first ∷ inner) end after in
    script_of source ≡ Ok lines → AreLines before → AreLines (first ∷ inner) → AreLines after → IsTextOfRace lines xs text →
    IsRoundBlock (pool_words lines) (generations_published xs) before (first ∷ inner) after text
