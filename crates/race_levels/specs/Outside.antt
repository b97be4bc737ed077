-- What a phase does to the race so far, on the running machine.
use Rattle.std.specs.Prelude.{◌≡◌, ℕ, ◌+◌, List, [], ◌∷◌, ◌++◌}
use Rattle.mem_base.specs.map.Limits.{most_passes, notifier_count}
use Rattle.mem_base.specs.script.Spelling.{Text}
use Rattle.mem_base.specs.script.Scripts.{Line}
use Rattle.mem_base.specs.script.Run.{pool_words}
use Rattle.mem_base.specs.script.Tasks.{Known}
use Rattle.mem_base.specs.script.Race.{Phase, Stand, phases_of}
use Rattle.epoch_rule.specs.declared.views.Sizes.{Sizes}
use Rattle.run_laws.specs.Fitting.{AreFitting}
use Rattle.race_laws.specs.SoFar.{IsRaceSoFar}
use Rattle.race_laws.specs.Stopped.{GoesOn}
use Rattle.desk_orders.specs.Records.{RecordState}

-- what stands where this is known and the record is this
abbrev pub stand_of : Known → RecordState → Stand
stand_of k r = record { known = k; seen = r.seat.seen; writer = r.part }

-- the machine of a script with this pool
abbrev pub sizes_of : ℕ → Sizes
sizes_of pool = record { passes = most_passes; words = pool + notifier_count }

-- the race so far takes this phase, and this is known and written after it
abbrev pub StepsOn : RecordState → Known → Phase → RecordState → Known → Text → Type 0
StepsOn v k phase w next written = (pool : ℕ) (done : List Phase) (text : Text) → v.seat.sizes ≡ sizes_of pool → IsRaceSoFar pool done (stand_of k v) text
    → IsRaceSoFar pool (done ++ phase ∷ []) (stand_of next w) (text ++ written)

-- the same, where its text was put after what had been written
pub record WritesOn (v : RecordState) (k : Known) (phase : Phase) (w : RecordState) (next : Known) (before after : Text) : Type 0 where
  pub written : Text
  pub text : after ≡ before ++ written
  pub steps : StepsOn v k phase w next written

-- The race stopped in this phase, or after it with its text lost, and could have gone on: for each script that has the phase next,
-- there is a history that begins with what was seen then, and its text begins with the text before the phase
abbrev pub StopsIn : RecordState → Known → Phase → RecordState → Type 0
StopsIn v k phase w = (lines : List Line) (done left : List Phase) (text : Text) → v.seat.sizes ≡ sizes_of (pool_words lines) → AreFitting lines
    → phases_of lines ≡ done ++ phase ∷ left → IsRaceSoFar (pool_words lines) done (stand_of k v) text → GoesOn lines w.seat.seen text
