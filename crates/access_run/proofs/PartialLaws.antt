-- Laws of steps that replace a part of a word, by the events that they make.
use Rattle.std.proofs.Common.{◌≡◌, ◌||◌, List, [], ◌∷◌, refl, ap}
use Rattle.std.specs.Prelude.{nat_lt}
use Rattle.std.specs.List.{list_any}
use Rattle.mem_base.specs.map.PassIds.{PassId}
use Rattle.mem_base.specs.declared.access.cells.WordStep.{WordStep}
use Rattle.mem_base.specs.declared.access.cells.WordStep.TheVariants.{Load, Replace, AddOne, Or, Take}
use Rattle.mem_base.specs.access.AccessSteps.{AccessStep, blank, steps, marks, events_of_steps, has_partial}
use Rattle.access_run.specs.Partial.{is_partial_event}
use Rattle.access_run.specs.Runs.{TakesAll}

-- the events tell of it just where the steps do
pub partial_events : (p : PassId) (ds : List AccessStep) → list_any is_partial_event (events_of_steps p ds) ≡ has_partial ds
partial_events p [] = refl
partial_events p (blank n result ∷ ds) = partial_events p ds
partial_events p (steps cell (Replace first bytes value) x ∷ ds) = ap (λ b. nat_lt bytes 8 || b) (partial_events p ds)
partial_events p (steps cell Load x ∷ ds) = partial_events p ds
partial_events p (steps cell AddOne x ∷ ds) = partial_events p ds
partial_events p (steps cell (Or bits) x ∷ ds) = partial_events p ds
partial_events p (steps cell Take x ∷ ds) = partial_events p ds
partial_events p (marks region client page ∷ ds) = partial_events p ds

-- one that takes every step takes all of a list
pub takes_any : (takes : WordStep → Type 0) → ((step : WordStep) → takes step) → (ds : List AccessStep) → TakesAll takes ds
takes_any takes any [] = tt
takes_any takes any (blank n result ∷ ds) = (tt, takes_any takes any ds)
takes_any takes any (steps cell step x ∷ ds) = (any step, takes_any takes any ds)
takes_any takes any (marks region client page ∷ ds) = (tt, takes_any takes any ds)
