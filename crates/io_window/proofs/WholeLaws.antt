-- A window that is moved whole is the defined access.
use Rattle.std.proofs.Common.{◌≡◌, ℕ, Bool, true, List, [], ◌++◌}
use Rattle.std.proofs.Common.{refl, sym, ap, subst, ◌∙◌, if◌then◌else◌, append-nil}
use Rattle.std.specs.Prelude.{min}
use Rattle.mem_base.specs.declared.map.ids.SpaceId.{SpaceId}
use Rattle.mem_base.specs.declared.map.forests.Forest.{Forest}
use Rattle.mem_base.specs.declared.access.accesses.TxResult.{TxResult}
use Rattle.mem_base.specs.access.AccessSteps.{Transfer, AccessStep, result_of}
use Rattle.mem_base.specs.access.Access.{access}
use Rattle.mem_base.specs.machine.Passes.{pass_id}
use Rattle.generation.specs.Published.{Published}
use Rattle.epoch_rule.specs.Values.{PassValue}
use Rattle.access_run.proofs.HandLaws.{done_then}
use Rattle.vcpu_pass.specs.Steps.{HasMade, generation_shown, generation_in}
use Rattle.vcpu_pass.specs.StepLaws.{made_none}
use Rattle.vcpu_pass.specs.Around.{HasBegun, HasEnded}
use Rattle.vcpu_pass.specs.Calls.{is_entered, HasAccessed}
use Rattle.vcpu_pass.proofs.CallLaws.{accessed}
use Rattle.mem_base.specs.declared.access.accesses.WindowStart.{WindowStart}
use Rattle.mem_base.specs.access.Windows.{is_direct, chunk_length, window_length}
use Rattle.io_window.specs.Calls.{Does}
use Rattle.io_window.specs.Whole.{access_answer, HasRun}
use Rattle.vcpu_pass.proofs.LoadLaws.{hand_laws}

-- some steps and others after them
pub does_then : (x y z : PassValue Published) (ds es : List AccessStep) (bs cs : List ℕ) → Does x ds bs y → Does y es cs z → Does x (ds ++ es) (bs ++ cs) z
does_then x y z ds es bs cs h k = done_then HasMade (λ v. pass_id v.number) generation_in hand_laws x y z ds es bs cs h k

pub does_nothing : (x : PassValue Published) → Does x [] [] x
does_nothing x = record { replies = []; made = made_none x; each = refl; read = refl }

-- and nothing after them
pub then_nothing : (x y z : PassValue Published) (ds : List AccessStep) (bs : List ℕ) → Does x ds bs y → Does y [] [] z → Does x ds bs z
then_nothing x y z ds bs h k =
    subst (λ (q : List AccessStep × List ℕ). Does x q.0 q.1 z) (λ i. (append-nil ds i, append-nil bs i)) (does_then x y z ds [] bs [] h k)

-- a pass that does something stays in its generation
pub same_generation : (x y : PassValue Published) (ds : List AccessStep) (bs : List ℕ) → Does x ds bs y → generation_in y ≡ generation_in x
same_generation x y ds bs h = ap generation_shown h.made.edition

-- an access between what comes before it and what comes after
pub around_access : (v looked last y : PassValue Published) (stays : Bool) (space : SpaceId) (addr number : ℕ) (t : Transfer)
    (result : TxResult) (bytes : List ℕ)
    (f : Forest) → HasBegun (is_entered v) v looked → stays ≡ is_entered v → f ≡ (generation_in looked).forest
    → Does looked (access f space addr t) bytes last → result ≡ result_of (access f space addr t) → HasEnded stays last number y
    → HasAccessed v space addr t (access_answer result number) bytes y
around_access v looked last y stays space addr number t result bytes f begun same here done ends ended =
    accessed (is_entered v) v looked last y space addr t number result bytes begun
    (ends ∙ ap (λ (z : Forest). result_of (access z space addr t)) here)
    (subst (λ (z : Forest). Does looked (access z space addr t) bytes last) here done)
    (subst (λ (b : Bool). HasEnded b last number y) same ended)

-- where a window that is direct, or is not, has its length
pub direct_length : (f : Forest) (s : WindowStart) (asked room len : ℕ) (b : Bool) → b ≡ is_direct f s → b ≡ true → len ≡ window_length f s asked room
    → len ≡ chunk_length f s asked
direct_length f s asked room len b is e l = l ∙ ap (λ (d : Bool). if d then chunk_length f s asked else min asked room) (sym is ∙ e)

-- what was done of an access whole, how it ended, and in which generation
pub record IsWhole (looked : PassValue Published) (f : Forest) (space : SpaceId) (addr : ℕ) (t : Transfer) (bytes : List ℕ) (last : PassValue Published)
    (result : TxResult) (was now : ℕ) : Type 0 where
  pub done : Does looked (access f space addr t) bytes last
  pub ends : result ≡ result_of (access f space addr t)
  pub number : now ≡ was

-- the same of a virtual CPU that was entered
pub within_entry : (v looked last y : PassValue Published) (stays : Bool) (space : SpaceId) (addr number : ℕ) (t : Transfer)
    (result : TxResult) (bytes : List ℕ)
    (f : Forest) → is_entered v ≡ true → HasBegun (is_entered v) v looked → stays ≡ is_entered v → f ≡ (generation_in looked).forest
    → Does looked (access f space addr t) bytes last → result ≡ result_of (access f space addr t) → HasEnded stays last number y
    → HasRun v space addr t result bytes y
within_entry v looked last y stays space addr number t result bytes f e begun same here done ends ended =
    let first : looked ≡ v = begun.same e in
    let end : y ≡ last = ended.same (same ∙ e) in
    let forest : f ≡ (generation_in v).forest = here ∙ ap (λ (x : PassValue Published). (generation_in x).forest) first in
    record {
      done = subst (λ (q : PassValue Published × Forest × PassValue Published). Does q.0 (access q.1 space addr t) bytes q.2)
          (λ i. (first i, forest i, sym end i)) done;
      result = ends ∙ ap (λ (z : Forest). result_of (access z space addr t)) forest;
    }
