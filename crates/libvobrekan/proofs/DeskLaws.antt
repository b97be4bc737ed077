-- What a call on a desk's handle is, from what the desk's own call says.
use Rattle.std.proofs.Common.{◌≡◌, ◌≢◌, ◌∙◌, ℕ, List, Some, Ok, Err, refl, ap, subst, sym}
use Rattle.std.specs.Prelude.{Option, Result}
use Rattle.mem_base.specs.declared.map.calls.Applied.{Applied}
use Rattle.mem_base.specs.declared.map.calls.Applied.TheVariants.{Made, Done}
use Rattle.mem_base.specs.declared.map.calls.Config.{Config}
use Rattle.mem_base.specs.declared.map.calls.Config.TheVariants as configs
use Rattle.mem_base.specs.declared.map.refusals.Refusal.{Refusal}
use Rattle.mem_base.specs.declared.map.refusals.Refusal.TheVariants as refusal
use Rattle.mem_base.specs.machine.Orders.{Order}
use Rattle.mem_base.specs.machine.Answers as machine
use Rattle.writer_run.specs.Turns.{answer_by}
use Rattle.config_desk.specs.Configs.{ConfigState, IsTurnOf}
use Rattle.libvobrekan.specs.declared.answers.Answer.{Answer}
use Rattle.libvobrekan.specs.Answers.{answer_told, code_memory}
use Rattle.libvobrekan.specs.Desks.{TurnedInto}
use Rattle.libvobrekan.proofs.AskedLaws.{other, refusal_memory}

-- by an answer of the desk's, which is told as these numbers, and put into a buffer
pub turned : {R A : Type 0} (tell : R → Answer) (wrap : R → machine.Answer) (put : machine.Answer → List A → List A) (memory r : R) (c d : ConfigState)
    (k : Order) (before out : List A) → tell r ≡ answer_told (wrap r) → (tell memory).code ≡ code_memory
    → ((tell r).code ≡ code_memory → r ≡ memory) → put (wrap memory) before ≡ before
    → (r ≢ memory → IsTurnOf c k (wrap r) d) → (r ≡ memory → d ≡ c) → out ≡ put (wrap r) before
    → TurnedInto (Some c) k put (tell r) before out (Some d)
turned tell wrap put memory r c d k before out same is_memory only none turn unchanged e = (
  (λ some. record {
    answer = wrap r;
    state = d;
    is = λ i. Some d;
    told_is = same;
    put_is = e;
    turn = turn (λ m. some (ap (λ x. (tell x).code) m ∙ is_memory));
  }),
  (λ m. (ap Some (unchanged (only m)), e ∙ ap (λ x. put (wrap x) before) (only m) ∙ none)),
)

-- the desk that a handle had was asked, and is in the handle again
pub turned_on_handle : {A : Type 0} (before : Option ConfigState) (c d : ConfigState) (k : Order) (put : machine.Answer → List A → List A)
    (answer told : Answer) (places out : List A) (after : Option ConfigState) → Some c ≡ before → told ≡ answer → after ≡ Some d
    → TurnedInto (Some c) k put answer places out (Some d) → TurnedInto before k put told places out after
turned_on_handle before c d k put answer told places out after had is there turned =
    subst (λ b. TurnedInto b k put told places out after) had
    (subst (λ a. TurnedInto (Some c) k put a places out after) (sym is)
    (subst (λ x. TurnedInto (Some c) k put answer places out x) (sym there) turned))

-- The answer of a private event tells that memory ran out just where it did

pub memory_told : (event : Config) → (answer_told (answer_by event (Err refusal.Memory))).code ≡ code_memory
memory_told configs.Begin = refl
memory_told _ = refl

pub told_memory : (event : Config) (r : Result (Applied × Option ℕ) Refusal) → (answer_told (answer_by event r)).code ≡ code_memory
    → r ≡ Err refusal.Memory
told_memory (configs.Call call) (Ok (Made region, number)) e = absurd (other 0 tt e)
told_memory (configs.Call call) (Ok (Done, number)) e = absurd (other 0 tt e)
told_memory (configs.Call call) (Err why) e = ap Err (refusal_memory why e)
told_memory configs.Begin (Ok x) e = absurd (other 0 tt e)
told_memory configs.Begin (Err why) e = ap Err (refusal_memory why e)
told_memory configs.Commit (Ok x) e = absurd (other 0 tt e)
told_memory configs.Commit (Err why) e = ap Err (refusal_memory why e)
told_memory (configs.Listen listener space priority) (Ok x) e = absurd (other 0 tt e)
told_memory (configs.Listen listener space priority) (Err why) e = ap Err (refusal_memory why e)
told_memory (configs.Unlisten listener) (Ok x) e = absurd (other 0 tt e)
told_memory (configs.Unlisten listener) (Err why) e = ap Err (refusal_memory why e)
