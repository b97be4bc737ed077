-- What a call on a handle is, from what the machine's own call says.
use Rattle.std.proofs.Common.{◌≡◌, ◌≢◌, ◌∙◌, ℕ, List, ap, sym, subst, refl, Some, Ok, Err}
use Rattle.std.specs.Prelude.{◌==◌, not, T, Option, Result, Vec}
use Rattle.std.specs.declared.alloc.Global.{Global}
use Rattle.mem_base.specs.declared.map.calls.Applied.{Applied}
use Rattle.mem_base.specs.declared.map.calls.Applied.TheVariants.{Made, Done}
use Rattle.mem_base.specs.declared.map.refusals.Refusal.{Refusal}
use Rattle.mem_base.specs.declared.map.refusals.Refusal.TheVariants as refusal
use Rattle.mem_base.specs.machine.World.{World}
use Rattle.mem_base.specs.machine.Orders.{Order}
use Rattle.mem_base.specs.machine.Answers as machine
use Rattle.mem_base.specs.machine.Answers.{answer_with}
use Rattle.mem_base.specs.machine.History.{IsLegalFrom}
use Rattle.mem_base.specs.machine.Completions.{IsCompleted}
use Rattle.mem_base.specs.machine.Composites.{completed}
use Rattle.libvobrekan.specs.declared.answers.Answer.{Answer}
use Rattle.libvobrekan.specs.Answers.{answer_told, call_told, code_memory, commit_told, list_told, plain_told, refusal_told}
use Rattle.libvobrekan.specs.Asked.{Asked, Did, IsAsked, IsDone}
use Rattle.libvobrekan.specs.Buffers.{HasPut}

-- another code is not that of a want of memory
pub other : (code : ℕ) → T (not (code == 21)) → code ≡ code_memory → ⊥
other code differs e = subst (λ n. T (not (n == 21))) e differs

pub refusal_memory : (why : Refusal) → (refusal_told why).code ≡ code_memory → why ≡ refusal.Memory
refusal_memory (refusal.Unknown w) e = absurd (other 1 tt e)
refusal_memory (refusal.NameTaken w) e = absurd (other 2 tt e)
refusal_memory (refusal.HasContainer region) e = absurd (other 3 tt e)
refusal_memory (refusal.NotChild region) e = absurd (other 4 tt e)
refusal_memory (refusal.AliasParent region) e = absurd (other 5 tt e)
refusal_memory (refusal.Loop region) e = absurd (other 6 tt e)
refusal_memory (refusal.TooDeep depth) e = absurd (other 7 tt e)
refusal_memory (refusal.TooWide weight) e = absurd (other 8 tt e)
refusal_memory refusal.BadSize e = absurd (other 9 tt e)
refusal_memory refusal.BadOps e = absurd (other 10 tt e)
refusal_memory (refusal.WrongKind region) e = absurd (other 11 tt e)
refusal_memory refusal.NoTransaction e = absurd (other 12 tt e)
refusal_memory refusal.TooNested e = absurd (other 13 tt e)
refusal_memory (refusal.InUse u) e = absurd (other 14 tt e)
refusal_memory (refusal.PageOverlap iova) e = absurd (other 15 tt e)
refusal_memory refusal.BadPage e = absurd (other 16 tt e)
refusal_memory (refusal.LimitReached w limit) e = absurd (other 17 tt e)
refusal_memory (refusal.NoBacking words) e = absurd (other 18 tt e)
refusal_memory (refusal.Held pass generation) e = absurd (other 19 tt e)
refusal_memory refusal.EventTaken e = absurd (other 20 tt e)
refusal_memory refusal.Memory e = refl

pub call_memory : (r : Result (Applied × Option ℕ) Refusal) → (call_told r).code ≡ code_memory → r ≡ Err refusal.Memory
call_memory (Ok (Made region, number)) e = absurd (other 0 tt e)
call_memory (Ok (Done, number)) e = absurd (other 0 tt e)
call_memory (Err why) e = ap Err (refusal_memory why e)

pub commit_memory : (r : Result (Option ℕ) Refusal) → (commit_told r).code ≡ code_memory → r ≡ Err refusal.Memory
commit_memory (Ok number) e = absurd (other 0 tt e)
commit_memory (Err why) e = ap Err (refusal_memory why e)

pub plain_memory : (r : Result (Unit {0}) Refusal) → (plain_told r).code ≡ code_memory → r ≡ Err refusal.Memory
plain_memory (Ok done) e = absurd (other 0 tt e)
plain_memory (Err why) e = ap Err (refusal_memory why e)

-- by an answer of the machine's, which is told as these numbers, and what the machine's call says of it
pub asked : {R : Type 0} (tell : R → Answer) (wrap : R → machine.Answer) (memory r : R) (w v : World) (k : Order)
    → tell r ≡ answer_told (wrap r) → (tell memory).code ≡ code_memory → ((tell r).code ≡ code_memory → r ≡ memory)
    → (r ≢ memory → IsCompleted w k (wrap r) v) → IsLegalFrom w (completed w k).entries → (r ≡ memory → v ≡ w) → v.passes ≡ w.passes
    → Asked w k (tell r) (Some v)
asked tell wrap memory r w v k same is_memory only is_completed legal unchanged passes =
    let ran : ((tell r).code ≡ code_memory → ⊥) → IsCompleted w k (wrap r) v = λ some. is_completed (λ e. some (ap (λ x. (tell x).code) e ∙ is_memory)) in
    record {
      answer_is = λ some. same ∙ ap answer_told (ran some).answer_is;
      world = λ some. ap Some (ran some).world;
      legal = legal;
      unchanged = λ e. ap Some (unchanged (only e));
      passes = passes;
    }

-- of a call
pub asked_call : (w v : World) (k : Order) (r : Result (Applied × Option ℕ) Refusal)
    → (r ≢ Err refusal.Memory → IsCompleted w k (machine.call_answer r) v) → IsLegalFrom w (completed w k).entries
    → (r ≡ Err refusal.Memory → v ≡ w) → v.passes ≡ w.passes
    → Asked w k (call_told r) (Some v)
asked_call w v k r = asked call_told machine.call_answer (Err refusal.Memory) r w v k refl refl (call_memory r)

-- the machine that a handle had was asked, and is in the handle again
pub on_handle : (before : Option World) (w v : World) (k : Order) (answer told : Answer) (after : Option World)
    → Some w ≡ before → told ≡ answer → after ≡ Some v → Asked w k answer (Some v) → IsAsked before k told after
on_handle before w v k answer told after had is put asked =
    subst (λ b. IsAsked b k told after) had (subst (λ a. Asked w k a after) (sym is) (subst (λ m. Asked w k answer m) (sym put) asked))

-- of a commit, and of a call that answers nothing else
pub asked_commit : (w v : World) (k : Order) (r : Result (Option ℕ) Refusal)
    → (r ≢ Err refusal.Memory → IsCompleted w k (machine.commit_answer r) v) → IsLegalFrom w (completed w k).entries
    → (r ≡ Err refusal.Memory → v ≡ w) → v.passes ≡ w.passes
    → Asked w k (commit_told r) (Some v)
asked_commit w v k r = asked commit_told machine.commit_answer (Err refusal.Memory) r w v k refl refl (commit_memory r)

pub asked_plain : (w v : World) (k : Order) (r : Result (Unit {0}) Refusal)
    → (r ≢ Err refusal.Memory → IsCompleted w k (machine.plain_answer r) v) → IsLegalFrom w (completed w k).entries
    → (r ≡ Err refusal.Memory → v ≡ w) → v.passes ≡ w.passes
    → Asked w k (plain_told r) (Some v)
asked_plain w v k r = asked plain_told machine.plain_answer (Err refusal.Memory) r w v k refl refl (plain_memory r)

-- of a call that takes no memory
pub did : (w v : World) (k : Order) (defined : machine.Answer) (told : Answer) → told ≡ answer_told defined → IsCompleted w k defined v
    → IsLegalFrom w (completed w k).entries → Did w k told (Some v)
did w v k defined told same is legal = record {
  answer_is = same ∙ ap answer_told is.answer_is;
  world = ap Some is.world;
  legal = legal;
  passes = is.passes;
}

-- the machine that a handle had was asked so, and is in the handle again
pub done_on_handle : (before : Option World) (w v : World) (k : Order) (answer told : Answer) (after : Option World)
    → Some w ≡ before → told ≡ answer → after ≡ Some v → Did w k answer (Some v) → IsDone before k told after
done_on_handle before w v k answer told after had is put asked =
    subst (λ b. IsDone b k told after) had (subst (λ a. Did w k a after) (sym is) (subst (λ m. Did w k answer m) (sym put) asked))

-- Of a call that answers a list: a reap, a harvest

abbrev pub items : {X : Type 0} → Result (Vec X Global) Refusal → Result (List X) Refusal
items r = answer_with (λ v. v.items) r

pub vec_memory : {X : Type 0} (r : Result (Vec X Global) Refusal) → (list_told (items r)).code ≡ code_memory → r ≡ Err refusal.Memory
vec_memory (Ok v) e = absurd (other 0 tt e)
vec_memory (Err why) e = ap Err (refusal_memory why e)

pub asked_list : {X : Type 0} (wrap : Result (List X) Refusal → machine.Answer) (w v : World) (k : Order) (r : Result (Vec X Global) Refusal)
    → list_told (items r) ≡ answer_told (wrap (items r))
    → (r ≢ Err refusal.Memory → IsCompleted w k (wrap (items r)) v) → IsLegalFrom w (completed w k).entries
    → (r ≡ Err refusal.Memory → v ≡ w) → v.passes ≡ w.passes
    → Asked w k (list_told (items r)) (Some v)
asked_list wrap w v k r same = asked (λ x. list_told (items x)) (λ x. wrap (items x)) (Err refusal.Memory) r w v k same refl (vec_memory r)

-- its list is put into a buffer, which is left alone where memory ran out
pub put_list : {X A : Type 0} (wrap : Result (List X) Refusal → machine.Answer) (put : machine.Answer → List A → List A) (w v : World) (k : Order)
    (r : Result (Vec X Global) Refusal) (before out : List A) → put (wrap (Err refusal.Memory)) before ≡ before
    → (r ≢ Err refusal.Memory → IsCompleted w k (wrap (items r)) v) → out ≡ put (wrap (items r)) before
    → HasPut (Some w) k put (list_told (items r)) before out
put_list wrap put w v k r before out none is_completed e = (
  (λ some. e ∙ ap (λ a. put a before) (is_completed (λ m. some (ap (λ x. (list_told (items x)).code) m))).answer_is),
  (λ m. e ∙ ap (λ x. put (wrap (items x)) before) (vec_memory r m) ∙ none),
)

pub put_on_handle : {A : Type 0} (before : Option World) (w : World) (k : Order) (put : machine.Answer → List A → List A) (answer told : Answer)
    (places out : List A) → Some w ≡ before → told ≡ answer → HasPut (Some w) k put answer places out → HasPut before k put told places out
put_on_handle before w k put answer told places out had is has =
    subst (λ b. HasPut b k put told places out) had (subst (λ a. HasPut (Some w) k put a places out) (sym is) has)
