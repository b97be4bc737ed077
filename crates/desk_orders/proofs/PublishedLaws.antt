-- What a turn that publishes leaves: the next number is current, and its generation has the forest that was published.
use Rattle.std.proofs.Common.{◌≡◌, ℕ, ◌+◌, ◌-◌, eqb, Bool, true, false, List, [], ◌∷◌, ◌++◌, map, drop, Some, None, Option, Result, Err}
use Rattle.std.proofs.Common.{refl, sym, subst, ◌∙◌, not, if◌then◌else◌, ◌&&◌}
use Rattle.std.specs.Prelude.{is_ok}
use Rattle.std.proofs.lemmas.Bool.{eqb-true, not-true, and_parts}
use Rattle.mem_base.specs.map.PassIds.{PassId}
use Rattle.mem_base.specs.declared.map.forests.Forest.{Forest}
use Rattle.mem_base.specs.declared.map.calls.Call.{Call}
use Rattle.mem_base.specs.declared.map.calls.Applied.{Applied}
use Rattle.mem_base.specs.declared.map.calls.Applied.TheVariants.{Done}
use Rattle.mem_base.specs.declared.map.calls.Config.{Config}
use Rattle.mem_base.specs.declared.map.calls.Config.TheVariants as configs
use Rattle.mem_base.specs.declared.map.refusals.Refusal.{Refusal}
use Rattle.mem_base.specs.declared.map.refusals.Refusal.TheVariants as refusals
use Rattle.mem_base.specs.declared.machine.events.Event.TheVariants as events
use Rattle.mem_base.specs.declared.machine.records.DeskAnswer.{DeskAnswer}
use Rattle.mem_base.specs.declared.machine.records.DeskAnswer.TheVariants as answers
use Rattle.mem_base.specs.declared.machine.records.DeskOrder.TheVariants as orders
use Rattle.mem_base.specs.map.Calls.{after, answer_of, counted, is_quiet, refusal_of}
use Rattle.mem_base.specs.map.Changes.{changed}
use Rattle.mem_base.specs.map.Refusals.{or_refused}
use Rattle.mem_base.specs.machine.Answers.{answer_with, call_answer, commit_answer, first_or_zero, number_due}
use Rattle.mem_base.specs.machine.Configs.{after_call, configured, kept_back, writer_after}
use Rattle.mem_base.specs.machine.Desk.{Desk, carried_by, unswept}
use Rattle.mem_base.specs.machine.Generations.{Generations}
use Rattle.mem_base.specs.machine.Orders.{configure, events_before, pass_ids, publishes, sweeps}
use Rattle.mem_base.specs.machine.Publishing.{Settled, current_forest, held_up, publishing, readied, refused_desk, settled, unless_refused, would_publish}
use Rattle.mem_base.specs.machine.Reaps.{Writer, writer}
use Rattle.mem_base.specs.machine.Records.{told}
use Rattle.mem_base.specs.machine.Turns.{played}
use Rattle.desk_orders.specs.Given.{turn_of}

-- Sweeps leave the desk, but for which passes were swept, and the current number
pub record IsSwept (w u : Writer) : Type 0 where
  pub desk : u.desk ≡ record w.desk { swept = u.desk.swept }
  pub current : u.generations.current ≡ w.generations.current

pub sweeps_keep : (ps : List PassId) (w : Writer) (ns : List ℕ) → IsSwept w (played w (map (λ pass. events.Sweep pass) ps) ns).writer
sweeps_keep [] w ns = record { desk = refl; current = refl }
sweeps_keep (p ∷ ps) w ns =
    let h = sweeps_keep ps (writer_after w (events.Sweep p) (carried_by w.desk (events.Sweep p)) (first_or_zero ns)) (drop 1 ns) in record {
      desk = h.desk;
      current = h.current;
    }

-- a publish makes the next number current, with the desk's forest
pub record IsPublished (current : ℕ) (f : Forest) (v : Writer) : Type 0 where
  pub next : v.generations.current ≡ current + 1
  pub forest : current_forest v.generations ≡ f

places_publish : (ps : List PassId) (w : Writer) (ns : List ℕ)
    → IsPublished w.generations.current w.desk.forest (played w (map (λ pass. events.Place pass) ps ++ events.Publish ∷ []) ns).writer
places_publish [] w ns = record { next = refl; forest = refl }
places_publish (p ∷ ps) w ns =
    let h = places_publish ps (writer_after w (events.Place p) (carried_by w.desk (events.Place p)) (first_or_zero ns)) (drop 1 ns) in record {
      next = h.next;
      forest = h.forest;
    }

-- the writer's part when a private event has left this
abbrev after_settled : Writer → Settled → Writer
after_settled u s = writer (unswept s.desk) u.generations

abbrev ends_settled : Writer → List ℕ → Settled → Writer
ends_settled u left s =
    let m = after_settled u s in (played m (if m.desk.due then publishes m.generations else map (λ c. events.Fill c) m.desk.unfilled) left).writer

-- a publish that is not held up
publishing_ends : (u : Writer) (left : List ℕ) (d : Desk) (f : Forest) (a : Applied) (o : Option Refusal) (P : Result Applied Refusal → Type 0)
    → ((why : Refusal) → P (Err why) → ⊥) → P (unless_refused o d (settled (readied u.generations d f) a)).answer
    → IsPublished u.generations.current f (ends_settled u left (unless_refused o d (settled (readied u.generations d f) a)))
publishing_ends u left d f a None P never h =
    let m : Writer = after_settled u (settled (readied u.generations d f) a) in
    let k = places_publish (pass_ids m.generations) m left in record { next = k.next; forest = k.forest }
publishing_ends u left d f a (Some why) P never h = absurd (never why h)

-- a call that would publish is a change that the forest accepts, outside all transactions
pub record IsLoud (d : Desk) (call : Call) : Type 0 where
  pub outside : eqb d.depth 0 ≡ true
  pub loud : is_quiet call ≡ false
  pub accepted : refusal_of d.forest call ≡ None

ok_accepted : (o : Option Refusal) (f : Forest) → is_ok (or_refused o f) ≡ true → o ≡ None
ok_accepted None f e = refl
ok_accepted (Some why) f e = cc

pub is_loud : (d : Desk) (call : Call) → would_publish d (configs.Call call) ≡ true → IsLoud d call
is_loud d call e =
    let one = and_parts (eqb d.depth 0) (not (is_quiet call) && is_ok (after d.forest call)) e in
    let two = and_parts (not (is_quiet call)) (is_ok (after d.forest call)) one.1 in record {
      outside = one.0;
      loud = not-true (is_quiet call) two.0;
      accepted = ok_accepted (refusal_of d.forest call) (counted (changed d.forest call)) two.1;
    }

-- what it leaves then
call_settles : (g : Generations) (d : Desk) (call : Call) → IsLoud d call
    → configured g d (configs.Call call) ≡ publishing g d (counted (changed d.forest call)) (answer_of d.forest call)
call_settles g d call h =
    let f : Forest = counted (changed d.forest call) in
    (λ i. after_call g d call (or_refused (h.accepted i) f))
    ∙ (λ i. if h.outside i && not (h.loud i) then publishing g d f (answer_of d.forest call) else kept_back d call f)

commit_settles : (g : Generations) (d : Desk) → would_publish d configs.Commit ≡ true → configured g d configs.Commit ≡ publishing g d d.forest Done
commit_settles g d e =
    let both = and_parts (eqb d.depth 1) d.pending e in
    let one : d.depth ≡ 1 = eqb-true d.depth 1 both.0 in
    (λ i. if eqb (one i) 0 then refused_desk d refusals.NoTransaction
    else if e i then publishing g d d.forest Done else settled (record d { depth = d.depth - 1 }) Done)

-- the part in which the private event comes, where it would publish
swept_part : (w : Writer) (k : Config) (ns : List ℕ) → would_publish w.desk k ≡ true
    → IsSwept w (played w (events_before w (configure k)) ns).writer
swept_part w k ns e =
    subst (λ (b : Bool). IsSwept w (played w (if b then sweeps w.generations else []) ns).writer) (sym e) (sweeps_keep (pass_ids w.generations) w ns)

-- an answer that tells a number is no refusal

abbrev TellsCall : DeskAnswer → Option ℕ → Result Applied Refusal → Type 0
TellsCall x due r = x ≡ told (call_answer (answer_with (λ a. (a, due)) r))

abbrev TellsCommit : DeskAnswer → Option ℕ → Result Applied Refusal → Type 0
TellsCommit x due r = x ≡ told (commit_answer (answer_with (λ a. due) r))

no_call : (applied : Applied) (number : ℕ) (due : Option ℕ) (why : Refusal) → TellsCall (answers.Called applied (Some number)) due (Err why) → ⊥
no_call applied number due why e = cc

no_commit : (number : ℕ) (due : Option ℕ) (why : Refusal) → TellsCommit (answers.Committed (Some number)) due (Err why) → ⊥
no_commit number due why e = cc

-- a call that answered a number published the forest that it makes
pub call_published : (w : Writer) (call : Call) (ns : List ℕ) (applied : Applied) (number : ℕ) → would_publish w.desk (configs.Call call) ≡ true
    → answers.Called applied (Some number) ≡ told (turn_of w (orders.Call call) ns).answer
    → IsPublished w.generations.current (counted (changed w.desk.forest call)) (turn_of w (orders.Call call) ns).writer
call_published w call ns applied number e answer =
    let before = played w (events_before w (configure (configs.Call call))) ns in
    let u : Writer = before.writer in
    let left : List ℕ = before.replies in
    let k = swept_part w (configs.Call call) ns e in
    let d : Desk = record w.desk { swept = u.desk.swept } in
    let f : Forest = counted (changed w.desk.forest call) in
    let x : DeskAnswer = answers.Called applied (Some number) in
    let settles : configured u.generations u.desk (configs.Call call) ≡ publishing u.generations d f (answer_of w.desk.forest call) =
    (λ i. configured u.generations (k.desk i) (configs.Call call)) ∙ call_settles u.generations d call (is_loud d call e) in
    let M : Settled → Type 0 = λ s. TellsCall x (number_due (after_settled u s)) s.answer → IsPublished u.generations.current f (ends_settled u left s) in
    let go : M (publishing u.generations d f (answer_of w.desk.forest call)) =
    λ h. publishing_ends u left d f (answer_of w.desk.forest call) (held_up u.generations)
    (TellsCall x (number_due (after_settled u (publishing u.generations d f (answer_of w.desk.forest call)))))
    (λ why. no_call applied number (number_due (after_settled u (publishing u.generations d f (answer_of w.desk.forest call)))) why) h in
    let at : IsPublished u.generations.current f (turn_of w (orders.Call call) ns).writer = subst M (sym settles) go answer in
    subst (λ (n : ℕ). IsPublished n f (turn_of w (orders.Call call) ns).writer) k.current at

-- and so did a commit publish the desk's
pub commit_published : (w : Writer) (ns : List ℕ) (number : ℕ) → would_publish w.desk configs.Commit ≡ true
    → answers.Committed (Some number) ≡ told (turn_of w orders.Commit ns).answer
    → IsPublished w.generations.current w.desk.forest (turn_of w orders.Commit ns).writer
commit_published w ns number e answer =
    let before = played w (events_before w (configure configs.Commit)) ns in
    let u : Writer = before.writer in
    let left : List ℕ = before.replies in
    let k = swept_part w configs.Commit ns e in
    let d : Desk = record w.desk { swept = u.desk.swept } in
    let f : Forest = w.desk.forest in
    let x : DeskAnswer = answers.Committed (Some number) in
    let settles : configured u.generations u.desk configs.Commit ≡ publishing u.generations d f Done =
    (λ i. configured u.generations (k.desk i) configs.Commit) ∙ commit_settles u.generations d e in
    let M : Settled → Type 0 = λ s. TellsCommit x (number_due (after_settled u s)) s.answer → IsPublished u.generations.current f (ends_settled u left s) in
    let go : M (publishing u.generations d f Done) =
    λ h. publishing_ends u left d f Done (held_up u.generations)
    (TellsCommit x (number_due (after_settled u (publishing u.generations d f Done))))
    (λ why. no_commit number (number_due (after_settled u (publishing u.generations d f Done))) why) h in
    let at : IsPublished u.generations.current f (turn_of w orders.Commit ns).writer = subst M (sym settles) go answer in
    subst (λ (n : ℕ). IsPublished n f (turn_of w orders.Commit ns).writer) k.current at
