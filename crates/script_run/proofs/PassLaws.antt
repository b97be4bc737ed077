-- A line of a pass: it enters and leaves, and the writer's part stays as it was, or it asks for a change of the map.
use Rattle.std.proofs.Common.{◌≡◌, ◌<◌, ℕ, zero, suc, Bool, true, false, ◌||◌, List, [], ◌∷◌, ◌++◌, length, drop}
use Rattle.std.proofs.Common.{append_assoc, refl, sym, ap, subst, ◌∙◌, arith, if◌then◌else◌, get_or}
use Rattle.std.specs.Prelude.{is_some, nat_lt, slice_set, unwrap_or}
use Rattle.std.specs.List.{filter_map}
use Rattle.std.proofs.lemmas.List.{append-nil, get_or-set_same, length-set}
use Rattle.std.proofs.lemmas.Bool.Decides.{nat_tests}
use Rattle.mem_base.specs.map.PassIds.{PassId}
use Rattle.mem_base.specs.declared.map.ids.SpaceId.{SpaceId}
use Rattle.mem_base.specs.declared.access.accesses.Access.{Access}
use Rattle.mem_base.specs.declared.machine.events.Event.TheVariants as events
use Rattle.mem_base.specs.declared.machine.events.Hand.TheVariants as hands
use Rattle.mem_base.specs.access.AccessSteps.{AccessStep, Transfer, blank, steps, marks, event_of, events_of_steps, reading, writing}
use Rattle.mem_base.specs.views.Listening.{Delivery}
use Rattle.mem_base.specs.machine.Passes.{PassState, idle, is_pass, pass_of}
use Rattle.mem_base.specs.machine.Reaps.{Writer}
use Rattle.mem_base.specs.machine.World.{World, possible, is_at_rest, world_after}
use Rattle.mem_base.specs.machine.History.{run_events}
use Rattle.mem_base.specs.machine.Composites.{accessed, enters, enters_anew, enters_unless, is_entered, leaves, leaves_unless, steps_in}
use Rattle.mem_base.specs.machine.Completions.{may_access, IsAccessed, KeepsWriter}
use Rattle.mem_base.specs.script.Named.{Names}
use Rattle.mem_base.specs.script.Output.{dma_line, told_lines}
use Rattle.mem_base.specs.script.PassSteps.{copy, entered_number, joined}
use Rattle.mem_base.specs.script.States.{Outcome, State, heard, outcome}
use Rattle.mem_base.specs.declared.machine.records.DeskAnswer.{DeskAnswer}
use Rattle.mem_base.specs.declared.machine.records.DeskOrder.{DeskOrder}
use Rattle.mem_base.specs.script.Spelling.{Text}
use Rattle.mem_base.specs.script.RaceLines.{do_text}
use Rattle.mem_base.specs.script.Tasks.{Known}
use Rattle.run_laws.specs.KnownNames.{IsChangeOrder, KnowsNames}
use Rattle.run_laws.specs.TaskSteps.{known_state, pass_order}
use Rattle.run_laws.proofs.KnowingLaws.{orders_are_known}
use Rattle.script_run.specs.Adding.{Adds, PassAdds}
use Rattle.script_run.specs.Asking.{IsAnswered}
use Rattle.script_run.specs.Standing.{IsReady}
use Rattle.script_run.proofs.DeskLaws.{ready_after}
use Rattle.run_laws.proofs.Lawful.{drop_all}
use Rattle.std.proofs.lemmas.Bool.{and_from, and_parts}
use Rattle.mem_base.proofs.BoolLaws.{true_is_not_false}

-- Entering and leaving

in_range : (ps : List PassState) (n : ℕ) → is_some (get_or ps n idle).entered ≡ true → n < length ps
in_range [] n e = true_is_not_false true refl (sym e)
in_range (p ∷ ps) zero e = omega arith
in_range (p ∷ ps) (suc n) e = let l = in_range ps n e in omega arith

idle_set : (ps : List PassState) (n : ℕ) → get_or (slice_set ps n idle) n idle ≡ idle
idle_set [] n = refl
idle_set (p ∷ ps) zero = refl
idle_set (p ∷ ps) (suc n) = idle_set ps n

less : (n m : ℕ) → n < m → nat_lt n m ≡ true
less n m l = grind (arith, nat_tests)

lesser : (n m : ℕ) → nat_lt n m ≡ true → n < m
lesser n m e = grind (arith, nat_tests)

pub may_leave : (w : World) (pass : PassId) → is_entered w pass ≡ true → possible w (events.Leave pass) ≡ true
may_leave w pass t = and_from (is_pass w.passes pass) (is_entered w pass) (less pass.0 (length w.passes) (in_range w.passes pass.0 t))
    t

pub may_look : (w : World) (pass : PassId) → may_access w pass ≡ true → is_entered w pass ≡ false
    → possible w (events.Look pass) ≡ true
may_look w pass m e = sym (ap (λ (b : Bool). b || possible w (events.Look pass)) e) ∙ m

pub out_after : (w : World) (pass : PassId) → is_entered (run_events w (leaves pass)).world pass ≡ false
out_after w pass = ap (λ (p : PassState). is_some p.entered) (idle_set w.passes pass.0)

inside : (w : World) (pass : PassId) → possible w (events.Look pass) ≡ true
    → pass.0 < length (run_events w (events.Look pass ∷ events.Announce pass ∷ [])).world.passes
inside w pass e =
    let l = lesser pass.0 (length w.passes) (and_parts (is_pass w.passes pass) _ e).0 in
    simp length-set (omega (arith, l))

pub in_after : (w : World) (pass : PassId) → possible w (events.Look pass) ≡ true
    → is_entered (run_events w (enters pass)).world pass ≡ true
in_after w pass e = ap (λ (p : PassState). is_some p.entered) (get_or-set_same _ pass.0 _ idle (inside w pass e))

pub entered_as : (w : World) (pass : PassId) → possible w (events.Look pass) ≡ true
    → entered_number (run_events w (enters pass)).world pass ≡ w.writer.generations.current
entered_as w pass e = ap (λ (p : PassState). unwrap_or p.entered 0) (get_or-set_same _ pass.0 _ idle (inside w pass e))

pub anew : (w : World) (pass : PassId) (b : Bool)
    → (run_events (run_events w (if b then leaves pass else [])).world (enters pass)).world
    ≡ (run_events w (enters_anew b pass)).world
anew w pass true = refl
anew w pass false = refl

-- an access of a pass that is entered leaves the passes as they were
steps_keep : (pass : PassId) (ds : List AccessStep) (w : World)
    → (run_events w (filter_map (event_of pass) ds)).world.passes ≡ w.passes
steps_keep pass [] w = refl
steps_keep pass (blank n result ∷ ds) w = steps_keep pass ds w
steps_keep pass (steps cell step x ∷ ds) w = steps_keep pass ds (world_after w (events.Word (hands.Pass pass) cell step))
steps_keep pass (marks region client page ∷ ds) w = steps_keep pass ds (world_after w (events.Mark pass region client page))

access_by : Bool → World → PassId → SpaceId → ℕ → Transfer → World
access_by b w pass space addr transfer =
    let before = run_events w (enters_unless b pass) in
    let during = run_events before.world (events_of_steps pass (steps_in before.world pass space addr transfer)) in
    (run_events during.world (leaves_unless b pass)).world

pub still_entered : (w v : World) (pass : PassId) (space : SpaceId) (addr : ℕ) (transfer : Transfer)
    → v ≡ (accessed w pass space addr transfer).world
    → is_entered w pass ≡ true → is_entered v pass ≡ true
unfolding access_by
still_entered w v pass space addr transfer is e =
    let same : v.passes ≡ w.passes =
    ap (λ (x : World). x.passes) is
    ∙ ap (λ (b : Bool). (access_by b w pass space addr transfer).passes) e
    ∙ steps_keep pass (steps_in w pass space addr transfer) w in
    ap (λ (ps : List PassState). is_some (pass_of ps pass).entered) same ∙ e

-- Lines

ready_keeps : (k : Known) (w v : World) → IsReady k w → KeepsWriter w v → IsReady k v
ready_keeps k w v r keeps = record {
  names = subst (λ (h : Writer). KnowsNames k h.desk) (sym keeps.writer) r.names;
  rests = ap (λ (h : Writer). is_at_rest h.desk) keeps.writer ∙ r.rests;
  passes = λ pass l. keeps.may pass (r.passes pass l);
}

-- nobody hears of what passes do
pub quiet_outcome : (s : State) (names : Names) (v : World) (text : List ℕ) → KeepsWriter s.world v
    → outcome s names v text ≡ (let x : Outcome = (text, record s { names = names; world = v }) in x)
quiet_outcome s names v text k =
    let none : heard s.world v ≡ [] =
    ap (λ (h : Writer). drop (length s.world.writer.desk.listening.journal) h.desk.listening.journal) k.writer
    ∙ drop_all s.world.writer.desk.listening.journal in
    ap (λ (t : List ℕ). let x : Outcome = (t, record s { names = names; world = v }) in x)
    (ap (λ (ds : List Delivery). text ++ told_lines names ds) none ∙ append-nil text)

-- what passes do to the machine, with the line that they write
pub pass_adds : (old new text : Text) (w v : World) (does : State → Outcome) → KeepsWriter w v
    → ((k : Known) → does (known_state k w) ≡ outcome (known_state k w) k.names v text) → new ≡ old ++ text → PassAdds old new w does v
pass_adds old new text w v does keeps is e k ready =
    let same = is k ∙ quiet_outcome (known_state k w) k.names v text keeps in record {
      text = e ∙ ap (λ (y : Outcome). old ++ y.0) (sym same);
      is = sym (ap (λ (y : Outcome). y.1) same);
      ready = ready_keeps k w v ready keeps;
    }

-- an order of a pass by its answer, and the world after it
abbrev pass_by : Known → World → PassId → ℕ → DeskAnswer → World → Outcome
pass_by k w pass n x v = outcome (known_state k w) k.names v (do_text k.names n pass x)

pub order_adds : (k : Known) (w v : World) (pass : PassId) (n : ℕ) (order : DeskOrder) (x : DeskAnswer) (old new : Text) → IsReady k w
    → IsChangeOrder order → IsAnswered w order x v
    → new ≡ (old ++ do_text k.names n pass x) ++ told_lines k.names (heard w v)
    → Adds old new (pass_order k w pass n order) k v
order_adds k w v pass n order x old new r change h e =
    let to_run : pass_by k w pass n x v ≡ pass_order k w pass n order = (λ i. pass_by k w pass n (h.answer_is i) (h.world i)) in record {
      text = e ∙ append_assoc old (do_text k.names n pass x) (told_lines k.names (heard w v)) ∙ ap (λ (y : Outcome). old ++ y.0) to_run;
      is = ap (λ (y : Outcome). y.1) to_run;
      ready = ready_after k k w v r
          (subst (λ (u : World). KnowsNames k u.writer.desk) (sym h.world) ((orders_are_known k w order r.names).pass change)) h.rests h.passes;
    }

copy_end : State → PassId → Bool → Access → World → Access → Outcome
copy_end s pass b x w y = outcome s s.names (run_events w (leaves_unless b pass)).world (dma_line pass (joined x y))

copy_to : State → PassId → SpaceId → ℕ → Bool → World → Access → List ℕ → Outcome
copy_to s pass space addr b w x bytes =
    let y = accessed w pass space addr (writing bytes) in copy_end s pass b x y.world y.answer

copy_in : State → PassId → SpaceId → ℕ → ℕ → SpaceId → ℕ → Bool → World → Outcome
copy_in s pass space addr len to_space to_addr b w =
    let x = accessed w pass space addr (reading len) in copy_to s pass to_space to_addr b x.world x.answer x.bytes

pub copied : (s : State) (pass : PassId) (space : SpaceId) (addr len : ℕ) (to_space : SpaceId) (to_addr : ℕ) (b : Bool)
    (u v w z : World) (x y : Access)
    (bytes nothing : List ℕ) → b ≡ is_entered s.world pass → u ≡ (run_events s.world (enters_unless b pass)).world
    → IsAccessed u pass space addr (reading len) x bytes v → IsAccessed v pass to_space to_addr (writing bytes) y nothing w
    → z ≡ (run_events w (leaves_unless b pass)).world
    → copy s pass space addr len to_space to_addr ≡ outcome s s.names z (dma_line pass (joined x y))
unfolding copy_end copy_to copy_in
copied s pass space addr len to_space to_addr b u v w z x y bytes nothing was entered k l left =
    ap (λ (e : Bool). copy_in s pass space addr len to_space to_addr e (run_events s.world (enters_unless e pass)).world)
    (sym was)
    ∙ ap (copy_in s pass space addr len to_space to_addr b) (sym entered)
    ∙ (λ i. copy_to s pass to_space to_addr b (sym k.world i) (sym k.answer_is i) (sym k.bytes_are i))
    ∙ (λ i. copy_end s pass b x (sym l.world i) (sym l.answer_is i))
    ∙ ap (λ (q : World). outcome s s.names q (dma_line pass (joined x y))) (sym left)
