-- What passes do keeps the writer's part, and who may make an access may make one again.
use Rattle.std.proofs.Common.{◌≡◌, ℕ, ◌<◌, Bool, true, false, List, [], ◌∷◌, length, get_or-set_same, get_or-set_other, length-set, ltb-true}
use Rattle.std.proofs.Common.{refl, sym, ap, subst, ◌∙◌, arith, Option, Some, None}
use Rattle.std.specs.Prelude.{◌||◌, ◌&&◌, is_some, is_none, nat_lt}
use mathlib.Core.Logic.{dite}
use native.Mathlib.Decide.{ℕ_discrete}
use Rattle.mem_base.specs.map.PassIds.{PassId}
use Rattle.mem_base.specs.declared.map.ids.SpaceId.{SpaceId}
use Rattle.mem_base.specs.declared.machine.events.Event.{Event}
use Rattle.mem_base.specs.declared.machine.events.Event.TheVariants as events
use Rattle.mem_base.specs.declared.machine.events.Hand.TheVariants as hands
use Rattle.mem_base.specs.access.AccessSteps.{Transfer, AccessStep, blank, steps, marks, events_of_steps}
use Rattle.mem_base.specs.machine.Passes.{PassState, pass_of, pass_after, is_pass, with_pass, idle}
use Rattle.mem_base.specs.machine.World.{World, possible, world_after}
use Rattle.mem_base.specs.machine.History.{run_events}
use Rattle.mem_base.specs.machine.Composites.{enters, leaves, enters_unless, leaves_unless, is_entered, steps_in, accessed}
use Rattle.mem_base.specs.machine.Completions.{KeepsWriter, may_access}
use Rattle.std.proofs.lemmas.Bool.{and_from, and_parts, or_left, or_right}
use Rattle.mem_base.proofs.BoolLaws.{true_is_not_false}

-- the world after some events, each with the world's own reply
abbrev pub after_events : World → List Event → World
after_events w es = (run_events w es).world

-- a pass that enters is entered
pub entered_by : (w : World) (pass : PassId) → possible w (events.Look pass) ≡ true
    → is_some (pass_of (after_events w (enters pass)).passes pass).entered ≡ true
entered_by w pass may =
    let near : pass.0 < length w.passes = ltb-true pass.0 (length w.passes) (and_parts _ _ may).0 in
    let looked : PassState = pass_after (pass_of w.passes pass) (events.Look pass) w.writer.generations.current in
    let first = with_pass w.passes pass looked in
    let announced : PassState = pass_after (pass_of first pass) (events.Announce pass) 0 in
    let second = with_pass first pass announced in
    let entered : PassState = pass_after (pass_of second pass) (events.Enter pass) w.writer.generations.current in
    let long : length first ≡ length w.passes = length-set w.passes pass.0 looked in
    let longer : length second ≡ length first = length-set first pass.0 announced in
    ap (λ (q : PassState). is_some q.entered) (get_or-set_same second pass.0 entered idle (omega (arith, near, long, longer)))

-- who may make an access and is not entered may look
pub may_look : (a b : Bool) → (a || b) ≡ true → a ≡ false → b ≡ true
may_look true b h e = true_is_not_false true refl e
may_look false b h e = h

-- nothing but the state of one pass is another
record KeepsOthers (pass : PassId) (w v : World) : Type 0 where
  writer : v.writer ≡ w.writer
  count : length v.passes ≡ length w.passes
  others : (q : PassId) → (q.0 ≡ pass.0 → ⊥) → pass_of v.passes q ≡ pass_of w.passes q

others_then : (pass : PassId) (u v w : World) → KeepsOthers pass u v → KeepsOthers pass v w → KeepsOthers pass u w
others_then pass u v w k l = record {
  writer = l.writer ∙ k.writer;
  count = l.count ∙ k.count;
  others = λ q ne. l.others q ne ∙ k.others q ne;
}

-- so it is where the state of that pass is set
one_pass : (w v : World) (pass : PassId) (p : PassState) → v.writer ≡ w.writer → v.passes ≡ with_pass w.passes pass p → KeepsOthers pass w v
one_pass w v pass p same is = record {
  writer = same;
  count = ap (λ (ps : List PassState). length ps) is ∙ length-set w.passes pass.0 p;
  others = λ q ne. ap (λ (ps : List PassState). pass_of ps q) is ∙ get_or-set_other w.passes pass.0 q.0 p idle ne;
}

-- where that pass may make an access, all keep what they may
keeps : (pass : PassId) (w v : World) → KeepsOthers pass w v → (may_access w pass ≡ true → may_access v pass ≡ true) → KeepsWriter w v
keeps pass w v k may = record { writer = k.writer; may = λ q m. dite (ℕ_discrete q.0 pass.0) (λ e. itself q e m) (λ ne. other q ne m) }
  where
    itself : (q : PassId) → q.0 ≡ pass.0 → may_access w q ≡ true → may_access v q ≡ true
    itself q e m = let same : q ≡ pass = λ i. record { 0 = e i } in
        subst (λ (x : PassId). may_access v x ≡ true) (sym same) (may (subst (λ (x : PassId). may_access w x ≡ true) same m))

    other : (q : PassId) → (q.0 ≡ pass.0 → ⊥) → may_access w q ≡ true → may_access v q ≡ true
    other q ne m = (λ i. is_some (k.others q ne i).entered || (nat_lt q.0 (k.count i) && is_none (k.others q ne i).announced)) ∙ m

enters_others : (w : World) (pass : PassId) → KeepsOthers pass w (after_events w (enters pass))
enters_others w pass =
    let one : World = world_after w (events.Look pass) in
    let two : World = world_after one (events.Announce pass) in
    others_then pass w one (world_after two (events.Enter pass)) (one_pass w one pass _ refl refl)
    (others_then pass one two (world_after two (events.Enter pass)) (one_pass one two pass _ refl refl)
    (one_pass two (world_after two (events.Enter pass)) pass _ refl refl))

leaves_others : (w : World) (pass : PassId) → KeepsOthers pass w (after_events w (leaves pass))
leaves_others w pass = one_pass w (after_events w (leaves pass)) pass idle refl refl

-- a pass that left may look, and make an access
pub left_looks : (w : World) (pass : PassId) → is_pass w.passes pass ≡ true → possible (after_events w (leaves pass)) (events.Look pass) ≡ true
left_looks w pass near =
    let l : pass.0 < length w.passes = ltb-true pass.0 (length w.passes) near in
    let is : pass_of (with_pass w.passes pass idle) pass ≡ idle = get_or-set_same w.passes pass.0 idle idle l in
    and_from _ _ (ap (λ (n : ℕ). nat_lt pass.0 n) (length-set w.passes pass.0 idle) ∙ near) (ap (λ (p : PassState). is_none p.announced) is)

idle_may : (w : World) (pass : PassId) → is_pass w.passes pass ≡ true → may_access (after_events w (leaves pass)) pass ≡ true
idle_may w pass near = or_right _ _ (left_looks w pass near)

pub keeps_itself : (w : World) → KeepsWriter w w
keeps_itself w = record { writer = refl; may = λ pass m. m }

pub keeps_then : (u v w : World) → KeepsWriter u v → KeepsWriter v w → KeepsWriter u w
keeps_then u v w k l = record { writer = l.writer ∙ k.writer; may = λ pass m. l.may pass (k.may pass m) }

-- a pass that enters

pub enter_keeps : (w v : World) (pass : PassId) → possible w (events.Look pass) ≡ true → v ≡ after_events w (enters pass) → KeepsWriter w v
enter_keeps w v pass may is = subst (λ (u : World). KeepsWriter w u) (sym is)
    (keeps pass w (after_events w (enters pass)) (enters_others w pass) (λ m. or_left _ _ (entered_by w pass may)))

-- and one that leaves

pub leave_keeps : (w v : World) (pass : PassId) → possible w (events.Leave pass) ≡ true → v ≡ after_events w (leaves pass) → KeepsWriter w v
leave_keeps w v pass may is = subst (λ (u : World). KeepsWriter w u) (sym is)
    (keeps pass w (after_events w (leaves pass)) (leaves_others w pass) (λ m. idle_may w pass (and_parts _ _ may).0))

-- an access

pub record KeepsAll (w v : World) : Type 0 where
  pub writer : v.writer ≡ w.writer
  pub passes : v.passes ≡ w.passes

pub steps_keep : (pass : PassId) (ds : List AccessStep) (w : World) → KeepsAll w (run_events w (events_of_steps pass ds)).world
steps_keep pass [] w = record { writer = refl; passes = refl }
steps_keep pass (blank n result ∷ ds) w = steps_keep pass ds w
steps_keep pass (steps cell step x ∷ ds) w = let k = steps_keep pass ds (world_after w (events.Word (hands.Pass pass) cell step)) in
    record { writer = k.writer; passes = k.passes }
steps_keep pass (marks region client page ∷ ds) w = let k = steps_keep pass ds (world_after w (events.Mark pass region client page)) in
    record { writer = k.writer; passes = k.passes }

all_others : (pass : PassId) (w v : World) → KeepsAll w v → KeepsOthers pass w v
all_others pass w v k = record {
  writer = k.writer;
  count = ap (λ (ps : List PassState). length ps) k.passes;
  others = λ q ne. ap (λ (ps : List PassState). pass_of ps q) k.passes;
}

still_may : (pass : PassId) (w v : World) → KeepsAll w v → may_access w pass ≡ true → may_access v pass ≡ true
still_may pass w v k m =
    (λ i. is_some (pass_of (k.passes i) pass).entered || (is_pass (k.passes i) pass && is_none (pass_of (k.passes i) pass).announced)) ∙ m

-- the world after an access by a pass that was entered before it, or was not
abbrev pub accessed_by : Bool → World → PassId → SpaceId → ℕ → Transfer → World
accessed_by entered w pass space addr transfer =
    let before = run_events w (enters_unless entered pass) in
    let during = run_events before.world (events_of_steps pass (steps_in before.world pass space addr transfer)) in
    (run_events during.world (leaves_unless entered pass)).world

access_keeps_by : (entered : Bool) (w : World) (pass : PassId) (space : SpaceId) (addr : ℕ) (transfer : Transfer) → is_entered w pass ≡ entered
    → may_access w pass ≡ true → KeepsWriter w (accessed_by entered w pass space addr transfer)
access_keeps_by true w pass space addr transfer e may =
    let v : World = accessed_by true w pass space addr transfer in
    let k : KeepsAll w v = steps_keep pass (steps_in w pass space addr transfer) w in
    keeps pass w v (all_others pass w v k) (still_may pass w v k)
access_keeps_by false w pass space addr transfer e may =
    let u : World = after_events w (enters pass) in
    let ds : List AccessStep = steps_in u pass space addr transfer in
    let v : World = (run_events u (events_of_steps pass ds)).world in
    let k : KeepsAll u v = steps_keep pass ds u in
    let near : is_pass w.passes pass ≡ true = (and_parts _ _ (may_look _ _ may e)).0 in
    let same : length v.passes ≡ length w.passes = (all_others pass u v k).count ∙ (enters_others w pass).count in
    keeps pass w (after_events v (leaves pass))
    (others_then pass w u (after_events v (leaves pass)) (enters_others w pass)
    (others_then pass u v (after_events v (leaves pass)) (all_others pass u v k) (leaves_others v pass)))
    (λ m. idle_may v pass (ap (λ (n : ℕ). nat_lt pass.0 n) same ∙ near))

pub access_keeps : (w v : World) (pass : PassId) (space : SpaceId) (addr : ℕ) (transfer : Transfer) → may_access w pass ≡ true
    → v ≡ (accessed w pass space addr transfer).world → KeepsWriter w v
access_keeps w v pass space addr transfer may is = subst (λ (u : World). KeepsWriter w u) (sym is)
    (access_keeps_by (is_entered w pass) w pass space addr transfer refl may)

-- a pass that was entered is entered after the access
pub accessed_stays : (w : World) (pass : PassId) (space : SpaceId) (addr : ℕ) (transfer : Transfer) → is_entered w pass ≡ true
    → is_entered (accessed w pass space addr transfer).world pass ≡ true
accessed_stays w pass space addr transfer e =
    let v : World = accessed_by true w pass space addr transfer in
    let k : KeepsAll w v = steps_keep pass (steps_in w pass space addr transfer) w in
    ap (λ (b : Bool). is_entered (accessed_by b w pass space addr transfer) pass) e
    ∙ ap (λ (ps : List PassState). is_some (pass_of ps pass).entered) k.passes ∙ e

-- who is entered announced a number before
pub not_entered : (p : PassState) → ((number : ℕ) → p.entered ≡ Some number → (before : ℕ) × (p.announced ≡ Some before)) → is_none p.announced ≡ true
    → is_none p.entered ≡ true
not_entered p h none = go p.entered refl
  where
    go : (o : Option ℕ) → p.entered ≡ o → is_none o ≡ true
    go None e = refl
    go (Some n) e = true_is_not_false (is_none p.announced) none (ap (λ (o : Option ℕ). is_none o) (h n e).1)
