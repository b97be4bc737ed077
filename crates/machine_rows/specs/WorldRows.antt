-- Worked calls of the pure machine and turns of the running one, by computing. What a forest names is never computed,
-- so what a reap releases is shown by laws and not here.
use Rattle.std.specs.Prelude.{◌≡◌, ℕ, Bool, true, false, List, [], ◌∷◌, ◌++◌, map, replicate, Some, None, Ok, Err, pos}
use Rattle.mem_base.specs.declared.map.kinds.DeviceKind.TheVariants.{Latch}
use Rattle.mem_base.specs.declared.map.kinds.Kind.{Kind}
use Rattle.mem_base.specs.declared.map.kinds.Kind.TheVariants as kinds
use Rattle.mem_base.specs.declared.map.calls.Call.{Call}
use Rattle.mem_base.specs.declared.map.calls.Call.TheVariants as calls
use Rattle.mem_base.specs.declared.map.calls.Config.TheVariants as configs
use Rattle.mem_base.specs.declared.map.calls.Applied.TheVariants as applied
use Rattle.mem_base.specs.declared.map.refusals.Refusal.TheVariants as refusals
use Rattle.mem_base.specs.declared.map.refusals.What.TheVariants as what
use Rattle.mem_base.specs.declared.machine.events.Event.TheVariants as events
use Rattle.mem_base.specs.declared.machine.events.Hand.TheVariants as hands
use Rattle.mem_base.specs.declared.access.cells.WordStep.TheVariants as word_steps
use Rattle.mem_base.specs.access.Places.{first_fit, place_from, extent}
use Rattle.mem_base.specs.access.Cells.{cell, notifier_cell}
use Rattle.mem_base.specs.access.AccessSteps.{Transfer, reading, writing}
use Rattle.mem_base.specs.machine.World.{World, opening}
use Rattle.mem_base.specs.machine.History.{run_events}
use Rattle.mem_base.specs.machine.Composites.{completed, accessed, Accessed, enters, leaves}
use Rattle.mem_base.specs.machine.Orders.{Order, configure, load, notified}
use Rattle.mem_base.specs.machine.Answers.{Answer, call_answer, commit_answer, plain_answer, notifier_answer}
use Rattle.mem_base.specs.machine.Reaps.{first_writer}
use Rattle.mem_base.specs.machine.Turns.{turn, turns, entries_of_turn}
use Rattle.mem_base.specs.machine.JoinedHistory.{accepted_in}
use Rattle.machine_rows.specs.Values.{region, space, listener, pass, ops, device}

-- a call of the writer, or an enter, a leave, or an access of pass 0 to space 0 at address 0
pub data Command : Type 0 where
  order : Order → Command
  enter : Command
  leave : Command
  access : Transfer → Command

pub data Outcome : Type 0 where
  answered : Answer → Outcome
  entered : Outcome
  left : Outcome
  accessed_to : ℕ → Bool → List ℕ → Outcome  -- the number, a decode error, the bytes

unfoldable pub outcome_of : Accessed → Outcome
outcome_of x = accessed_to x.answer.number x.answer.result.decode x.bytes

unfoldable pub outcomes : World → List Command → List Outcome
outcomes w [] = []
outcomes w (order k ∷ cs) = let x = completed w k in answered x.answer ∷ outcomes x.world cs
outcomes w (enter ∷ cs) = entered ∷ outcomes (run_events w (enters (pass 0))).world cs
outcomes w (leave ∷ cs) = left ∷ outcomes (run_events w (leaves (pass 0))).world cs
outcomes w (access transfer ∷ cs) = let x = accessed w (pass 0) (space 0) 0 transfer in outcome_of x ∷ outcomes x.world cs

unfoldable pub call : Call → Command
call k = order (configure (configs.Call k))

unfoldable pub latch : ℕ → Kind
latch regs = kinds.Io (device Latch regs (ops 1 4 1 4 false))

unfoldable pub made : ℕ → Outcome
made n = answered (call_answer (Ok (applied.Made (region n), None)))

unfoldable pub published : ℕ → Outcome
published n = answered (call_answer (Ok (applied.Done, Some n)))

unfoldable pub pending : Outcome
pending = answered (call_answer (Ok (applied.Done, None)))

-- a pass that stays in generation 1 holds the ninth generation up

unfoldable pub enabling : Command
enabling = call (calls.Enable (region 0) true)

-- turns: a publish of two passes, of which the first was found at 0

unfoldable pub global : Order
global = configure (configs.Call (calls.Global true))

pub record WorldRows : Type 0 where
  pub eight-generations : outcomes (opening 16 1) (call (calls.Region kinds.Container 4096) ∷ call (calls.Space (space 0) (region 0)) ∷ enter
      ∷ replicate 8 enabling ++ (leave ∷ enabling ∷ []))
      ≡ made 0 ∷ published 1 ∷ entered ∷ published 2 ∷ published 3 ∷ published 4 ∷ published 5 ∷ published 6 ∷ published 7 ∷ published 8
      ∷ answered (call_answer (Err (refusals.Held (pass 0) 1))) ∷ left ∷ published 9 ∷ []
  -- a pass that stays in an old generation reads what was there
  pub an-old-generation : outcomes (opening 16 1) (call (calls.Region kinds.Container 4096) ∷ call (calls.Region (latch 1) 8)
      ∷ order (configure configs.Begin) ∷ call (calls.Space (space 0) (region 0)) ∷ call (calls.Add (region 0) 0 (region 1) (pos 0))
      ∷ order (configure configs.Commit)
      ∷ access (writing (0x2a ∷ [])) ∷ enter ∷ call (calls.Del (region 0) (region 1)) ∷ access (reading 1) ∷ leave ∷ access (reading 1) ∷ [])
      ≡ made 0 ∷ made 1 ∷ answered (plain_answer (Ok tt)) ∷ pending ∷ pending ∷ answered (commit_answer (Ok (Some 1)))
      ∷ accessed_to 1 false [] ∷ entered ∷ published 2 ∷ accessed_to 1 false (0x2a ∷ []) ∷ left ∷ accessed_to 2 true (0 ∷ []) ∷ []
  -- refusals that no forest gives
  pub refusals-of-the-machine : outcomes (opening 8 1) (order (configure configs.Commit) ∷ call (calls.Region (latch 5) 8)
      ∷ call (calls.Region (latch 4) 8) ∷ call (calls.Region (latch 3) 8)
      ∷ order (configure (configs.Listen (listener 2) (space 0) (pos 0))) ∷ order (configure (configs.Unlisten (listener 2)))
      ∷ order (load (region 0) 0 (1 ∷ [])) ∷ order (load (region 9) 0 (1 ∷ [])) ∷ order (notified 3) ∷ order (configure configs.Begin)
      ∷ order (configure configs.Commit) ∷ [])
      ≡ answered (commit_answer (Err refusals.NoTransaction)) ∷ made 0 ∷ answered (call_answer (Err (refusals.NoBacking 4))) ∷ made 1
      ∷ answered (plain_answer (Err (refusals.Unknown (what.Space (space 0))))) ∷ answered (plain_answer (Err (refusals.Unknown (what.Listener (listener 2)))))
      ∷ answered (plain_answer (Err (refusals.WrongKind (region 0)))) ∷ answered (plain_answer (Err (refusals.Unknown (what.Region (region 9)))))
      ∷ answered (notifier_answer 0) ∷ answered (plain_answer (Ok tt)) ∷ answered (commit_answer (Ok None)) ∷ []
  pub too-nested : outcomes (opening 8 1) (replicate 65 (order (configure configs.Begin))) ≡ replicate 64 (answered (plain_answer (Ok tt)))
      ++ answered (plain_answer (Err refusals.TooNested)) ∷ []
  -- a pool of 16 words: a place of 3, a hole of 4, and a place of 5; what fits goes into the first hole
  pub fits-the-hole : first_fit 16 (place_from (region 0) 0 (extent 0 3) ∷ place_from (region 2) 7 (extent 0 5) ∷ []) 4 ≡ Some 3
  pub no-hole-fits : first_fit 16 (place_from (region 0) 0 (extent 0 3) ∷ place_from (region 2) 7 (extent 0 5) ∷ []) 5 ≡ None
  pub a-publish : map (λ x. x.event) (entries_of_turn (turn (first_writer 16 2) global (1 ∷ 0 ∷ 0 ∷ 0 ∷ 1 ∷ [])))
      ≡ events.Sweep (pass 0) ∷ events.Sweep (pass 1) ∷ events.Place (pass 0) ∷ events.Place (pass 1) ∷ events.Publish ∷ []
  -- eight publishes while the first pass stays announced at 0: the eighth is refused, and is none of the accepted
  pub eight-turns : map (λ t. t.answer) (turns (first_writer 16 2) (map (λ n. (global, 1 ∷ 0 ∷ 0 ∷ 0 ∷ n ∷ [])) (1 ∷ 2 ∷ 3 ∷ 4 ∷ 5 ∷ 6 ∷ 7 ∷ 8 ∷ [])))
      ≡ map (λ n. call_answer (Ok (applied.Done, Some n))) (1 ∷ 2 ∷ 3 ∷ 4 ∷ 5 ∷ 6 ∷ 7 ∷ []) ++ call_answer (Err (refusals.Held (pass 0) 0)) ∷ []
  pub seven-accepted : accepted_in (turns (first_writer 16 2) (map (λ n. (global, 1 ∷ 0 ∷ 0 ∷ 0 ∷ n ∷ [])) (1 ∷ 2 ∷ 3 ∷ 4 ∷ 5 ∷ 6 ∷ 7 ∷ 8 ∷ [])))
      ≡ replicate 7 (configs.Call (calls.Global true))
  -- a region with three words is made and then cleared
  pub a-fill : map (λ x. x.event) (entries_of_turn (turn (first_writer 4 1) (configure (configs.Call (calls.Region (latch 3) 8))) (0 ∷ 0 ∷ 0 ∷ [])))
      ≡ map (λ i. events.Fill (cell (region 0) i)) (0 ∷ 1 ∷ 2 ∷ [])
  -- a notifier is taken
  pub a-notifier : (turn (first_writer 4 1) (notified 7) (5 ∷ [])).answer ≡ notifier_answer 5
  pub its-event : map (λ x. x.event) (entries_of_turn (turn (first_writer 4 1) (notified 7) (5 ∷ []))) ≡ events.Word hands.Writer
      (notifier_cell 7) word_steps.Take ∷ []
