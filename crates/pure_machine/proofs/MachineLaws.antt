-- What keeps the machine at rest, and its passes ready.
use Rattle.std.proofs.Common.{◌≡◌, ◌<◌, ℕ, zero, suc, true, false, List, [], ◌∷◌, length, get_or, refl, sym, subst, arith}
use Rattle.std.specs.Prelude.{is_some}
use Rattle.std.proofs.lemmas.Bool.{lt-ltb, and_from}
use Rattle.mem_base.specs.map.PassIds.{PassId}
use Rattle.mem_base.specs.declared.machine.events.Event.TheVariants as events
use Rattle.mem_base.specs.map.Limits.{most_passes}
use Rattle.mem_base.specs.views.Listening.{Delivery}
use Rattle.mem_base.specs.machine.Completions.{KeepsWriter}
use Rattle.mem_base.specs.machine.Composites.{is_entered}
use Rattle.mem_base.specs.machine.Passes.{PassState, idle, is_pass}
use Rattle.mem_base.specs.machine.Reaps.{Writer}
use Rattle.mem_base.specs.machine.World.{World, is_at_rest, opening, possible}
use Rattle.world_laws.proofs.PassKeeping.{may_look}
use Rattle.run_laws.proofs.EachCommand.{may_first}
use Rattle.run_laws.proofs.Ordering.{same_may}
use Rattle.world_hand.specs.Taken.{with_calls}
use Rattle.pure_machine.specs.Machines.{IsMachine}
use Rattle.mem_base.proofs.BoolLaws.{true_is_not_false}

-- at first
pub at_first : (pool_words : ℕ) → IsMachine (opening pool_words most_passes)
at_first pool_words = record { rests = refl; passes = λ pass l. may_first pool_words pass l }

-- after a call of the writer
pub after_call : (w v : World) → IsMachine w → is_at_rest v.writer.desk ≡ true → v.passes ≡ w.passes → IsMachine v
after_call w v h rests passes = record { rests = rests; passes = λ pass l. same_may w v passes pass (h.passes pass l) }

-- after what a pass did
pub after_pass : (w v : World) → IsMachine w → KeepsWriter w v → IsMachine v
after_pass w v h k = record {
  rests = subst (λ (x : Writer). is_at_rest x.desk ≡ true) (sym k.writer) h.rests;
  passes = λ pass l. k.may pass (h.passes pass l);
}

-- where calls are taken out of the journal
pub after_taking : (w v : World) (calls : List Delivery) → IsMachine w → v ≡ with_calls calls w → IsMachine v
after_taking w v calls h is = subst IsMachine (sym is) (record { rests = h.rests; passes = h.passes })

-- a pass that is out may look at the number
pub may_enter : (w : World) (pass : PassId) → IsMachine w → pass.0 < most_passes → is_entered w pass ≡ false → possible w (events.Look pass) ≡ true
may_enter w pass h l out = may_look (is_entered w pass) (possible w (events.Look pass)) (h.passes pass l) out

in_range : (ps : List PassState) (n : ℕ) → is_some (get_or ps n idle).entered ≡ true → n < length ps
in_range [] n e = true_is_not_false true refl (sym e)
in_range (p ∷ ps) zero e = omega arith
in_range (p ∷ ps) (suc n) e = let l = in_range ps n e in omega arith

-- and one that is in may leave
pub may_leave : (w : World) (pass : PassId) → is_entered w pass ≡ true → possible w (events.Leave pass) ≡ true
may_leave w pass inside = and_from (is_pass w.passes pass) (is_entered w pass) (lt-ltb pass.0 (length w.passes) (in_range w.passes pass.0 inside)) inside
