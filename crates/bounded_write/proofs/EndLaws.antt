-- Laws of whole writes: what comes before one and after it, joined with what it did.
use Rattle.std.proofs.Common.{◌≡◌, ℕ, ◌+◌, ◌-◌, ◌<◌, ◌≤◌, Bool, true, false, List, [], ◌++◌, length, take, drop}
use Rattle.std.proofs.Common.{refl, sym, ap, subst, ◌∙◌}
use Rattle.std.proofs.lemmas.List.{length-append}
use base.Growing.{prefix_refl, prefix_trans}
use mathlib.Core.List.{IsPrefix}
use Rattle.mem_base.specs.map.PassIds.{PassId}
use Rattle.mem_base.specs.declared.map.ids.SpaceId.{SpaceId}
use Rattle.mem_base.specs.declared.map.forests.Forest.{Forest}
use Rattle.mem_base.specs.declared.access.accesses.TxResult.{TxResult}
use Rattle.mem_base.specs.declared.machine.events.Event.{Event}
use Rattle.mem_base.specs.access.AccessSteps.{writing, events_of_steps}
use Rattle.mem_base.specs.access.Access.{access}
use Rattle.mem_base.specs.machine.Passes.{pass_id}
use Rattle.generation.specs.Published.{Published}
use Rattle.epoch_rule.specs.Values.{PassValue}
use Rattle.vcpu_pass.specs.Around.{HasBegun, HasEnded}
use Rattle.vcpu_pass.specs.Calls.{generation_of}
use Rattle.vcpu_pass.specs.Steps.{HasMade, generation_in}
use Rattle.vcpu_pass.specs.StepLaws.{made_then}
use Rattle.vcpu_pass.proofs.CallLaws.{accessed, around}
use Rattle.io_window.specs.Whole.{HasRun}
use Rattle.bounded_write.specs.declared.accesses.Written.{Written}
use Rattle.bounded_write.specs.Writes.{HasStopped, HasWritten, HasWrittenFirstBy}

-- how a write is answered
abbrev pub answered : TxResult → ℕ → ℕ → Bool → Written
answered result number count begun = record { access = record { result = result; number = number }; count = count; begun = begun }

begun_prefix : (e : Bool) (u v : PassValue Published) → HasBegun e u v → IsPrefix u.seen v.seen
begun_prefix true u v b = subst (λ (x : PassValue Published). IsPrefix u.seen x.seen) (sym (b.same refl)) (prefix_refl u.seen)
begun_prefix false u v b = (b.came refl).1.wrote.begins

ended_prefix : (e : Bool) (v w : PassValue Published) (number : ℕ) → HasEnded e v number w → IsPrefix v.seen w.seen
ended_prefix true v w number n = subst (λ (x : PassValue Published). IsPrefix v.seen x.seen) (sym (n.same refl)) (prefix_refl v.seen)
ended_prefix false v w number n = (n.left refl).0.wrote.begins

begun_number : (e : Bool) (u v : PassValue Published) → HasBegun e u v → v.number ≡ u.number
begun_number true u v b = ap (λ x. x.number) (b.same refl)
begun_number false u v b = (b.came refl).1.number

module _ (e : Bool) (u v w y : PassValue Published) (space : SpaceId) (addr : ℕ) (bytes : List ℕ) (tries number count : ℕ) (result : TxResult) (begun : Bool)
    (b : HasBegun e u v) (n : HasEnded e w number y) where
  abbrev answer : Written
  answer = answered result number count begun

  stopped : HasStopped v space addr bytes count result begun tries w → HasWrittenFirstBy (generation_of y number) u space addr bytes tries answer y
  stopped h =
      let f : Forest = (generation_in v).forest in
      let g = h.onward in
      let es : PassId → List Event = λ p. events_of_steps p (access f space addr (writing (take count bytes))) ++ g.more in
      let rs : List ℕ = h.written.replies ++ g.replies in
      let same : v.number ≡ u.number = begun_number e u v b in
      let mine : List Event = events_of_steps (pass_id v.number) (access f space addr (writing (take count bytes))) in
      let made : HasMade v (es (pass_id v.number)) rs w = made_then v h.until w mine g.more h.written.replies g.replies h.written.each h.written.made g.made in
      let each : length rs ≡ length (es (pass_id v.number)) =
      length-append h.written.replies g.replies ∙ (λ i. h.written.each i + g.each i) ∙ sym (length-append mine g.more) in
      let a = around e u v w y es rs number b each made n in
      subst (λ x. HasWrittenFirstBy x u space addr bytes tries answer y) a.shown record {
        goes_by = a.goes_by;
        published = a.published;
        next = h.next;
        fits = h.fits;
        more = g.more;
        rest = g.rest;
        first = ap (λ k. events_of_steps (pass_id k) (access f space (addr + count) (writing (take h.next (drop count bytes))))) (sym same) ∙ g.first;
        begins = g.begins;
        looked = a.looked;
        replies = rs;
        each = each ∙ ap (λ k. length (es (pass_id k))) same;
        made = a.made;
        result = h.ended;
        held_up = record {
          last = h.held_up.last;
          seen = prefix_trans u.seen v.seen h.held_up.last.seen (begun_prefix e u v b) h.held_up.seen;
          later = prefix_trans h.held_up.last.seen w.seen y.seen h.held_up.later (ended_prefix e w y number n);
          contended = h.held_up.contended;
        };
      }

  pub written : count ≤ length bytes → (count ≡ length bytes → HasRun v space addr (writing bytes) result [] w) → (count ≡ length bytes → begun ≡ false)
      → (count < length bytes → HasStopped v space addr bytes count result begun tries w) → HasWritten u space addr bytes tries answer y
  written most whole done part = record {
    most = most;
    whole = λ all. let r = whole all in (accessed e u v w y space addr (writing bytes) number result [] b r.result r.done n, done all);
    part = λ less. stopped (part less);
  }
