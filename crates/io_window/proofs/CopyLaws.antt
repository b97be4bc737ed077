-- A copy by windows is the read and then the write, in one entry.
use Rattle.std.proofs.Common.{◌≡◌, ℕ, Bool, List, [], ◌++◌, sym, ap, subst, ◌∙◌, append-nil}
use Rattle.mem_base.specs.declared.map.ids.SpaceId.{SpaceId}
use Rattle.mem_base.specs.declared.map.forests.Forest.{Forest}
use Rattle.mem_base.specs.declared.access.accesses.TxResult.{TxResult}
use Rattle.mem_base.specs.access.AccessSteps.{reading, writing, AccessStep, result_of, either}
use Rattle.mem_base.specs.access.Access.{access}
use Rattle.generation.specs.Published.{Published}
use Rattle.epoch_rule.specs.Values.{PassValue}
use Rattle.vcpu_pass.specs.Steps.{generation_in}
use Rattle.vcpu_pass.specs.Around.{HasBegun, HasEnded}
use Rattle.vcpu_pass.specs.Calls.{is_entered}
use Rattle.io_window.specs.Calls.{Does}
use Rattle.io_window.specs.Whole.{HasRun}
use Rattle.io_window.proofs.WholeLaws.{does_then, same_generation}
use Rattle.io_window.proofs.CallLaws.{begun_as, was_entered}
use Rattle.io_window.proofs.MarkLaws.{around_steps, around_shown}
use Rattle.io_window.specs.Copies.{HasCopied, copy_steps, copy_result}

pub copied : (u x p q m l k t y : PassValue Published) (e : Bool) (from to : SpaceId × ℕ) (n number : ℕ) (r s ended : TxResult) (bytes : List ℕ)
    → x ≡ u → HasBegun e x p → q ≡ p → HasRun q from.0 from.1 (reading n) r bytes m → HasRun m to.0 to.1 (writing bytes) s [] l → k ≡ l
    → HasEnded e k number t → y ≡ t → ended ≡ either r s → HasCopied u from to n (record { result = ended; number = number }) bytes y
copied u x p q m l k t y e from to n number r s ended bytes first b same reads writes last leaves out join =
    let read : HasRun p from.0 from.1 (reading n) r bytes m = subst (λ (z : PassValue Published). HasRun z from.0 from.1 (reading n) r bytes m) same reads in
    let left : HasEnded e l number y =
    subst (λ (z : PassValue Published × PassValue Published). HasEnded e z.0 number z.1) (λ i. (last i, sym out i)) leaves in
    let f : Forest = (generation_in p).forest in
    let ds : List AccessStep = access f from.0 from.1 (reading n) in
    let es : List AccessStep = access f to.0 to.1 (writing bytes) in
    let stays : (generation_in m).forest ≡ f = ap (λ (g : Published). g.forest) (same_generation p m ds bytes read.done) in
    let wrote : Does m es [] l = subst (λ (z : Forest). Does m (access z to.0 to.1 (writing bytes)) [] l) stays writes.done in
    let done : Does p (ds ++ es) bytes l =
    subst (λ (bs : List ℕ). Does p (ds ++ es) bs l) (append-nil bytes) (does_then p m l ds es bytes [] read.done wrote) in
    let begun : HasBegun (is_entered u) u p = begun_as e x u p first b in
    let entered = was_entered e x u p first b in
    let here : ended ≡ copy_result from to n bytes f =
    join ∙ (λ i. either (read.result i) ((writes.result ∙ ap (λ (z : Forest). result_of (access z to.0 to.1 (writing bytes))) stays) i)) in
    record {
      moved = around_steps u p l y e number (copy_steps from to n bytes) bytes begun entered done left;
      result = here ∙ ap (copy_result from to n bytes) (around_shown u p l y e number (ds ++ es) bytes begun entered done left);
    }
