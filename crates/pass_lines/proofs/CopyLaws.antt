-- A line that copies.
use Rattle.std.proofs.Common.{◌≡◌, ℕ, ◌+◌, Bool, true, false, List, [], ◌++◌, length, refl, sym, ap, subst, ◌∙◌, Option, Some, is_some, unwrap_or}
use Rattle.std.proofs.Common.{append_assoc, length-append}
use Rattle.mem_base.specs.map.PassIds.{PassId}
use Rattle.mem_base.specs.declared.map.ids.SpaceId.{SpaceId}
use Rattle.mem_base.specs.declared.map.forests.Forest.{Forest}
use Rattle.mem_base.specs.declared.access.cells.Place.{Place}
use Rattle.mem_base.specs.declared.access.accesses.TxResult.{TxResult}
use Rattle.mem_base.specs.declared.machine.events.Event.{Event}
use Rattle.mem_base.specs.declared.machine.events.HistoryEntry.{HistoryEntry}
use Rattle.mem_base.specs.access.AccessSteps.{AccessStep, bytes_read, either, events_of_steps, reading, result_of, writing}
use Rattle.mem_base.specs.access.Access.{access}
use Rattle.mem_base.specs.machine.Passes.{PassState, pass_id}
use Rattle.mem_base.specs.machine.Generations.{Generation, generation}
use Rattle.mem_base.specs.machine.Actors.{generations_published, pass_after_all}
use Rattle.mem_base.specs.machine.PassTurns.{entries_of}
use Rattle.mem_base.specs.machine.Turns.{replies_of}
use Rattle.mem_base.proofs.PassTurnLaws.{entries_append}
use Rattle.history_laws.proofs.AppendLaws.{pass_by_append}
use Rattle.generation.specs.Published.{Published}
use Rattle.epoch_rule.specs.Values.{PassValue}
use Rattle.epoch_rule.specs.Wrote.{Made}
use Rattle.vcpu_pass.specs.Steps.{HasMade}
use Rattle.vcpu_pass.specs.Steps as steps
use Rattle.vcpu_pass.specs.StepLaws.{made_then}
use Rattle.vcpu_pass.specs.Around.{HasBegun, HasEnded}
use Rattle.vcpu_pass.specs.Calls.{is_entered}
use Rattle.vcpu_pass.proofs.CallLaws.{around, IsAround}
use Rattle.io_window.specs.Calls.{Does}
use Rattle.io_window.specs.Whole.{HasRun}
use Rattle.io_window.proofs.WholeLaws.{same_generation}
use Rattle.race_laws.specs.Acting.{AreSteps, bytes_of_read, generation_in}
use Rattle.race_laws.proofs.PassAgain.{are_again}
use Rattle.race_laws.proofs.PassRuns.{steps_stay}
use Rattle.pass_lines.specs.Doing.{Grew, HasCopied, IsInItsGeneration, access_answer, number_in, state_seen}
use Rattle.pass_lines.proofs.EntryLaws.{cut, entered_then, entering, enters_are, generation_is, grew_made, leaves_are, leaving, left_then, number_of}
use Rattle.pass_lines.proofs.EntryLaws.{replies_are, same_inside, state_then, state_three}

-- a read and then a write of what was read, by a pass that is entered, in the forest of its generation
record IsBoth (p l : PassValue Published) (from to : SpaceId × ℕ) (n : ℕ) (bytes : List ℕ) (r s : TxResult) : Type 0 where
  rs : List ℕ
  qs : List ℕ
  each : length rs ≡ length (events_of_steps (pass_id p.number) (access (steps.generation_in p).forest from.0 from.1 (reading n)))
  more : length qs ≡ length (events_of_steps (pass_id p.number) (access (steps.generation_in p).forest to.0 to.1 (writing bytes)))
  made : HasMade p (events_of_steps (pass_id p.number) (access (steps.generation_in p).forest from.0 from.1 (reading n))
      ++ events_of_steps (pass_id p.number) (access (steps.generation_in p).forest to.0 to.1 (writing bytes))) (rs ++ qs) l
  read : bytes ≡ bytes_read (access (steps.generation_in p).forest from.0 from.1 (reading n)) rs
  first : r ≡ result_of (access (steps.generation_in p).forest from.0 from.1 (reading n))
  second : s ≡ result_of (access (steps.generation_in p).forest to.0 to.1 (writing bytes))

is_both : (p m l : PassValue Published) (from to : SpaceId × ℕ) (n : ℕ) (bytes : List ℕ) (r s : TxResult)
    → HasRun p from.0 from.1 (reading n) r bytes m → HasRun m to.0 to.1 (writing bytes) s [] l → IsBoth p l from to n bytes r s
is_both p m l from to n bytes r s reads writes =
    let f : Forest = (steps.generation_in p).forest in
    let stays : (steps.generation_in m).forest ≡ f =
    ap (λ (g : Published). g.forest) (same_generation p m (access f from.0 from.1 (reading n)) bytes reads.done) in
    let es : List AccessStep = access f to.0 to.1 (writing bytes) in
    let wrote : Does m es [] l = subst (λ (z : Forest). Does m (access z to.0 to.1 (writing bytes)) [] l) stays writes.done in
    let number : m.number ≡ p.number = reads.done.made.number in record {
      rs = reads.done.replies;
      qs = wrote.replies;
      each = reads.done.each;
      more = wrote.each ∙ ap (λ (k : ℕ). length (events_of_steps (pass_id k) es)) number;
      made = made_then p m l (events_of_steps (pass_id p.number) (access f from.0 from.1 (reading n))) (events_of_steps (pass_id p.number) es)
          reads.done.replies wrote.replies reads.done.each reads.done.made
          (subst (λ (k : ℕ). HasMade m (events_of_steps (pass_id k) es) wrote.replies l) number wrote.made);
      read = reads.done.read;
      first = reads.result;
      second = writes.result ∙ ap (λ (z : Forest). result_of (access z to.0 to.1 (writing bytes))) stays;
    }

number_begun : (e : Bool) (u v : PassValue Published) → HasBegun e u v → v.number ≡ u.number
number_begun true u v b = ap (λ (x : PassValue Published). x.number) (b.same refl)
number_begun false u v b = (b.came refl).1.number

module _ (u p l y : PassValue Published) (e : Bool) (from to : SpaceId × ℕ) (n number : ℕ) (r s : TxResult) (bytes : List ℕ) where
  copy_done : HasBegun e u p → IsBoth p l from to n bytes r s → HasEnded e l number y → IsInItsGeneration u
      → HasCopied u from to n (access_answer (either r s) number) y
  copy_done begun both ended inside =
      let pass : PassId = pass_id u.number in
      let now : PassState = state_seen u in
      let b : Bool = is_entered u in
      let f : Forest = (steps.generation_in p).forest in
      let places : List Place = (steps.generation_in p).places in
      let g : Generation = generation f places in
      let ds : List AccessStep = access f from.0 from.1 (reading n) in
      let fs : List AccessStep = access f to.0 to.1 (writing bytes) in
      let named : p.number ≡ u.number = number_begun e u p begun in
      let each : length both.rs ≡ length (events_of_steps pass ds) =
      both.each ∙ ap (λ (k : ℕ). length (events_of_steps (pass_id k) ds)) named in
      let more : length both.qs ≡ length (events_of_steps pass fs) =
      both.more ∙ ap (λ (k : ℕ). length (events_of_steps (pass_id k) fs)) named in
      let es : PassId → List Event = λ k. events_of_steps k ds ++ events_of_steps k fs in
      let rs : List ℕ = both.rs ++ both.qs in
      let all : length rs ≡ length (es (pass_id p.number)) =
      length-append both.rs both.qs ∙ (λ i. both.each i + both.more i)
      ∙ sym (length-append (events_of_steps (pass_id p.number) ds) (events_of_steps (pass_id p.number) fs)) in
      let a : IsAround u p number (es pass) rs y = around e u p l y es rs number begun all both.made ended in
      let one : List HistoryEntry = entering b pass a.looked number in
      let two : List HistoryEntry = entries_of places (events_of_steps pass ds) both.rs in
      let three : List HistoryEntry = entries_of places (events_of_steps pass fs) both.qs in
      let four : List HistoryEntry = leaving b pass in
      let ys : List HistoryEntry = ((one ++ two) ++ three) ++ four in
      let q : PassState = pass_after_all now one in
      let counted : length rs ≡ length (es pass) = all ∙ ap (λ (k : ℕ). length (es (pass_id k))) named in
      let split : entries_of places (es pass) rs ≡ two ++ three =
      entries_append places (events_of_steps pass ds) (events_of_steps pass fs) both.rs both.qs each in
      let parts : (one ++ entries_of places (es pass) rs) ++ four ≡ ys =
      ap (λ (zs : List HistoryEntry). (one ++ zs) ++ four) split ∙ ap (λ (zs : List HistoryEntry). zs ++ four) (sym (append_assoc one two three)) in
      let made : Made u ys y =
      subst (λ (new : List HistoryEntry). Made u new y) (cut b places pass (es pass) rs a.looked number counted ∙ parts) a.made in
      let grew : Grew u ys y = grew_made u y ys made in
      let there : q.entered ≡ Some number = entered_then u.edition now pass a.looked number inside a.goes_by.entered in
      let stays : pass_after_all q two ≡ q = steps_stay pass places ds q both.rs in
      let after : pass_after_all q three ≡ q = steps_stay pass places fs q both.qs in
      let replied : replies_of two ≡ both.rs = replies_are places (events_of_steps pass ds) both.rs each in
      let got : bytes ≡ bytes_of_read g from.0 from.1 n two = both.read ∙ ap (λ (ns : List ℕ). bytes_read ds ns) (sym replied) in
      let same : number ≡ number_in q = ap (λ (o : Option ℕ). unwrap_or o 0) (sym there) in record {
        entries = ys;
        grew = grew;
        does = λ later.
            let gs : List Generation = generations_published y.seen ++ later in
            let here : g ≡ generation_in gs q = a.shown ∙ sym (generation_is y.seen later q number a.published there) in
            let again : g ≡ generation_in gs (pass_after_all q two) = here ∙ ap (λ (z : PassState). generation_in gs z) (sym stays) in
            let bytes_are : bytes ≡ bytes_of_read (generation_in gs q) from.0 from.1 n two =
            got ∙ ap (λ (x : Generation). bytes_of_read x from.0 from.1 n two) here in record {
              was = b;
              one = one;
              two = two;
              three = three;
              four = four;
              parts = refl;
              are = record {
                inside = ap (λ (o : Option ℕ). is_some o) inside ∙ same_inside u.edition;
                enters = enters_are b pass a.looked number;
                reads = subst (λ (x : Generation). AreSteps x pass from.0 from.1 (reading n) two) here
                    (are_again places (events_of_steps pass ds) both.rs);
                writes = subst (λ (z : Generation × List ℕ). AreSteps z.0 pass to.0 to.1 (writing z.1) three) (λ i. (again i, bytes_are i))
                    (are_again places (events_of_steps pass fs) both.qs);
                leaves = leaves_are b pass;
              };
              ended = (λ i. access_answer (either ((both.first ∙ ap (λ (x : Generation). result_of (access x.forest from.0 from.1 (reading n))) here) i)
                  ((both.second ∙ (λ j. result_of (access (again j).forest to.0 to.1 (writing (bytes_are j))))) i)) (same i));
            };
        inside = ap (λ (z : PassState). z.entered) (state_then u y ys grew
            ∙ state_three now (one ++ two) three four
            ∙ ap (λ (z : PassState). pass_after_all (pass_after_all z three) four) (pass_by_append one two now ∙ stays)
            ∙ ap (λ (z : PassState). pass_after_all z four) after)
            ∙ left_then u.edition now pass a.looked number inside
            ∙ ap number_of (sym a.goes_by.edition);
      }

pub copied : (u x p q m l k t y : PassValue Published) (e : Bool) (from to : SpaceId × ℕ) (n number : ℕ) (r s ended : TxResult) (bytes : List ℕ)
    → IsInItsGeneration u → x ≡ u → HasBegun e x p → q ≡ p → HasRun q from.0 from.1 (reading n) r bytes m → HasRun m to.0 to.1 (writing bytes) s [] l
    → k ≡ l → HasEnded e k number t → y ≡ t → ended ≡ either r s → HasCopied u from to n (access_answer ended number) y
copied u x p q m l k t y e from to n number r s ended bytes inside first b same reads writes last leaves out join =
    let begun : HasBegun e u p = subst (λ (z : PassValue Published). HasBegun e z p) first b in
    let read : HasRun p from.0 from.1 (reading n) r bytes m = subst (λ (z : PassValue Published). HasRun z from.0 from.1 (reading n) r bytes m) same reads in
    let left : HasEnded e l number y =
    subst (λ (z : PassValue Published × PassValue Published). HasEnded e z.0 number z.1) (λ i. (last i, sym out i)) leaves in
    subst (λ (w : TxResult). HasCopied u from to n (access_answer w number) y) (sym join)
    (copy_done u p l y e from to n number r s bytes begun (is_both p m l from to n bytes r s read writes) left inside)
