-- A line that makes an access.
use Rattle.std.proofs.Common.{◌≡◌, ℕ, Bool, List, ◌++◌, refl, sym, ap, subst, ◌∙◌, Option, Some, is_some, unwrap_or}
use Rattle.mem_base.specs.map.PassIds.{PassId}
use Rattle.mem_base.specs.declared.map.ids.SpaceId.{SpaceId}
use Rattle.mem_base.specs.declared.access.accesses.Access.{Access}
use Rattle.mem_base.specs.declared.machine.events.Event.{Event}
use Rattle.mem_base.specs.declared.machine.events.HistoryEntry.{HistoryEntry}
use Rattle.mem_base.specs.access.AccessSteps.{Transfer, AccessStep, bytes_read, events_of_steps, result_of}
use Rattle.mem_base.specs.access.Access.{access}
use Rattle.mem_base.specs.machine.Passes.{PassState, pass_id}
use Rattle.mem_base.specs.machine.Generations.{Generation}
use Rattle.mem_base.specs.machine.Actors.{generations_published, pass_after_all}
use Rattle.mem_base.specs.machine.PassTurns.{entries_of}
use Rattle.mem_base.specs.machine.Turns.{replies_of}
use Rattle.generation.specs.Published.{Published}
use Rattle.epoch_rule.specs.Values.{PassValue}
use Rattle.epoch_rule.specs.Wrote.{Made}
use Rattle.vcpu_pass.specs.Calls.{HasAccessed, generation_of, is_entered}
use Rattle.race_laws.specs.Acting.{AreSteps, generation_in}
use Rattle.race_laws.proofs.PassAgain.{are_again}
use Rattle.race_laws.proofs.PassRuns.{steps_stay}
use Rattle.pass_lines.specs.Doing.{DoesAccess, Grew, IsInItsGeneration, access_answer, number_in, state_seen}
use Rattle.pass_lines.proofs.EntryLaws.{cut, entered_then, entering, enters_are, generation_is, grew_made, leaves_are, leaving, left_then, number_of}
use Rattle.pass_lines.proofs.EntryLaws.{replies_are, same_inside, state_then, state_three}

-- what an access was
pub record IsAccess (v : PassValue Published) (space : SpaceId) (addr : ℕ) (transfer : Transfer) (answer : Access) (bytes : List ℕ)
    (w : PassValue Published) : Type 0 where
  pub entries : List HistoryEntry
  pub grew : Grew v entries w
  pub does : (later : List Generation) → DoesAccess (generations_published w.seen ++ later) (pass_id v.number) space addr transfer (state_seen v)
      entries answer bytes
  pub inside : IsInItsGeneration w

pub is_access : (v w : PassValue Published) (space : SpaceId) (addr : ℕ) (transfer : Transfer) (answer : Access) (bytes : List ℕ) → IsInItsGeneration v
    → HasAccessed v space addr transfer answer bytes w → IsAccess v space addr transfer answer bytes w
is_access v w space addr transfer answer bytes inside h =
    let pass : PassId = pass_id v.number in
    let p : PassState = state_seen v in
    let b : Bool = is_entered v in
    let number : ℕ = answer.number in
    let x : Generation = generation_of w number in
    let ds : List AccessStep = access x.forest space addr transfer in
    let es : List Event = events_of_steps pass ds in
    let one : List HistoryEntry = entering b pass h.looked number in
    let two : List HistoryEntry = entries_of x.places es h.replies in
    let three : List HistoryEntry = leaving b pass in
    let ys : List HistoryEntry = (one ++ two) ++ three in
    let q : PassState = pass_after_all p one in
    let made : Made v ys w =
    subst (λ (new : List HistoryEntry). Made v new w) (cut b x.places pass es h.replies h.looked number h.each) h.made in
    let grew : Grew v ys w = grew_made v w ys made in
    let there : q.entered ≡ Some number = entered_then v.edition p pass h.looked number inside h.goes_by.entered in
    let stays : pass_after_all q two ≡ q = steps_stay pass x.places ds q h.replies in
    let replied : replies_of two ≡ h.replies = replies_are x.places es h.replies h.each in
    let same : number ≡ number_in q = ap (λ (o : Option ℕ). unwrap_or o 0) (sym there) in record {
      entries = ys;
      grew = grew;
      does = λ later.
          let gs : List Generation = generations_published w.seen ++ later in
          let here : x ≡ generation_in gs q = sym (generation_is w.seen later q number h.published there) in record {
            was = b;
            one = one;
            two = two;
            three = three;
            parts = refl;
            are = record {
              inside = ap (λ (o : Option ℕ). is_some o) inside ∙ same_inside v.edition;
              enters = enters_are b pass h.looked number;
              steps = subst (λ (y : Generation). AreSteps y pass space addr transfer two) here (are_again x.places es h.replies);
              leaves = leaves_are b pass;
            };
            ended = (λ i. access_answer ((h.result ∙ ap (λ (y : Generation). result_of (access y.forest space addr transfer)) here) i) (same i));
            read = h.read
                ∙ (λ i. bytes_read (access (here i).forest space addr transfer) (sym replied i));
          };
      inside = ap (λ (z : PassState). z.entered) (state_then v w ys grew ∙ state_three p one two three
          ∙ ap (λ (z : PassState). pass_after_all z three) stays)
          ∙ left_then v.edition p pass h.looked number inside
          ∙ ap number_of (sym h.goes_by.edition);
    }
