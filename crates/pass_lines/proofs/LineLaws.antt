-- Lines of a pass, by what the calls of a virtual CPU did.
use Rattle.std.proofs.Common.{◌≡◌, ℕ, ◌+◌, Bool, true, false, List, [], refl, sym, ap, subst, ◌∙◌, append-nil}
use Rattle.std.proofs.Common.{Option, Some, None, is_some, if◌then◌else◌, unwrap_or}
use Rattle.std.specs.Prelude.{IfSome}
use base.Growing.{prefix_refl}
use Rattle.mem_base.specs.map.PassIds.{PassId}
use Rattle.mem_base.specs.declared.map.ids.SpaceId.{SpaceId}
use Rattle.mem_base.specs.declared.access.accesses.Access.{Access}
use Rattle.mem_base.specs.declared.machine.events.HistoryEntry.{HistoryEntry}
use Rattle.mem_base.specs.access.AccessSteps.{reading, writing}
use Rattle.mem_base.specs.machine.Passes.{PassState, pass_id}
use Rattle.mem_base.specs.machine.Actors.{own_entries, pass_after_all}
use Rattle.mem_base.specs.machine.Composites.{enters_anew, leaves}
use Rattle.mem_base.specs.machine.PassTurns.{entries_of}
use Rattle.generation.specs.Published.{Published}
use Rattle.epoch_rule.specs.Values.{PassValue}
use Rattle.epoch_rule.specs.Wrote.{Made}
use Rattle.vcpu_pass.specs.Entries.{replies_anew, replies_to_leave}
use Rattle.vcpu_pass.specs.Calls.{HasAccessed, HasEntered, HasLeft, is_entered}
use Rattle.race_laws.specs.Acting.{AreEntries}
use Rattle.pass_lines.specs.declared.answers.LineAnswer.TheVariants as answers
use Rattle.mem_base.specs.script.Tasks as tasks
use Rattle.pass_lines.specs.Doing.{DoesLine, Grew, IsInItsGeneration, state_seen}
use Rattle.pass_lines.proofs.EntryLaws.{grew_made, number_of, same_inside, state_then}
use Rattle.pass_lines.proofs.AccessLaws.{is_access}

-- entering anew

abbrev entering_anew : Bool → PassId → ℕ → ℕ → List HistoryEntry
entering_anew entered pass looked number = entries_of [] (enters_anew entered pass) (replies_anew entered looked number)

anew_are : (b : Bool) (pass : PassId) (looked number : ℕ) → AreEntries [] (enters_anew b pass) (entering_anew b pass looked number)
anew_are true pass looked number = refl
anew_are false pass looked number = refl

anew_then : (b : Bool) (p : PassState) (pass : PassId) (looked number : ℕ) → (pass_after_all p (entering_anew b pass looked number)).entered ≡ Some number
anew_then true p pass looked number = refl
anew_then false p pass looked number = refl

pub entered : (v w : PassValue Published) (number : ℕ) (g : Published) → IsInItsGeneration v → HasEntered v number w → w.edition ≡ Some g
    → g.number ≡ number → DoesLine v tasks.entered (answers.Entered number) w
entered v w number g inside h edition named =
    let pass : PassId = pass_id v.number in
    let p : PassState = state_seen v in
    let b : Bool = is_entered v in
    let ys : List HistoryEntry = entering_anew b pass h.looked number in
    let grew : Grew v ys w = grew_made v w ys h.made in
    let there : (pass_after_all p ys).entered ≡ Some number = anew_then b p pass h.looked number in
    let same : b ≡ is_some p.entered = sym (ap (λ (o : Option ℕ). is_some o) inside ∙ same_inside v.edition) in record {
      entries = ys;
      grew = grew;
      does = λ later. record {
        are = subst (λ (c : Bool). AreEntries [] (enters_anew c pass) ys) same (anew_are b pass h.looked number);
        told = ap (λ (o : Option ℕ). answers.Entered (unwrap_or o 0)) (sym there);
      };
      inside = ap (λ (z : PassState). z.entered) (state_then v w ys grew) ∙ there ∙ ap (λ (n : ℕ). Some n) (sym named) ∙ ap number_of (sym edition);
    }

-- leaving

abbrev leaving_if : Bool → PassId → List HistoryEntry
leaving_if entered pass = entries_of [] (if entered then leaves pass else []) (if entered then replies_to_leave else [])

if_are : (b : Bool) (pass : PassId) → AreEntries [] (if b then leaves pass else []) (leaving_if b pass)
if_are true pass = refl
if_are false pass = refl

if_then : (o : Option Published) (p : PassState) (pass : PassId) → p.entered ≡ number_of o → (pass_after_all p (leaving_if (is_some o) pass)).entered ≡ None
if_then None p pass e = e
if_then (Some g) p pass e = refl

-- a pass that did nothing
pub nothing_grew : (v w : PassValue Published) → w ≡ v → Grew v [] w
nothing_grew v w same = subst (λ (z : PassValue Published). Grew v [] z) (sym same) record {
  cabinet = refl;
  number = refl;
  sizes = refl;
  begins = prefix_refl v.seen;
  own = sym (append-nil (own_entries (v.number + 1) v.seen));
}

left_grew : (v w : PassValue Published) (o : Option Published) → v.edition ≡ o
    → IfSome o (λ g. Made v (entries_of [] (leaves (pass_id v.number)) replies_to_leave) w) → (v.edition ≡ None → w ≡ v)
    → Grew v (leaving_if (is_some o) (pass_id v.number)) w
left_grew v w None e some none = nothing_grew v w (none e)
left_grew v w (Some g) e some none = grew_made v w _ some

pub left : (v w : PassValue Published) → IsInItsGeneration v → HasLeft v w → DoesLine v tasks.left answers.Left w
left v w inside h =
    let pass : PassId = pass_id v.number in
    let p : PassState = state_seen v in
    let b : Bool = is_entered v in
    let ys : List HistoryEntry = leaving_if b pass in
    let grew : Grew v ys w = left_grew v w v.edition refl h.1 h.2 in
    let same : b ≡ is_some p.entered = sym (ap (λ (o : Option ℕ). is_some o) inside ∙ same_inside v.edition) in record {
      entries = ys;
      grew = grew;
      does = λ later. record {
        are = subst (λ (c : Bool). AreEntries [] (if c then leaves pass else []) ys) same (if_are b pass);
        told = refl;
      };
      inside = ap (λ (z : PassState). z.entered) (state_then v w ys grew) ∙ if_then v.edition p pass inside ∙ ap number_of (sym h.0);
    }

-- accesses

pub read : (v w : PassValue Published) (space : SpaceId) (addr len : ℕ) (answer : Access) (bytes : List ℕ) → IsInItsGeneration v
    → HasAccessed v space addr (reading len) answer bytes w → DoesLine v (tasks.accessed space addr (reading len)) (answers.Read answer bytes) w
read v w space addr len answer bytes inside h =
    let a = is_access v w space addr (reading len) answer bytes inside h in record {
      entries = a.entries;
      grew = a.grew;
      does = λ later. (answer, bytes, refl, a.does later);
      inside = a.inside;
    }

-- the same, where the bytes were read into a buffer
pub read_into : (v w : PassValue Published) (space : SpaceId) (addr len count : ℕ) (answer : Access) (bytes out : List ℕ) → IsInItsGeneration v
    → count ≡ len → bytes ≡ out → HasAccessed v space addr (reading count) answer out w
    → DoesLine v (tasks.accessed space addr (reading len)) (answers.Read answer bytes) w
read_into v w space addr len count answer bytes out inside same filled h =
    read v w space addr len answer bytes inside
    (subst (λ (z : ℕ × List ℕ). HasAccessed v space addr (reading z.0) answer z.1 w) (λ i. (same i, sym filled i)) h)

pub wrote : (v w : PassValue Published) (space : SpaceId) (addr : ℕ) (answer : Access) (bytes : List ℕ) → IsInItsGeneration v
    → HasAccessed v space addr (writing bytes) answer [] w → DoesLine v (tasks.accessed space addr (writing bytes)) (answers.Wrote answer) w
wrote v w space addr answer bytes inside h =
    let a = is_access v w space addr (writing bytes) answer [] inside h in record {
      entries = a.entries;
      grew = a.grew;
      does = λ later. (answer, refl, a.does later);
      inside = a.inside;
    }
