-- What a pass does, stage by stage: it enters, makes the steps of an access, and leaves, where the replies are those of its entries.
use Rattle.std.proofs.Common.{◌≡◌, ℕ, zero, suc, Bool, List, [], ◌∷◌, ◌++◌, length, drop, refl, sym, ap, ◌∙◌, arith, append-nil, unwrap_or}
use Rattle.std.proofs.lemmas.List.{map-append, drop_at, length-map}
use Rattle.mem_base.specs.map.PassIds.{PassId}
use Rattle.mem_base.specs.declared.map.ids.SpaceId.{SpaceId}
use Rattle.mem_base.specs.declared.access.cells.Place.{Place}
use Rattle.mem_base.specs.declared.machine.events.Event.{Event}
use Rattle.mem_base.specs.declared.machine.events.HistoryEntry.{HistoryEntry}
use Rattle.mem_base.specs.access.AccessSteps.{Transfer, AccessStep, reading, writing, events_of_steps, result_of, bytes_read}
use Rattle.mem_base.specs.access.Access.{access}
use Rattle.mem_base.specs.machine.Passes.{PassState}
use Rattle.mem_base.specs.machine.Generations.{Generation}
use Rattle.mem_base.specs.machine.Actors.{pass_after_all}
use Rattle.mem_base.specs.machine.Composites.{enters_unless, leaves_unless}
use Rattle.mem_base.specs.machine.Turns.{replies_of}
use Rattle.mem_base.specs.machine.PassTurns.{PassTurn, Transferred, makes, transferred, entries_of, leaves_after, copied_on}
use Rattle.mem_base.specs.machine.PassTurns as pass_turns
use Rattle.race_laws.specs.Acting.{AreAccess, AreCopy, AreEntries, AreSteps, bytes_of_read, generation_in}
use Rattle.mem_base.proofs.PassTurnLaws.{entries_append, entries_count}

counted : (places : List Place) (es : List Event) (ys : List HistoryEntry) → AreEntries places es ys → length (replies_of ys) ≡ length es
counted places es ys h = length-map ys (λ (x : HistoryEntry). x.reply) ∙ ap length h ∙ entries_count places es (replies_of ys)

pub are_both : (places : List Place) (es fs : List Event) (ys zs : List HistoryEntry) → AreEntries places es ys → AreEntries places fs zs
    → AreEntries places (es ++ fs) (ys ++ zs)
are_both places es fs ys zs h k =
    (λ i. h i ++ k i) ∙ sym (entries_append places es fs (replies_of ys) (replies_of zs) (counted places es ys h))
    ∙ ap (λ (ns : List ℕ). entries_of places (es ++ fs) ns) (sym (map-append (λ (x : HistoryEntry). x.reply) ys zs))

-- where a pass has come to
abbrev pub turn_at : PassState → List HistoryEntry → List ℕ → PassTurn
turn_at p entries replies = record { state = p; entries = entries; replies = replies }

drop_counted : (n : ℕ) (ns ms : List ℕ) → length ns ≡ n → drop n (ns ++ ms) ≡ ms
drop_counted zero [] ms h = refl
drop_counted zero (n ∷ ns) ms h = absurd (omega (arith, h))
drop_counted (suc k) [] ms h = absurd (omega (arith, h))
drop_counted (suc k) (n ∷ ns) ms h = drop_counted k ns ms (omega (arith, h))

pub makes_are : (places : List Place) (es : List Event) (p : PassState) (before ys : List HistoryEntry) (ms : List ℕ) → AreEntries places es ys
    → makes places es (turn_at p before (replies_of ys ++ ms)) ≡ turn_at (pass_after_all p ys) (before ++ ys) ms
makes_are places es p before ys ms h =
    let count = counted places es ys h in
    let same : entries_of places es (replies_of ys ++ ms) ≡ ys =
    ap (λ (fs : List Event). entries_of places fs (replies_of ys ++ ms)) (sym (append-nil es))
    ∙ entries_append places es [] (replies_of ys) ms count ∙ append-nil (entries_of places es (replies_of ys)) ∙ sym h in
    let left : drop (length es) (replies_of ys ++ ms) ≡ ms = drop_counted (length es) (replies_of ys) ms count in
    (λ i. turn_at (pass_after_all p (same i)) (before ++ same i) (left i))

abbrev pub transfer_with : PassState → List AccessStep → ℕ → PassTurn → List ℕ → Transferred
transfer_with p steps count t ns = record {
  turn = t;
  answer = record { result = result_of steps; number = unwrap_or p.entered 0 };
  bytes = bytes_read steps ns;
}

pub transfer_are : (gs : List Generation) (pass : PassId) (s : SpaceId) (a : ℕ) (transfer : Transfer) (p : PassState) (before ys : List HistoryEntry)
    (ms : List ℕ) → AreSteps (generation_in gs p) pass s a transfer ys
    → transferred gs pass s a transfer (turn_at p before (replies_of ys ++ ms))
    ≡ transfer_with p (access (generation_in gs p).forest s a transfer) (length before) (turn_at (pass_after_all p ys) (before ++ ys) ms) (replies_of ys)
transfer_are gs pass s a transfer p before ys ms h =
    let x : Generation = generation_in gs p in
    let steps : List AccessStep = access x.forest s a transfer in
    ap (λ (z : PassTurn). transfer_with p steps (length before) z (replies_of (drop (length before) z.entries)))
    (makes_are x.places (events_of_steps pass steps) p before ys ms h)
    ∙ ap (λ (zs : List HistoryEntry). transfer_with p steps (length before) (turn_at (pass_after_all p ys) (before ++ ys) ms) (replies_of zs))
    (drop_at before ys (length before) refl)

pub accessed_are : (b : Bool) (gs : List Generation) (pass : PassId) (s : SpaceId) (a : ℕ) (transfer : Transfer) (p : PassState)
    (one two three : List HistoryEntry) (ms : List ℕ) → AreAccess b gs pass s a transfer p one two three
    → (pass_turns.accessed gs pass s a transfer (turn_at p [] (replies_of one ++ (replies_of two ++ (replies_of three ++ ms))))).turn
    ≡ turn_at (pass_after_all (pass_after_all (pass_after_all p one) two) three) ((one ++ two) ++ three) ms
accessed_are b gs pass s a transfer p one two three ms h =
    let rest : List ℕ = replies_of two ++ (replies_of three ++ ms) in
    let p_one : PassState = pass_after_all p one in
    let p_two : PassState = pass_after_all p_one two in
    ap (λ (c : Bool). (leaves_after c pass (transferred gs pass s a transfer (makes [] (enters_unless c pass) (turn_at p [] (replies_of one ++ rest))))).turn)
    h.inside
    ∙ ap (λ (z : PassTurn). (leaves_after b pass (transferred gs pass s a transfer z)).turn) (makes_are [] (enters_unless b pass) p [] one rest h.enters)
    ∙ ap (λ (z : Transferred). (leaves_after b pass z).turn) (transfer_are gs pass s a transfer p_one one two (replies_of three ++ ms) h.steps)
    ∙ makes_are [] (leaves_unless b pass) p_two (one ++ two) three ms h.leaves

pub copied_are : (b : Bool) (gs : List Generation) (pass : PassId) (from : SpaceId) (a n : ℕ) (to : SpaceId) (c : ℕ) (p : PassState)
    (one two three four : List HistoryEntry) (ms : List ℕ) → AreCopy b gs pass from a n to c p one two three four
    → (pass_turns.copied gs pass from a n to c
    (turn_at p [] (replies_of one ++ (replies_of two ++ (replies_of three ++ (replies_of four ++ ms)))))).turn
    ≡ turn_at (pass_after_all (pass_after_all (pass_after_all (pass_after_all p one) two) three) four) (((one ++ two) ++ three) ++ four) ms
copied_are b gs pass from a n to c p one two three four ms h =
    let last : List ℕ = replies_of four ++ ms in
    let rest : List ℕ = replies_of two ++ (replies_of three ++ last) in
    let p_one : PassState = pass_after_all p one in
    let p_two : PassState = pass_after_all p_one two in
    let p_three : PassState = pass_after_all p_two three in
    let x : Generation = generation_in gs p_one in
    let bytes : List ℕ = bytes_of_read x from a n two in
    ap (λ (d : Bool). (leaves_after d pass (copied_on gs pass to c (transferred gs pass from a (reading n)
    (makes [] (enters_unless d pass) (turn_at p [] (replies_of one ++ rest)))))).turn) h.inside
    ∙ ap (λ (z : PassTurn). (leaves_after b pass (copied_on gs pass to c (transferred gs pass from a (reading n) z))).turn)
    (makes_are [] (enters_unless b pass) p [] one rest h.enters)
    ∙ ap (λ (z : Transferred). (leaves_after b pass (copied_on gs pass to c z)).turn)
    (transfer_are gs pass from a (reading n) p_one one two (replies_of three ++ last) h.reads)
    ∙ ap (λ (z : Transferred). makes [] (leaves_unless b pass) z.turn)
    (transfer_are gs pass to c (writing bytes) p_two (one ++ two) three last h.writes)
    ∙ makes_are [] (leaves_unless b pass) p_three ((one ++ two) ++ three) four ms h.leaves
