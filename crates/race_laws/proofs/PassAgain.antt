-- What a line of a pass does once more: by the replies of its own entries, whatever follows them, whatever is published later, and by
-- whatever names it is printed.
use Rattle.std.proofs.Common.{◌≡◌, ℕ, ◌<◌, Bool, true, false, List, [], ◌∷◌, ◌++◌, length, drop, refl, sym, ap, ◌∙◌, subst}
use Rattle.std.proofs.Common.{Result, Ok, Err, is_some, if◌then◌else◌, unwrap_or}
use Rattle.mem_base.specs.map.PassIds.{PassId}
use Rattle.mem_base.specs.declared.map.ids.SpaceId.{SpaceId}
use Rattle.mem_base.specs.declared.access.cells.Place.{Place}
use Rattle.mem_base.specs.declared.machine.events.Event.{Event}
use Rattle.mem_base.specs.declared.machine.events.HistoryEntry.{HistoryEntry}
use Rattle.mem_base.specs.declared.machine.records.DeskEntry.{DeskEntry}
use Rattle.mem_base.specs.lists.Every.{Every}
use Rattle.mem_base.specs.access.AccessSteps.{Transfer, reading, writing, events_of_steps}
use Rattle.mem_base.specs.access.Access.{access}
use Rattle.mem_base.specs.machine.Passes.{PassState, idle}
use Rattle.mem_base.specs.machine.Generations.{Generation}
use Rattle.mem_base.specs.machine.Actors.{pass_after_all}
use Rattle.mem_base.specs.machine.Composites.{enters_anew, enters_unless, leaves, leaves_unless}
use Rattle.mem_base.specs.machine.Turns.{history_entry, replies_of}
use Rattle.mem_base.specs.machine.PassTurns.{PassTurn, Transferred, carried_among, entries_of, pass_begins, transferred}
use Rattle.mem_base.specs.machine.PassTurns as pass_turns
use Rattle.mem_base.specs.script.Spelling.{Text}
use Rattle.mem_base.specs.script.Named.{Names}
use Rattle.mem_base.specs.script.Tasks.{Task}
use Rattle.mem_base.specs.script.Tasks as tasks
use Rattle.mem_base.specs.script.RaceLines.{PassLine, line_of_pass}
use Rattle.history_laws.proofs.AppendLaws.{pass_by_append}
use Rattle.race_laws.specs.Acting.{AreAccess, AreCopy, AreEntries, AreSteps, bytes_of_read, generation_in}
use Rattle.race_laws.proofs.GoesOn.{IsRested}
use Rattle.mem_base.proofs.EveryLaws.{every_first}
use Rattle.race_laws.proofs.MorePublished.{EntersBelow, IsUnder, entries_under, numbered_same, under_number}
use Rattle.race_laws.proofs.PassGoesOn.{replies_four, replies_three}
use Rattle.race_laws.proofs.PassStages.{accessed_are, copied_are, makes_are, turn_at}
use Rattle.std.proofs.lemmas.List.{drop_at}
use Rattle.race_laws.proofs.Stages.{idle_after, inside_after}
use Rattle.race_laws.proofs.PassRuns.{steps_stay}
use Rattle.std.proofs.lemmas.Bool.{or_left}

pub are_again : (places : List Place) (es : List Event) (ns : List ℕ) → AreEntries places es (entries_of places es ns)
are_again places [] ns = refl
are_again places (e ∷ es) [] = ap (λ (ys : List HistoryEntry). history_entry e (carried_among places e) 0 ∷ ys) (are_again places es [])
are_again places (e ∷ es) (n ∷ ns) = ap (λ (ys : List HistoryEntry). history_entry e (carried_among places e) n ∷ ys) (are_again places es ns)

-- a line that was done does the same again
pub record IsAgain (gs : List Generation) (pass : PassId) (n : ℕ) (task : Result Task Text) (p : PassState) (e : DeskEntry) (x : PassLine) : Type 0 where
  pub turn : (names : Names) (later : List Generation) (ms : List ℕ)
      → (line_of_pass (gs ++ later) names pass n task (pass_begins p (replies_of x.turn.entries ++ ms)) e).turn ≡ turn_at x.turn.state x.turn.entries ms
  pub asks : (names : Names) (later : List Generation) (ms : List ℕ)
      → (line_of_pass (gs ++ later) names pass n task (pass_begins p (replies_of x.turn.entries ++ ms)) e).asks ≡ x.asks
  pub published : (names : Names) (later : List Generation) (ms : List ℕ)
      → (line_of_pass (gs ++ later) names pass n task (pass_begins p (replies_of x.turn.entries ++ ms)) e).published ≡ x.published
  pub state : x.turn.state ≡ pass_after_all p x.turn.entries
  pub rested : IsRested p → IsRested x.turn.state

enters_inside : (b : Bool) (pass : PassId) (p : PassState) (ns : List ℕ) → is_some p.entered ≡ b
    → is_some (pass_after_all p (entries_of [] (enters_unless b pass) ns)).entered ≡ true
enters_inside true pass p ns e = e
enters_inside false pass p ns e = inside_after pass p ns

anew_inside : (b : Bool) (pass : PassId) (p : PassState) (ns : List ℕ) → is_some (pass_after_all p (entries_of [] (enters_anew b pass) ns)).entered ≡ true
anew_inside false pass p ns = inside_after pass p ns
anew_inside true pass p [] = inside_after pass idle []
anew_inside true pass p (n ∷ ns) = inside_after pass idle ns

leaves_rested : (b : Bool) (pass : PassId) (p : PassState) (ns : List ℕ) → is_some p.entered ≡ true
    → IsRested (pass_after_all p (entries_of [] (leaves_unless b pass) ns))
leaves_rested true pass p ns e = or_left _ _ e
leaves_rested false pass p ns e = subst IsRested (sym (idle_after pass p ns)) refl

left_rested : (b : Bool) (pass : PassId) (p : PassState) (ns : List ℕ) → IsRested p
    → IsRested (pass_after_all p (entries_of [] (if b then leaves pass else []) ns))
left_rested true pass p ns h = subst IsRested (sym (idle_after pass p ns)) refl
left_rested false pass p ns h = h

module _ (gs : List Generation) (some : 0 < length gs) (pass : PassId) (n : ℕ) (names : Names) (p : PassState) (ns : List ℕ) (e : DeskEntry)
    (under : IsUnder (length gs) p.entered) where
  abbrev t : PassTurn
  t = pass_begins p ns

  abbrev b : Bool
  b = is_some p.entered

  abbrev Below : List HistoryEntry → Type 0
  Below ys = Every (EntersBelow (length gs)) ys

  generation_same : (q : PassState) (later : List Generation) → IsUnder (length gs) q.entered → generation_in gs q ≡ generation_in (gs ++ later) q
  generation_same q later h = sym (numbered_same gs later some (unwrap_or q.entered 0) (under_number gs later some q.entered h))

  access_again : (s : SpaceId) (a : ℕ) (transfer : Transfer) → Below (pass_turns.accessed gs pass s a transfer t).turn.entries
      → IsAgain gs pass n (Ok (tasks.accessed s a transfer)) p e (line_of_pass gs names pass n (Ok (tasks.accessed s a transfer)) t e)
  access_again s a transfer below =
      let one : List HistoryEntry = entries_of [] (enters_unless b pass) ns in
      let p_one : PassState = pass_after_all p one in
      let x : Generation = generation_in gs p_one in
      let rest : List ℕ = drop (length (enters_unless b pass)) ns in
      let es : List Event = events_of_steps pass (access x.forest s a transfer) in
      let two : List HistoryEntry = entries_of x.places es rest in
      let last : List ℕ = drop (length es) rest in
      let three : List HistoryEntry = entries_of [] (leaves_unless b pass) last in
      let p_two : PassState = pass_after_all p_one two in
      let below_one = every_first (EntersBelow (length gs)) one two (every_first (EntersBelow (length gs)) (one ++ two) three below) in
      let under_one = entries_under (length gs) p one under below_one in
      let inside_one = enters_inside b pass p ns refl in
      let inside_two : is_some p_two.entered ≡ true =
      ap (λ (q : PassState). is_some q.entered) (steps_stay pass x.places (access x.forest s a transfer) p_one rest) ∙ inside_one in
      let are : (later : List Generation) → AreAccess b (gs ++ later) pass s a transfer p one two three =
      λ later. record {
        inside = refl;
        enters = are_again [] (enters_unless b pass) ns;
        steps = subst (λ (y : Generation). AreSteps y pass s a transfer two) (generation_same p_one later under_one) (are_again x.places es rest);
        leaves = are_again [] (leaves_unless b pass) last;
      } in record {
        turn = λ names later ms.
            ap (λ (zs : List ℕ). (pass_turns.accessed (gs ++ later) pass s a transfer (turn_at p [] zs)).turn) (replies_three one two three ms)
            ∙ accessed_are b (gs ++ later) pass s a transfer p one two three ms (are later);
        asks = λ names later ms. refl;
        published = λ names later ms. refl;
        state = sym (pass_by_append (one ++ two) three p ∙ ap (λ (q : PassState). pass_after_all q three) (pass_by_append one two p));
        rested = λ h. leaves_rested b pass p_two last inside_two;
      }

  copy_again : (from : SpaceId) (a count : ℕ) (to : SpaceId) (c : ℕ) → Below (pass_turns.copied gs pass from a count to c t).turn.entries
      → IsAgain gs pass n (Ok (tasks.copied from a count to c)) p e (line_of_pass gs names pass n (Ok (tasks.copied from a count to c)) t e)
  copy_again from a count to c below =
      let one : List HistoryEntry = entries_of [] (enters_unless b pass) ns in
      let p_one : PassState = pass_after_all p one in
      let x : Generation = generation_in gs p_one in
      let first : List ℕ = drop (length (enters_unless b pass)) ns in
      let es : List Event = events_of_steps pass (access x.forest from a (reading count)) in
      let two : List HistoryEntry = entries_of x.places es first in
      let second : List ℕ = drop (length es) first in
      let p_two : PassState = pass_after_all p_one two in
      let y : Generation = generation_in gs p_two in
      let read : Transferred = transferred gs pass from a (reading count) (turn_at p_one one first) in
      let fs : List Event = events_of_steps pass (access y.forest to c (writing read.bytes)) in
      let three : List HistoryEntry = entries_of y.places fs second in
      let third : List ℕ = drop (length fs) second in
      let p_three : PassState = pass_after_all p_two three in
      let four : List HistoryEntry = entries_of [] (leaves_unless b pass) third in
      let bytes : read.bytes ≡ bytes_of_read x from a count two =
      ap (λ (zs : List HistoryEntry). bytes_of_read x from a count zs) (drop_at one two (length one) refl) in
      let below_three = every_first (EntersBelow (length gs)) ((one ++ two) ++ three) four below in
      let below_two = every_first (EntersBelow (length gs)) (one ++ two) three below_three in
      let below_one = every_first (EntersBelow (length gs)) one two below_two in
      let under_one = entries_under (length gs) p one under below_one in
      let still : p_two ≡ p_one = steps_stay pass x.places (access x.forest from a (reading count)) p_one first in
      let under_two = subst (λ (q : PassState). IsUnder (length gs) q.entered) (sym still) under_one in
      let inside_one = enters_inside b pass p ns refl in
      let inside_three : is_some p_three.entered ≡ true =
      ap (λ (q : PassState). is_some q.entered) (steps_stay pass y.places (access y.forest to c (writing read.bytes)) p_two second ∙ still) ∙ inside_one in
      let are : (later : List Generation) → AreCopy b (gs ++ later) pass from a count to c p one two three four =
      λ later. record {
        inside = refl;
        enters = are_again [] (enters_unless b pass) ns;
        reads = subst (λ (z : Generation). AreSteps z pass from a (reading count) two) (generation_same p_one later under_one) (are_again x.places es first);
        writes = subst (λ (z : Generation × List ℕ). AreSteps z.0 pass to c (writing z.1) three)
            (λ i. (
              generation_same p_two later under_two i,
              (bytes ∙ ap (λ (z : Generation). bytes_of_read z from a count two) (generation_same p_one later under_one)) i,
            ))
            (are_again y.places fs second);
        leaves = are_again [] (leaves_unless b pass) third;
      } in record {
        turn = λ names later ms.
            ap (λ (zs : List ℕ). (pass_turns.copied (gs ++ later) pass from a count to c (turn_at p [] zs)).turn) (replies_four one two three four ms)
            ∙ copied_are b (gs ++ later) pass from a count to c p one two three four ms (are later);
        asks = λ names later ms. refl;
        published = λ names later ms. refl;
        state = sym (pass_by_append ((one ++ two) ++ three) four p ∙ ap (λ (q : PassState). pass_after_all q four)
            (pass_by_append (one ++ two) three p ∙ ap (λ (q : PassState). pass_after_all q three) (pass_by_append one two p)));
        rested = λ h. leaves_rested b pass p_three third inside_three;
      }

  -- a line that makes no entries
  quiet_again : (task : Result Task Text) (x : PassLine)
      → ((hs : List Generation) (others : Names) (ms : List ℕ) → (line_of_pass hs others pass n task (pass_begins p ms) e).turn ≡ pass_begins p ms)
      → ((hs : List Generation) (others : Names) (ms : List ℕ) → (line_of_pass hs others pass n task (pass_begins p ms) e).asks ≡ x.asks)
      → ((hs : List Generation) (others : Names) (ms : List ℕ) → (line_of_pass hs others pass n task (pass_begins p ms) e).published ≡ x.published)
      → x.turn ≡ pass_begins p ns → IsAgain gs pass n task p e x
  quiet_again task x turn asks published is =
      let none : x.turn.entries ≡ [] = ap (λ (z : PassTurn). z.entries) is in
      let state : x.turn.state ≡ p = ap (λ (z : PassTurn). z.state) is in record {
        turn = λ names later ms. turn (gs ++ later) names (replies_of x.turn.entries ++ ms)
            ∙ (λ i. turn_at (sym state i) (sym none i) (replies_of (none i) ++ ms));
        asks = λ names later ms. asks (gs ++ later) names (replies_of x.turn.entries ++ ms);
        published = λ names later ms. published (gs ++ later) names (replies_of x.turn.entries ++ ms);
        state = state ∙ ap (λ (ys : List HistoryEntry). pass_after_all p ys) (sym none);
        rested = λ h. subst IsRested (sym state) h;
      }

  pub again : (task : Result Task Text) → Below (line_of_pass gs names pass n task t e).turn.entries
      → IsAgain gs pass n task p e (line_of_pass gs names pass n task t e)
  again (Err why) below = quiet_again (Err why) (line_of_pass gs names pass n (Err why) t e) (λ hs o ms. refl) (λ hs o ms. refl) (λ hs o ms. refl) refl
  again (Ok tasks.idle) below =
      quiet_again (Ok tasks.idle) (line_of_pass gs names pass n (Ok tasks.idle) t e) (λ hs o ms. refl) (λ hs o ms. refl) (λ hs o ms. refl) refl
  again (Ok (tasks.ordered order name)) below = quiet_again (Ok (tasks.ordered order name)) (line_of_pass gs names pass n (Ok (tasks.ordered order name)) t e)
      (λ hs o ms. refl) (λ hs o ms. refl) (λ hs o ms. refl) refl
  again (Ok (tasks.shown s)) below =
      quiet_again (Ok (tasks.shown s)) (line_of_pass gs names pass n (Ok (tasks.shown s)) t e) (λ hs o ms. refl) (λ hs o ms. refl) (λ hs o ms. refl) refl
  again (Ok (tasks.found s a)) below =
      quiet_again (Ok (tasks.found s a)) (line_of_pass gs names pass n (Ok (tasks.found s a)) t e) (λ hs o ms. refl) (λ hs o ms. refl) (λ hs o ms. refl) refl
  again (Ok (tasks.watched name r first last)) below = quiet_again (Ok (tasks.watched name r first last))
      (line_of_pass gs names pass n (Ok (tasks.watched name r first last)) t e) (λ hs o ms. refl) (λ hs o ms. refl) (λ hs o ms. refl) refl
  again (Ok (tasks.unwatched id)) below = quiet_again (Ok (tasks.unwatched id)) (line_of_pass gs names pass n (Ok (tasks.unwatched id)) t e)
      (λ hs o ms. refl) (λ hs o ms. refl) (λ hs o ms. refl) refl
  again (Ok tasks.entered) below =
      let ys : List HistoryEntry = entries_of [] (enters_anew b pass) ns in record {
        turn = λ names later ms. makes_are [] (enters_anew b pass) p [] ys ms (are_again [] (enters_anew b pass) ns);
        asks = λ names later ms. refl;
        published = λ names later ms. refl;
        state = refl;
        rested = λ h. or_left _ _ (anew_inside b pass p ns);
      }
  again (Ok tasks.left) below =
      let es : List Event = if b then leaves pass else [] in
      let ys : List HistoryEntry = entries_of [] es ns in record {
        turn = λ names later ms. makes_are [] es p [] ys ms (are_again [] es ns);
        asks = λ names later ms. refl;
        published = λ names later ms. refl;
        state = refl;
        rested = λ h. left_rested b pass p ns h;
      }
  again (Ok (tasks.accessed s a transfer)) below = access_again s a transfer below
  again (Ok (tasks.copied from a count to c)) below = copy_again from a count to c below
