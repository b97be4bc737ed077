-- What an actor keeps from line to line, and what it gives at the end of a phase.
use Rattle.std.proofs.Common.{◌≡◌, ℕ, ◌+◌, List, [], ◌∷◌, ◌++◌, length, flat_map, refl, sym, ap, ◌∙◌, subst, Ok, append-nil, is_some, if◌then◌else◌}
use Rattle.mem_base.specs.map.PassIds.{PassId}
use Rattle.mem_base.specs.declared.machine.events.HistoryEntry.{HistoryEntry}
use Rattle.mem_base.specs.declared.machine.records.DeskEntry.{DeskEntry}
use Rattle.mem_base.specs.declared.machine.records.DeskOrder.{DeskOrder}
use Rattle.mem_base.specs.declared.machine.records.DeskOrder.TheVariants as orders
use Rattle.mem_base.specs.machine.Passes.{PassState}
use Rattle.mem_base.specs.machine.Generations.{Generation}
use Rattle.mem_base.specs.machine.Actors.{own_entries, pass_after_all}
use Rattle.mem_base.specs.machine.Composites.{enters_anew, leaves}
use Rattle.mem_base.specs.machine.Turns.{replies_of}
use Rattle.mem_base.specs.machine.PassTurns as pass_turns
use Rattle.mem_base.specs.machine.Records.{got_by}
use Rattle.mem_base.specs.script.Scripts.{Line}
use Rattle.mem_base.specs.script.Named.{Names}
use Rattle.mem_base.specs.script.Tasks.{Known}
use Rattle.mem_base.specs.script.Tasks as tasks
use Rattle.mem_base.specs.script.RaceLines.{DeskLine, PassLine, line_of_pass, lines_of_desk, lines_of_pass}
use Rattle.mem_base.specs.script.Race.{ActsAfterPublishes, AsksAsGiven, Course, IsPassPart, Phase, Stand, desk_number, desk_part, lines_by, pass_state}
use Rattle.mem_base.specs.script.Race.{stand_after}
use Rattle.history_laws.proofs.AppendLaws.{pass_by_append}
use Rattle.race_laws.specs.Acting.{DeskActs, DeskAt, DeskRuns, LinesDo, PassActs, PassAt}
use Rattle.race_laws.proofs.NextLines.{desk_at_grows, desk_does, desk_line_done, own_asks, pass_at_grows, pass_line_done}
use Rattle.race_laws.proofs.PassGoesOn.{by_turn, replies_four, replies_three}
use Rattle.race_laws.proofs.PassStages.{accessed_are, copied_are, makes_are, turn_at}

pub desk_ends : (gs : List Generation) (s : Stand) (phase : Phase) (c : Course) (now : Known)
    → DeskAt gs s.known (lines_by desk_number phase) (got_by desk_number c.clerks) now
    → AsksAsGiven (got_by desk_number c.clerks) (flat_map (λ (x : DeskLine). x.asks) (desk_part gs s phase c))
desk_ends gs s phase c now at =
    let got : List DeskEntry = got_by desk_number c.clerks in
    let r : DeskRuns (gs ++ []) s.known (lines_by desk_number phase) got [] now = at [] [] in
    r.asks ∙ (λ i. flat_map (λ (x : DeskLine). x.asks) (lines_of_desk (append-nil gs i) s.known (lines_by desk_number phase) (append-nil got i)))

pub pass_ends : (gs : List Generation) (s : Stand) (phase : Phase) (c : Course) (pass : PassId) (now : PassState)
    → PassAt gs s.known pass (s.seen ++ c.entries) (length (own_entries (pass.0 + 1) s.seen)) (record {
      before = pass_state pass s.seen;
      lines = lines_by pass.0 phase;
      own = own_entries (pass.0 + 1) c.entries;
      got = got_by pass.0 c.clerks;
      now = now;
    }) → IsPassPart gs s phase c pass
pass_ends gs s phase c pass now at =
    let names : Names = (stand_after gs s phase c).known.names in
    let p = at names [] [] [] [] in
    let own : List HistoryEntry = own_entries (pass.0 + 1) c.entries in
    let mine : List DeskEntry = got_by pass.0 c.clerks in
    let lines : List Line = lines_by pass.0 phase in
    let same : lines_of_pass (gs ++ []) s.known names pass (pass_state pass s.seen) lines (replies_of own ++ []) (mine ++ [])
    ≡ lines_of_pass gs s.known names pass (pass_state pass s.seen) lines (replies_of own) mine =
    (λ i. lines_of_pass (append-nil gs i) s.known names pass (pass_state pass s.seen) lines (append-nil (replies_of own) i) (append-nil mine i)) in record {
      entries = p.entries ∙ ap (λ (xs : List PassLine). flat_map (λ (x : PassLine). x.turn.entries) xs) same;
      asks = p.asks ∙ ap (λ (xs : List PassLine). flat_map (λ (x : PassLine). x.asks) xs) same;
      after = subst (λ (z : List HistoryEntry × List PassLine). ActsAfterPublishes z.0 (pass.0 + 1) (length (own_entries (pass.0 + 1) s.seen)) z.1)
          (λ i. (append-nil (s.seen ++ c.entries) i, same i)) p.after;
    }

pub desk_acts : DeskActs
desk_acts = record {
  begins = λ published k later more. record { asks = refl; left = refl };
  goes = λ published k front got now line new at some asks told. desk_line_done published k front got now at line new _
      (desk_does published now line new some
      (asks ∙ ap (λ (os : List DeskOrder). os ++ orders.Look ∷ []) (own_asks now line.0 _ _ _ _)) told);
  grows = λ published more k front got now at. desk_at_grows published more k front got now at;
  ends = λ published s phase c now at. desk_ends published s phase c now at;
}

pub pass_acts : PassActs
pass_acts = record {
  begins = λ published k pass xs count p names later zs replies more. record { entries = refl; asks = refl; after = tt; left = refl };
  goes = λ published k pass xs count d line ys new next told at does stands. pass_line_done published k pass xs count d at line ys new next told does stands;
  grows = λ published more k pass xs zs count d at. pass_at_grows published more k pass xs zs count d at;
  ends = λ published s phase c pass now at. pass_ends published s phase c pass now at;
}

pub lines_do : LinesDo
lines_do gs names pass n p ms e = record {
  enters = λ ys are. by_turn (line_of_pass gs names pass n (Ok tasks.entered) (turn_at p [] (replies_of ys ++ ms)) e) (pass_after_all p ys) ys ms refl refl
      (makes_are [] (enters_anew (is_some p.entered) pass) p [] ys ms are);
  leaves_it = λ ys are. by_turn (line_of_pass gs names pass n (Ok tasks.left) (turn_at p [] (replies_of ys ++ ms)) e) (pass_after_all p ys) ys ms refl refl
      (makes_are [] (if is_some p.entered then leaves pass else []) p [] ys ms are);
  accesses = λ b s a transfer one two three are.
      let ys : List HistoryEntry = (one ++ two) ++ three in
      by_turn (line_of_pass gs names pass n (Ok (tasks.accessed s a transfer)) (turn_at p [] (replies_of ys ++ ms)) e) (pass_after_all p ys) ys ms refl refl
      (ap (λ (ns : List ℕ). (pass_turns.accessed gs pass s a transfer (turn_at p [] ns)).turn) (replies_three one two three ms)
      ∙ accessed_are b gs pass s a transfer p one two three ms are
      ∙ ap (λ (q : PassState). turn_at q ys ms)
      (sym (pass_by_append (one ++ two) three p ∙ ap (λ (q : PassState). pass_after_all q three) (pass_by_append one two p))));
  copies = λ b from a count to c one two three four are.
      let ys : List HistoryEntry = ((one ++ two) ++ three) ++ four in
      by_turn (line_of_pass gs names pass n (Ok (tasks.copied from a count to c)) (turn_at p [] (replies_of ys ++ ms)) e) (pass_after_all p ys) ys ms refl refl
      (ap (λ (ns : List ℕ). (pass_turns.copied gs pass from a count to c (turn_at p [] ns)).turn) (replies_four one two three four ms)
      ∙ copied_are b gs pass from a count to c p one two three four ms are
      ∙ ap (λ (q : PassState). turn_at q ys ms)
      (sym (pass_by_append ((one ++ two) ++ three) four p ∙ ap (λ (q : PassState). pass_after_all q four)
      (pass_by_append (one ++ two) three p ∙ ap (λ (q : PassState). pass_after_all q three) (pass_by_append one two p)))));
}
