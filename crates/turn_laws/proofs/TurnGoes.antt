-- The row of a turn goes where each of its events is ready.
use Rattle.std.proofs.Common.{◌≡◌, ℕ, Bool, true, false, List, [], ◌∷◌, ◌++◌, map, drop, sym, refl, ◌∙◌, subst, append_assoc, if◌then◌else◌}
use Rattle.std.specs.Prelude.{flat_map}
use Rattle.mem_base.specs.declared.machine.events.HistoryEntry.{HistoryEntry}
use Rattle.mem_base.specs.declared.machine.events.Event.{Event}
use Rattle.mem_base.specs.machine.Desk.{carried_by}
use Rattle.mem_base.specs.machine.Reaps.{Writer}
use Rattle.mem_base.specs.machine.Configs.{writer_after, private_reply}
use Rattle.mem_base.specs.machine.History.{PureEntry, pure_entry}
use Rattle.mem_base.specs.machine.Orders.{Order, events_before, private_of, events_after}
use Rattle.mem_base.specs.machine.Answers.{first_or_zero}
use Rattle.mem_base.specs.machine.Turns.{WriterCall, turn, turns, Answered, played, history_entry, private_entries, after_private, entries_of_turn, last_writer}
use Rattle.mem_base.specs.machine.JoinedHistory.{RowPart, next_entry, after_last, before_next, row_of, private_part, waits_for_fill}
use Rattle.turn_laws.proofs.Joining.{Goes}

abbrev nexts : List HistoryEntry → List RowPart
nexts xs = map (λ x. next_entry) xs

module _ (Ready : Writer → HistoryEntry → Type 0) (Due : Writer → PureEntry → Type 0) (end : Writer) where
  abbrev pub AllReady : Writer → List Event → List ℕ → Type 0
  AllReady h [] ns = Unit {0}
  AllReady h (e ∷ es) ns = Ready h (history_entry e (carried_by h.desk e) (first_or_zero ns)) × AllReady
      (writer_after h e (carried_by h.desk e) (first_or_zero ns)) es (drop 1 ns)

  played_goes : (es : List Event) (h : Writer) (ns : List ℕ) (ps : List RowPart) (ys : List HistoryEntry) → AllReady h es ns
      → Goes Ready Due end (played h es ns).writer ps ys
      → Goes Ready Due end h (nexts (played h es ns).entries ++ ps) ((played h es ns).entries ++ ys)
  played_goes [] h ns ps ys a g = g
  played_goes (e ∷ es) h ns ps ys a g = (a.0, played_goes es (writer_after h e (carried_by h.desk e) (first_or_zero ns)) (drop 1 ns) ps ys a.1 g)

  abbrev pub AllDue : Writer → List Event → Type 0
  AllDue h [] = Unit {0}
  AllDue h (e ∷ es) = Due h (pure_entry e (private_reply h e)) × AllDue (writer_after h e (carried_by h.desk e) 0) es

  private_goes : (t : WriterCall) (es : List Event) (h : Writer) (ps : List RowPart) (ys : List HistoryEntry) → AllDue h es
      → Goes Ready Due end (after_private h es) ps ys → Goes Ready Due end h (map (private_part t) (private_entries h es) ++ ps) ys
  private_goes t [] h ps ys a g = g
  private_goes t (e ∷ es) h ps ys a g = go (waits_for_fill t) (private_goes t es (writer_after h e (carried_by h.desk e) 0) ps ys a.1 g)
    where
      go : (b : Bool) → Goes Ready Due end (writer_after h e (carried_by h.desk e) 0)
          (map (private_part t) (private_entries (writer_after h e (carried_by h.desk e) 0) es) ++ ps) ys
          → Goes Ready Due end h ((if b then before_next (pure_entry e (private_reply h e)) else after_last (pure_entry e (private_reply h e)))
          ∷ map (private_part t) (private_entries (writer_after h e (carried_by h.desk e) 0) es) ++ ps) ys
      go true r = (a.0, r)
      go false r = (a.0, r)

  -- a turn's events are ready and due where they stand
  pub record TurnReady (h : Writer) (k : Order) (ns : List ℕ) : Type 0 where
    pub before : AllReady h (events_before h k) ns
    pub private : AllDue (played h (events_before h k) ns).writer (private_of k)
    pub after : let b = played h (events_before h k) ns in let m = after_private b.writer (private_of k) in AllReady m (events_after m k) b.replies

  -- a turn, with what comes after it
  pub turn_goes : (h : Writer) (k : Order) (ns : List ℕ) (ps : List RowPart) (ys : List HistoryEntry) → TurnReady h k ns
      → Goes Ready Due end (turn h k ns).writer ps ys
      → Goes Ready Due end h (row_of (turn h k ns) ++ ps) (entries_of_turn (turn h k ns) ++ ys)
  turn_goes h k ns ps ys r g =
      let before = played h (events_before h k) ns in
      let m = after_private before.writer (private_of k) in
      let one = played_goes (events_after m k) m before.replies ps ys r.after g in
      let two = private_goes (turn h k ns) (private_of k) before.writer _ _ r.private one in
      let three = played_goes (events_before h k) h ns _ _ r.before two in
      let A : List RowPart = nexts before.entries in
      let B : List RowPart = map (private_part (turn h k ns)) (private_entries before.writer (private_of k)) in
      let C : List RowPart = nexts (played m (events_after m k) before.replies).entries in
      let x : (A ++ B ++ C) ++ ps ≡ A ++ (B ++ (C ++ ps)) = append_assoc (A ++ B) C ps ∙ append_assoc A B (C ++ ps) in
      let y = append_assoc before.entries (played m (events_after m k) before.replies).entries ys in
      subst (λ (z : List RowPart × List HistoryEntry). Goes Ready Due end h z.0 z.1) (λ i. (sym x i, sym y i)) three

  -- all turns
  abbrev pub AllTurns : Writer → List Answered → Type 0
  AllTurns h [] = Unit {0}
  AllTurns h (o ∷ os) = TurnReady h o.0 o.1 × AllTurns (turn h o.0 o.1).writer os

  pub turns_go : (os : List Answered) (h : Writer) → last_writer h (turns h os) ≡ end → AllTurns h os
      → Goes Ready Due end h (flat_map row_of (turns h os)) (flat_map entries_of_turn (turns h os))
  turns_go [] h e a = (refl, e)
  turns_go (o ∷ os) h e a = turn_goes h o.0 o.1 (flat_map row_of (turns (turn h o.0 o.1).writer os))
      (flat_map entries_of_turn (turns (turn h o.0 o.1).writer os)) a.0 (turns_go os (turn h o.0 o.1).writer e a.1)
