-- The machine's replies are the only ones: two turns of one call that both got them are the same.
use Rattle.std.proofs.Common.{◌≡◌, ℕ, List, [], ◌∷◌, ◌++◌, drop, refl, sym, ap, subst, ◌∙◌}
use Rattle.mem_base.specs.declared.machine.events.Event.{Event}
use Rattle.mem_base.specs.declared.machine.events.Carried.{Carried}
use Rattle.mem_base.specs.declared.machine.events.HistoryEntry.{HistoryEntry}
use Rattle.mem_base.specs.machine.Answers.{answer_to, first_or_zero}
use Rattle.mem_base.specs.machine.Configs.{writer_after}
use Rattle.mem_base.specs.machine.Desk.{carried_by}
use Rattle.mem_base.specs.machine.Orders.{Order, events_before, private_of, events_after}
use Rattle.mem_base.specs.machine.Reaps.{Writer}
use Rattle.mem_base.specs.machine.SharedHistory.{Shared, after_shared_entry, after_shared_entries, IsSharedLegalFrom}
use Rattle.mem_base.specs.machine.Turns.{WriterCall, after_private, entries_of_turn, history_entry, played, replies_of, turn}
use Rattle.world_hand.specs.Run.{AreReplies}

-- a legal row got the machine's replies
pub legal_replies : (xs : List HistoryEntry) (s : Shared) → IsSharedLegalFrom s xs → AreReplies s xs
legal_replies [] s l = tt
legal_replies (x ∷ xs) s l = (l.1, legal_replies xs (after_shared_entry s x) l.2)

replies_parts : (xs ys : List HistoryEntry) (s : Shared) → AreReplies s (xs ++ ys) → AreReplies s xs × AreReplies (after_shared_entries s xs) ys
replies_parts [] ys s a = (tt, a)
replies_parts (x ∷ xs) ys s a = let t = replies_parts xs ys (after_shared_entry s x) a.1 in ((a.0, t.0), t.1)

record SamePlayed (h : Writer) (es : List Event) (ns ms : List ℕ) : Type 0 where
  entries : (played h es ns).entries ≡ (played h es ms).entries
  writer : (played h es ns).writer ≡ (played h es ms).writer

same_played : (es : List Event) (h : Writer) (ns ms : List ℕ) (s : Shared) → AreReplies s (played h es ns).entries → AreReplies s (played h es ms).entries
    → SamePlayed h es ns ms
same_played [] h ns ms s a b = record { entries = refl; writer = refl }
same_played (e ∷ es) h ns ms s a b =
    let c : Carried = carried_by h.desk e in
    let n : ℕ = first_or_zero ns in
    let m : ℕ = first_or_zero ms in
    let same : n ≡ m = a.0 ∙ sym b.0 in
    let rest : SamePlayed (writer_after h e c n) es (drop 1 ns) (drop 1 ms) =
    same_played es (writer_after h e c n) (drop 1 ns) (drop 1 ms) (after_shared_entry s (history_entry e c n)) a.1
    (subst (λ (z : ℕ). AreReplies (after_shared_entry s (history_entry e c z)) (played (writer_after h e c z) es (drop 1 ms)).entries) (sym same)
    b.1) in record {
      entries = ap (λ (xs : List HistoryEntry). history_entry e c n ∷ xs) rest.entries
          ∙ ap (λ (z : ℕ). history_entry e c z ∷ (played (writer_after h e c z) es (drop 1 ms)).entries) same;
      writer = rest.writer ∙ ap (λ (z : ℕ). (played (writer_after h e c z) es (drop 1 ms)).writer) same;
    }

pub record SameTurn (t u : WriterCall) : Type 0 where
  pub entries : entries_of_turn t ≡ entries_of_turn u
  pub answer : t.answer ≡ u.answer
  pub writer : t.writer ≡ u.writer

pub same_turn : (h : Writer) (k : Order) (ns ms : List ℕ) (s : Shared) → AreReplies s (entries_of_turn (turn h k ns))
    → AreReplies s (entries_of_turn (turn h k ms)) → SameTurn (turn h k ns) (turn h k ms)
same_turn h k ns ms s a b =
    let es : List Event = events_before h k in
    let p = played h es ns in
    let q = played h es ms in
    let x : Writer = after_private p.writer (private_of k) in
    let y : Writer = after_private q.writer (private_of k) in
    let a_parts = replies_parts p.entries (played x (events_after x k) p.replies).entries s a in
    let b_parts = replies_parts q.entries (played y (events_after y k) q.replies).entries s b in
    let one : SamePlayed h es ns ms = same_played es h ns ms s a_parts.0 b_parts.0 in
    let there : AreReplies (after_shared_entries s p.entries) (played x (events_after x k) q.replies).entries =
    subst (λ (z : List HistoryEntry × Writer). let v : Writer = after_private z.1 (private_of k) in
    AreReplies (after_shared_entries s z.0) (played v (events_after v k) q.replies).entries)
    (λ i. (sym one.entries i, sym one.writer i)) b_parts.1 in
    let two : SamePlayed x (events_after x k) p.replies q.replies =
    same_played (events_after x k) x p.replies q.replies (after_shared_entries s p.entries) a_parts.1 there in record {
      entries = (λ i. one.entries i ++ two.entries i)
          ∙ ap (λ (w : Writer). let v : Writer = after_private w (private_of k) in q.entries ++ (played v (events_after v k) q.replies).entries) one.writer;
      answer = ap (λ (zs : List HistoryEntry). answer_to p.writer x k (replies_of zs)) two.entries
          ∙ ap (λ (w : Writer). let v : Writer = after_private w (private_of k) in
          answer_to w v k (replies_of (played v (events_after v k) q.replies).entries)) one.writer;
      writer = two.writer
          ∙ ap (λ (w : Writer). let v : Writer = after_private w (private_of k) in (played v (events_after v k) q.replies).writer) one.writer;
    }
