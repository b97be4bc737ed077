-- Turns of lists of orders, one list after another, and the writer's entries of histories.
use Rattle.std.proofs.Common.{◌≡◌, List, [], ◌∷◌, ◌++◌, append-nil, append_assoc, refl, sym, ap, ◌∙◌}
use Rattle.std.specs.Prelude.{flat_map}
use Rattle.std.proofs.lemmas.List.Elements.{filter-append}
use Rattle.mem_base.specs.declared.machine.events.HistoryEntry.{HistoryEntry}
use Rattle.mem_base.specs.machine.Reaps.{Writer}
use Rattle.mem_base.specs.machine.Turns.{Answered, WriterCall, turn, turns, entries_of_turn, last_writer, is_writers, writers_of}

pub writers_append : (xs ys : List HistoryEntry) → writers_of (xs ++ ys) ≡ writers_of xs ++ writers_of ys
writers_append xs ys = filter-append (λ (x : HistoryEntry). is_writers x.event) xs ys

pub turns_append : (w : Writer) (os qs : List Answered) → turns w (os ++ qs) ≡ turns w os ++ turns (last_writer w (turns w os)) qs
turns_append w [] qs = refl
turns_append w (o ∷ os) qs = ap (λ (ts : List WriterCall). turn w o.0 o.1 ∷ ts) (turns_append (turn w o.0 o.1).writer os qs)

pub last_append : (w : Writer) (os qs : List Answered)
    → last_writer w (turns w (os ++ qs)) ≡ last_writer (last_writer w (turns w os)) (turns (last_writer w (turns w os)) qs)
last_append w [] qs = refl
last_append w (o ∷ os) qs = last_append (turn w o.0 o.1).writer os qs

-- and one more

pub turns_push : (w : Writer) (os : List Answered) (o : Answered) → turns w (os ++ o ∷ []) ≡ turns w os ++ turn (last_writer w (turns w os)) o.0 o.1 ∷ []
turns_push w [] o = refl
turns_push w (p ∷ os) o = ap (λ (ts : List WriterCall). turn w p.0 p.1 ∷ ts) (turns_push (turn w p.0 p.1).writer os o)

pub last_push : (w : Writer) (ts : List WriterCall) (t : WriterCall) → last_writer w (ts ++ t ∷ []) ≡ t.writer
last_push w [] t = refl
last_push w (s ∷ ts) t = last_push s.writer ts t

pub entries_push : (ts : List WriterCall) (t : WriterCall) → flat_map entries_of_turn (ts ++ t ∷ []) ≡ flat_map entries_of_turn ts ++ entries_of_turn t
entries_push [] t = append-nil (entries_of_turn t)
entries_push (s ∷ ts) t = ap (λ (ys : List HistoryEntry). entries_of_turn s ++ ys) (entries_push ts t)
    ∙ sym (append_assoc (entries_of_turn s) (flat_map entries_of_turn ts) (entries_of_turn t))
