-- The turns of the phases of a race, one after another, are the turns of all its orders.
use Rattle.std.proofs.Common.{◌≡◌, List, [], ◌∷◌, ◌++◌, map, flat_map, refl, sym, ap, ◌∙◌}
use Rattle.std.proofs.lemmas.List.{map-append}
use Rattle.std.proofs.lemmas.Grind.{flat_map-append}
use Rattle.mem_base.specs.declared.machine.events.HistoryEntry.{HistoryEntry}
use Rattle.mem_base.specs.machine.Reaps.{Writer}
use Rattle.mem_base.specs.machine.Generations.{Generation}
use Rattle.mem_base.specs.machine.Turns.{Answered, WriterCall, turns, entries_of_turn, last_writer, writers_of}
use Rattle.mem_base.specs.machine.Records.{Given, answered}
use Rattle.mem_base.specs.script.Race.{Phase, Course, Stand, turns_in, stand_after, ArePhases}
use Rattle.turn_laws.proofs.TurnLists.{turns_append, writers_append}

entries_append : (w : Writer) (gs hs : List Given)
    → flat_map entries_of_turn (turns w (map answered (gs ++ hs)))
    ≡ flat_map entries_of_turn (turns w (map answered gs))
    ++ flat_map entries_of_turn (turns (last_writer w (turns w (map answered gs))) (map answered hs))
entries_append w gs hs =
    ap (λ (os : List Answered). flat_map entries_of_turn (turns w os)) (map-append answered gs hs)
    ∙ ap (λ (ts : List WriterCall). flat_map entries_of_turn ts) (turns_append w (map answered gs) (map answered hs))
    ∙ flat_map-append entries_of_turn (turns w (map answered gs)) (turns (last_writer w (turns w (map answered gs))) (map answered hs))

-- along all phases
pub phases_have_turns : (published : List Generation) (s : Stand) (phases : List Phase) (cs : List Course) → ArePhases published s phases cs
    → writers_of (flat_map (λ (c : Course). c.entries) cs)
    ≡ flat_map entries_of_turn (turns s.writer (map answered (flat_map (λ (c : Course). c.given) cs)))
phases_have_turns published s [] [] h = refl
phases_have_turns published s [] (c ∷ cs) h = absurd h
phases_have_turns published s (phase ∷ phases) [] h = absurd h
phases_have_turns published s (phase ∷ phases) (c ∷ cs) h =
    let rest : List HistoryEntry = flat_map (λ (c : Course). c.entries) cs in
    let later : List Given = flat_map (λ (c : Course). c.given) cs in
    let next : Stand = stand_after published s phase c in
    writers_append c.entries rest
    ∙ ap (λ (xs : List HistoryEntry). xs ++ writers_of rest) h.0.writer
    ∙ ap (λ (xs : List HistoryEntry). flat_map entries_of_turn (turns_in s c) ++ xs) (phases_have_turns published next phases cs h.1)
    ∙ sym (entries_append s.writer c.given later)
