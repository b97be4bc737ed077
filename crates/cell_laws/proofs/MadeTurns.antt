-- Turns whose calls fit their types leave forests that such calls made.
use Rattle.std.proofs.Common.{ℕ, List, [], ◌∷◌}
use Rattle.std.specs.Prelude.{drop}
use Rattle.mem_base.specs.declared.machine.events.Event.{Event}
use Rattle.mem_base.specs.declared.machine.events.Event.TheVariants as events
use Rattle.mem_base.specs.lists.Every.{Every}
use Rattle.mem_base.specs.map.Forest.{IsMade}
use Rattle.mem_base.specs.machine.Desk.{carried_by}
use Rattle.mem_base.specs.machine.Generations.{Generation}
use Rattle.mem_base.specs.machine.Reaps.{Writer, first_writer}
use Rattle.mem_base.specs.machine.Configs.{writer_after}
use Rattle.mem_base.specs.machine.Answers.{first_or_zero}
use Rattle.mem_base.specs.machine.Orders.{Order, configure, reap, load, harvest, notified, journal, current, events_before, private_of, events_after}
use Rattle.mem_base.specs.machine.Turns.{Answered, after_private, last_writer, played, turn, turns}
use Rattle.mem_base.proofs.EveryLaws.{every_taken}
use Rattle.run_laws.specs.MadeForests.{FitsEvent, HasMadeForests}
use Rattle.run_laws.proofs.MadeLaws.{configured_left, made_first}
use Rattle.run_laws.proofs.Ordering.{after_ours, all_fit, before_ours}
use Rattle.cell_laws.specs.TurnCells.{FitsOrder, HasFittingCall}

made_writer : (h : Writer) (e : Event) (n : ℕ) → FitsEvent e → HasMadeForests h → HasMadeForests (writer_after h e (carried_by h.desk e) n)
made_writer h (events.Config c) n fits k = record { desk = configured_left h.generations h.desk k.desk c fits; kept = k.kept }
made_writer h events.Publish n fits k = record {
  desk = k.desk;
  kept = (k.desk, every_taken (λ (x : Generation). IsMade x.forest) 7 h.generations.kept k.kept);
}
made_writer h _ n fits k = record { desk = k.desk; kept = k.kept }

made_played : (es : List Event) (h : Writer) (ns : List ℕ) → Every FitsEvent es → HasMadeForests h → HasMadeForests (played h es ns).writer
made_played [] h ns fits k = k
made_played (e ∷ es) h ns fits k =
    made_played es (writer_after h e (carried_by h.desk e) (first_or_zero ns)) (drop 1 ns) fits.1 (made_writer h e (first_or_zero ns) fits.0 k)

made_private : (es : List Event) (h : Writer) → Every FitsEvent es → HasMadeForests h → HasMadeForests (after_private h es)
made_private [] h fits k = k
made_private (e ∷ es) h fits k = made_private es (writer_after h e (carried_by h.desk e) 0) fits.1 (made_writer h e 0 fits.0 k)

private_fits : (k : Order) → FitsOrder k → Every FitsEvent (private_of k)
private_fits (configure c) fits = (fits, tt)
private_fits reap fits = (tt, tt)
private_fits (load region offset bytes) fits = tt
private_fits (harvest region client) fits = tt
private_fits (notified number) fits = tt
private_fits journal fits = tt
private_fits current fits = tt

made_turn : (h : Writer) (k : Order) (ns : List ℕ) → FitsOrder k → HasMadeForests h → HasMadeForests (turn h k ns).writer
made_turn h k ns fits made =
    let b = played h (events_before h k) ns in
    let m : Writer = after_private b.writer (private_of k) in
    made_played (events_after m k) m b.replies (all_fit (events_after m k) (after_ours m k))
    (made_private (private_of k) b.writer (private_fits k fits)
    (made_played (events_before h k) h ns (all_fit (events_before h k) (before_ours h k)) made))

made_turns : (os : List Answered) (h : Writer) → Every HasFittingCall os → HasMadeForests h → HasMadeForests (last_writer h (turns h os))
made_turns [] h fits made = made
made_turns (o ∷ os) h fits made = made_turns os (turn h o.0 o.1).writer fits.1 (made_turn h o.0 o.1 fits.0 made)

pub turns_make_forests : (pool_words passes : ℕ) (os : List Answered) → Every HasFittingCall os
    → HasMadeForests (last_writer (first_writer pool_words passes) (turns (first_writer pool_words passes) os))
turns_make_forests pool_words passes os fits = made_turns os (first_writer pool_words passes) fits (made_first pool_words passes)
