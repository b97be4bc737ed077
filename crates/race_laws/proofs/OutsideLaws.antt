-- Short laws that a runner cites: which phases a script has, which numbers were published, and what a fault says.
use Rattle.std.proofs.Common.{◌≡◌, ℕ, ◌+◌, ◌<◌, ◌≤◌, Bool, true, false, eqb, List, [], ◌∷◌, ◌++◌, length, map, drop, flat_map, refl, sym, ap, ◌∙◌, subst, arith}
use Rattle.std.proofs.Common.{if◌then◌else◌, append-nil, append_assoc, le_refl, le_trans, lt_of_le_of_lt}
use Rattle.mem_base.specs.declared.machine.events.Event.{Event}
use Rattle.mem_base.specs.declared.machine.events.Event.TheVariants as events
use Rattle.mem_base.specs.declared.machine.events.Carried.{Carried}
use Rattle.mem_base.specs.declared.machine.events.Carried.TheVariants.{Nothing, Edition, At}
use Rattle.mem_base.specs.declared.machine.records.DeskEntry.{DeskEntry}
use Rattle.mem_base.specs.lists.Every.{Every}
use Rattle.mem_base.specs.map.Limits.{most_passes, notifier_count}
use Rattle.mem_base.specs.machine.Generations.{Generations, generations_after}
use Rattle.mem_base.specs.machine.Reaps.{Writer, first_writer}
use Rattle.mem_base.specs.machine.Desk.{carried_by}
use Rattle.mem_base.specs.machine.Configs.{writer_after}
use Rattle.mem_base.specs.machine.SharedHistory.{shared_opening}
use Rattle.mem_base.specs.machine.Actors.{generations_published}
use Rattle.mem_base.specs.machine.Answers.{first_or_zero}
use Rattle.mem_base.specs.machine.Orders.{Order, events_after, events_before, private_of}
use Rattle.mem_base.specs.machine.Turns.{Answered, after_private, entries_of_turn, last_writer, played, turn, turns, writers_of}
use Rattle.mem_base.specs.machine.Records.{Clerk, Given, IsOfRecord, answered, call_of, got_by, recorded, told}
use Rattle.mem_base.specs.script.Spelling.{Text}
use Rattle.mem_base.specs.script.Scripts.{Line}
use Rattle.mem_base.specs.script.Race.{Phase, alone, block, desk_number, is_end, phases_from, with_line}
use Rattle.mem_base.proofs.EveryLaws.{every_filter}
use Rattle.history_laws.proofs.NumberLaws.{sound}
use Rattle.end_laws.proofs.EndLaws.{turns_end_in}
use Rattle.turn_laws.proofs.TurnLists.{writers_append, last_append}
use Rattle.race_laws.specs.SoFar.{IsTold}
use Rattle.race_laws.specs.Outside.{FaultsWrite, HasPhases, IsPlain, OrdersFit, PublishStands, RecordTells, block_of, phases_alone}
use Rattle.race_laws.proofs.Fitting.{FitsTask, task_fits}
use Rattle.race_laws.proofs.Publishing.{looks_low, published_between}
use Rattle.race_laws.proofs.RaceEnds.{at_now}
use Rattle.race_laws.proofs.StoppedLaws.{turned_append}

-- phases

step_plain : (inside : Bool) (line : Line) (lines : List Line) → IsPlain line
    → phases_from inside (line ∷ lines) ≡ with_line inside line (phases_from inside lines)
step_plain inside line lines h =
    (λ i. if h.begins i then phases_from true lines else if is_end line.1 then phases_from false lines else with_line inside line (phases_from inside lines))
    ∙ (λ i. if h.ends i then phases_from false lines else with_line inside line (phases_from inside lines))

outside : (front back : List Line) → Every IsPlain front → phases_from false (front ++ back) ≡ phases_alone front ++ phases_from false back
outside [] back h = refl
outside (line ∷ front) back h = step_plain false line (front ++ back) h.0 ∙ ap (λ (ps : List Phase). alone line ∷ ps) (outside front back h.1)

-- phases that begin with no block
abbrev NoBlockFirst : List Phase → Type 0
NoBlockFirst [] = Unit {0}
NoBlockFirst (alone line ∷ phases) = Unit {0}
NoBlockFirst (block lines ∷ phases) = ⊥

put_first : (line : Line) (phases : List Phase) → NoBlockFirst phases → with_line true line phases ≡ block (line ∷ []) ∷ phases
put_first line [] h = refl
put_first line (alone l ∷ phases) h = refl
put_first line (block ls ∷ phases) h = absurd h

within_block : (inside : List Line) (rest : List Line) (phases : List Phase) → Every IsPlain inside → phases_from true rest ≡ phases → NoBlockFirst phases
    → phases_from true (inside ++ rest) ≡ block_of inside ++ phases
within_block [] rest phases h is no_first = is
within_block (line ∷ []) rest phases h is no_first =
    step_plain true line rest h.0 ∙ ap (λ (ps : List Phase). with_line true line ps) is ∙ put_first line phases no_first
within_block (line ∷ next ∷ inside) rest phases h is no_first =
    step_plain true line (next ∷ inside ++ rest) h.0
    ∙ ap (λ (ps : List Phase). with_line true line ps) (within_block (next ∷ inside) rest phases h.1 is no_first)

begins_alone : (lines : List Line) → NoBlockFirst (phases_alone lines)
begins_alone [] = tt
begins_alone (line ∷ lines) = tt

all_alone : (lines : List Line) → Every IsPlain lines → phases_from false lines ≡ phases_alone lines
all_alone lines h = ap (λ (ls : List Line). phases_from false ls) (sym (append-nil lines)) ∙ outside lines [] h ∙ append-nil (phases_alone lines)

pub has_phases : HasPhases
has_phases = record {
  plain = all_alone;
  with_block = λ front inside back par end f i b begins not_begins ends.
      let last : phases_from true (end ∷ back) ≡ phases_alone back =
      (λ j. if not_begins j then phases_from true back else if is_end end.1 then phases_from false back else with_line true end (phases_from true back))
      ∙ (λ j. if ends j then phases_from false back else with_line true end (phases_from true back)) ∙ all_alone back b in
      outside front (par ∷ (inside ++ end ∷ back)) f
      ∙ ap (λ (ps : List Phase). phases_alone front ++ ps)
      ((λ j. if begins j then phases_from true (inside ++ end ∷ back) else if is_end par.1 then phases_from false (inside ++ end ∷ back)
      else with_line false par (phases_from false (inside ++ end ∷ back)))
      ∙ within_block inside (end ∷ back) (phases_alone back) i last (begins_alone back));
}

-- orders

pub orders_fit : OrdersFit
orders_fit k c order name h is = subst FitsTask is (task_fits k c h)

-- numbers

pub publish_stands : PublishStands
publish_stands words passes xs number legal some low =
    let counted = (sound words passes xs legal).counted in
    published_between xs (shared_opening words passes) number legal some (omega (arith, counted, low))

-- the current number never falls

event_keeps : (g : Generations) (e : Event) (c : Carried) (n : ℕ) → g.current ≤ (generations_after g e c n).current
event_keeps g events.Publish (Edition forest places) n = omega arith
event_keeps g events.Publish Nothing n = le_refl g.current
event_keeps g events.Publish (At p) n = le_refl g.current
event_keeps g (events.Sweep v) c n = le_refl g.current
event_keeps g (events.Place v) c n = le_refl g.current
event_keeps g (events.Look v) c n = le_refl g.current
event_keeps g (events.Announce v) c n = le_refl g.current
event_keeps g (events.Enter v) c n = le_refl g.current
event_keeps g (events.Leave v) c n = le_refl g.current
event_keeps g (events.Word hand cell step) c n = le_refl g.current
event_keeps g (events.Mark v region client page) c n = le_refl g.current
event_keeps g (events.Harvest region client index) c n = le_refl g.current
event_keeps g (events.Fill cell) c n = le_refl g.current
event_keeps g (events.Config k) c n = le_refl g.current
event_keeps g events.Reap c n = le_refl g.current

played_keeps : (w : Writer) (es : List Event) (ns : List ℕ) → w.generations.current ≤ (played w es ns).writer.generations.current
played_keeps w [] ns = le_refl w.generations.current
played_keeps w (e ∷ es) ns = le_trans (event_keeps w.generations e (carried_by w.desk e) (first_or_zero ns))
    (played_keeps (writer_after w e (carried_by w.desk e) (first_or_zero ns)) es (drop 1 ns))

private_keeps : (w : Writer) (es : List Event) → w.generations.current ≤ (after_private w es).generations.current
private_keeps w [] = le_refl w.generations.current
private_keeps w (e ∷ es) =
    le_trans (event_keeps w.generations e (carried_by w.desk e) 0) (private_keeps (writer_after w e (carried_by w.desk e) 0) es)

turn_keeps : (w : Writer) (k : Order) (ns : List ℕ) → w.generations.current ≤ (turn w k ns).writer.generations.current
turn_keeps w k ns =
    let before = played w (events_before w k) ns in
    let middle : Writer = after_private before.writer (private_of k) in
    le_trans (le_trans (played_keeps w (events_before w k) ns) (private_keeps before.writer (private_of k)))
    (played_keeps middle (events_after middle k) before.replies)

turns_keep : (w : Writer) (os : List Answered) → w.generations.current ≤ (last_writer w (turns w os)).generations.current
turns_keep w [] = le_refl w.generations.current
turns_keep w (o ∷ os) = le_trans (turn_keeps w o.0 o.1) (turns_keep (turn w o.0 o.1).writer os)

record_told : (w : Writer) (gs : List Given) (count : ℕ) → (last_writer w (turns w (map answered gs))).generations.current < count
    → Every (IsTold count) (recorded w gs)
record_told w [] count l = tt
record_told w (g ∷ gs) count l =
    let t = turn w (call_of g.order) g.replies in
    let first = looks_low w g.order g.replies in
    let next = turn_keeps w (call_of g.order) g.replies in
    let rest = turns_keep t.writer (map answered gs) in
    (lt_of_le_of_lt (le_trans (le_trans first next) rest) l, record_told t.writer gs count l)

got_told : (count n : ℕ) (es : List DeskEntry) (cs : List Clerk) → Every (IsTold count) es → Every (IsOfRecord es) cs → Every (IsTold count) (got_by n cs)
got_told count n es [] told h = tt
got_told count n es (c ∷ cs) told h = go (eqb c.who n) (got_told count n es cs told h.1)
  where
    go : (b : Bool) → Every (IsTold count) (got_by n cs) → Every (IsTold count) (if b then c.got else got_by n cs)
    go true rest = subst (λ (xs : List DeskEntry). Every (IsTold count) xs) (sym h.0) (every_filter (IsTold count) (λ e. eqb e.who c.who) es told)
    go false rest = rest

pub record_tells : RecordTells
record_tells pool done s text c h legal writer closes =
    let a = at_now pool done s text h in
    let w : Writer = first_writer pool most_passes in
    let qs : List Answered = map answered c.given in
    let same : writers_of (s.seen ++ c.entries) ≡ flat_map entries_of_turn (turns w (a.os ++ qs)) =
    writers_append s.seen c.entries
    ∙ (λ i. a.stands.same i ++ writer i)
    ∙ ap (λ (z : Writer). flat_map entries_of_turn (turns w a.os) ++ flat_map entries_of_turn (turns z qs)) (sym a.writer)
    ∙ sym (turned_append w a.os qs) in
    let last : last_writer w (turns w (a.os ++ qs)) ≡ last_writer s.writer (turns s.writer qs) =
    last_append w a.os qs ∙ ap (λ (z : Writer). last_writer z (turns z qs)) a.writer in
    let ends = (turns_end_in pool most_passes (a.os ++ qs) (s.seen ++ c.entries) legal same).generations ∙ ap (λ (z : Writer). z.generations) last in
    let counted = (sound (pool + notifier_count) most_passes (s.seen ++ c.entries) legal).counted in
    let current = ap (λ (g : Generations). g.current) ends in
    let low : (last_writer s.writer (turns s.writer qs)).generations.current < length (generations_published (s.seen ++ c.entries)) =
    omega (arith, counted, current) in
    got_told (length (generations_published (s.seen ++ c.entries))) desk_number (recorded s.writer c.given) c.clerks
    (record_told s.writer c.given (length (generations_published (s.seen ++ c.entries))) low) closes.0

-- faults

pub faults_write : FaultsWrite
faults_write lines seen text written g p = record {
  history = seen ++ g.0;
  text = text ++ g.1;
  begins = (g.0, refl);
  race = g.2;
  prefix = (p.0 ++ g.1, sym (append_assoc written p.0 g.1) ∙ ap (λ (t : Text). t ++ g.1) p.1);
}
