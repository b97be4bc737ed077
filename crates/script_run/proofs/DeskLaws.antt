-- A line of the desk: what it writes and leaves, by what its order was answered.
use Rattle.std.proofs.Common.{◌≡◌, ◌-◌, ℕ, List, [], ◌∷◌, ◌++◌, length, drop, Option, Some, None, Ok, Err, Bool, true, false}
use Rattle.std.proofs.Common.{refl, sym, ap, subst, ◌∙◌, arith, append_assoc, if◌then◌else◌}
use Rattle.std.specs.Prelude.{nat_le}
use Rattle.std.specs.List.{slice_get}
use Rattle.mem_base.specs.declared.access.cells.Place.{Place}
use Rattle.mem_base.specs.declared.map.calls.Call.TheVariants as calls
use Rattle.mem_base.specs.declared.map.forests.Forest.{Forest}
use Rattle.mem_base.specs.declared.map.refusals.Refusal.{Refusal}
use Rattle.mem_base.specs.declared.machine.records.DeskAnswer.{DeskAnswer}
use Rattle.mem_base.specs.declared.machine.records.DeskAnswer.TheVariants as answers
use Rattle.mem_base.specs.declared.machine.records.DeskEntry.{DeskEntry}
use Rattle.mem_base.specs.declared.machine.records.DeskOrder.{DeskOrder}
use Rattle.mem_base.specs.declared.machine.records.DeskOrder.TheVariants as orders
use Rattle.mem_base.specs.views.Listening.{Delivery}
use Rattle.mem_base.specs.machine.Generations.{Generation, Generations, generation, generation_of}
use Rattle.mem_base.specs.machine.Publishing.{current_forest, forest_in}
use Rattle.mem_base.specs.machine.World.{World, is_at_rest}
use Rattle.mem_base.specs.machine.Answers.{Answer}
use Rattle.mem_base.specs.machine.Composites.{completed}
use Rattle.mem_base.specs.machine.Completions.{IsCompleted}
use Rattle.mem_base.specs.machine.Records.{call_of, told}
use Rattle.mem_base.specs.declared.script.commands.Command.{Command}
use Rattle.mem_base.specs.script.Spelling.{Text}
use Rattle.mem_base.specs.script.Run.{step}
use Rattle.mem_base.specs.script.Output.{notice_lines, told_lines}
use Rattle.mem_base.specs.script.Watching.{Watcher, caught_up, notices_all, watch_refusal}
use Rattle.mem_base.specs.script.States.{Outcome, State, outcome}
use Rattle.mem_base.specs.script.Shows.{catches_up, joins_unless, shown_forest}
use Rattle.mem_base.specs.script.Tasks.{Known, Resolved, Task, task_of, after_order}
use Rattle.mem_base.specs.script.Tasks.{accessed, copied, entered, found, idle, left, ordered, shown, unwatched, watched}
use Rattle.mem_base.specs.script.RaceLines.{DeskLine, Said, answer_text, catching_up, new_watcher, own_line, said_text, says, watch_line}
use Rattle.run_laws.specs.KnownNames.{IsKnownOrder, IsKnownTask, KnowsNames}
use Rattle.run_laws.specs.LineLaws.{IsDeskLine}
use Rattle.run_laws.specs.TaskSteps.{desk_order, desk_step, known_state}
use Rattle.run_laws.proofs.KnowingLaws.{orders_are_known}
use Rattle.run_laws.proofs.Ordering.{same_may}
use Rattle.view_laws.proofs.Tests.{none_is_not_some}
use Rattle.race_lines.specs.DeskLines.{desk_line_by}
use Rattle.script_run.specs.Asking.{IsAnswered, TakesOwn, entry_of}
use Rattle.script_run.specs.Adding.{Adds}
use Rattle.script_run.specs.Standing.{IsReady}
use Rattle.run_laws.proofs.DeskLaws.{other_watchers, sliced, after_watchers}
use Rattle.std.proofs.lemmas.Option.{same_Some}

-- Orders

pub answered_as : (w v : World) (order : DeskOrder) (a : Answer) (answer : DeskAnswer) → IsCompleted w (call_of order) a v → answer ≡ told a
    → IsAnswered w order answer v
answered_as w v order a answer c is = record { world = c.world; answer_is = is ∙ ap told c.answer_is; rests = c.rests; passes = c.passes }

-- The current generation

first_kept : (kept : List Generation) (n : ℕ) (f : Forest) (places : List Place) → n ≡ 0 → slice_get kept n ≡ Some (generation f places)
    → forest_in kept ≡ f
first_kept [] n f places z e =
    none_is_not_some (generation f places) (subst (λ (m : ℕ). slice_get [] m ≡ Some (generation f places)) z e)
first_kept (x ∷ xs) n f places z e = ap (λ (y : Generation). y.forest)
    (same_Some x (generation f places) (subst (λ (m : ℕ). slice_get (x ∷ xs) m ≡ Some (generation f places)) z e))

-- its forest, by the generation of its number
pub current_shown : (g : Generations) (f : Forest) (places : List Place) → generation_of g g.current ≡ Some (generation f places)
    → current_forest g ≡ f
current_shown g f places e = go (nat_le g.current g.current) e
  where
    go : (b : Bool) → (if b then slice_get g.kept (g.current - g.current) else None) ≡ Some (generation f places)
        → forest_in g.kept ≡ f
    go true e = first_kept g.kept (g.current - g.current) f places (omega arith) e
    go false e = none_is_not_some (generation f places) e

-- Tasks without an order

record IsOwn (k : Known) (w : World) (o : Outcome) (x : DeskLine) : Type 0 where
  said : x.said ≡ says o.0
  left : known_state x.known w ≡ o.1
  knows : KnowsNames x.known w.writer.desk

watch_own : (k : Known) (w : World) (n : ℕ) (name : Text) (v : Watcher) (o : Option Refusal) → KnowsNames k w.writer.desk
    → IsOwn k w (joins_unless (known_state k w) n o name v) (watch_line k n (current_forest w.writer.generations) name v o)
watch_own k w n name v None a = record {
  said = refl;
  left = refl;
  knows = record { regions = a.regions; made = a.made; dropped = a.dropped; listeners = a.listeners; gone = a.gone };
}
watch_own k w n name v (Some why) a = record { said = refl; left = refl; knows = a }

-- What a line writes and leaves

-- what is known after a line and what it says are what an outcome leaves and writes
pub record Follows (v : World) (x : DeskLine) (o : Outcome) : Type 0 where
  pub text : said_text x.known.names v.writer.desk.listening.journal x.said ≡ o.0
  pub left : known_state x.known v ≡ o.1
  pub knows : KnowsNames x.known v.writer.desk

abbrev line_by : Known → ℕ → Resolved Task → DeskEntry → World → DeskLine
line_by k n task e v = desk_line_by k n task e v.writer.generations.current (current_forest v.writer.generations)

caught : (k : Known) (w : World) (o : Outcome) (x : DeskLine) → IsOwn k w o x
    → Follows w (catching_up (current_forest w.writer.generations) x) (catches_up o)
caught k w o x own =
    let f : Forest = current_forest w.writer.generations in
    let y : DeskLine = catching_up f x in
    let journal : List Delivery = w.writer.desk.listening.journal in record {
      text = ap (λ (z : Said). said_text x.known.names journal (record z { notices = y.said.notices })) own.said
          ∙ ap (λ (st : State). o.0 ++ notice_lines st.names (notices_all (shown_forest st) st.watchers)) own.left;
      left = ap (λ (st : State). record st { watchers = caught_up (shown_forest st) st.watchers }) own.left;
      knows = other_watchers x.known w.writer.desk (caught_up f x.known.watchers) own.knows;
    }

-- orders change no watchers

module _ (k : Known) (w : World) (n : ℕ) (a : KnowsNames k w.writer.desk) where
  -- an order by its answer, and the world after it
  abbrev by : DeskOrder → Text → DeskAnswer → World → Outcome
  by order name x v =
      let names = (after_order k name order x).names in outcome (known_state k w) names v (answer_text names n order x)

  ordering : (v : World) (order : DeskOrder) (name : Text) (x : DeskAnswer) → IsKnownOrder k order → IsAnswered w order x v
      → Follows v (line_by k n (Ok (ordered order name))
      (entry_of (Some x) (length w.writer.desk.listening.journal) (length v.writer.desk.listening.journal)) v)
      (catches_up (desk_order k w n order name))
  ordering v order name x known h =
      let f : Forest = current_forest v.writer.generations in
      let after : Known = after_order k name order x in
      let own : Text = answer_text after.names n order x in
      let from : ℕ = length w.writer.desk.listening.journal in
      let journal : List Delivery = v.writer.desk.listening.journal in
      let watchers : after.watchers ≡ k.watchers = after_watchers k name order x in
      let notices : List Watcher → Text = λ ws. notice_lines after.names (notices_all f ws) in
      let to_run : catches_up (by order name x v) ≡ catches_up (desk_order k w n order name) =
      (λ i. catches_up (by order name (h.answer_is i) (h.world i))) in
      record {
        text = ap (λ (ds : List Delivery). own ++ (told_lines after.names ds ++ notices after.watchers)) (sliced journal from)
            ∙ sym (append_assoc own (told_lines after.names (drop from journal)) (notices after.watchers))
            ∙ ap (λ (ws : List Watcher). (own ++ told_lines after.names (drop from journal)) ++ notices ws) watchers
            ∙ ap (λ (o : Outcome). o.0) to_run;
        left = ap (λ (ws : List Watcher). known_state (record after { watchers = caught_up f ws }) v) watchers
            ∙ ap (λ (o : Outcome). o.1) to_run;
        knows = other_watchers after v.writer.desk (caught_up f after.watchers)
            (subst (λ (u : World). KnowsNames after u.writer.desk) (sym h.world)
            (subst (λ (y : DeskAnswer). KnowsNames (after_order k name order y) (completed w (call_of order)).world.writer.desk) (sym h.answer_is)
            ((orders_are_known k w order a).desk name known)));
      }

  quiet : (task : Resolved Task) (v : World) → v ≡ w
      → IsOwn k w (desk_step k w n task) (own_line k n task (entry_of None 0 0) w.writer.generations.current (current_forest w.writer.generations))
      → Follows v (line_by k n task (entry_of None 0 0) v) (catches_up (desk_step k w n task))
  quiet task v e own = subst (λ (u : World). Follows u (line_by k n task (entry_of None 0 0) u) (catches_up (desk_step k w n task))) (sym e)
      (caught k w (desk_step k w n task) _ own)

  abbrev FollowsOwn : Resolved Task → Option DeskAnswer → World → Type 0
  FollowsOwn task got v = Follows v
      (line_by k n task (entry_of got (length w.writer.desk.listening.journal) (length v.writer.desk.listening.journal)) v)
      (catches_up (desk_step k w n task))

  pub line_follows : (task : Resolved Task) (got : Option DeskAnswer) (v : World) → IsKnownTask k task → TakesOwn w task got v → FollowsOwn task got v
  line_follows (Ok (ordered order name)) (Some x) v known h = ordering v order name x known h
  line_follows (Ok (ordered order name)) None v known h = absurd h
  line_follows (Ok idle) None v known h = quiet (Ok idle) v h (record { said = refl; left = refl; knows = a })
  line_follows (Ok (shown s)) None v known h = quiet (Ok (shown s)) v h (record { said = refl; left = refl; knows = a })
  line_follows (Ok (found s addr)) None v known h = quiet (Ok (found s addr)) v h (record { said = refl; left = refl; knows = a })
  line_follows (Ok (watched name region first last)) None v known h = quiet (Ok (watched name region first last)) v h
      (watch_own k w n name (new_watcher k region first last) (watch_refusal k.watchers first last) a)
  line_follows (Ok (unwatched id)) None v known h = quiet (Ok (unwatched id)) v h
      (record { said = refl; left = refl; knows = other_watchers k w.writer.desk _ a })
  line_follows (Ok entered) None v known h = quiet (Ok entered) v h (record { said = refl; left = refl; knows = a })
  line_follows (Ok left) None v known h = quiet (Ok left) v h (record { said = refl; left = refl; knows = a })
  line_follows (Ok (accessed s addr transfer)) None v known h =
      quiet (Ok (accessed s addr transfer)) v h (record { said = refl; left = refl; knows = a })
  line_follows (Ok (copied s addr len to to_addr)) None v known h =
      quiet (Ok (copied s addr len to to_addr)) v h (record { said = refl; left = refl; knows = a })
  line_follows (Err why) None v known h = quiet (Err why) v h (record { said = refl; left = refl; knows = a })
  line_follows (Ok idle) (Some x) v known h = absurd h
  line_follows (Ok (shown s)) (Some x) v known h = absurd h
  line_follows (Ok (found s addr)) (Some x) v known h = absurd h
  line_follows (Ok (watched name region first last)) (Some x) v known h = absurd h
  line_follows (Ok (unwatched id)) (Some x) v known h = absurd h
  line_follows (Ok entered) (Some x) v known h = absurd h
  line_follows (Ok left) (Some x) v known h = absurd h
  line_follows (Ok (accessed s addr transfer)) (Some x) v known h = absurd h
  line_follows (Ok (copied s addr len to to_addr)) (Some x) v known h = absurd h
  line_follows (Err why) (Some x) v known h = absurd h

-- the next command may come
pub ready_after : (k h : Known) (w v : World) → IsReady k w → KnowsNames h v.writer.desk → is_at_rest v.writer.desk ≡ true → v.passes ≡ w.passes
    → IsReady h v
ready_after k h w v r names rests passes =
    record { names = names; rests = rests; passes = λ pass l. same_may w v passes pass (r.passes pass l) }

-- a line of the desk whose task was taken, and whose text was added
pub desk_adds : (k after : Known) (w v : World) (n : ℕ) (c : Command) (task : Resolved Task) (got : Option DeskAnswer) (e : DeskEntry)
    (from to number : ℕ) (f : Forest) (said : Said) (old new : Text) → IsReady k w → IsDeskLine k w n c → task ≡ task_of k c
    → TakesOwn w task got v → is_at_rest v.writer.desk ≡ true → v.passes ≡ w.passes
    → e ≡ entry_of got from to → from ≡ length w.writer.desk.listening.journal → to ≡ length v.writer.desk.listening.journal
    → number ≡ v.writer.generations.current → f ≡ current_forest v.writer.generations
    → after ≡ (desk_line_by k n task e number f).known → said ≡ (desk_line_by k n task e number f).said
    → new ≡ old ++ said_text after.names v.writer.desk.listening.journal said
    → Adds old new (step (known_state k w) n c) after v
desk_adds k after w v n c task got e from to number f said old new ready line is took rests passes entry first last current forest knows_is said_is text =
    let y : DeskLine = line_by k n (task_of k c) (entry_of got (length w.writer.desk.listening.journal) (length v.writer.desk.listening.journal)) v in
    let own : Follows v y (catches_up (desk_step k w n (task_of k c))) =
    line_follows k w n ready.names (task_of k c) got v line.known (subst (λ (t : Resolved Task). TakesOwn w t got v) is took) in
    let same : desk_line_by k n task e number f ≡ y =
    ap (λ (x : DeskEntry). desk_line_by k n task x number f) entry
    ∙ (λ i. desk_line_by k n (is i) (entry_of got (first i) (last i)) (current i) (forest i)) in
    let known : after ≡ y.known = knows_is ∙ ap (λ (x : DeskLine). x.known) same in
    let done : catches_up (desk_step k w n (task_of k c)) ≡ step (known_state k w) n c = sym line.does in record {
      text = text
          ∙ (λ i. old ++ said_text (known i).names v.writer.desk.listening.journal ((said_is ∙ ap (λ (x : DeskLine). x.said) same) i))
          ∙ ap (λ (t : Text). old ++ t) (own.text ∙ ap (λ (o : Outcome). o.0) done);
      is = ap (λ (h : Known). known_state h v) known ∙ own.left ∙ ap (λ (o : Outcome). o.1) done;
      ready = ready_after k after w v ready (subst (λ (h : Known). KnowsNames h v.writer.desk) (sym known) own.knows) rests passes;
    }
