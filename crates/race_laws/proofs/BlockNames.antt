-- After a block in which nothing differs, what the desk knows of names is what the machine has.
use Rattle.std.proofs.Common.{◌≡◌, ◌⊎◌, ◌<◌, ℕ, Bool, true, false, List, [], ◌∷◌, ◌++◌, length, map, drop}
use Rattle.std.proofs.Common.{refl, sym, ap, subst, ◌∙◌, arith, inl, inr, if◌then◌else◌, Option, Some, None, Ok}
use Rattle.std.specs.Prelude.{◌==◌, flat_map}
use Rattle.std.proofs.lemmas.Bool.{eqb-false}
use Rattle.mem_base.specs.declared.map.forests.Forest.{Forest}
use Rattle.mem_base.specs.declared.map.refusals.Refusal.{Refusal}
use Rattle.mem_base.specs.declared.machine.records.DeskOrder.{DeskOrder}
use Rattle.mem_base.specs.declared.machine.records.DeskOrder.TheVariants as orders
use Rattle.mem_base.specs.declared.machine.records.DeskEntry.{DeskEntry}
use Rattle.mem_base.specs.lists.Every.{Every}
use Rattle.mem_base.specs.map.Limits.{most_passes}
use Rattle.mem_base.specs.machine.Desk.{Desk}
use Rattle.mem_base.specs.machine.Generations.{Generation}
use Rattle.mem_base.specs.machine.Reaps.{Writer}
use Rattle.mem_base.specs.machine.World.{world}
use Rattle.mem_base.specs.machine.Turns.{WriterCall, last_writer, turn, turns}
use Rattle.mem_base.specs.machine.Records.{Given, answered, call_of, entries_by, entry_of, recorded, told}
use Rattle.mem_base.specs.script.Spelling.{Text}
use Rattle.mem_base.specs.script.Scripts.{Line}
use Rattle.mem_base.specs.script.Watching.{Watcher, watch_refusal}
use Rattle.mem_base.specs.script.Tasks.{Known, Resolved, Task, after_order, ordered, task_of, unwatched, watched}
use Rattle.mem_base.specs.script.RaceLines.{DeskLine, known_after, lines_of_desk, new_watcher, own_line, watch_line}
use Rattle.mem_base.specs.script.Race.{NamesItsPass, actor_number, desk_number, is_end, is_par}
use Rattle.run_laws.specs.KnownNames.{IsChangeOrder, IsKnownTask, IsPassTask, KnowsNames}
use Rattle.run_laws.specs.LineLaws.{IsSomeonesLine}
use Rattle.run_laws.proofs.TaskLaws.{lines_are_tasks}
use Rattle.run_laws.proofs.TurnLaws.{change_knows, turn_knows}
use Rattle.race_laws.proofs.DeskTasks.{asks_are, asks_of, desk_by}
use Rattle.race_laws.proofs.DeskPhases.{first_same, no_less, rest_same}
use Rattle.run_laws.proofs.DeskLaws.{other_watchers}

asks_some : {A : Type 0} (xs ys : List DeskOrder) (o : DeskOrder) → [] ≡ (xs ++ o ∷ []) ++ ys → A
asks_some [] ys o e = no_less o ys e
asks_some (x ∷ xs) ys o e = no_less x _ e

-- a line of the script that is neither `par` nor `end`
abbrev pub IsLine : Line → Type 0
IsLine line = NamesItsPass line.1 × (is_par line.1 ≡ false) × (is_end line.1 ≡ false)

pub known_here : (k : Known) (h : Writer) (line : Line) → KnowsNames k h.desk → IsLine line → actor_number line.1 ≡ desk_number
    → IsKnownTask k (task_of k line.1)
known_here k h line a is actor = go (lines_are_tasks k (world h [] []) line.0 line.1 a is.0 is.1 is.2)
  where
    go : IsSomeonesLine k (world h [] []) line.0 line.1 → IsKnownTask k (task_of k line.1)
    go (inl d) = d.known
    go (inr d) = absurd (let e = d.1.actor in let near = d.1.near in omega (arith, actor, e, near))

pub pass_here : (k : Known) (h : Writer) (line : Line) → KnowsNames k h.desk → IsLine line → (v : ℕ) → v < most_passes → actor_number line.1 ≡ v
    → IsPassTask (task_of k line.1)
pass_here k h line a is v l actor = go (lines_are_tasks k (world h [] []) line.0 line.1 a is.0 is.1 is.2)
  where
    go : IsSomeonesLine k (world h [] []) line.0 line.1 → IsPassTask (task_of k line.1)
    go (inl d) = absurd (let e = d.actor in omega (arith, actor, e, l))
    go (inr d) = d.1.known

-- what is known after a line without an order

watch_knows : (k : Known) (n : ℕ) (f : Forest) (name : Text) (v : Watcher) (o : Option Refusal) (d : Desk) → KnowsNames k d
    → KnowsNames (watch_line k n f name v o).known d
watch_knows k n f name v None d a = record { regions = a.regions; made = a.made; dropped = a.dropped; listeners = a.listeners; gone = a.gone }
watch_knows k n f name v (Some why) d a = a

own_knows : (k : Known) (n : ℕ) (task : Resolved Task) (e : DeskEntry) (number : ℕ) (f : Forest) → asks_of task ≡ [] → (d : Desk) → KnowsNames k d
    → KnowsNames (own_line k n task e number f).known d
own_knows k n (Ok (ordered order name)) e number f none d a = no_less order [] (sym none)
own_knows k n (Ok (watched name region first last)) e number f none d a =
    watch_knows k n f name (new_watcher k region first last) (watch_refusal k.watchers first last) d a
own_knows k n (Ok (unwatched id)) e number f none d a = other_watchers k d _ a
own_knows k n task e number f none d a = a

-- Along the record

abbrev pub IsOthers : Given → Type 0
IsOthers g = (g.who ≡ desk_number) ⊎ IsChangeOrder g.order

module _ (published : List Generation) where
  -- the desk's lines that are left, where the Look of the line before them is still to come, or is not
  abbrev lines_then : Bool → Known → List Line → List DeskEntry → List DeskLine
  lines_then pending k ls got = lines_of_desk published k ls (if pending then drop 1 got else got)

  abbrev asks_then : Bool → Known → List Line → List DeskEntry → List DeskOrder
  asks_then pending k ls got = (if pending then orders.Look ∷ [] else []) ++ flat_map (λ x. x.asks) (lines_then pending k ls got)

  abbrev orders_of : List DeskEntry → List DeskOrder
  orders_of es = map (λ e. e.order) es

  abbrev AreDesk : List Line → Type 0
  AreDesk ls = Every (λ line. IsLine line × (actor_number line.1 ≡ desk_number)) ls

  abbrev Ends : Known → List DeskLine → Writer → Type 0
  Ends k ls h = KnowsNames (known_after k ls) h.desk

  nothing_more : (k : Known) (ls : List Line) (pending : Bool) (h : Writer) → KnowsNames k h.desk → [] ≡ asks_then pending k ls []
      → Ends k (lines_then pending k ls []) h
  nothing_more k ls true h a e = no_less orders.Look _ e
  nothing_more k [] false h a e = a
  nothing_more k (line ∷ ls) false h a e = asks_some _ _ orders.Look e

  module _ (h : Writer) (g : Given) (a_k : Known) (a : KnowsNames a_k h.desk) (more : List DeskEntry) (end : Writer) where
    abbrev t : WriterCall
    t = turn h (call_of g.order) g.replies

    abbrev e : DeskEntry
    e = entry_of h g t

    -- what holds for the orders after this one
    abbrev Later : Type 0
    Later = (k : Known) (ls : List Line) (pending : Bool) → KnowsNames k t.writer.desk → AreDesk ls → orders_of more ≡ asks_then pending k ls more
        → Ends k (lines_then pending k ls more) end

    by_look : (k : Known) → KnowsNames k h.desk → g.order ≡ orders.Look → KnowsNames k t.writer.desk
    by_look k b is = subst (λ (o : DeskOrder). KnowsNames k (turn h (call_of o) g.replies).writer.desk) (sym is) b

    quiet_line : (ls : List Line) (n : ℕ) (task : Resolved Task) → Later → AreDesk ls → asks_of task ≡ []
        → (let x = desk_by published a_k n task (e ∷ more) in let rest = lines_of_desk published x.known ls (drop (length x.asks) (e ∷ more)) in
        orders_of (e ∷ more) ≡ x.asks ++ flat_map (λ y. y.asks) rest → Ends x.known rest end)
    quiet_line ls n task later desk none are =
        let x : DeskLine = desk_by published a_k n task (e ∷ more) in
        let asks : x.asks ≡ orders.Look ∷ [] = ap (λ (os : List DeskOrder). os ++ orders.Look ∷ []) (asks_are a_k n task _ _ _ ∙ none) in
        let left : drop (length x.asks) (e ∷ more) ≡ more = ap (λ (os : List DeskOrder). drop (length os) (e ∷ more)) asks in
        let same : orders_of (e ∷ more) ≡ orders.Look ∷ flat_map (λ (y : DeskLine). y.asks) (lines_of_desk published x.known ls more) =
        are ∙ (λ i. asks i ++ flat_map (λ (y : DeskLine). y.asks) (lines_of_desk published x.known ls (left i))) in
        subst (λ (got : List DeskEntry). Ends x.known (lines_of_desk published x.known ls got) end) (sym left)
        (later x.known ls false
        (by_look x.known (other_watchers _ h.desk _ (own_knows a_k n task _ _ _ none h.desk a)) (first_same _ _ _ _ same)) desk (rest_same _ _ _ _ same))

    a_line : (ls : List Line) (n : ℕ) (task : Resolved Task) → Later → AreDesk ls → IsKnownTask a_k task
        → (let x = desk_by published a_k n task (e ∷ more) in let rest = lines_of_desk published x.known ls (drop (length x.asks) (e ∷ more)) in
        orders_of (e ∷ more) ≡ x.asks ++ flat_map (λ y. y.asks) rest → Ends x.known rest end)
    a_line ls n (Ok (ordered order name)) later desk known are =
        let x : DeskLine = desk_by published a_k n (Ok (ordered order name)) (e ∷ more) in
        let is : g.order ≡ order = first_same _ _ _ _ are in
        later x.known ls true
        (other_watchers (after_order a_k name order e.answer) t.writer.desk x.known.watchers
        (subst (λ (o : DeskOrder). let u = turn h (call_of o) g.replies in KnowsNames (after_order a_k name order (told u.answer)) u.writer.desk)
        (sym is) (turn_knows h g.replies a_k a order name known))) desk (rest_same _ _ _ _ are)
    a_line ls n task later desk known are = quiet_line ls n task later desk refl are

    of_desk : (ls : List Line) (pending : Bool) → Later → AreDesk ls → orders_of (e ∷ more) ≡ asks_then pending a_k ls (e ∷ more)
        → Ends a_k (lines_then pending a_k ls (e ∷ more)) end
    of_desk ls true later desk are = later a_k ls false (by_look a_k a (first_same _ _ _ _ are)) desk (rest_same _ _ _ _ are)
    of_desk [] false later desk are = no_less _ _ (sym are)
    of_desk (line ∷ ls) false later desk are =
        a_line ls line.0 (task_of a_k line.1) later desk.1 (known_here a_k h line a desk.0.0 desk.0.1) are

  pub along : (gs : List Given) (h : Writer) (k : Known) (ls : List Line) (pending : Bool) → KnowsNames k h.desk → AreDesk ls → Every IsOthers gs
      → orders_of (entries_by desk_number (recorded h gs)) ≡ asks_then pending k ls (entries_by desk_number (recorded h gs))
      → Ends k (lines_then pending k ls (entries_by desk_number (recorded h gs))) (last_writer h (turns h (map answered gs)))
  along [] h k ls pending a desk others are = nothing_more k ls pending h a are
  along (g ∷ gs) h k ls pending a desk others are = go (g.who == desk_number) refl others.0 are
      (λ k2 ls2 p2 b d. along gs (turn h (call_of g.order) g.replies).writer k2 ls2 p2 b d others.1)
    where
      go : (b : Bool) → (g.who == desk_number) ≡ b → IsOthers g
          → (let t = turn h (call_of g.order) g.replies in let more = entries_by desk_number (recorded t.writer gs) in
          let all = if b then entry_of h g t ∷ more else more in let end = last_writer t.writer (turns t.writer (map answered gs)) in
          orders_of all ≡ asks_then pending k ls all
          → ((k2 : Known) (ls2 : List Line) (p2 : Bool) → KnowsNames k2 t.writer.desk → AreDesk ls2 → orders_of more ≡ asks_then p2 k2 ls2 more
          → Ends k2 (lines_then p2 k2 ls2 more) end)
          → Ends k (lines_then pending k ls all) end)
      go true e o are later =
          let t : WriterCall = turn h (call_of g.order) g.replies in
          of_desk h g k a (entries_by desk_number (recorded t.writer gs)) (last_writer t.writer (turns t.writer (map answered gs))) ls pending later desk are
      go false e (inl who) are later = absurd (eqb-false g.who desk_number e who)
      go false e (inr q) are later = later k ls pending (change_knows h g.replies k a g.order q) desk are
