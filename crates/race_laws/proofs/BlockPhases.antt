-- A block in which nothing differs: who gave the orders of its record, and where the desk stands after it.
use Rattle.std.proofs.Common.{◌≡◌, ◌⊎◌, ◌<◌, ◌+◌, ℕ, zero, suc, Bool, true, false, ◌||◌, List, [], ◌∷◌, length, map, drop}
use Rattle.std.proofs.Common.{refl, sym, ap, subst, ◌∙◌, arith, inl, inr, if◌then◌else◌, Option, Some, None, Ok}
use Rattle.std.specs.Prelude.{◌==◌, not, filter, flat_map, nat_le}
use Rattle.std.specs.List.{list_any, range_with_len}
use Rattle.std.proofs.lemmas.Bool.{eqb-true, eqb-false, le-leb}
use Rattle.mem_base.specs.map.PassIds.{PassId}
use Rattle.mem_base.specs.declared.machine.records.DeskOrder.{DeskOrder}
use Rattle.mem_base.specs.declared.machine.records.DeskEntry.{DeskEntry}
use Rattle.mem_base.specs.declared.machine.records.Differs.{Differs}
use Rattle.mem_base.specs.lists.Every.{Every}
use Rattle.mem_base.specs.map.Limits.{most_passes}
use Rattle.mem_base.specs.machine.Passes.{PassState, pass_id}
use Rattle.mem_base.specs.machine.Generations.{Generation}
use Rattle.mem_base.specs.machine.Reaps.{Writer}
use Rattle.mem_base.specs.machine.Actors.{own_entries}
use Rattle.mem_base.specs.machine.PassTurns.{pass_begins}
use Rattle.mem_base.specs.machine.Turns.{last_writer, replies_of, turn}
use Rattle.mem_base.specs.machine.Records.{Clerk, Closes, Given, IsOfRecord, call_of, entries_by, first_stray, got_by, recorded}
use Rattle.mem_base.specs.script.Scripts.{Line}
use Rattle.mem_base.specs.script.Named.{Names}
use Rattle.mem_base.specs.script.Tasks.{Known, Resolved, Task, ordered, task_of}
use Rattle.mem_base.specs.script.RaceLines.{DeskLine, PassLine, entry_at, known_after, line_of_pass, lines_of_desk, lines_of_pass}
use Rattle.mem_base.specs.script.Race.{Course, IsPassPart, IsPhase, Phase, Stand, actor_number, actors_in, block, desk_number, desk_part, lines_by, pass_part}
use Rattle.mem_base.specs.script.Race.{pass_state, stand_after, turns_in}
use Rattle.mem_base.proofs.EveryLaws.{weaker, every_append}
use Rattle.view_laws.proofs.Tests.{none_is_not_some}
use Rattle.run_laws.specs.KnownNames.{IsChangeOrder, IsPassTask, KnowsNames}
use Rattle.race_laws.proofs.Actors.{each_pass}
use Rattle.race_laws.proofs.DeskTasks.{asks_of}
use Rattle.race_laws.proofs.PassPhases.{pass_asks}
use Rattle.race_laws.proofs.BlockNames.{IsLine, IsOthers, along, pass_here}
use Rattle.mem_base.proofs.BoolLaws.{true_is_not_false}

-- Clerks, and what the record has of each

abbrev is_clerk : ℕ → Clerk → Bool
is_clerk who c = c.who == who

got_in : (es : List DeskEntry) (cs : List Clerk) (who : ℕ) → list_any (is_clerk who) cs ≡ true → Every (IsOfRecord es) cs → got_by who cs ≡ entries_by who es
got_in es [] who there h = true_is_not_false false there refl
got_in es (c ∷ cs) who there h = go (c.who == who) refl there (λ t. got_in es cs who t h.1)
  where
    go : (b : Bool) → (c.who == who) ≡ b → (b || list_any (is_clerk who) cs) ≡ true → (list_any (is_clerk who) cs ≡ true → got_by who cs ≡ entries_by who es)
        → (if b then c.got else got_by who cs) ≡ entries_by who es
    go true e t ih = h.0 ∙ ap (λ (w : ℕ). entries_by w es) (eqb-true c.who who e)
    go false e t ih = ih t

-- each entry is a clerk's
all_clerks : (cs : List Clerk) (es : List DeskEntry) → first_stray cs es ≡ None → Every (λ e. list_any (is_clerk e.who) cs ≡ true) es
all_clerks cs [] h = tt
all_clerks cs (e ∷ es) h = go (list_any (is_clerk e.who) cs) refl h (all_clerks cs es)
  where
    go : (b : Bool) → list_any (is_clerk e.who) cs ≡ b → (if not b then Some e else first_stray cs es) ≡ None
        → (first_stray cs es ≡ None → Every (λ e. list_any (is_clerk e.who) cs ≡ true) es) → Every (λ e. list_any (is_clerk e.who) cs ≡ true) (e ∷ es)
    go true s h ih = (s, ih h)
    go false s h ih = none_is_not_some e (sym h)

none_by : (cs : List Clerk) (es : List DeskEntry) (who : ℕ) → Every (λ e. list_any (is_clerk e.who) cs ≡ true) es → list_any (is_clerk who) cs ≡ false
    → entries_by who es ≡ []
none_by cs [] who h out = refl
none_by cs (e ∷ es) who h out = go (e.who == who) refl (none_by cs es who h.1 out)
  where
    go : (b : Bool) → (e.who == who) ≡ b → entries_by who es ≡ [] → (if b then e ∷ entries_by who es else entries_by who es) ≡ []
    go true s ih = true_is_not_false (list_any (is_clerk e.who) cs) h.0 (ap (λ (w : ℕ). list_any (is_clerk w) cs) (eqb-true e.who who s) ∙ out)
    go false s ih = ih

-- those that have a line are clerks

any_number : (cs : List Clerk) (who : ℕ) → list_any (is_clerk who) cs ≡ list_any (λ w. w == who) (map (λ c. c.who) cs)
any_number [] who = refl
any_number (c ∷ cs) who = ap (λ (b : Bool). (c.who == who) || b) (any_number cs who)

among_kept : (p : ℕ → Bool) (xs : List ℕ) (who : ℕ) → list_any (λ w. w == who) (filter p xs) ≡ true → list_any (λ w. w == who) xs ≡ true
among_kept p [] who h = h
among_kept p (x ∷ xs) who h = go (p x) h (among_kept p xs who)
  where
    either : (b : Bool) → (b ≡ true) ⊎ (list_any (λ w. w == who) xs ≡ true) → (b || list_any (λ w. w == who) xs) ≡ true
    either true o = refl
    either false (inl e) = true_is_not_false false e refl
    either false (inr e) = e

    first : (c : Bool) → (x == who) ≡ c → list_any (λ w. w == who) (x ∷ filter p xs) ≡ true
        → (list_any (λ w. w == who) (filter p xs) ≡ true → list_any (λ w. w == who) xs ≡ true) → (c || list_any (λ w. w == who) xs) ≡ true
    first true e h ih = refl
    first false e h ih = ih (ap (λ (b : Bool). b || list_any (λ w. w == who) (filter p xs)) (sym e) ∙ h)

    go : (b : Bool) → list_any (λ w. w == who) (if b then x ∷ filter p xs else filter p xs) ≡ true
        → (list_any (λ w. w == who) (filter p xs) ≡ true → list_any (λ w. w == who) xs ≡ true) → list_any (λ w. w == who) (x ∷ xs) ≡ true
    go true h ih = first (x == who) refl h ih
    go false h ih = either (x == who) (inr (ih h))

in_range : (s n who : ℕ) → list_any (λ w. w == who) (range_with_len s n) ≡ true → who < s + n
in_range s zero who h = true_is_not_false false h refl
in_range s (suc n) who h = go (s == who) refl h (in_range (s + 1) n who)
  where
    go : (b : Bool) → (s == who) ≡ b → (b || list_any (λ w. w == who) (range_with_len (s + 1) n)) ≡ true
        → (list_any (λ w. w == who) (range_with_len (s + 1) n) ≡ true → who < (s + 1) + n) → who < s + suc n
    go true e h ih = let same : s ≡ who = eqb-true s who e in omega arith
    go false e h ih = let l = ih h in omega (arith, l)

-- an actor that has a line is the desk or a pass
actor_is : (phase : Phase) (who : ℕ) → list_any (λ w. w == who) (actors_in phase) ≡ true → (who ≡ desk_number) ⊎ (who < most_passes)
actor_is phase who h = go (desk_number == who) refl
    (among_kept (λ w. nat_le 1 (length (lines_by w phase))) (desk_number ∷ range_with_len 0 most_passes) who h)
  where
    go : (b : Bool) → (desk_number == who) ≡ b → (b || list_any (λ w. w == who) (range_with_len 0 most_passes)) ≡ true →
        (who ≡ desk_number) ⊎ (who < most_passes)
    go true e h = inl (sym (eqb-true desk_number who e))
    go false e h = inr (in_range 0 most_passes who h)

-- where the desk is none of them, it has no line
no_desk_line : (phase : Phase) → list_any (λ w. w == desk_number) (actors_in phase) ≡ false → lines_by desk_number phase ≡ []
no_desk_line phase h = go (nat_le 1 (length (lines_by desk_number phase))) refl h
  where
    none : (ls : List Line) → nat_le 1 (length ls) ≡ false → ls ≡ []
    none [] e = refl
    none (l ∷ ls) e = true_is_not_false (nat_le 1 (suc (length ls))) (le-leb 1 (suc (length ls)) (omega arith)) e

    go : (b : Bool) → nat_le 1 (length (lines_by desk_number phase)) ≡ b
        → list_any (λ w. w == desk_number) (if b then desk_number ∷ filter (λ w. nat_le 1 (length (lines_by w phase))) (range_with_len 0 most_passes)
        else filter (λ w. nat_le 1 (length (lines_by w phase))) (range_with_len 0 most_passes)) ≡ false → lines_by desk_number phase ≡ []
    go true e h = true_is_not_false true refl h
    go false e h = none (lines_by desk_number phase) e

-- Who gave an order that is no change is the desk

module _ (Q : DeskOrder → Type 0) where
  abbrev All : List DeskEntry → Type 0
  All es = Every (λ e. Q e.order) es

  none_later : (e : DeskEntry) (es : List DeskEntry) (who : ℕ) → All (entries_by who (e ∷ es)) → (e.who ≡ who → Q e.order) × All (entries_by who es)
  none_later e es who h = go (e.who == who) refl h
    where
      go : (b : Bool) → (e.who == who) ≡ b → All (if b then e ∷ entries_by who es else entries_by who es) → (e.who ≡ who → Q e.order) × All (entries_by who es)
      go true s h = ((λ is. h.0), h.1)
      go false s h = ((λ is. absurd (eqb-false e.who who s is)), h)

  each_of : (es : List DeskEntry) → Every (λ e. (e.who ≡ desk_number) ⊎ (e.who < most_passes)) es → ((who : ℕ) → who < most_passes → All (entries_by who es))
      → Every (λ e. (e.who ≡ desk_number) ⊎ Q e.order) es
  each_of [] h all = tt
  each_of (e ∷ es) h all = (go h.0, each_of es h.1 (λ who l. (none_later e es who (all who l)).1))
    where
      go : (e.who ≡ desk_number) ⊎ (e.who < most_passes) → (e.who ≡ desk_number) ⊎ Q e.order
      go (inl is) = inl is
      go (inr l) = inr ((none_later e es e.who (all e.who l)).0 refl)

  by_orders : (es : List DeskEntry) → Every Q (map (λ e. e.order) es) → All es
  by_orders [] h = tt
  by_orders (e ∷ es) h = (h.0, by_orders es h.1)

given_others : (h : Writer) (gs : List Given) → Every (λ e. (e.who ≡ desk_number) ⊎ IsChangeOrder e.order) (recorded h gs) → Every IsOthers gs
given_others h [] o = tt
given_others h (g ∷ gs) o = (o.0, given_others (turn h (call_of g.order) g.replies).writer gs o.1)

-- the lines of an actor
lines_of_actor : (ls : List Line) (who : ℕ) → Every IsLine ls → Every (λ l. IsLine l × (actor_number l.1 ≡ who)) (lines_by who (block ls))
lines_of_actor [] who h = tt
lines_of_actor (l ∷ ls) who h = go (actor_number l.1 == who) refl (lines_of_actor ls who h.1)
  where
    go : (b : Bool) → (actor_number l.1 == who) ≡ b → Every (λ l. IsLine l × (actor_number l.1 ≡ who)) (lines_by who (block ls))
        → Every (λ l. IsLine l × (actor_number l.1 ≡ who)) (if b then l ∷ lines_by who (block ls) else lines_by who (block ls))
    go true e ih = ((h.0, eqb-true (actor_number l.1) who e), ih)
    go false e ih = ih

-- what the lines of a pass ask for are changes

task_changes : (task : Resolved Task) → IsPassTask task → Every IsChangeOrder (asks_of task)
task_changes (Ok (ordered order name)) h = (h, tt)
task_changes task h = tt

pass_changes : (published : List Generation) (k : Known) (names : Names) (pass : PassId) (ls : List Line) (p : PassState) (rs : List ℕ) (got : List DeskEntry)
    → Every (λ l. IsPassTask (task_of k l.1)) ls
    → Every IsChangeOrder (flat_map (λ x. x.asks) (lines_of_pass published k names pass p ls rs got))
pass_changes published k names pass [] p rs got h = tt
pass_changes published k names pass (l ∷ ls) p rs got h =
    let x : PassLine = line_of_pass published names pass l.0 (task_of k l.1) (pass_begins p rs) (entry_at got 0) in
    every_append IsChangeOrder x.asks _
    (subst (Every IsChangeOrder) (sym (pass_asks published names pass l.0 (task_of k l.1) (pass_begins p rs) (entry_at got 0)))
    (task_changes (task_of k l.1) h.0))
    (pass_changes published k names pass ls x.turn.state x.turn.replies (drop (length x.asks) got) h.1)

-- The block

module _ (published : List Generation) (s : Stand) (ls : List Line) (c : Course) (are : Every IsLine ls) (p : IsPhase published s (block ls) c)
    (none : c.differs ≡ None) (a : KnowsNames s.known s.writer.desk) where
  abbrev es : List DeskEntry
  es = recorded s.writer c.given

  closes : Closes es c.clerks None
  closes = subst (λ (d : Option Differs). Closes es c.clerks d) none p.closes

  clerks : Every (λ e. list_any (is_clerk e.who) c.clerks ≡ true) es
  clerks = all_clerks c.clerks es closes.1

  is_actor : (who : ℕ) → list_any (is_clerk who) c.clerks ≡ list_any (λ w. w == who) (actors_in (block ls))
  is_actor who = any_number c.clerks who ∙ ap (λ (ws : List ℕ). list_any (λ w. w == who) ws) p.clerks

  -- what the record has of the desk
  desk_got : desk_part published s (block ls) c ≡ lines_of_desk published s.known (lines_by desk_number (block ls)) (entries_by desk_number es)
  desk_got = go (list_any (is_clerk desk_number) c.clerks) refl
    where
      go : (b : Bool) → list_any (is_clerk desk_number) c.clerks ≡ b
          → desk_part published s (block ls) c ≡ lines_of_desk published s.known (lines_by desk_number (block ls)) (entries_by desk_number es)
      go true e = ap (λ (got : List DeskEntry). lines_of_desk published s.known (lines_by desk_number (block ls)) got)
          (got_in es c.clerks desk_number e closes.0)
      go false e =
          let empty : lines_by desk_number (block ls) ≡ [] = no_desk_line (block ls) (sym (is_actor desk_number) ∙ e) in
          ap (λ (l : List Line). lines_of_desk published s.known l (got_by desk_number c.clerks)) empty
          ∙ ap (λ (l : List Line). lines_of_desk published s.known l (entries_by desk_number es)) (sym empty)

  desk_orders : map (λ e. e.order) (entries_by desk_number es)
      ≡ flat_map (λ x. x.asks) (lines_of_desk published s.known (lines_by desk_number (block ls)) (entries_by desk_number es))
  desk_orders = go (list_any (is_clerk desk_number) c.clerks) refl
    where
      go : (b : Bool) → list_any (is_clerk desk_number) c.clerks ≡ b → map (λ e. e.order) (entries_by desk_number es)
          ≡ flat_map (λ x. x.asks) (lines_of_desk published s.known (lines_by desk_number (block ls)) (entries_by desk_number es))
      go true e = ap (λ (got : List DeskEntry). map (λ e. e.order) got) (sym (got_in es c.clerks desk_number e closes.0)) ∙ p.desk
          ∙ ap (λ (xs : List DeskLine). flat_map (λ x. x.asks) xs) desk_got
      go false e =
          let empty : lines_by desk_number (block ls) ≡ [] = no_desk_line (block ls) (sym (is_actor desk_number) ∙ e) in
          ap (λ (got : List DeskEntry). map (λ e. e.order) got) (none_by c.clerks es desk_number clerks e)
          ∙ ap (λ (l : List Line). flat_map (λ x. x.asks) (lines_of_desk published s.known l (entries_by desk_number es))) (sym empty)

  -- and of a pass
  pass_orders : (who : ℕ) → who < most_passes → All IsChangeOrder (entries_by who es)
  pass_orders who l = go (list_any (is_clerk who) c.clerks) refl
    where
      part : IsPassPart published s (block ls) c (pass_id who)
      part = each_pass (IsPassPart published s (block ls) c) p.each who l

      changes : Every IsChangeOrder (flat_map (λ x. x.asks) (pass_part published s (block ls) c (pass_id who)))
      changes = pass_changes published s.known (stand_after published s (block ls) c).known.names (pass_id who) (lines_by who (block ls))
          (pass_state (pass_id who) s.seen) (replies_of (own_entries (who + 1) c.entries)) (got_by who c.clerks)
          (weaker (λ (line : Line). IsLine line × (actor_number line.1 ≡ who)) (λ line. IsPassTask (task_of s.known line.1))
          (λ line h. pass_here s.known s.writer line a h.0 who l h.1) (lines_by who (block ls)) (lines_of_actor ls who are))

      go : (b : Bool) → list_any (is_clerk who) c.clerks ≡ b → All IsChangeOrder (entries_by who es)
      go true e = by_orders IsChangeOrder (entries_by who es) (subst (Every IsChangeOrder)
          (sym (ap (λ (got : List DeskEntry). map (λ e. e.order) got) (sym (got_in es c.clerks who e closes.0)) ∙ part.asks)) changes)
      go false e = subst (All IsChangeOrder) (sym (none_by c.clerks es who clerks e)) tt

  others : Every IsOthers c.given
  others = given_others s.writer c.given (each_of IsChangeOrder es
      (weaker (λ (e : DeskEntry). list_any (is_clerk e.who) c.clerks ≡ true) (λ e. (e.who ≡ desk_number) ⊎ (e.who < most_passes))
      (λ e h. actor_is (block ls) e.who (sym (is_actor e.who) ∙ h)) es clerks)
      pass_orders)

  pub block_knows : KnowsNames (known_after s.known (desk_part published s (block ls) c)) (last_writer s.writer (turns_in s c)).desk
  block_knows = subst (λ (xs : List DeskLine). KnowsNames (known_after s.known xs) (last_writer s.writer (turns_in s c)).desk) (sym desk_got)
      (along published c.given s.writer s.known (lines_by desk_number (block ls)) false a (lines_of_actor ls desk_number are) others desk_orders)
