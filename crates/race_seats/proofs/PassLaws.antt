-- A pass after a block, held against what all have seen then: it did its lines, or the first of them.
use Rattle.std.proofs.Common.{◌≡◌, ◌<◌, ◌+◌, ℕ, zero, suc, Bool, true, false, List, [], ◌∷◌, ◌++◌, length, map, take, refl, sym}
use Rattle.std.proofs.Common.{ap, subst, ◌∙◌, append-nil, arith, ◌⊎◌, inl, inr, drop, Option, Some, None}
use Rattle.std.specs.Prelude.{flat_map}
use Rattle.mem_base.specs.declared.machine.events.HistoryEntry.{HistoryEntry}
use Rattle.mem_base.specs.declared.machine.records.DeskEntry.{DeskEntry}
use Rattle.mem_base.specs.map.Limits.{most_passes}
use Rattle.mem_base.specs.machine.Generations.{Generation}
use Rattle.mem_base.specs.machine.Passes.{PassState, idle, pass_id}
use Rattle.mem_base.specs.machine.Actors.{generations_published, own_entries, pass_after_all}
use Rattle.mem_base.specs.machine.Records.{Clerk}
use Rattle.mem_base.specs.machine.Turns.{replies_of}
use Rattle.mem_base.specs.script.Named.{Names}
use Rattle.mem_base.specs.script.Scripts.{Line}
use Rattle.mem_base.specs.script.Tasks.{Known}
use Rattle.mem_base.specs.script.RaceLines.{Said, lines_of_pass, said_text}
use Rattle.mem_base.specs.script.Spelling.{Text}
use Rattle.mem_base.specs.views.Listening.{Delivery}
use Rattle.mem_base.specs.script.Race.{block, lines_by, pass_state}
use Rattle.race_laws.specs.Acting.{PassAt}
use Rattle.race_block.proofs.HandedOn.{state_seen, at_later, published_prefix}
use Rattle.race_block.specs.declared.passes.PassActor.{PassActor}
use Rattle.race_block.specs.declared.tasks.BlockLine.{BlockLine}
use Rattle.race_block.specs.Lines as passes
use Rattle.race_block.specs.declared.tasks.PassLines.{PassLines}
use Rattle.race_block.specs.declared.tasks.PassLines.TheVariants.{Unresolved, Resolved}
use Rattle.race_block.specs.declared.blocks.BlockActor.TheVariants.{Pass}
use Rattle.race_block.specs.declared.tasks.LineGot.{LineGot}
use Rattle.race_block.specs.declared.tasks.OwnLine.{OwnLine}
use Rattle.race_block.specs.Desks.{line_meant, lines_meant}
use Rattle.race_block.specs.Resolving.{AreFirstTasksIn, AreLinesBy, AreTasksIn, AreTasksOf, tasks_in}
use Rattle.race_block.specs.Texts.{KeepsTold, lines_said}
use Rattle.race_block.specs.Laws.{HasKept, count_own, deed_from, saids}
use Rattle.race_block.proofs.KeptLaws.{passes_keep_lines}
use Rattle.race_block.specs.Joined.{HasJoinedPass}
use Rattle.race_seats.specs.Ran.{actor_text}
use Rattle.race_seats.specs.Starts.{PassStarts}
use Rattle.race_seats.specs.Texts.{text_or}
use Rattle.race_seats.proofs.TextLaws.{lines_same}
use Rattle.mem_base.proofs.BoolLaws.{true_is_not_false}

-- the first of some lines, with their tasks
record FirstTasks (k : Known) (n : ℕ) (lines : List Line) (xs : List BlockLine) : Type 0 where
  front : List Line
  left : List Line
  cut : lines ≡ front ++ left
  tasks : AreTasksOf k front (take n xs)
  whole : n ≡ length xs → left ≡ []

no_tasks : (k : Known) (lines : List Line) (xs : List BlockLine) → AreTasksOf k lines xs → 0 ≡ length xs → lines ≡ []
no_tasks k [] xs h e = refl
no_tasks k (line ∷ lines) [] h e = absurd h
no_tasks k (line ∷ lines) (x ∷ xs) h e = absurd (omega (arith, e))

first_tasks : (k : Known) (n : ℕ) (lines : List Line) (xs : List BlockLine) → AreTasksOf k lines xs → FirstTasks k n lines xs
first_tasks k zero lines xs h = record { front = []; left = lines; cut = refl; tasks = tt; whole = no_tasks k lines xs h }
first_tasks k (suc n) [] [] h = record { front = []; left = []; cut = refl; tasks = tt; whole = λ e. refl }
first_tasks k (suc n) (line ∷ lines) (x ∷ xs) h =
    let rest = first_tasks k n lines xs h.2 in record {
      front = line ∷ rest.front;
      left = rest.left;
      cut = ap (λ (ls : List Line). line ∷ ls) rest.cut;
      tasks = (h.0, h.1, rest.tasks);
      whole = λ e. rest.whole (omega (arith, e));
    }
first_tasks k (suc n) [] (x ∷ xs) h = absurd h
first_tasks k (suc n) (line ∷ lines) [] h = absurd h

-- the same, by what a pass did: all its lines, or out of memory the first of them
pub record FirstDone (k : Known) (n : ℕ) (lines : List Line) (xs : List BlockLine) (out : Bool) : Type 0 where
  pub front : List Line
  pub left : List Line
  pub cut : lines ≡ front ++ left
  pub tasks : AreTasksOf k front (take n xs)
  pub whole : out ≡ false → left ≡ []

-- the tasks of a pass's lines
tasks_by : (k : Known) (lines : List Line) (own : PassLines) (xs : List BlockLine) → AreLinesBy k lines own → AreTasksIn own xs → AreTasksOf k lines xs
tasks_by k lines (Unresolved ls names) xs s h =
    subst (λ (z : Known × List Line). AreTasksOf z.0 z.1 xs) (λ i. (s.1 i, s.0 i)) h
tasks_by k lines (Resolved ys) xs s h = subst (λ (zs : List BlockLine). AreTasksOf k lines zs) (sym h) s

-- those of the first of them
tasks_taken : (k : Known) (n : ℕ) (lines : List Line) (xs : List BlockLine) → AreTasksOf k lines xs → AreTasksOf k (take n lines) (take n xs)
tasks_taken k zero lines xs are = tt
tasks_taken k (suc n) [] [] are = tt
tasks_taken k (suc n) [] (x ∷ xs) are = absurd are
tasks_taken k (suc n) (line ∷ lines) [] are = absurd are
tasks_taken k (suc n) (line ∷ lines) (x ∷ xs) are = (are.0, are.1, tasks_taken k n lines xs are.2)

record Begun (k : Known) (lines : List Line) (ys : List BlockLine) : Type 0 where
  front : List Line
  left : List Line
  cut : lines ≡ front ++ left
  tasks : AreTasksOf k front ys

cut_at : (n : ℕ) (xs : List Line) → xs ≡ take n xs ++ drop n xs
cut_at zero xs = refl
cut_at (suc n) [] = refl
cut_at (suc n) (x ∷ xs) = ap (λ (ys : List Line). x ∷ ys) (cut_at n xs)

meant_at : (n : ℕ) (xs : List OwnLine) → lines_meant xs ≡ lines_meant (take n xs) ++ lines_meant (drop n xs)
meant_at zero xs = refl
meant_at (suc n) [] = refl
meant_at (suc n) (x ∷ xs) = ap (λ (ys : List Line). line_meant x ∷ ys) (meant_at n xs)

begun : (k : Known) (lines : List Line) (own : PassLines) (ys : List BlockLine) → AreLinesBy k lines own → AreFirstTasksIn own ys → Begun k lines ys
begun k lines (Unresolved ls names) ys s h = record {
  front = lines_meant (take h.0 ls.items);
  left = lines_meant (drop h.0 ls.items);
  cut = sym s.0 ∙ meant_at h.0 ls.items;
  tasks = subst (λ (z : Known). AreTasksOf z (lines_meant (take h.0 ls.items)) ys) s.1 h.1;
}
begun k lines (Resolved xs) ys s h = record {
  front = take h.0 lines;
  left = drop h.0 lines;
  cut = cut_at h.0 lines;
  tasks = subst (λ (zs : List BlockLine). AreTasksOf k (take h.0 lines) zs) (sym h.1) (tasks_taken k h.0 lines xs.items s);
}

pub first_done : (k : Known) (n : ℕ) (lines : List Line) (own : PassLines) (xs : List BlockLine) (out : Bool) → AreLinesBy k lines own
    → (AreTasksIn own xs ⊎ ((out ≡ true) × AreFirstTasksIn own (take n xs))) → (out ≡ false → n ≡ length xs) → FirstDone k n lines xs out
first_done k n lines own xs out s (inl h) all = let f = first_tasks k n lines xs (tasks_by k lines own xs s h) in record {
  front = f.front;
  left = f.left;
  cut = f.cut;
  tasks = f.tasks;
  whole = λ e. f.whole (all e);
}
first_done k n lines own xs out s (inr h) all = let f = begun k lines own (take n xs) s h.1 in record {
  front = f.front;
  left = f.left;
  cut = f.cut;
  tasks = f.tasks;
  whole = λ e. true_is_not_false out h.0 e;
}

-- where memory lasted, all have their tasks
pub all_tasks : (k : Known) (lines : List Line) (own : PassLines) (xs ys : List BlockLine) (out : Bool) → AreLinesBy k lines own
    → (AreTasksIn own xs ⊎ ((out ≡ true) × AreFirstTasksIn own ys)) → out ≡ false → AreTasksOf k lines xs
all_tasks k lines own xs ys out s (inl h) lasted = tasks_by k lines own xs s h
all_tasks k lines own xs ys out s (inr h) lasted = true_is_not_false out h.0 lasted

-- the pass of a number after its block, with its clerk: by what it had seen before
pub record PassEnded (k : Known) (lines : List Line) (before seen : List HistoryEntry) (who : ℕ) (b : PassActor) (c : Clerk) : Type 0 where
  pub near : who < most_passes
  pub number : b.vcpu.number ≡ who
  pub who_is : c.who ≡ who
  pub front : List Line
  pub left : List Line
  pub cut : lines_by who (block lines) ≡ front ++ left
  pub own : List HistoryEntry
  pub own_is : own_entries (who + 1) seen ≡ own_entries (who + 1) before ++ own
  pub at : PassAt (generations_published seen) k (pass_id who) seen (length (own_entries (who + 1) before))
      (deed_from (pass_state (pass_id who) before) front own c.got (pass_state (pass_id who) seen))
  pub whole : b.out_of_memory ≡ false → left ≡ []
  pub all : List LineGot
  pub writes : b.out_of_memory ≡ false → (names : Names) → map (λ x. x.said)
      (lines_of_pass (generations_published seen) k names (pass_id who) (pass_state (pass_id who) before) (lines_by who (block lines)) (replies_of own) c.got)
      ≡ saids names k (pass_id who) (lines_by who (block lines)) all c.got
  pub told : b.out_of_memory ≡ false → (names : Names) (journal : List Delivery) → actor_text k lines names journal (Pass b) c
      ≡ flat_map (said_text names journal) (saids names k (pass_id who) (lines_by who (block lines)) all c.got)

module _ (k : Known) (lines : List Line) (before seen : List HistoryEntry) (who : ℕ) (a b : PassActor) (c : Clerk)
    (s : PassStarts k lines before who a) (ready : passes.IsReady a) (j : HasJoinedPass seen a b c) where
  abbrev mine : List Line
  mine = lines_by who (block lines)

  abbrev did : ℕ
  did = length j.run.all

  first : FirstDone k did mine j.run.tasks j.after.out_of_memory
  first = first_done k did mine a.lines j.run.tasks j.after.out_of_memory s.lines_are j.run.lines j.run.whole

  kept : HasKept k first.front a.clerk a.vcpu j.run.all j.after.clerk j.after.vcpu
  kept = passes_keep_lines k first.front (take did j.run.tasks) a.clerk a.vcpu j.run.all j.after.clerk j.after.vcpu j.run.ran first.tasks ready.inside

  wrote : c ≡ record { who = who; got = kept.got }
  wrote = j.clerk ∙ kept.clerk ∙ ap (λ (d : Clerk). let y : Clerk = record { who = d.who; got = d.got ++ kept.got } in y) s.clerk

  got_is : kept.got ≡ c.got
  got_is = sym (ap (λ (d : Clerk). d.got) wrote)

  after_number : j.after.vcpu.number ≡ who
  after_number = kept.grew.number ∙ s.number

  own_after : own_entries (who + 1) j.after.vcpu.seen ≡ own_entries (who + 1) before ++ kept.own
  own_after = subst (λ (z : ℕ × List HistoryEntry). own_entries (z.0 + 1) j.after.vcpu.seen ≡ own_entries (z.0 + 1) z.1 ++ kept.own)
      (λ i. (s.number i, s.level i)) kept.grew.own

  own_same : own_entries (who + 1) seen ≡ own_entries (who + 1) j.after.vcpu.seen
  own_same = subst (λ (z : ℕ × List HistoryEntry). own_entries (z.0 + 1) z.1 ≡ own_entries (z.0 + 1) j.after.vcpu.seen)
      (λ i. (after_number i, j.level i)) (j.grew.own ∙ append-nil (own_entries (j.after.vcpu.number + 1) j.after.vcpu.seen))

  before_is : state_seen a.vcpu ≡ pass_state (pass_id who) before
  before_is i = pass_state (pass_id (s.number i)) (s.level i)

  now_is : state_seen j.after.vcpu ≡ pass_state (pass_id who) seen
  now_is = (λ i. pass_state (pass_id (after_number i)) j.after.vcpu.seen) ∙ ap (λ (es : List HistoryEntry). pass_after_all idle es) (sym own_same)

  count_is : count_own a.vcpu ≡ length (own_entries (who + 1) before)
  count_is i = length (own_entries (s.number i + 1) (s.level i))

  at_end : PassAt (generations_published seen) k (pass_id who) seen (length (own_entries (who + 1) before))
      (deed_from (pass_state (pass_id who) before) first.front kept.own c.got (pass_state (pass_id who) seen))
  at_end = subst (λ (z : ℕ × ℕ × PassState × List DeskEntry × PassState). PassAt (generations_published seen) k (pass_id z.0) seen z.1
      (deed_from z.2 first.front kept.own z.3 z.4))
      (λ i. (after_number i, count_is i, before_is i, got_is i, now_is i))
      (at_later k (pass_id j.after.vcpu.number) (count_own a.vcpu) (deed_from (state_seen a.vcpu) first.front kept.own kept.got (state_seen j.after.vcpu))
      j.after.vcpu.seen seen j.heard kept.keeps.0)

  did_all : b.out_of_memory ≡ false → first.left ≡ []
  did_all e = first.whole (sym j.out_of_memory ∙ e)

  front_is : b.out_of_memory ≡ false → first.front ≡ mine
  front_is e = sym (first.cut ∙ ap (λ (ls : List Line). first.front ++ ls) (did_all e) ∙ append-nil first.front)

  says : b.out_of_memory ≡ false → (names : Names) → map (λ x. x.said)
      (lines_of_pass (generations_published seen) k names (pass_id who) (pass_state (pass_id who) before) mine (replies_of kept.own) c.got)
      ≡ saids names k (pass_id who) mine j.run.all c.got
  says e names =
      let more = published_prefix j.after.vcpu.seen seen j.heard in
      let h = kept.writes names more.0 [] [] in
      subst (λ (z : List Generation × ℕ × PassState × List Line × List ℕ × List DeskEntry). map (λ x. x.said)
      (lines_of_pass z.0 k names (pass_id z.1) z.2 z.3 z.4 z.5) ≡ saids names k (pass_id who) mine j.run.all c.got)
      (λ i. (more.1 i, s.number i, before_is i, front_is e i, append-nil (replies_of kept.own) i, (append-nil kept.got ∙ got_is) i))
      (h ∙ (λ i. saids names k (pass_id (s.number i)) (front_is e i) j.run.all (got_is i)))

  who_is : c.who ≡ who
  who_is = ap (λ (d : Clerk). d.who) wrote

  number_is : b.vcpu.number ≡ who
  number_is = j.grew.number ∙ after_number

  -- what they say, by what they got
  said_all : b.out_of_memory ≡ false → (names : Names) → lines_said names (pass_id who) j.run.tasks j.run.all c.got ≡ saids names k (pass_id who) mine j.run.all c.got
  said_all e names =
      lines_same names k (pass_id who) mine j.run.tasks a.clerk j.after.clerk a.vcpu j.after.vcpu j.run.all c.got
      (all_tasks k mine a.lines j.run.tasks (take did j.run.tasks) j.after.out_of_memory s.lines_are j.run.lines (sym j.out_of_memory ∙ e)) j.run.ran

  -- what the pass keeps of that
  keeps : b.out_of_memory ≡ false → (t : Option Text) → b.text ≡ t
      → KeepsTold (pass_id who) j.run.tasks j.run.all b.lines b.got.items t
  keeps e t is =
      subst (λ (z : ℕ × PassLines × List LineGot × Option Text). KeepsTold (pass_id z.0) j.run.tasks j.run.all z.1 z.2 z.3)
      (λ i. (s.number i, sym j.lines i, (sym j.got i).items, (sym j.text ∙ is) i)) (j.run.text (sym j.out_of_memory ∙ e))

  -- the lines of a pass that keeps no text, as they are told
  pub listed : b.out_of_memory ≡ false → b.text ≡ None → (names : Names)
      → lines_said names (pass_id b.vcpu.number) (tasks_in b.lines) b.got.items c.got
      ≡ saids names k (pass_id b.vcpu.number) (lines_by b.vcpu.number (block lines)) b.got.items c.got
  listed e none names =
      let kept_here = keeps e None none in
      (λ i. lines_said names (pass_id (number_is i)) (kept_here.0 i) (kept_here.1 i) c.got) ∙ said_all e names
      ∙ (λ i. saids names k (pass_id (sym number_is i)) (lines_by (sym number_is i) (block lines)) (sym kept_here.1 i) c.got)

  tells : b.out_of_memory ≡ false → (names : Names) (journal : List Delivery) → actor_text k lines names journal (Pass b) c
      ≡ flat_map (said_text names journal) (saids names k (pass_id who) mine j.run.all c.got)
  tells e names journal = go b.text refl
    where
      go : (t : Option Text) → b.text ≡ t → text_or t (flat_map (said_text names journal)
          (saids names k (pass_id b.vcpu.number) (lines_by b.vcpu.number (block lines)) b.got.items c.got))
          ≡ flat_map (said_text names journal) (saids names k (pass_id who) mine j.run.all c.got)
      go (Some text) is = sym (keeps e (Some text) is names journal c.got) ∙ ap (λ (ss : List Said). flat_map (said_text names journal) ss) (said_all e names)
      go None is = λ i. flat_map (said_text names journal)
          (saids names k (pass_id (number_is i)) (lines_by (number_is i) (block lines)) ((keeps e None is).1 i) c.got)

  pub pass_ended : PassEnded k lines before seen who b c
  pass_ended = record {
    near = s.near;
    number = number_is;
    who_is = who_is;
    front = first.front;
    left = first.left;
    cut = first.cut;
    own = kept.own;
    own_is = own_same ∙ own_after;
    at = at_end;
    whole = did_all;
    all = j.run.all;
    writes = says;
    told = tells;
  }
