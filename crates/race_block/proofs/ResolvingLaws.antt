-- The tasks of a pass's lines: they are those of a pass, there is room for what they copy, and they are made one after another.
use Rattle.std.proofs.Common.{◌≡◌, ℕ, ◌+◌, ◌<◌, ◌≤◌, zero, suc, true, List, [], ◌∷◌, ◌++◌, All, length, take, get_or, refl, sym, ap, subst, ◌∙◌, arith}
use Rattle.std.proofs.Common.{Option, None, Some, Result, Ok, Err, ◌⊎◌, inl, inr}
use Rattle.std.proofs.lemmas.List.{map_push}
use Rattle.std.proofs.lemmas.List.Elements.{All-push}
use Rattle.mem_base.specs.declared.machine.records.DeskOrder.TheVariants as orders
use Rattle.mem_base.specs.declared.script.commands.Command.{Command}
use Rattle.mem_base.specs.declared.script.commands.Command.TheVariants as commands
use Rattle.mem_base.specs.declared.script.commands.PassCommand.TheVariants as pass_commands
use Rattle.mem_base.specs.map.PassIds.{PassId}
use Rattle.mem_base.specs.machine.Passes.{pass_id}
use Rattle.mem_base.specs.machine.Records.{Clerk}
use Rattle.mem_base.specs.map.Limits.{most_passes}
use Rattle.mem_base.specs.script.Race.{actor_number}
use Rattle.mem_base.specs.script.Scripts.{Line}
use Rattle.mem_base.specs.script.Spelling.{Text}
use Rattle.mem_base.specs.script.Tasks.{Known, Resolved, Task, change_of, space, task_of, then_resolved}
use Rattle.mem_base.specs.script.Tasks as tasks
use Rattle.run_laws.specs.Fitting.{FitsCommand}
use Rattle.generation.specs.Published.{Published}
use Rattle.epoch_rule.specs.Values.{PassValue}
use Rattle.race_lines.specs.declared.tasks.LineTask.{LineTask}
use Rattle.race_lines.specs.declared.tasks.LineTask.TheVariants.{Idle, Ordered, Shown, Found, Watched, Unwatched, Entered, Left, Read, Written, Copied}
use Rattle.race_lines.specs.declared.tasks.Refused.{Refused}
use Rattle.race_lines.specs.LineTasks.{Resolves}
use Rattle.race_block.specs.declared.tasks.PassTask.{PassTask}
use Rattle.race_block.specs.declared.tasks.PassTask.TheVariants as passes
use Rattle.race_block.specs.declared.tasks.BlockLine.{BlockLine}
use Rattle.race_block.specs.declared.tasks.OwnLine.{OwnLine}
use Rattle.race_block.specs.declared.passes.PassActor.{PassActor}
use Rattle.race_block.specs.Desks.{line_meant, lines_meant}
use Rattle.race_block.specs.declared.tasks.LineGot.{LineGot}
use Rattle.race_block.specs.declared.tasks.PassLines.{PassLines}
use Rattle.race_block.specs.Lines.{FitsLine, FitsTask, HasDoneTasks, HasRunBy, HasRunLines, HasRunTasks}
use Rattle.race_block.specs.Resolving.{AreTasksOf, IsOfPass, IsTaskOf, StandsFor, copy_room, tasks_in}
use Rattle.race_block.specs.Texts.{IsTextOf, KeepsTold}
use Rattle.mem_base.proofs.BoolLaws.{true_is_not_false}

-- a task of a pass, which copies no more than there is room for
abbrev CanBeOfPass : Resolved Task → Type 0
CanBeOfPass (Ok tasks.idle) = ⊥
CanBeOfPass (Ok (tasks.shown s)) = ⊥
CanBeOfPass (Ok (tasks.found s addr)) = ⊥
CanBeOfPass (Ok (tasks.watched name r first last)) = ⊥
CanBeOfPass (Ok (tasks.unwatched id)) = ⊥
CanBeOfPass (Ok (tasks.copied from addr len to to_addr)) = len ≤ copy_room
CanBeOfPass r = Unit {0}

then_can : {X : Type 0} (r : Resolved X) (rest : X → Resolved Task) → ((x : X) → CanBeOfPass (rest x)) → CanBeOfPass (then_resolved r rest)
then_can (Ok x) rest h = h x
then_can (Err why) rest h = tt

can_be : (k : Known) (c : Command) → FitsCommand c → actor_number c < most_passes → CanBeOfPass (task_of k c)
can_be k (commands.Pass pass pass_commands.Enter) h l = tt
can_be k (commands.Pass pass pass_commands.Leave) h l = tt
can_be k (commands.Pass pass (pass_commands.Read name addr len)) h l = then_can (space k name) _ (λ s. tt)
can_be k (commands.Pass pass (pass_commands.Write name addr bytes)) h l = then_can (space k name) _ (λ s. tt)
can_be k (commands.Pass pass (pass_commands.Do change)) h l = then_can (change_of k change) _ (λ call. tt)
can_be k (commands.Pass pass (pass_commands.Dma name addr len to_name to_addr)) h l = then_can (space k name) _ (λ s. then_can (space k to_name) _ (λ t. h.1))
can_be k _ h l = absurd (omega (arith, l))

-- what the code resolved is a task of a pass
pub is_of_pass : (k : Known) (c : Command) (task : Result LineTask Refused) → FitsCommand c → actor_number c < most_passes → Resolves k task (task_of k c)
    → IsOfPass task
is_of_pass k c (Err why) h l r = tt
is_of_pass k c (Ok (Ordered order naming)) h l r = tt
is_of_pass k c (Ok Entered) h l r = tt
is_of_pass k c (Ok Left) h l r = tt
is_of_pass k c (Ok (Read space addr len)) h l r = tt
is_of_pass k c (Ok (Written space addr bytes)) h l r = tt
is_of_pass k c (Ok (Copied space addr len to_space to_addr)) h l r = tt
is_of_pass k c (Ok Idle) h l r = absurd (subst CanBeOfPass (sym r.is) (can_be k c h l))
is_of_pass k c (Ok (Shown space)) h l r = absurd (subst CanBeOfPass (sym r.is) (can_be k c h l))
is_of_pass k c (Ok (Found space addr)) h l r = absurd (subst CanBeOfPass (sym r.is) (can_be k c h l))
is_of_pass k c (Ok (Watched name region first last)) h l r = absurd (subst CanBeOfPass (sym r.is) (can_be k c h l))
is_of_pass k c (Ok (Unwatched name watcher)) h l r = absurd (subst CanBeOfPass (sym r.is) (can_be k c h l))

-- what a pass is asked for fits
pub task_fits : (k : Known) (c : Command) (task : PassTask) → FitsCommand c → actor_number c < most_passes → StandsFor task (task_of k c)
    → FitsTask copy_room task
task_fits k c (passes.Copy from addr len to to_addr) h l s = subst CanBeOfPass s (can_be k c h l)
task_fits k c _ h l s = tt

-- the tasks of lines, one after another

pub no_tasks : (k : Known) (xs : List BlockLine) → xs ≡ [] → AreTasksOf k [] xs
no_tasks k xs none = subst (λ (ys : List BlockLine). AreTasksOf k [] ys) (sym none) tt

pub tasks_push : (k : Known) (lines : List Line) (xs : List BlockLine) (line : Line) (x : BlockLine) → AreTasksOf k lines xs → IsTaskOf k line x
    → AreTasksOf k (lines ++ line ∷ []) (xs ++ x ∷ [])
tasks_push k [] [] line x h t = (t.0, t.1, tt)
tasks_push k (l ∷ lines) (y ∷ xs) line x h t = (h.0, h.1, tasks_push k lines xs line x h.2 t)
tasks_push k [] (y ∷ xs) line x h t = absurd h
tasks_push k (l ∷ lines) [] line x h t = absurd h

pub take_more : (xs : List OwnLine) (i : ℕ) (x : OwnLine) → i < length xs → get_or xs i x ≡ x → take (i + 1) xs ≡ take i xs ++ x ∷ []
take_more [] i x l is = absurd (omega (arith, l))
take_more (y ∷ xs) zero x l is = ap (λ (z : OwnLine). z ∷ []) is
take_more (y ∷ xs) (suc i) x l is =
    let next : suc i + 1 ≡ suc (i + 1) = omega arith in
    ap (λ (n : ℕ). take n (y ∷ xs)) next ∙ ap (λ (zs : List OwnLine). y ∷ zs) (take_more xs i x (omega (arith, l)) is)

pub take_all : {X : Type 0} (xs : List X) (n : ℕ) → length xs ≤ n → take n xs ≡ xs
take_all [] zero l = refl
take_all [] (suc n) l = refl
take_all (x ∷ xs) zero l = absurd (omega (arith, l))
take_all (x ∷ xs) (suc n) l = ap (λ zs. x ∷ zs) (take_all xs n (omega (arith, l)))

pub task_pushed : (k : Known) (lines : List OwnLine) (i : ℕ) (line : OwnLine) (xs more : List BlockLine) (x : BlockLine) → i < length lines
    → get_or lines i line ≡ line → AreTasksOf k (lines_meant (take i lines)) xs × All (FitsLine copy_room) xs → IsTaskOf k (line_meant line) x
    → FitsLine copy_room x → more ≡ xs ++ x ∷ [] → AreTasksOf k (lines_meant (take (i + 1) lines)) more × All (FitsLine copy_room) more
task_pushed k lines i line xs more x room is h task fits put =
    let meant : lines_meant (take (i + 1) lines) ≡ lines_meant (take i lines) ++ line_meant line ∷ [] =
    ap lines_meant (take_more lines i line room is) ∙ map_push line_meant (take i lines) line in (
      subst (λ (z : List Line × List BlockLine). AreTasksOf k z.0 z.1) (λ j. (sym meant j, sym put j))
          (tasks_push k (lines_meant (take i lines)) xs (line_meant line) x h.0 task),
      subst (All (FitsLine copy_room)) (sym put) (All-push (FitsLine copy_room) xs x h.1 fits),
    )

-- a pass that did its lines, or had no memory for their tasks

-- it keeps the text that it made, or else its tasks and what they got
keeps_told : (pass : PassId) (xs : List BlockLine) (lines : PassLines) (got : List LineGot) (text : Option Text) → tasks_in lines ≡ xs
    → IsTextOf pass (tasks_in lines) got text → KeepsTold pass xs got lines got text
keeps_told pass xs lines got None is told = (is, refl)
keeps_told pass xs lines got (Some text) is told = subst (λ (ys : List BlockLine). IsTextOf pass ys got (Some text)) is told

pub tasks_run : (xs : List BlockLine) (room : ℕ) (c : Clerk) (v : PassValue Published) (b : PassActor) (text : Option Text) → HasRunLines xs room c v b
    → IsTextOf (pass_id v.number) (tasks_in b.lines) b.got.items text → HasDoneTasks xs room c v (record b { text = text })
tasks_run xs room c v b text h told = record {
  tasks = xs;
  all = b.got.items;
  lines = inl refl;
  bounce = h.bounce_is;
  most = h.most;
  ran = h.ran;
  whole = h.whole;
  text = λ lasted. keeps_told (pass_id v.number) xs b.lines b.got.items text h.lines told;
}

pub runs_as : (Are Begin These First : List BlockLine → Type 0) (room : ℕ) (c : Clerk) (v : PassValue Published) (b : PassActor)
    → ((xs : List BlockLine) → Are xs → These xs) → ((xs : List BlockLine) → Begin xs → First xs) → HasRunTasks Are Begin room c v b
    → HasRunTasks These First room c v b
runs_as Are Begin These First room c v b all some h = record {
  tasks = h.tasks;
  all = h.all;
  lines = go h.lines;
  bounce = h.bounce;
  most = h.most;
  ran = h.ran;
  whole = h.whole;
  text = h.text;
}
  where
    go : (Are h.tasks ⊎ ((b.out_of_memory ≡ true) × Begin (take (length h.all) h.tasks)))
        → These h.tasks ⊎ ((b.out_of_memory ≡ true) × First (take (length h.all) h.tasks))
    go (inl are) = inl (all h.tasks are)
    go (inr begin) = inr (begin.0, some (take (length h.all) h.tasks) begin.1)

pub none_run : (k : Known) (lines : List OwnLine) (room : ℕ) (c : Clerk) (v : PassValue Published) (b : PassActor) → b.bounce ≡ room → b.clerk ≡ c
    → b.vcpu ≡ v → b.out_of_memory ≡ true → HasRunBy k lines room c v b
none_run k lines room c v b bounce clerk vcpu out = record {
  tasks = [];
  all = [];
  lines = inr (out, (0, tt));
  bounce = bounce;
  most = omega arith;
  ran = (refl, clerk, vcpu);
  whole = λ e. true_is_not_false b.out_of_memory out e;
  text = λ e. true_is_not_false b.out_of_memory out e;
}
