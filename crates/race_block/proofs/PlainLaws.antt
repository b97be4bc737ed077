-- A pass whose lines give no order: one line more, and all of them.
use Rattle.std.proofs.Common.{◌≡◌, ℕ, ◌+◌, ◌<◌, zero, suc, Bool, true, false, ◌||◌, List, [], ◌∷◌, ◌++◌, length, take, get_or, refl, sym, ap}
use Rattle.std.proofs.Common.{subst, ◌∙◌, append-nil, append_assoc, length-append, arith, Option, Some, None, Result, Ok, Err, OnOk, is_ok, inl, inr}
use Rattle.std.specs.List.{list_any}
use Rattle.std.proofs.lemmas.List.{map_push}
use Rattle.mem_base.specs.map.PassIds.{PassId}
use Rattle.mem_base.specs.declared.script.commands.Command.{Command}
use Rattle.mem_base.specs.declared.script.commands.Command.TheVariants as commands
use Rattle.mem_base.specs.declared.script.commands.PassCommand.TheVariants as pass_commands
use Rattle.mem_base.specs.machine.Passes.{pass_id}
use Rattle.mem_base.specs.machine.Records.{Clerk}
use Rattle.mem_base.specs.map.Limits.{most_passes}
use Rattle.mem_base.specs.script.Race.{actor_number}
use Rattle.mem_base.specs.script.Scripts.{Line}
use Rattle.mem_base.specs.script.RefusalLines.{unknown_text}
use Rattle.mem_base.specs.script.Spelling.{Text}
use Rattle.mem_base.specs.script.Tasks.{Known, Resolved, Task, space, task_of, then_resolved}
use Rattle.mem_base.specs.script.Tasks as tasks
use Rattle.mem_base.proofs.BoolLaws.{neither_first, neither_second, true_is_not_false}
use Rattle.generation.specs.Published.{Published}
use Rattle.epoch_rule.specs.Values.{PassValue}
use Rattle.pass_lines.specs.Doing.{IsInItsGeneration}
use Rattle.pass_lines.specs.declared.answers.LineAnswer.{LineAnswer}
use Rattle.race_block.specs.declared.passes.PassActor.{PassActor}
use Rattle.race_block.specs.declared.tasks.PassTask.{PassTask}
use Rattle.race_block.specs.declared.tasks.PassTask.TheVariants.{Refused, Order, Enter, Leave, Read, Write, Copy}
use Rattle.race_block.specs.declared.tasks.BlockLine.{BlockLine}
use Rattle.race_block.specs.declared.tasks.OwnLine.{OwnLine}
use Rattle.race_block.specs.declared.tasks.LineGot.{LineGot}
use Rattle.race_block.specs.declared.tasks.LineGot.TheVariants as gots
use Rattle.race_block.specs.Desks.{line_meant, lines_meant}
use Rattle.race_block.specs.Lines.{HasDone, HasRunBy, HasStopped, HasTold, HaveRun, IsAnswer, IsTold}
use Rattle.race_block.specs.Resolving.{AreTasksOf, IsTaskOf, StandsFor, gives_order}
use Rattle.race_block.specs.Texts.{KeepsTold, gave_order, plain_text, plain_texts}
use Rattle.race_block.proofs.ResolvingLaws.{take_all, take_more, tasks_push}
use Rattle.race_block.proofs.StepLaws.{keeps_number, run_then, stays_inside}
use Rattle.race_block.proofs.TextLaws.{plain_lines}

-- a task that is no order
abbrev IsNoOrder : Resolved Task → Type 0
IsNoOrder (Ok (tasks.ordered order name)) = ⊥
IsNoOrder r = Unit {0}

then_no : {X : Type 0} (r : Resolved X) (rest : X → Resolved Task) → ((x : X) → IsNoOrder (rest x)) → IsNoOrder (then_resolved r rest)
then_no (Ok x) rest h = h x
then_no (Err why) rest h = tt

no_order : (k : Known) (c : Command) → actor_number c < most_passes → gives_order c ≡ false → IsNoOrder (task_of k c)
no_order k (commands.Pass pass pass_commands.Enter) l n = tt
no_order k (commands.Pass pass pass_commands.Leave) l n = tt
no_order k (commands.Pass pass (pass_commands.Read name addr len)) l n = then_no (space k name) _ (λ s. tt)
no_order k (commands.Pass pass (pass_commands.Write name addr bytes)) l n = then_no (space k name) _ (λ s. tt)
no_order k (commands.Pass pass (pass_commands.Do change)) l n = true_is_not_false true refl n
no_order k (commands.Pass pass (pass_commands.Dma name addr len to_name to_addr)) l n = then_no (space k name) _ (λ s. then_no (space k to_name) _ (λ t. tt))
no_order k _ l n = absurd (omega (arith, l))

-- what a name stands for, nothing or something, and then the task of the line
pub then_unknown : {I : Type 0} (name : Text) (o : Option I) (rest : I → Resolved Task) → o ≡ None
    → then_resolved (tasks.known name o) rest ≡ Err (unknown_text name)
then_unknown name o rest none = ap (λ x. then_resolved (tasks.known name x) rest) none

pub then_known : {I : Type 0} (name : Text) (o : Option I) (id : I) (rest : I → Resolved Task) → o ≡ Some id
    → then_resolved (tasks.known name o) rest ≡ rest id
then_known name o id rest some = ap (λ x. then_resolved (tasks.known name x) rest) some

-- what holds where a call succeeds
pub where_ok : {T E : Type 0} (r : Result T E) (P : Type 0) → is_ok r ≡ true → OnOk r P → P
where_ok (Ok x) P ok h = h
where_ok (Err e) P ok h = true_is_not_false false ok refl

answered_plain : (got : LineGot) (answer : LineAnswer) → IsAnswer got answer → gave_order got ≡ false
answered_plain gots.Refused answer is = absurd is
answered_plain gots.Ordered answer is = absurd is
answered_plain (gots.ReadFew access bytes) answer is = refl
answered_plain (gots.Answered given) answer is = refl

-- what it got is no order's, and the clerk has written nothing down
done_plain : (task : PassTask) (r : Resolved Task) (c : Clerk) (v : PassValue Published) (got : LineGot) (d : Clerk) (w : PassValue Published)
    → IsNoOrder r → StandsFor task r → HasDone task c v got d w → (gave_order got ≡ false) × (d ≡ c)
done_plain (Refused why) r c v got d w n s h = (ap gave_order h.0, h.1)
done_plain (Order order) r c v got d w n s h = absurd (subst IsNoOrder s.1 n)
done_plain Enter r c v got d w n s h = (answered_plain got h.answer h.is, h.clerk)
done_plain Leave r c v got d w n s h = (answered_plain got h.answer h.is, h.clerk)
done_plain (Read space addr len) r c v got d w n s h = (answered_plain got h.answer h.is, h.clerk)
done_plain (Write space addr bytes) r c v got d w n s h = (answered_plain got h.answer h.is, h.clerk)
done_plain (Copy from addr len to to_addr) r c v got d w n s h = (answered_plain got h.answer h.is, h.clerk)

-- where none of some lines gives an order, this one gives none
none_at : (p : OwnLine → Bool) (xs : List OwnLine) (i : ℕ) (d : OwnLine) → list_any p xs ≡ false → i < length xs → p (get_or xs i d) ≡ false
none_at p [] i d none l = absurd (omega (arith, l))
none_at p (x ∷ xs) zero d none l = neither_first (p x) (list_any p xs) none
none_at p (x ∷ xs) (suc i) d none l = none_at p xs i d (neither_second (p x) (list_any p xs) none) (omega (arith, l))

none_push : (all : List LineGot) (got : LineGot) → list_any gave_order all ≡ false → gave_order got ≡ false → list_any gave_order (all ++ got ∷ []) ≡ false
none_push [] got none plain = ap (λ (b : Bool). b || false) plain
none_push (g ∷ all) got none plain =
    let first = neither_first (gave_order g) (list_any gave_order all) none in
    let rest = none_push all got (neither_second (gave_order g) (list_any gave_order all) none) plain in
    (λ i. first i || rest i)

texts_push : (pass : PassId) (xs : List BlockLine) (x : BlockLine) (all : List LineGot) (got : LineGot) → length all ≡ length xs
    → plain_texts pass (xs ++ x ∷ []) (all ++ got ∷ []) ≡ plain_texts pass xs all ++ plain_text pass x got
texts_push pass [] x [] got e = append-nil (plain_text pass x got)
texts_push pass (y ∷ xs) x (g ∷ all) got e =
    ap (λ (t : Text). plain_text pass y g ++ t) (texts_push pass xs x all got (omega (arith, e)))
    ∙ sym (append_assoc (plain_text pass y g) (plain_texts pass xs all) (plain_text pass x got))
texts_push pass [] x (g ∷ all) got e = absurd (omega (arith, e))
texts_push pass (y ∷ xs) x [] got e = absurd (omega (arith, e))

module _ (k : Known) (lines : List OwnLine) (c : Clerk) (v : PassValue Published) where
  pub told_first : (text : Text) → text ≡ [] → IsInItsGeneration v → IsTold k lines c v 0 c v text
  told_first text empty inside = record {
    tasks = [];
    all = [];
    are = tt;
    count = refl;
    ran = (refl, refl, refl);
    none = refl;
    told = empty;
    clerk = refl;
    inside = inside;
    cabinet = refl;
    number = refl;
  }

  -- nothing more was done
  pub stopped_here : (at : ℕ) (d e : Clerk) (w x : PassValue Published) (text : Text) → IsTold k lines c v at d w text → e ≡ d → x ≡ w
      → HasStopped k lines c v e x
  stopped_here at d e w x text h clerk pass =
      subst (λ (z : Clerk × PassValue Published). HasStopped k lines c v z.0 z.1) (λ i. (sym clerk i, sym pass i))
      (record { at = at; tasks = h.tasks; all = h.all; are = h.are; count = h.count; ran = h.ran })

  module _ (at : ℕ) (d e : Clerk) (w x : PassValue Published) (text : Text) (line : OwnLine) (own : BlockLine) (got : LineGot)
      (h : IsTold k lines c v at d w text) (room : at < length lines) (is : get_or lines at line ≡ line) (task : IsTaskOf k (line_meant line) own)
      (done : HasDone own.task d w got e x) where
    are : AreTasksOf k (lines_meant (take (at + 1) lines)) (h.tasks ++ own ∷ [])
    are =
        let meant : lines_meant (take (at + 1) lines) ≡ lines_meant (take at lines) ++ line_meant line ∷ [] =
        ap lines_meant (take_more lines at line room is) ∙ map_push line_meant (take at lines) line in
        subst (λ (z : List Line). AreTasksOf k z (h.tasks ++ own ∷ [])) (sym meant)
        (tasks_push k (lines_meant (take at lines)) h.tasks (line_meant line) own h.are task)

    count : length (h.all ++ got ∷ []) ≡ length (h.tasks ++ own ∷ [])
    count =
        let one = length-append h.all (got ∷ []) in
        let other = length-append h.tasks (own ∷ []) in let same = h.count in omega (arith, one, other, same)

    ran : HaveRun (h.tasks ++ own ∷ []) c v (h.all ++ got ∷ []) e x
    ran = run_then h.tasks own c d e v w x h.all got h.ran done

    -- one line more was done, but not told
    pub stopped_then : HasStopped k lines c v e x
    stopped_then = record { at = at + 1; tasks = h.tasks ++ own ∷ []; all = h.all ++ got ∷ []; are = are; count = count; ran = ran }

    -- one line more was done and told
    pub told_then : (more : Text) → actor_number line.line.now.1 < most_passes → list_any (λ y. gives_order y.line.now.1) lines ≡ false
        → more ≡ text ++ plain_text (pass_id v.number) own got → IsTold k lines c v (at + 1) e x more
    told_then more near none put =
        let gives : gives_order line.line.now.1 ≡ false =
        ap (λ (y : OwnLine). gives_order y.line.now.1) (sym is) ∙ none_at (λ y. gives_order y.line.now.1) lines at line none room in
        let plain = done_plain own.task (task_of k line.line.now.1) d w got e x (no_order k line.line.now.1 near gives) task.1 done in
        let stays = stays_inside own.task d w got e x h.inside done in record {
          tasks = h.tasks ++ own ∷ [];
          all = h.all ++ got ∷ [];
          are = are;
          count = count;
          ran = ran;
          none = none_push h.all got h.none plain.0;
          told = put ∙ ap (λ (t : Text). t ++ plain_text (pass_id v.number) own got) h.told ∙ sym (texts_push (pass_id v.number) h.tasks own h.all got h.count);
          clerk = plain.1 ∙ h.clerk;
          inside = stays.0;
          cabinet = stays.1 ∙ h.cabinet;
          number = keeps_number own.task d w got e x done ∙ h.number;
        }

  module _ (at : ℕ) (d e : Clerk) (w x : PassValue Published) (text more : Text) (lasted : Bool) (line : OwnLine) (h : IsTold k lines c v at d w text)
      (room : at < length lines) (is : get_or lines at line ≡ line) where
    -- memory ran out with the next line
    pub stops : lasted ≡ false → HasTold k (line_meant line) d w text lasted e x more → HasStopped k lines c v e x
    stops ends (inl t) = stopped_here at d e w x text h t.1 t.2
    stops ends (inr t) = stopped_then at d e w x text line t.own t.got h room is t.task t.done

    -- the next line was done and told
    pub tells : lasted ≡ true → actor_number line.line.now.1 < most_passes → list_any (λ y. gives_order y.line.now.1) lines ≡ false
        → HasTold k (line_meant line) d w text lasted e x more → IsTold k lines c v (at + 1) e x more
    tells goes near none (inl t) = true_is_not_false lasted goes t.0
    tells goes near none (inr t) =
        told_then at d e w x text line t.own t.got h room is t.task t.done more near none
        (t.told goes ∙ (λ i. text ++ plain_text (pass_id (h.number i)) t.own t.got))

  -- a pass that told its lines, or stopped
  pub plain_run : (room : ℕ) (b : PassActor) (whole : Bool) (text : Text) → (whole ≡ true → IsTold k lines c v (length lines) b.clerk b.vcpu text)
      → (whole ≡ false → HasStopped k lines c v b.clerk b.vcpu) → b.bounce ≡ room → (whole ≡ false → b.out_of_memory ≡ true) → b.text ≡ Some text
      → HasRunBy k lines room c v b
  plain_run room b true text all some bounce out is =
      let h = all refl in
      let pass : PassId = pass_id v.number in
      let same : length h.all ≡ length h.tasks = h.count in
      let told : plain_texts pass h.tasks h.all ≡ text = sym h.told in record {
        tasks = h.tasks;
        all = h.all;
        lines = inl (subst (λ (ls : List OwnLine). AreTasksOf k (lines_meant ls) h.tasks) (take_all lines (length lines) (omega arith)) h.are);
        bounce = bounce;
        most = omega (arith, same);
        ran = subst (λ (xs : List BlockLine). HaveRun xs c v h.all b.clerk b.vcpu) (sym (take_all h.tasks (length h.all) (omega (arith, same)))) h.ran;
        whole = λ e. h.count;
        text = λ e. subst (λ (t : Option Text). KeepsTold pass h.tasks h.all b.lines b.got.items t) (sym is)
            (λ names journal entries. plain_lines names journal pass h.tasks h.all entries h.none ∙ told);
      }
  plain_run room b false text all some bounce out is =
      let h = some refl in
      let same : length h.all ≡ length h.tasks = h.count in
      let every : h.tasks ≡ take (length h.all) h.tasks = sym (take_all h.tasks (length h.all) (omega (arith, same))) in record {
        tasks = h.tasks;
        all = h.all;
        lines = inr (out refl, (h.at, subst (λ (xs : List BlockLine). AreTasksOf k (lines_meant (take h.at lines)) xs) every h.are));
        bounce = bounce;
        most = omega (arith, same);
        ran = subst (λ (xs : List BlockLine). HaveRun xs c v h.all b.clerk b.vcpu) every h.ran;
        whole = λ e. h.count;
        text = λ e. true_is_not_false b.out_of_memory (out refl) e;
      }
