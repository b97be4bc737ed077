-- One more line of a pass that runs in a block.
use Rattle.std.proofs.Common.{◌≡◌, ℕ, ◌+◌, ◌<◌, ◌≤◌, Bool, true, false, List, [], ◌∷◌, ◌++◌, length, refl, sym, ap, subst, ◌∙◌}
use Rattle.std.proofs.Common.{◌||◌, append-nil, length-append, arith, zero, suc, take}
use Rattle.std.proofs.Common.{Option, Some, None, Ok, Err}
use Rattle.std.specs.List.{list_any}
use Rattle.std.specs.Prelude.{slice_index_or}
use mathlib.Core.List.{IsPrefix}
use Rattle.mem_base.specs.map.PassIds.{PassId}
use Rattle.mem_base.specs.declared.map.calls.Applied.{Applied}
use Rattle.mem_base.specs.declared.machine.events.HistoryEntry.{HistoryEntry}
use Rattle.mem_base.specs.declared.machine.records.DeskEntry.{DeskEntry}
use Rattle.mem_base.specs.declared.machine.records.DeskOrder.{DeskOrder}
use Rattle.mem_base.specs.declared.machine.records.DeskOrder.TheVariants as orders
use Rattle.mem_base.specs.declared.machine.records.DeskAnswer.{DeskAnswer}
use Rattle.mem_base.specs.declared.machine.records.DeskAnswer.TheVariants as answers
use Rattle.mem_base.specs.access.AccessSteps.{reading, writing}
use Rattle.mem_base.specs.machine.Passes.{PassState, pass_id}
use Rattle.mem_base.specs.machine.Generations.{Generation}
use Rattle.mem_base.specs.machine.Actors.{generations_published, own_entries}
use Rattle.mem_base.specs.machine.PassTurns.{pass_begins}
use Rattle.mem_base.specs.machine.Records.{Clerk}
use Rattle.mem_base.specs.machine.Turns.{replies_of}
use Rattle.mem_base.specs.script.Scripts.{Line}
use Rattle.mem_base.specs.script.Tasks.{Known, Resolved, Task, task_of}
use Rattle.mem_base.specs.script.Tasks as tasks
use Rattle.mem_base.specs.script.Spelling.{Text}
use Rattle.mem_base.specs.script.Named.{Names}
use Rattle.mem_base.specs.script.RefusalLines.{refused_line}
use Rattle.mem_base.specs.script.RaceLines.{PassLine, entry_at, line_of_pass, number_published, says}
use Rattle.mem_base.specs.script.Race.{IsAfterPublish, publishes_number}
use Rattle.generation.specs.Published.{Published}
use Rattle.epoch_rule.specs.Values.{PassValue}
use Rattle.race_laws.specs.Acting.{PassAt, PassDeed, PassLineDoes, deed_on}
use Rattle.race_laws.specs.Stopped.{StandsPublished}
use Rattle.race_laws.proofs.ActingLaws.{pass_acts}
use Rattle.race_laws.proofs.Publishing.{stands_after}
use Rattle.desk_orders.specs.Receipts.{HasSeenTold, IsAnswerTo, number_told}
use Rattle.desk_orders.specs.Given.{entry_got}
use Rattle.pass_lines.specs.Doing.{Grew, IsInItsGeneration, state_seen}
use Rattle.pass_lines.specs.Laws.{KeepsLines}
use Rattle.pass_lines.proofs.DoneLaws.{at_later, lines_are_done}
use Rattle.pass_lines.proofs.EntryLaws.{state_then}
use Rattle.pass_lines.proofs.LineLaws.{nothing_grew}
use Rattle.race_lines.specs.LineTasks.{refused_text}
use Rattle.race_block.specs.declared.tasks.PassTask.{PassTask}
use Rattle.race_block.specs.declared.tasks.PassTask.TheVariants.{Refused, Order, Enter, Leave, Read, Write, Copy}
use Rattle.race_block.specs.declared.tasks.BlockLine.{BlockLine}
use Rattle.pass_lines.specs.declared.answers.LineAnswer.{LineAnswer}
use Rattle.pass_lines.specs.Texts.{answer_text}
use Rattle.race_block.specs.declared.tasks.LineGot.{LineGot}
use Rattle.race_block.specs.declared.tasks.LineGot.TheVariants as gots
use Rattle.race_block.specs.Lines.{HasAnswered, HasDone, HasOrdered, HasStepped, HaveRun, IsAnswer, IsUnderway}
use Rattle.race_block.specs.Resolving.{StandsFor}
use Rattle.race_block.specs.Laws.{count_own, said_of, why_of}
use Rattle.race_block.specs.Texts.{taken_by}

-- one line after others

pub run_then : (xs : List BlockLine) (line : BlockLine) (c d e : Clerk) (v w x : PassValue Published) (all : List LineGot) (got : LineGot)
    → HaveRun xs c v all d w → HasDone line.task d w got e x → HaveRun (xs ++ line ∷ []) c v (all ++ got ∷ []) e x
run_then [] line c d e v w x all got h done = record {
  got = got;
  rest = [];
  clerk = e;
  pass = x;
  first = subst (λ (z : Clerk × PassValue Published). HasDone line.task z.0 z.1 got e x) (λ i. (h.1 i, h.2 i)) done;
  then = (refl, refl, refl);
  is = ap (λ (l : List LineGot). l ++ got ∷ []) h.0;
}
run_then (y ∷ xs) line c d e v w x all got h done = record {
  got = h.got;
  rest = h.rest ++ got ∷ [];
  clerk = h.clerk;
  pass = h.pass;
  first = h.first;
  then = run_then xs line h.clerk d e h.pass w x h.rest got h.then done;
  is = ap (λ (l : List LineGot). l ++ got ∷ []) h.is;
}

-- a pass that did a line is in its generation, of the same cabinet
pub stays_inside : (task : PassTask) (c : Clerk) (v : PassValue Published) (got : LineGot) (d : Clerk) (w : PassValue Published) → IsInItsGeneration v
    → HasDone task c v got d w → IsInItsGeneration w × (w.cabinet ≡ v.cabinet)
stays_inside (Refused why) c v got d w inside h = subst (λ (z : PassValue Published). IsInItsGeneration z × (z.cabinet ≡ v.cabinet)) (sym h.2) (inside, refl)
stays_inside (Order order) c v got d w inside h = (h.1.inside, h.1.grew.cabinet)
stays_inside _ c v got d w inside h = (h.does.inside, h.does.grew.cabinet)

-- it has the number that it had
pub keeps_number : (task : PassTask) (c : Clerk) (v : PassValue Published) (got : LineGot) (d : Clerk) (w : PassValue Published)
    → HasDone task c v got d w → w.number ≡ v.number
keeps_number (Refused why) c v got d w h = ap (λ (z : PassValue Published). z.number) h.2
keeps_number (Order order) c v got d w h = h.1.grew.number
keeps_number _ c v got d w h = h.does.grew.number

take_more : (xs : List BlockLine) (at : ℕ) (x : BlockLine) → at < length xs → slice_index_or xs at x ≡ x → take (at + 1) xs ≡ take at xs ++ x ∷ []
take_more [] at x l is = absurd (omega (arith, l))
take_more (y ∷ xs) zero x l is = ap (λ (z : BlockLine). z ∷ []) is
take_more (y ∷ xs) (suc at) x l is =
    let next : suc at + 1 ≡ suc (at + 1) = omega arith in
    ap (λ (n : ℕ). take n (y ∷ xs)) next ∙ ap (λ (zs : List BlockLine). y ∷ zs) (take_more xs at x (omega (arith, l)) is)

pub underway_then : (xs : List BlockLine) (c : Clerk) (v : PassValue Published) (at : ℕ) (d e : Clerk) (w x : PassValue Published)
    (all more : List LineGot) (line : BlockLine) → IsUnderway xs c v at d w all → at < length xs → slice_index_or xs at line ≡ line
    → HasStepped line d w all e x more → IsUnderway xs c v (at + 1) e x more
underway_then xs c v at d e w x all more line h less is s =
    let i = stays_inside line.task d w s.got e x h.inside s.done in
    let long = length-append all (s.got ∷ []) in
    let many : length more ≡ length (all ++ s.got ∷ []) = ap length s.more in
    let had : length all ≡ at = h.count in record {
      ran = subst (λ (z : List BlockLine × List LineGot). HaveRun z.0 c v z.1 e x) (λ j. (sym (take_more xs at line less is) j, sym s.more j))
          (run_then (take at xs) line c d e v w x all s.got h.ran s.done);
      count = omega (arith, long, many, had);
      inside = i.0;
      cabinet = i.1 ∙ h.cabinet;
    }

-- what an order published

above : (order : DeskOrder) (applied : Applied) (number : ℕ) → IsAnswerTo order (answers.Called applied (Some number)) → 0 < number
above (orders.Call call) applied number h = h.1
above _ applied number h = absurd h

published_seen : (order : DeskOrder) (answer : DeskAnswer) (seen : List HistoryEntry) → IsAnswerTo order answer → HasSeenTold seen (number_told answer)
    → StandsPublished seen (number_published answer)
published_seen order (answers.Called applied None) seen h k = tt
published_seen order (answers.Called applied (Some number)) seen h k = k.stands (above order applied number h)
published_seen order _ seen h k = tt

any_more : (number : ℕ) (xs ys : List HistoryEntry) → list_any (publishes_number number) xs ≡ true → list_any (publishes_number number) (xs ++ ys) ≡ true
any_more number [] ys h = absurd (grind arith)
any_more number (x ∷ xs) ys h = go (publishes_number number x) (any_more number xs ys) h
  where
    go : (b : Bool) → (list_any (publishes_number number) xs ≡ true → list_any (publishes_number number) (xs ++ ys) ≡ true)
        → (b || list_any (publishes_number number) xs) ≡ true → (b || list_any (publishes_number number) (xs ++ ys)) ≡ true
    go true rest k = refl
    go false rest k = rest k

stands_later : (o : Option ℕ) (xs ys : List HistoryEntry) → IsPrefix xs ys → StandsPublished xs o → StandsPublished ys o
stands_later None xs ys h s = tt
stands_later (Some number) xs ys h s = subst (λ (zs : List HistoryEntry). list_any (publishes_number number) zs ≡ true) h.1 (any_more number xs h.0 s)

is_after : (o : Option ℕ) (actor count : ℕ) (front rest : List HistoryEntry) → StandsPublished front o → length (own_entries actor front) ≤ count
    → IsAfterPublish (front ++ rest) actor count o
is_after None actor count front rest s l = tt
is_after (Some number) actor count front rest s l = stands_after number actor count front rest s l

-- what a pass keeps after one more line, and what the line is by what it got

-- a line of the script's definition, whatever is published later, by the replies of these entries and by these entries of the clerk
abbrev pub line_by : Known → Line → PassValue Published → PassValue Published → List HistoryEntry → Names → List Generation → List ℕ → List DeskEntry
    → PassLine
line_by k line v w own names later replies got =
    line_of_pass (generations_published w.seen ++ later) names (pass_id v.number) line.0 (task_of k line.1)
    (pass_begins (state_seen v) (replies_of own ++ replies)) (entry_at got 0)

pub record IsLine (k : Known) (line : Line) (v w : PassValue Published) (got : LineGot) (own : List HistoryEntry) (new : List DeskEntry)
    (told : Option ℕ) (names : Names) (later : List Generation) (replies : List ℕ) (more : List DeskEntry) : Type 0 where
  pub does : PassLineDoes (line_by k line v w own names later replies (new ++ more)) own new (state_seen w) told replies
  pub said : (others : List DeskEntry) → (line_by k line v w own names later replies (new ++ more)).said
      ≡ said_of names k (pass_id v.number) line got (entry_at (new ++ others) 0)

abbrev pub AreLine : Known → Line → PassValue Published → PassValue Published → LineGot → List HistoryEntry → List DeskEntry → Option ℕ → Type 0
AreLine k line v w got own new told =
    (names : Names) (later : List Generation) (replies : List ℕ) (more : List DeskEntry) → IsLine k line v w got own new told names later replies more

pub record StepKept (k : Known) (count : ℕ) (deed : PassDeed) (line : Line) (c : Clerk) (v : PassValue Published) (got : LineGot) (d : Clerk)
    (w : PassValue Published) : Type 0 where
  pub own : List HistoryEntry
  pub new : List DeskEntry
  pub told : Option ℕ
  pub grew : Grew v own w
  pub clerk : d ≡ record { who = c.who; got = c.got ++ new }
  pub inside : IsInItsGeneration w
  pub are : AreLine k line v w got own new told
  pub taken : taken_by got ≡ length new
  pub keeps : KeepsLines k count (deed_on deed line own new (state_seen w)) w

-- an answer takes no entry of the clerk, and its line says it
none_taken : (got : LineGot) (answer : LineAnswer) → IsAnswer got answer → taken_by got ≡ 0
none_taken gots.Refused answer is = absurd is
none_taken gots.Ordered answer is = absurd is
none_taken (gots.ReadFew access bytes) answer is = refl
none_taken (gots.Answered given) answer is = refl

answer_said : (names : Names) (k : Known) (pass : PassId) (line : Line) (got : LineGot) (answer : LineAnswer) (e : DeskEntry) → IsAnswer got answer
    → says (answer_text pass answer) ≡ said_of names k pass line got e
answer_said names k pass line gots.Refused answer e is = absurd is
answer_said names k pass line gots.Ordered answer e is = absurd is
answer_said names k pass line (gots.ReadFew access bytes) answer e is = ap (λ (x : LineAnswer). says (answer_text pass x)) (sym is)
answer_said names k pass line (gots.Answered given) answer e is = ap (λ (x : LineAnswer). says (answer_text pass x)) (sym is)

same_clerk : (c d : Clerk) → d ≡ c → d ≡ record { who = c.who; got = c.got ++ [] }
same_clerk c d same = same ∙ ap (λ (got : List DeskEntry). let x : Clerk = record { who = c.who; got = got } in x) (sym (append-nil c.got))

-- a line after those that the pass did
goes_on : (k : Known) (count : ℕ) (deed : PassDeed) (line : Line) (v w : PassValue Published) (got : LineGot) (own : List HistoryEntry)
    (new : List DeskEntry) (told : Option ℕ) → KeepsLines k count deed v → Grew v own w → AreLine k line v w got own new told
    → ((zs : List HistoryEntry) → IsAfterPublish (w.seen ++ zs) (v.number + 1) ((count + length deed.own) + length own) told)
    → KeepsLines k count (deed_on deed line own new (state_seen w)) w
goes_on k count deed line v w got own new told keeps grew are after =
    let pass : PassId = pass_id v.number in
    let gs : List Generation = generations_published w.seen in
    let grown : PassAt gs k pass w.seen count deed = at_later k pass count deed v.seen w.seen grew.begins keeps.0 in
    let on : PassAt gs k pass w.seen count (deed_on deed line own new (state_seen w)) =
    pass_acts.goes gs k pass w.seen count deed line own new (state_seen w) told grown
    (λ names later replies more. subst (λ (p : PassState). PassLineDoes
    (line_of_pass (gs ++ later) names pass line.0 (task_of k line.1) (pass_begins p (replies_of own ++ replies)) (entry_at (new ++ more) 0)) own new
    (state_seen w) told replies) (sym keeps.1) (are names later replies more).does) after in
    (subst (λ (m : ℕ). PassAt gs k (pass_id m) w.seen count (deed_on deed line own new (state_seen w))) (sym grew.number) on, refl)

module _ (k : Known) (count : ℕ) (deed : PassDeed) (line : Line) (c : Clerk) (v : PassValue Published) (got : LineGot) (d : Clerk)
    (w : PassValue Published) (inside : IsInItsGeneration v) (keeps : KeepsLines k count deed v) (counts : count_own v ≡ count + length deed.own) where
  abbrev Kept : Type 0
  Kept = StepKept k count deed line c v got d w

  abbrev pass : PassId
  pass = pass_id v.number

  abbrev none : List DeskEntry
  none = []

  -- a line, where its task is this one
  abbrev by_task : PassValue Published → List HistoryEntry → List DeskEntry → Names → List Generation → List ℕ → List DeskEntry → Resolved Task → PassLine
  by_task x own new names later replies more task =
      line_of_pass (generations_published x.seen ++ later) names pass line.0 task (pass_begins (state_seen v) (replies_of own ++ replies))
      (entry_at (new ++ more) 0)

  answered : (task : Task) → task_of k line.1 ≡ Ok task → HasAnswered task c v got d w → Kept
  answered task is h =
      let own : List HistoryEntry = h.does.entries in
      let are : AreLine k line v w got own none None = λ names later replies more.
      let i = lines_are_done v w task h.answer h.does names line.0 later replies (entry_at more 0) in record {
        does = subst (λ (r : Resolved Task). PassLineDoes (by_task w own none names later replies more r) own none (state_seen w) None replies)
            (sym is) i.does;
        said = λ others. ap (λ (r : Resolved Task). (by_task w own none names later replies more r).said) is ∙ i.says
            ∙ answer_said names k pass line got h.answer (entry_at others 0) h.is;
      } in record {
        own = own;
        new = none;
        told = None;
        grew = h.does.grew;
        clerk = same_clerk c d h.clerk;
        inside = h.does.inside;
        are = are;
        taken = none_taken got h.answer h.is;
        keeps = goes_on k count deed line v w got own none None keeps h.does.grew are (λ zs. tt);
      }

  refused : (why : Text) → task_of k line.1 ≡ Err why → got ≡ gots.Refused → d ≡ c → w ≡ v → Kept
  refused why is told clerk same = subst (λ (z : PassValue Published). StepKept k count deed line c v got d z) (sym same) (
      let own : List HistoryEntry = [] in
      let are : AreLine k line v v got own none None = λ names later replies more. record {
        does = subst (λ (r : Resolved Task). PassLineDoes (by_task v own none names later replies more r) own none (state_seen v) None replies) (sym is)
            (record { entries = refl; state = refl; replies_left = refl; asks = refl; told = refl });
        said = λ others. ap (λ (r : Resolved Task). (by_task v own none names later replies more r).said) is
            ∙ ap (λ (r : Resolved Task). says (refused_line line.0 (why_of r))) (sym is)
            ∙ ap (λ (x : LineGot). said_of names k pass line x (entry_at others 0)) (sym told);
      } in record {
        own = own;
        new = none;
        told = None;
        grew = nothing_grew v v refl;
        clerk = same_clerk c d clerk;
        inside = inside;
        are = are;
        taken = ap taken_by told;
        keeps = goes_on k count deed line v v got own none None keeps (nothing_grew v v refl) are (λ zs. tt);
      })

  ordered : (order : DeskOrder) (name : Text) → task_of k line.1 ≡ Ok (tasks.ordered order name) → got ≡ gots.Ordered → HasOrdered order c v d w → Kept
  ordered order name is told h =
      let entry : DeskEntry = entry_got c.who order h.receipt in
      let own : List HistoryEntry = [] in
      let new : List DeskEntry = entry ∷ [] in
      let number : Option ℕ = number_published h.receipt.answer in
      let actor : ℕ = v.number + 1 in
      let state : state_seen w ≡ state_seen v = state_then v w own h.grew in
      let there : StandsPublished w.seen number =
      stands_later number h.receipt.note.seen w.seen h.seen (published_seen order h.receipt.answer h.receipt.note.seen h.is.answers h.is.seen) in
      let same : length (own_entries actor w.seen) ≡ count_own v = ap length (h.grew.own ∙ append-nil (own_entries actor v.seen)) in
      let few : length (own_entries actor w.seen) ≤ (count + length deed.own) + 0 = omega (arith, same, counts) in
      let are : AreLine k line v w got own new number = λ names later replies more. record {
        does = subst (λ (r : Resolved Task). PassLineDoes (by_task w own new names later replies more r) own new (state_seen w) number replies) (sym is)
            (record { entries = refl; state = sym state; replies_left = refl; asks = refl; told = refl });
        said = λ others. ap (λ (r : Resolved Task). (by_task w own new names later replies more r).said) is
            ∙ ap (λ (x : LineGot). said_of names k pass line x entry) (sym told);
      } in record {
        own = own;
        new = new;
        told = number;
        grew = h.grew;
        clerk = h.clerk;
        inside = h.inside;
        are = are;
        taken = ap taken_by told;
        keeps = goes_on k count deed line v w got own new number keeps h.grew are
            (λ zs. is_after number actor ((count + length deed.own) + 0) w.seen zs there few);
      }

  pub step_kept : (task : PassTask) → StandsFor task (task_of k line.1) → HasDone task c v got d w → Kept
  step_kept (Refused why) is h = refused (refused_text why) is h.0 h.1 h.2
  step_kept (Order order) is h = ordered order is.0 is.1 h.0 h.1
  step_kept Enter is h = answered tasks.entered is h
  step_kept Leave is h = answered tasks.left is h
  step_kept (Read space addr len) is h = answered (tasks.accessed space addr (reading len)) is h
  step_kept (Write space addr bytes) is h = answered (tasks.accessed space addr (writing bytes.now)) is h
  step_kept (Copy from addr len to to_addr) is h = answered (tasks.copied from addr len to to_addr) is h
