-- A line of a pass outside the block, from what its virtual CPU or the record did to the race that goes on.
use Rattle.std.proofs.Common.{◌≡◌, ◌≢◌, ℕ, ◌+◌, ◌<◌, List, [], ◌∷◌, ◌++◌, length, map, Result, Ok, Err, IfOk, OnErr, OnOk, append-nil, refl, sym}
use Rattle.std.proofs.Common.{ap, subst, ◌∙◌}
use Rattle.std.specs.Prelude.{All, flat_map, slice_index_or}
use mathlib.Core.List.{IsPrefix}
use mathlib.Core.Logic.{dite}
use native.Mathlib.Decide.{ℕ_discrete}
use Rattle.mem_base.specs.map.PassIds.{PassId}
use Rattle.mem_base.specs.declared.machine.events.HistoryEntry.{HistoryEntry}
use Rattle.mem_base.specs.declared.machine.records.DeskEntry.{DeskEntry}
use Rattle.mem_base.specs.declared.machine.records.DeskOrder.{DeskOrder}
use Rattle.mem_base.specs.lists.Every.{Every}
use Rattle.mem_base.specs.map.Limits.{most_passes, notifier_count}
use Rattle.mem_base.specs.machine.Actors.{generations_published, own_entries}
use Rattle.mem_base.specs.machine.Passes.{pass_id}
use Rattle.mem_base.specs.machine.PassTurns.{pass_begins}
use Rattle.mem_base.specs.machine.Records.{FitsDeskOrder, Given, journal_length, recorded}
use Rattle.mem_base.specs.machine.SharedHistory.{IsSharedLegal}
use Rattle.mem_base.specs.machine.Turns.{entries_of_turn, replies_of}
use Rattle.mem_base.specs.views.Listening.{Delivery}
use Rattle.mem_base.specs.script.Named.{Names}
use Rattle.mem_base.specs.script.Spelling.{Text}
use Rattle.mem_base.specs.script.Scripts.{Line}
use Rattle.mem_base.specs.script.Run.{pool_words}
use Rattle.mem_base.specs.script.Tasks.{Known, Resolved, Task, task_of}
use Rattle.mem_base.specs.script.Tasks as tasks
use Rattle.mem_base.specs.script.RaceLines.{PassLine, Said, do_text, entry_at, line_of_pass, said_text, says, says_with}
use Rattle.mem_base.specs.script.Race.{Course, Phase, Stand, actor_number, alone, pass_state}
use Rattle.history_laws.proofs.AppendLaws.{own_append}
use Rattle.generation.specs.Published.{Published}
use Rattle.epoch_rule.specs.declared.views.Sizes.{Sizes}
use Rattle.epoch_rule.specs.Rule.{IsLegal}
use Rattle.epoch_rule.specs.Values.{PassValue}
use Rattle.run_laws.specs.Fitting.{FitsCommand}
use Rattle.race_laws.specs.SoFar.{IsRaceSoFar}
use Rattle.race_laws.specs.Outside.{pass_course, pass_line_of}
use Rattle.race_laws.specs.Stopped.{GoesOn}
use Rattle.race_laws.proofs.OutsideLaws.{orders_fit}
use Rattle.race_laws.proofs.StoppedEnds.{race_goes_on}
use Rattle.pass_lines.specs.declared.answers.LineAnswer.{LineAnswer}
use Rattle.pass_lines.specs.declared.answers.LineAnswer.TheVariants as answers
use Rattle.pass_lines.specs.Doing.{IsInItsGeneration}
use Rattle.pass_lines.specs.Texts.{answer_text}
use Rattle.pass_lines.proofs.DoneLaws.{lines_are_done, published_prefix}
use Rattle.desk_orders.specs.Records.{GrewBy, RecordState, turns_given}
use Rattle.desk_orders.proofs.Giving.{given_by}
use Rattle.desk_orders.proofs.RecordLaws.{grew_on, append_cancel}
use Rattle.desk_lock.proofs.RecordLaws.{grew_one}
use Rattle.race_lines.specs.declared.passes.PassSaid.{PassSaid}
use Rattle.race_lines.specs.declared.passes.PassSaid.TheVariants as saids
use Rattle.race_lines.specs.declared.tasks.LineTask.{LineTask}
use Rattle.race_lines.specs.declared.tasks.LineTask.TheVariants.{Idle, Ordered, Shown, Found, Watched, Unwatched, Entered, Left, Read, Written, Copied}
use Rattle.race_lines.specs.declared.tasks.Refused.{Refused}
use Rattle.race_lines.specs.DeskLines.{entry_with}
use Rattle.race_lines.specs.LineTasks.{Resolves, name_made, refused_text, task_meant}
use Rattle.race_lines.specs.PassLines.{said_of}
use Rattle.race_levels.specs.Steps.{HasDone, stand_with}
use Rattle.race_levels.proofs.StepLaws.{pass_lines_step}
use Rattle.race_levels.specs.Levels.{HasMet, IsHeard, IsOfCabinet}
use Rattle.race_levels.specs.Ready.{AreReady}
use Rattle.race_levels.specs.Settling.{AreLevel, HaveMet, OnePassMade, pass_at}
use Rattle.race_levels.proofs.SettlingLaws.{desk_settles, pass_settles}
use Rattle.race_levels.proofs.ReadyLaws.{have_met, ready_again}
use Rattle.race_levels.specs.Outside.{StepsOn, StopsIn, WritesOn, stand_of}
use Rattle.race_outside.specs.Passes.{Changed, DoesPassLine, HasActed, HasDoneLine, HasDoneNothing, HasOrdered, HasSettled, IsIdle, IsWritten, said_by}

-- what is kept of an answer says what the answer writes
said_answer : (names : Names) (pass : PassId) (n : ℕ) (answer : LineAnswer) → said_of names pass n (said_by answer) ≡ says (answer_text pass answer)
said_answer names pass n (answers.Entered number) = refl
said_answer names pass n _ = refl

-- a fact of all virtual CPUs, where one of them changed
pub all_between : (P : PassValue Published → Type 0) (p : ℕ) (a b : PassValue Published) (olds news : List (PassValue Published)) → Changed p a b olds news
    → P b → All P olds → All P news
all_between P p a b olds news c here all i d near = dite (ℕ_discrete i p)
    (λ same. subst P (sym (ap (λ (n : ℕ). slice_index_or news n d) same ∙ c.is d)) here)
    (λ other. subst P (sym (c.others i d other)) (all i d (subst (λ (n : ℕ). i < n) c.count near)))

-- where the one is what it was, all are
pub as_before : (p : ℕ) (a b : PassValue Published) (olds news : List (PassValue Published)) → Changed p a b olds news → b ≡ a
    → (i : ℕ) (d : PassValue Published) → pass_at news i d ≡ pass_at olds i d
as_before p a b olds news c same i d = dite (ℕ_discrete i p)
    (λ at. ap (λ (n : ℕ). slice_index_or news n d) at ∙ c.is d ∙ same ∙ sym (c.was d) ∙ ap (λ (n : ℕ). slice_index_or olds n d) (sym at))
    (λ other. c.others i d other)

-- the virtual CPU is the same, and in its generation
pub record IsSame (a b : PassValue Published) : Type 0 where
  pub cabinet : b.cabinet ≡ a.cabinet
  pub number : b.number ≡ a.number
  pub inside : IsInItsGeneration b

unchanged : (a b : PassValue Published) → b ≡ a → IsInItsGeneration a → IsSame a b
unchanged a b same inside =
    subst (λ (x : PassValue Published). IsSame a x) (sym same) (record { cabinet = refl; number = refl; inside = inside })

acted_same : (v w : RecordState) (a b : PassValue Published) (task : Task) (said : PassSaid) → HasActed v a task said w b → IsSame a b
acted_same v w a b task said h = record { cabinet = h.does.grew.cabinet; number = h.does.grew.number; inside = h.does.inside }

pub is_same : (p : ℕ) (v w : RecordState) (a b : PassValue Published) (task : Result LineTask Refused) (said : PassSaid) → DoesPassLine p v a task said w b
    → IsInItsGeneration a → IsSame a b
is_same p v w a b (Ok (Ordered order naming)) said h inside = unchanged a b h.cpu inside
is_same p v w a b (Ok Entered) said h inside = acted_same v w a b (task_meant Entered) said h
is_same p v w a b (Ok Left) said h inside = acted_same v w a b (task_meant Left) said h
is_same p v w a b (Ok (Read space addr len)) said h inside = acted_same v w a b (task_meant (Read space addr len)) said h
is_same p v w a b (Ok (Written space addr bytes)) said h inside = acted_same v w a b (task_meant (Written space addr bytes)) said h
is_same p v w a b (Ok (Copied space addr len to_space to_addr)) said h inside =
    acted_same v w a b (task_meant (Copied space addr len to_space to_addr)) said h
is_same p v w a b (Ok Idle) said h inside = unchanged a b h.cpu inside
is_same p v w a b (Ok (Shown space)) said h inside = unchanged a b h.cpu inside
is_same p v w a b (Ok (Found space addr)) said h inside = unchanged a b h.cpu inside
is_same p v w a b (Ok (Watched name region first last)) said h inside = unchanged a b h.cpu inside
is_same p v w a b (Ok (Unwatched name watcher)) said h inside = unchanged a b h.cpu inside
is_same p v w a b (Err why) said h inside = unchanged a b h.cpu inside

-- what came to pass for a line, once all are level: the pass made these entries, and gave these orders
record CameToPass (v w : RecordState) (k : Known) (line : Line) (p : ℕ) (given : List Given) (ys : List HistoryEntry) (said : Said) : Type 0 where
  gave : Every (λ g. g.who ≡ p) given
  seen : w.seat.seen ≡ v.seat.seen ++ (ys ++ flat_map entries_of_turn (turns_given v.part given))
  own : own_entries (p + 1) ys ≡ ys
  entries : ys ≡ (pass_line_of (generations_published w.seat.seen) (stand_of k v) (pass_id p) line ys given).turn.entries
  orders : map (λ g. g.order) given ≡ (pass_line_of (generations_published w.seat.seen) (stand_of k v) (pass_id p) line ys given).asks
  said_is : said ≡ (pass_line_of (generations_published w.seat.seen) (stand_of k v) (pass_id p) line ys given).said

steps_by : (v w : RecordState) (k : Known) (line : Line) (p : ℕ) (given : List Given) (ys : List HistoryEntry) (said : Said) → p < most_passes
    → actor_number line.1 ≡ p → GrewBy given v w → IsLegal w.seat.sizes w.seat.seen
    → ((pool : ℕ) → IsSharedLegal (pool + notifier_count) most_passes w.seat.seen → CameToPass v w k line p given ys said)
    → StepsOn v k (alone line) w k (said_text k.names w.part.desk.listening.journal said)
steps_by v w k line p given ys said near actor grew lawful came pool done text sizes race =
    let s : Stand = stand_of k v in
    let pass : PassId = pass_id p in
    let c : Course = pass_course s pass ys given in
    let legal : IsSharedLegal (pool + notifier_count) most_passes w.seat.seen =
    subst (λ (z : Sizes). IsLegal z w.seat.seen) (grew.sizes ∙ sizes) lawful in
    let x = came pool legal in
    let seen : w.seat.seen ≡ s.seen ++ c.entries = x.seen in
    let done_all : HasDone pool s pass line ys given said = record {
      near = near;
      actor = actor;
      own = x.own;
      gave = x.gave;
      fits = grew.fits;
      legal = subst (λ (xs : List HistoryEntry). IsSharedLegal (pool + notifier_count) most_passes xs) seen legal;
      entries = x.entries
          ∙ ap (λ (xs : List HistoryEntry). (pass_line_of (generations_published xs) s pass line ys given).turn.entries) seen;
      orders = x.orders ∙ ap (λ (xs : List HistoryEntry). (pass_line_of (generations_published xs) s pass line ys given).asks) seen;
      said_is = x.said_is ∙ ap (λ (xs : List HistoryEntry). (pass_line_of (generations_published xs) s pass line ys given).said) seen;
    } in
    let step = pass_lines_step pool done s text pass line ys given said race done_all in
    let stands : stand_with s line c ≡ stand_of k w =
    (λ i. record { known = step.known_is i; seen = sym seen i; writer = sym grew.part i }) in
    subst (λ (z : Stand). IsRaceSoFar pool (done ++ alone line ∷ []) z (text ++ said_text k.names z.writer.desk.listening.journal said)) stands step.race

module _ (v m w : RecordState) (k : Known) (line : Line) (p : ℕ) (a b : PassValue Published) (olds between news : List (PassValue Published))
    (near : p < most_passes) (actor : actor_number line.1 ≡ p) (grew : GrewBy [] m w) (lawful : IsLegal w.seat.sizes w.seat.seen)
    (level : AreLevel v.seat.seen olds) (changed : Changed p a b olds between) (met : HaveMet w.seat.seen between news) where
  abbrev pass : PassId
  pass = pass_id p

  from_before : m ≡ v → GrewBy [] v w
  from_before same = subst (λ (r : RecordState). GrewBy [] r w) same grew

  -- where the virtual CPU did nothing, all met the record from where they were
  still_met : b ≡ a → HaveMet w.seat.seen olds news
  still_met same i d l =
      subst (λ (x : PassValue Published). HasMet w.seat.seen x (pass_at news i d)) (as_before p a b olds between changed same i d) (met i d l)

  seen_by : (given : List Given) → GrewBy given v w → b ≡ a → (pool : ℕ) → IsSharedLegal (pool + notifier_count) most_passes w.seat.seen
      → w.seat.seen ≡ v.seat.seen ++ flat_map entries_of_turn (turns_given v.part given)
  seen_by given more same pool legal = (desk_settles pool v w given olds news a legal more level (still_met same)).0

  -- out of memory
  pub idle_stops : m ≡ v → b ≡ a → StopsIn v k (alone line) w
  idle_stops same cpu lines done left text sizes fits cut race =
      let quiet : GrewBy [] v w = from_before same in
      let seen = seen_by [] quiet cpu (pool_words lines) (subst (λ (z : Sizes). IsLegal z w.seat.seen) (quiet.sizes ∙ sizes) lawful) in
      subst (λ (xs : List HistoryEntry). GoesOn lines xs text) (sym (seen ∙ append-nil v.seat.seen))
      (race_goes_on lines done (alone line ∷ left) (stand_of k v) text fits cut race)

  abbrev Steps : PassSaid → Type 0
  Steps said = StepsOn v k (alone line) w k (said_text k.names w.part.desk.listening.journal (said_of k.names pass line.0 said))

  abbrev line_by : Resolved Task → List HistoryEntry → List Given → PassLine
  line_by task ys given =
      line_of_pass (generations_published w.seat.seen) k.names pass line.0 task (pass_begins (pass_state pass v.seat.seen) (replies_of ys))
      (entry_at (recorded v.part given) 0)

  -- a line that asks for nothing
  record IsSilent (task : Resolved Task) (said : Said) : Type 0 where
    entries : [] ≡ (line_by task [] []).turn.entries
    orders : [] ≡ (line_by task [] []).asks
    said_is : said ≡ (line_by task [] []).said

  idle : (task : Resolved Task) (said is : PassSaid) → task ≡ task_of k line.1 → IsSilent task (said_of k.names pass line.0 is) → IsIdle v a said is m b
      → Steps said
  idle task said is task_is silent h =
      let quiet : GrewBy [] v w = from_before h.desk in
      subst Steps (sym h.said_is) (steps_by v w k line p [] [] (said_of k.names pass line.0 is) near actor quiet lawful (λ pool legal. record {
        gave = tt;
        seen = seen_by [] quiet h.cpu pool legal;
        own = refl;
        entries = silent.entries ∙ ap (λ (t : Resolved Task). (line_by t [] []).turn.entries) task_is;
        orders = silent.orders ∙ ap (λ (t : Resolved Task). (line_by t [] []).asks) task_is;
        said_is = silent.said_is ∙ ap (λ (t : Resolved Task). (line_by t [] []).said) task_is;
      }))

  ordered : (order : DeskOrder) (name : Text) (said : PassSaid) → task_of k line.1 ≡ Ok (tasks.ordered order name) → FitsDeskOrder order
      → HasOrdered p v a order said m b → Steps said
  ordered order name said is fits h =
      let asked = h.takes.turned.asked in
      let g : Given = given_by p order asked.replies in
      let more : GrewBy (g ∷ []) v w = grew_on (g ∷ []) [] v m w (grew_one v m p order h.receipt h.takes fits) grew in
      let e : DeskEntry = entry_at (recorded v.part (g ∷ [])) 0 in
      let r = h.receipt in
      let says_it : said_of k.names pass line.0 said ≡ says_with (do_text k.names line.0 pass e.answer) e =
      ap (said_of k.names pass line.0) h.said_is
      ∙ (λ i. says_with (do_text k.names line.0 pass (asked.answer_is i))
      (entry_with (asked.answer_is i) (h.takes.turned.from i) ((h.takes.turned.to ∙ ap journal_length asked.part) i))) in
      steps_by v w k line p (g ∷ []) [] (said_of k.names pass line.0 said) near actor more lawful (λ pool legal. record {
        gave = (refl, tt);
        seen = seen_by (g ∷ []) more h.cpu pool legal;
        own = refl;
        entries = ap (λ (t : Resolved Task). (line_by t [] (g ∷ [])).turn.entries) (sym is);
        orders = ap (λ (t : Resolved Task). (line_by t [] (g ∷ [])).asks) (sym is);
        said_is = says_it ∙ ap (λ (t : Resolved Task). (line_by t [] (g ∷ [])).said) (sym is);
      })

  module _ (heard : IsPrefix b.seen w.seat.seen) where
    acted : (task : Task) (said : PassSaid) → task_of k line.1 ≡ Ok task → HasActed v a task said m b → Steps said
    acted task said is h =
        let quiet : GrewBy [] v w = from_before h.desk in
        let ys : List HistoryEntry = h.does.entries in
        let number : a.number ≡ p = ap (λ (x : PassValue Published). x.number) (sym (changed.was a)) ∙ (level p a near).0 in
        let had : a.seen ≡ v.seat.seen = ap (λ (x : PassValue Published). x.seen) (sym (changed.was a)) ∙ (level p a near).1 in
        let own : own_entries (p + 1) b.seen ≡ own_entries (p + 1) v.seat.seen ++ ys =
        subst (λ (z : ℕ × List HistoryEntry). own_entries (z.0 + 1) b.seen ≡ own_entries (z.0 + 1) z.1 ++ ys) (λ i. (number i, had i)) h.does.grew.own in
        let made : OnePassMade p v.seat.seen ys olds between = record {
          near = near;
          made = λ d. ap (λ (x : PassValue Published). own_entries (p + 1) x.seen) (changed.is d) ∙ own;
          number = λ d. ap (λ (x : PassValue Published). x.number) (changed.is d) ∙ h.does.grew.number ∙ number;
          others = λ i d l other. changed.others i d other;
        } in
        let grown = published_prefix b.seen w.seat.seen heard in
        let x = lines_are_done a b task h.answer h.does k.names line.0 grown.0 [] (entry_at (recorded v.part []) 0) in
        let y : PassLine = line_of_pass (generations_published b.seen ++ grown.0) k.names (pass_id a.number) line.0 (Ok task)
        (pass_begins (pass_state (pass_id a.number) a.seen) (replies_of ys ++ [])) (entry_at (recorded v.part []) 0) in
        let same : y ≡ line_by (task_of k line.1) ys [] =
        (λ i. line_of_pass (grown.1 i) k.names (pass_id (number i)) line.0 (sym is i)
        (pass_begins (pass_state (pass_id (number i)) (had i)) (append-nil (replies_of ys) i)) (entry_at (recorded v.part []) 0)) in
        let says_it : said_of k.names pass line.0 said ≡ y.said =
        ap (said_of k.names pass line.0) h.said_is ∙ said_answer k.names pass line.0 h.answer
        ∙ ap (λ (n : ℕ). says (answer_text (pass_id n) h.answer)) (sym number) ∙ sym x.says in
        steps_by v w k line p [] ys (said_of k.names pass line.0 said) near actor quiet lawful (λ pool legal.
        let seen : w.seat.seen ≡ v.seat.seen ++ ys = (pass_settles pool p v w ys olds between news a legal quiet level made met).0 in record {
          gave = tt;
          seen = seen ∙ ap (λ (zs : List HistoryEntry). v.seat.seen ++ zs) (sym (append-nil ys));
          own = append_cancel (own_entries (p + 1) v.seat.seen) (own_entries (p + 1) ys) ys
              (sym (own_append (p + 1) v.seat.seen ys) ∙ ap (own_entries (p + 1)) (sym seen) ∙ own_met made ∙ own);
          entries = sym x.does.entries ∙ ap (λ (z : PassLine). z.turn.entries) same;
          orders = sym x.does.asks ∙ ap (λ (z : PassLine). z.asks) same;
          said_is = says_it ∙ ap (λ (z : PassLine). z.said) same;
        })
      where
        own_met : OnePassMade p v.seat.seen h.does.entries olds between → own_entries (p + 1) w.seat.seen ≡ own_entries (p + 1) b.seen
        own_met made =
            subst (λ (n : ℕ). own_entries (n + 1) w.seat.seen ≡ own_entries (n + 1) (pass_at between p a).seen) (made.number a) (met p a near).own
            ∙ ap (λ (x : PassValue Published). own_entries (p + 1) x.seen) (changed.is a)

    -- what a line did, by its task
    pub line_steps : (task : Result LineTask Refused) (said : PassSaid) → Resolves k task (task_of k line.1) → FitsCommand line.1
        → DoesPassLine p v a task said m b → Steps said
    line_steps (Ok (Ordered order naming)) said r fits h =
        ordered order (name_made naming) said (sym r.is) (orders_fit k line.1 order (name_made naming) fits (sym r.is)) h
    line_steps (Ok Entered) said r fits h = acted (task_meant Entered) said (sym r.is) h
    line_steps (Ok Left) said r fits h = acted (task_meant Left) said (sym r.is) h
    line_steps (Ok (Read space addr len)) said r fits h = acted (task_meant (Read space addr len)) said (sym r.is) h
    line_steps (Ok (Written space addr bytes)) said r fits h = acted (task_meant (Written space addr bytes)) said (sym r.is) h
    line_steps (Ok (Copied space addr len to_space to_addr)) said r fits h =
        acted (task_meant (Copied space addr len to_space to_addr)) said (sym r.is) h
    line_steps (Ok Idle) said r fits h = idle (Ok (task_meant Idle)) said saids.Nothing r.is (record { entries = refl; orders = refl; said_is = refl }) h
    line_steps (Ok (Shown space)) said r fits h =
        idle (Ok (task_meant (Shown space))) said saids.Nothing r.is (record { entries = refl; orders = refl; said_is = refl }) h
    line_steps (Ok (Found space addr)) said r fits h =
        idle (Ok (task_meant (Found space addr))) said saids.Nothing r.is (record { entries = refl; orders = refl; said_is = refl }) h
    line_steps (Ok (Watched name region first last)) said r fits h =
        idle (Ok (task_meant (Watched name region first last))) said saids.Nothing r.is (record { entries = refl; orders = refl; said_is = refl }) h
    line_steps (Ok (Unwatched name watcher)) said r fits h =
        idle (Ok (task_meant (Unwatched name watcher))) said saids.Nothing r.is (record { entries = refl; orders = refl; said_is = refl }) h
    line_steps (Err why) said r fits h =
        idle (Err (refused_text why)) said (saids.Refused why) r.is (record { entries = refl; orders = refl; said_is = refl }) h

-- The same by what a line of a pass leaves, once all are level again

-- the virtual CPUs after a line, and before they are level
pub record AreBetween (p : ℕ) (olds between : List (PassValue Published)) : Type 0 where
  pub a : PassValue Published
  pub b : PassValue Published
  pub changed : Changed p a b olds between
  pub same : IsSame a b

module _ (v m : RecordState) (p : ℕ) (olds between : List (PassValue Published)) (near : p < most_passes) (ready : AreReady v olds) where
  within : p < length olds
  within = subst (λ (n : ℕ). p < n) (sym ready.all) near

  inside_at : (a b : PassValue Published) → Changed p a b olds between → IsInItsGeneration a
  inside_at a b c = subst IsInItsGeneration (c.was a) (ready.inside p a within)

  pub done_between : (task : Result LineTask Refused) (said : PassSaid) → HasDoneLine p v olds task said m between → AreBetween p olds between
  done_between task said h = record {
    a = h.a;
    b = h.b;
    changed = h.changed;
    same = is_same p v m h.a h.b task said h.does (inside_at h.a h.b h.changed);
  }

  pub nothing_between : HasDoneNothing p v olds m between → AreBetween p olds between
  nothing_between h = record {
    a = h.a;
    b = h.a;
    changed = h.changed;
    same = record { cabinet = refl; number = refl; inside = inside_at h.a h.a h.changed };
  }

  pub still_own : (r : RecordState) → AreBetween p olds between → r.seat.cabinet ≡ v.seat.cabinet → All (IsOfCabinet r.seat.cabinet) between
  still_own r x cabinet =
      let was : x.a.cabinet ≡ v.seat.cabinet =
      subst (λ (y : PassValue Published). y.cabinet ≡ v.seat.cabinet) (x.changed.was x.a) (ready.own p x.a within) in
      all_between (IsOfCabinet r.seat.cabinet) p x.a x.b olds between x.changed (x.same.cabinet ∙ was ∙ sym cabinet)
      (λ i d l. ready.own i d l ∙ sym cabinet)

  -- what the others have seen the record had heard before
  pub others_heard : AreBetween p olds between → IsPrefix v.seat.seen m.seat.seen
      → (i : ℕ) (d : PassValue Published) → i < length between → i ≢ p → IsHeard m.seat.seen (pass_at between i d)
  others_heard x begins i d l other =
      let few : i < most_passes = subst (λ (n : ℕ). i < n) (x.changed.count ∙ ready.all) l in
      let seen : v.seat.seen ≡ (pass_at between i d).seen =
      sym (ap (λ (y : PassValue Published). y.seen) (x.changed.others i d other) ∙ (ready.level i d few).1) in
      subst (λ (s : List HistoryEntry). IsPrefix s m.seat.seen) seen begins

  numbers : AreBetween p olds between → (i : ℕ) (d : PassValue Published) → i < most_passes → (pass_at between i d).number ≡ i
  numbers x i d l = dite (ℕ_discrete i p)
      (λ at. ap (λ (n : ℕ). (pass_at between n d).number) at ∙ ap (λ (y : PassValue Published). y.number) (x.changed.is d) ∙ x.same.number
      ∙ ap (λ (y : PassValue Published). y.number) (sym (x.changed.was d)) ∙ (ready.level p d near).0 ∙ sym at)
      (λ other. ap (λ (y : PassValue Published). y.number) (x.changed.others i d other) ∙ (ready.level i d l).0)

  module _ (w : RecordState) (news : List (PassValue Published)) (settled : HasSettled m between w news) where
    met_all : (a b : PassValue Published) → Changed p a b olds between → HaveMet w.seat.seen between news
    met_all a b c = have_met w.seat.seen between news (c.count ∙ ready.all) settled.met

    pub between_ready : AreBetween p olds between → m.seat.cabinet ≡ v.seat.cabinet → AreReady w news
    between_ready x cabinet = ready_again w between news (x.changed.count ∙ ready.all) settled.count
        (still_own w x (settled.grew.cabinet ∙ cabinet))
        (all_between IsInItsGeneration p x.a x.b olds between x.changed x.same.inside ready.inside) (numbers x) settled.met

    pub done_steps : (k : Known) (line : Line) (task : Result LineTask Refused) (said : PassSaid) → actor_number line.1 ≡ p → FitsCommand line.1
        → Resolves k task (task_of k line.1) → HasDoneLine p v olds task said m between
        → StepsOn v k (alone line) w k (said_text k.names w.part.desk.listening.journal (said_of k.names (pass_id p) line.0 said))
    done_steps k line task said actor fits r h =
        let c : Changed p h.a h.b olds between = h.changed in
        let begins : IsPrefix h.b.seen w.seat.seen = subst (λ (x : PassValue Published). IsHeard w.seat.seen x) (c.is h.b)
        (settled.heard p h.b (subst (λ (n : ℕ). p < n) (sym c.count) within)) in
        line_steps v m w k line p h.a h.b olds between news near actor settled.grew settled.legal ready.level c (met_all h.a h.b c) begins task said r
        fits h.does

    pub nothing_steps : (k : Known) (line : Line) → actor_number line.1 ≡ p → HasDoneNothing p v olds m between → StopsIn v k (alone line) w
    nothing_steps k line actor h =
        idle_stops v m w k line p h.a h.a olds between news near actor settled.grew settled.legal ready.level h.changed (met_all h.a h.a h.changed) h.desk
        refl

-- In either case of a result

pub either_way : {A E : Type 0} {P : A → Type 0} {Q S : Type 0} (r : Result A E) → IfOk r P → OnErr r Q → ((a : A) → P a → S) → (Q → S) → S
either_way (Ok a) p q f g = f a p
either_way (Err e) p q f g = g q

pub steps_written : {T E F : Type 0} {P : PassSaid → Type 0} (v w : RecordState) (k : Known) (phase : Phase) (journal : List Delivery) (who : PassId)
    (n : ℕ) (before after : Text) (res : Result T F) (r : Result PassSaid E) → OnOk res (IsWritten k.names journal who n before after r) → IfOk r P
    → ((said : PassSaid) → P said → StepsOn v k phase w k (said_text k.names journal (said_of k.names who n said)))
    → OnOk res (WritesOn v k phase w k before after)
steps_written v w k phase journal who n before after (Ok x) (Ok said) is p f =
    record { written = said_text k.names journal (said_of k.names who n said); text = is; steps = f said p }
steps_written v w k phase journal who n before after (Ok x) (Err e) is p f = absurd is
steps_written v w k phase journal who n before after (Err e) r is p f = tt

-- A line on the virtual CPU that was taken out and put back

pub if_done : {E : Type 0} (r : Result PassSaid E) (p : ℕ) (v : RecordState) (olds : List (PassValue Published)) (task : Result LineTask Refused)
    (m : RecordState) (news : List (PassValue Published)) (a b : PassValue Published) → IfOk r (λ said. DoesPassLine p v a task said m b)
    → Changed p a b olds news → IfOk r (λ said. HasDoneLine p v olds task said m news)
if_done (Ok said) p v olds task m news a b does changed = record { a = a; b = b; does = does; changed = changed }
if_done (Err e) p v olds task m news a b does changed = tt

pub on_nothing : {E : Type 0} (r : Result PassSaid E) (p : ℕ) (v : RecordState) (olds : List (PassValue Published)) (m : RecordState)
    (news : List (PassValue Published)) (a b : PassValue Published) → OnErr r ((m ≡ v) × (b ≡ a)) → Changed p a b olds news
    → OnErr r (HasDoneNothing p v olds m news)
on_nothing (Ok said) p v olds m news a b same changed = tt
on_nothing (Err e) p v olds m news a b same changed =
    record { a = a; desk = same.0; changed = subst (λ (x : PassValue Published). Changed p a x olds news) same.1 changed }
