-- The text of a block: what its actors write, in their order, is the text of the phase.
use Rattle.std.proofs.Common.{◌≡◌, ◌<◌, ◌≤◌, ◌+◌, ℕ, zero, suc, Bool, true, false, if◌then◌else◌, List, [], ◌∷◌, ◌++◌, length, map, drop}
use Rattle.std.proofs.Common.{refl, sym, ap, subst, ◌∙◌, append-nil, append_assoc, arith, ne_eqb, Option}
use Rattle.std.specs.Prelude.{◌==◌, flat_map}
use Rattle.std.specs.List.{range_with_len}
use Rattle.std.proofs.lemmas.Bool.{eqb-true}
use Rattle.std.proofs.lemmas.List.Folds.{flat_map-map}
use Rattle.mem_base.specs.map.PassIds.{PassId}
use Rattle.mem_base.specs.declared.machine.events.HistoryEntry.{HistoryEntry}
use Rattle.mem_base.specs.declared.machine.records.DeskEntry.{DeskEntry}
use Rattle.mem_base.specs.declared.machine.records.Differs.{Differs}
use Rattle.mem_base.specs.map.Limits.{most_passes}
use Rattle.mem_base.specs.views.Listening.{Delivery}
use Rattle.mem_base.specs.machine.Generations.{Generation}
use Rattle.mem_base.specs.machine.Passes.{PassState, pass_id}
use Rattle.mem_base.specs.machine.Actors.{generations_published, own_entries}
use Rattle.mem_base.specs.machine.Records.{Clerk, got_by}
use Rattle.mem_base.specs.machine.Turns.{replies_of}
use Rattle.mem_base.specs.script.Named.{Names}
use Rattle.mem_base.specs.script.Spelling.{Text}
use Rattle.mem_base.specs.script.Scripts.{Line}
use Rattle.mem_base.specs.script.Run.{pool_words}
use Rattle.mem_base.specs.script.Tasks.{Known}
use Rattle.mem_base.specs.script.RaceLines.{DeskLine, PassLine, Said, known_after, line_of_desk, lines_of_desk, lines_of_pass, said_text}
use Rattle.mem_base.specs.script.Race.{Course, Phase, Stand, actors_in, block, desk_number, desk_part, differs_line, lines_by, pass_part, pass_state, passes}
use Rattle.mem_base.specs.script.Race.{phase_text, stand_after}
use Rattle.race_laws.specs.Acting.{DeskLeft, DeskRuns, left_of_desk}
use Rattle.race_laws.specs.SoFar.{IsRaceSoFar}
use Rattle.race_laws.specs.Stopped.{GoesOn, published_by}
use Rattle.race_laws.proofs.SoFarLaws.{takes_phase}
use Rattle.race_laws.proofs.StoppedEnds.{actors_make_phase, stopped_actors_go_on}
use Rattle.desk_orders.specs.Records.{RecordState}
use Rattle.race_block.specs.declared.blocks.BlockActor.{BlockActor}
use Rattle.race_block.specs.declared.blocks.BlockActor.TheVariants.{Desk, Pass, Gone}
use Rattle.race_block.specs.declared.desks.DeskActor.{DeskActor}
use Rattle.race_block.specs.declared.passes.PassActor.{PassActor}
use Rattle.race_block.specs.Desks.{DeskKeeps}
use Rattle.race_levels.specs.Outside.{StepsOn, stand_of}
use Rattle.race_seats.specs.Ran.{HasRunBlock, actor_text, actors_text, block_text, known_after_block}
use Rattle.race_seats.specs.Laws.{BlocksMayStop, BlocksStepOn}
use Rattle.race_seats.proofs.ListLaws.{Each, each_weaker, flat_actors, has_lines, no_lines}
use Rattle.race_seats.proofs.EndLaws.{IsEnded}
use Rattle.race_seats.proofs.DeskLaws.{DeskEnded}
use Rattle.race_seats.proofs.PassLaws.{PassEnded}
use Rattle.race_seats.proofs.PhaseLaws as block_phases

-- what is known after some of the desk's lines
known_left : (gs : List Generation) (k : Known) (lines : List Line) (got : List DeskEntry)
    → known_after k (lines_of_desk gs k lines got) ≡ (left_of_desk gs k lines got).known
known_left gs k [] got = refl
known_left gs k (line ∷ lines) got =
    let x : DeskLine = line_of_desk gs k line got in known_left gs x.known lines (drop (length x.asks) got)

-- texts by number: the desk's, and each pass's
abbrev text_of : Text → (PassId → Text) → ℕ → Text
text_of desk pass n = if n == desk_number then desk else pass (pass_id n)

module _ (desk : Text) (pass : PassId → Text) where
  of_pass : (n : ℕ) → n < most_passes → text_of desk pass n ≡ pass (pass_id n)
  of_pass n near =
      ap (λ (b : Bool). if b then desk else pass (pass_id n)) (ne_eqb n desk_number (λ e. absurd (omega (arith, near, e))))

  of_passes : (a n : ℕ) → a + n ≤ most_passes → flat_map (text_of desk pass) (range_with_len a n) ≡ flat_map pass (map pass_id (range_with_len a n))
  of_passes a zero l = refl
  of_passes a (suc n) l =
      let first = of_pass a (omega (arith, l)) in let rest = of_passes (a + 1) n (omega (arith, l)) in λ i. first i ++ rest i

  -- those without lines write nothing
  of_idle : (phase : Phase) → (lines_by desk_number phase ≡ [] → desk ≡ []) → ((n : ℕ) → lines_by n phase ≡ [] → pass (pass_id n) ≡ []) → (n : ℕ)
      → has_lines phase n ≡ false → text_of desk pass n ≡ []
  of_idle phase no_desk no_pass n out = go (n == desk_number) refl
    where
      none : lines_by n phase ≡ []
      none = no_lines phase n out

      go : (b : Bool) → (n == desk_number) ≡ b → (if b then desk else pass (pass_id n)) ≡ []
      go true e = no_desk (subst (λ (m : ℕ). lines_by m phase ≡ []) (eqb-true n desk_number e) none)
      go false e = no_pass n none

  all_texts : (phase : Phase) → (lines_by desk_number phase ≡ [] → desk ≡ []) → ((n : ℕ) → lines_by n phase ≡ [] → pass (pass_id n) ≡ [])
      → flat_map (text_of desk pass) (actors_in phase) ≡ desk ++ flat_map pass passes
  all_texts phase no_desk no_pass =
      flat_actors (text_of desk pass) phase (of_idle phase no_desk no_pass)
      ∙ ap (λ (t : Text). desk ++ t) (of_passes 0 most_passes (omega arith))

-- one after another
texts_each : (k : Known) (lines : List Line) (names : Names) (journal : List Delivery) (T : ℕ → Text) (ns : List ℕ) (xs : List BlockActor) (cs : List Clerk)
    → Each (λ n x c. actor_text k lines names journal x c ≡ T n) ns xs cs → actors_text k lines names journal xs cs ≡ flat_map T ns
texts_each k lines names journal T [] [] [] h = refl
texts_each k lines names journal T (n ∷ ns) (x ∷ xs) (c ∷ cs) h =
    let rest = texts_each k lines names journal T ns xs cs h.1 in λ i. h.0 i ++ rest i
texts_each k lines names journal T [] [] (c ∷ cs) h = absurd h
texts_each k lines names journal T [] (x ∷ xs) cs h = absurd h
texts_each k lines names journal T (n ∷ ns) [] cs h = absurd h
texts_each k lines names journal T (n ∷ ns) (x ∷ xs) [] h = absurd h

module _ (k : Known) (lines : List Line) (v w : RecordState) (olds news : List BlockActor) (clerks : List Clerk) (differs : Option Differs)
    (h : HasRunBlock k lines v w olds news clerks differs) (lasts : block_phases.Lasted k lines v w olds news clerks differs h) where
  abbrev came : Course
  came = block_phases.came k lines v w olds news clerks differs h

  abbrev before : Stand
  before = stand_of k v

  abbrev gs : List Generation
  gs = published_by before came

  abbrev after : Stand
  after = stand_after gs before (block lines) came

  abbrev next : Known
  next = known_after_block k news

  desk_did : DeskKeeps gs k (lines_by desk_number (block lines)) (got_by desk_number clerks) next
      (block_phases.desk k lines v w olds news clerks differs h).said
  desk_did = block_phases.desk_did k lines v w olds news clerks differs h lasts

  known_is : known_after k (desk_part gs before (block lines) came) ≡ next
  known_is =
      let mine : List Line = lines_by desk_number (block lines) in
      let got : List DeskEntry = got_by desk_number clerks in
      let runs : DeskRuns (gs ++ []) k mine got [] next = desk_did.at [] [] in
      (λ i. known_after k (lines_of_desk (sym (append-nil gs) i) k mine (sym (append-nil got) i)))
      ∙ known_left (gs ++ []) k mine (got ++ []) ∙ ap (λ (l : DeskLeft). l.known) runs.left

  stands : after ≡ stand_of next w
  stands i = record { known = known_is i; seen = sym (block_phases.cut k lines v w olds news clerks differs h) i; writer = sym h.later.grew.part i }

  -- what is written by the names and the journal after the block
  abbrev written : Said → Text
  written = said_text after.known.names after.writer.desk.listening.journal

  abbrev desk_text : Text
  desk_text = flat_map (λ (x : DeskLine). written x.said) (desk_part gs before (block lines) came)

  abbrev pass_text : PassId → Text
  pass_text pass = flat_map (λ (x : PassLine). written x.said) (pass_part gs before (block lines) came pass)

  no_desk_text : lines_by desk_number (block lines) ≡ [] → desk_text ≡ []
  no_desk_text none i = flat_map (λ (x : DeskLine). written x.said) (lines_of_desk gs k (none i) (got_by desk_number clerks))

  no_pass_text : (n : ℕ) → lines_by n (block lines) ≡ [] → pass_text (pass_id n) ≡ []
  no_pass_text n none i = flat_map (λ (x : PassLine). written x.said) (lines_of_pass gs k after.known.names (pass_id n) (pass_state (pass_id n) v.seat.seen)
      (none i) (replies_of (own_entries (n + 1) came.entries)) (got_by n clerks))

  desk_wrote : (b : DeskActor) (c : Clerk) → DeskEnded k lines w.seat.seen b c → b.out_of_memory ≡ false → got_by desk_number clerks ≡ c.got
      → flat_map written b.said.items ≡ desk_text
  desk_wrote b c e lasted got =
      let mine : List Line = lines_by desk_number (block lines) in
      let seen = block_phases.cut k lines v w olds news clerks differs h in
      let wrote = (e.whole lasted).writes [] in
      ap (λ (xs : List Said). flat_map written xs) (sym wrote)
      ∙ flat_map-map written (λ (x : DeskLine). x.said) (lines_of_desk (generations_published w.seat.seen) k mine (c.got ++ []))
      ∙ (λ i. flat_map (λ (x : DeskLine). written x.said) (lines_of_desk (generations_published (seen i)) k mine ((append-nil c.got ∙ sym got) i)))

  pass_wrote : (n : ℕ) (b : PassActor) (c : Clerk) → PassEnded k lines v.seat.seen w.seat.seen n b c → b.out_of_memory ≡ false → got_by n clerks ≡ c.got
      → actor_text k lines after.known.names after.writer.desk.listening.journal (Pass b) c ≡ pass_text (pass_id n)
  pass_wrote n b c e lasted got =
      let names : Names = after.known.names in
      let mine : List Line = lines_by n (block lines) in
      let state : PassState = pass_state (pass_id n) v.seat.seen in
      let seen = block_phases.cut k lines v w olds news clerks differs h in
      let own = sym (block_phases.own_of k lines v w olds news clerks differs h n e.own e.own_is) in
      e.told lasted names after.writer.desk.listening.journal
      ∙ ap (λ (xs : List Said). flat_map written xs) (sym (e.writes lasted names))
      ∙ flat_map-map written (λ (x : PassLine). x.said)
      (lines_of_pass (generations_published w.seat.seen) k names (pass_id n) state mine (replies_of e.own) c.got)
      ∙ (λ i. flat_map (λ (x : PassLine). written x.said)
      (lines_of_pass (generations_published (seen i)) k names (pass_id n) state mine (replies_of (own i)) (sym got i)))

  one_wrote : (n : ℕ) (x : BlockActor) (c : Clerk) → IsEnded k lines v.seat.seen w.seat.seen news clerks n x c
      → actor_text k lines after.known.names after.writer.desk.listening.journal x c ≡ text_of desk_text pass_text n
  one_wrote n (Desk b) c e =
      desk_wrote b c e.ended.1 (e.lasts lasts) (ap (λ (m : ℕ). got_by m clerks) (sym e.ended.0) ∙ e.got)
      ∙ ap (λ (m : ℕ). text_of desk_text pass_text m) (sym e.ended.0)
  one_wrote n (Pass b) c e = pass_wrote n b c e.ended (e.lasts lasts) e.got ∙ sym (of_pass desk_text pass_text n e.ended.near)
  one_wrote n Gone c e = absurd e.ended

  text_is : block_text k lines w news clerks differs ≡ phase_text gs before (block lines) came
  text_is =
      let T : ℕ → Text = text_of desk_text pass_text in
      let rest : Text = flat_map pass_text passes in
      let names : Names = after.known.names in
      let journal : List Delivery = after.writer.desk.listening.journal in
      let parts : actors_text k lines names journal news clerks ≡ desk_text ++ rest =
      texts_each k lines names journal T (actors_in (block lines)) news clerks
      (each_weaker (IsEnded k lines v.seat.seen w.seat.seen news clerks) (λ n x c. actor_text k lines names journal x c ≡ T n) one_wrote
      (actors_in (block lines)) news clerks (block_phases.all k lines v w olds news clerks differs h))
      ∙ all_texts desk_text pass_text (block lines) no_desk_text no_pass_text in
      (λ i. actors_text k lines (sym stands i).known.names (sym stands i).writer.desk.listening.journal news clerks ++ differs_line differs)
      ∙ ap (λ (t : Text). t ++ differs_line differs) parts ∙ append_assoc desk_text rest (differs_line differs)

  pub steps_on : StepsOn v k (block lines) w next (block_text k lines w news clerks differs)
  steps_on pool done text sizes race =
      let whole = actors_make_phase pool before (block lines) came (block_phases.done k lines v w olds news clerks differs h pool sizes lasts) in
      subst (λ (z : Stand × Text). IsRaceSoFar pool (done ++ block lines ∷ []) z.0 (text ++ z.1)) (λ i. (stands i, sym text_is i))
      (takes_phase pool done before text (block lines) came race whole)

pub blocks_step_on : BlocksStepOn
blocks_step_on k lines v w olds news clerks differs h lasts = steps_on k lines v w olds news clerks differs h lasts

pub blocks_may_stop : BlocksMayStop
blocks_may_stop k lines v w olds news clerks differs h script done left text sizes fits is race =
    let c : Course = block_phases.came k lines v w olds news clerks differs h in
    subst (λ (xs : List HistoryEntry). GoesOn script xs text) (sym (block_phases.cut k lines v w olds news clerks differs h))
    (stopped_actors_go_on script done (block lines) left (stand_of k v) text c fits is race
    (block_phases.begun k lines v w olds news clerks differs h (pool_words script) sizes))
