-- A line that was done is the line that the script's definition has, and comes after those that the pass did before it.
use Rattle.std.proofs.Common.{◌≡◌, ℕ, Bool, List, [], ◌∷◌, ◌++◌, length, refl, sym, ap, subst, ◌∙◌, None, Ok, is_some}
use mathlib.Core.List.{IsPrefix}
use Rattle.mem_base.specs.map.PassIds.{PassId}
use Rattle.mem_base.specs.declared.map.ids.SpaceId.{SpaceId}
use Rattle.mem_base.specs.declared.access.accesses.Access.{Access}
use Rattle.mem_base.specs.declared.machine.events.HistoryEntry.{HistoryEntry}
use Rattle.mem_base.specs.declared.machine.records.DeskEntry.{DeskEntry}
use Rattle.mem_base.specs.access.AccessSteps.{Transfer, either, reading, result_of, writing}
use Rattle.mem_base.specs.access.Access.{access}
use Rattle.mem_base.specs.machine.Passes.{PassState, pass_id}
use Rattle.mem_base.specs.machine.Generations.{Generation}
use Rattle.mem_base.specs.machine.Composites.{enters_anew, enters_unless}
use Rattle.mem_base.specs.machine.Actors.{first_generation, generations_published, pass_after_all}
use Rattle.mem_base.specs.machine.PassTurns.{PassTurn, Transferred, number_entered, leaves_after, makes, pass_begins, transferred, copied_on}
use Rattle.mem_base.specs.machine.PassTurns as pass_turns
use Rattle.mem_base.specs.machine.Turns.{replies_of}
use Rattle.mem_base.specs.script.Spelling.{Text}
use Rattle.mem_base.specs.script.Named.{Names}
use Rattle.mem_base.specs.script.Output.{dma_line, enter_line, read_line, write_line}
use Rattle.mem_base.specs.script.Tasks.{Known, Resolved, Task}
use Rattle.mem_base.specs.script.Tasks as tasks
use Rattle.mem_base.specs.script.RaceLines.{entry_at, line_of_pass, says}
use Rattle.history_laws.proofs.AppendLaws.{published_append, published_grows}
use Rattle.race_laws.specs.Acting.{AreAccess, AreCopy, PassAt, PassDeed, PassLineDoes, bytes_of_read, deed_on, generation_in}
use Rattle.race_laws.proofs.ActingLaws.{lines_do, pass_acts}
use Rattle.race_laws.proofs.PassGoesOn.{replies_four, replies_three}
use Rattle.race_laws.proofs.PassStages.{makes_are, transfer_are, transfer_with, turn_at}
use Rattle.pass_lines.specs.declared.answers.LineAnswer.{LineAnswer}
use Rattle.pass_lines.specs.Texts.{answer_text}
use Rattle.pass_lines.specs.Doing.{DoesAccess, DoesCopy, DoesTask, access_answer, copy_result, forest_in, number_in, state_seen}
use Rattle.pass_lines.specs.Laws.{LinesAreDone, PassesGoOn}
use Rattle.pass_lines.proofs.EntryLaws.{state_then}

-- what an access answers and reads, by the replies of its entries

abbrev access_turn : List Generation → PassId → SpaceId → ℕ → Transfer → PassState → List HistoryEntry → List ℕ → Transferred
access_turn gs pass s a transfer p ys ms = pass_turns.accessed gs pass s a transfer (turn_at p [] (replies_of ys ++ ms))

access_is : (b : Bool) (gs : List Generation) (pass : PassId) (s : SpaceId) (a : ℕ) (transfer : Transfer) (p : PassState)
    (one two three : List HistoryEntry) (ms : List ℕ) → AreAccess b gs pass s a transfer p one two three
    → let q : PassState = pass_after_all p one in access_turn gs pass s a transfer p ((one ++ two) ++ three) ms
    ≡ leaves_after b pass (transfer_with q (access (forest_in gs q) s a transfer) (length one)
    (turn_at (pass_after_all q two) (one ++ two) (replies_of three ++ ms)) (replies_of two))
access_is b gs pass s a transfer p one two three ms h =
    let rest : List ℕ = replies_of two ++ (replies_of three ++ ms) in
    let q : PassState = pass_after_all p one in
    ap (λ (ns : List ℕ). pass_turns.accessed gs pass s a transfer (turn_at p [] ns)) (replies_three one two three ms)
    ∙ ap (λ (c : Bool). leaves_after c pass (transferred gs pass s a transfer (makes [] (enters_unless c pass) (turn_at p [] (replies_of one ++ rest)))))
    h.inside
    ∙ ap (λ (z : PassTurn). leaves_after b pass (transferred gs pass s a transfer z)) (makes_are [] (enters_unless b pass) p [] one rest h.enters)
    ∙ ap (λ (z : Transferred). leaves_after b pass z) (transfer_are gs pass s a transfer q one two (replies_of three ++ ms) h.steps)

-- what a copy answers
copy_is : (b : Bool) (gs : List Generation) (pass : PassId) (from : SpaceId) (a n : ℕ) (to : SpaceId) (c : ℕ) (p : PassState)
    (one two three four : List HistoryEntry) (ms : List ℕ) → AreCopy b gs pass from a n to c p one two three four
    → let q : PassState = pass_after_all p one in
    (pass_turns.copied gs pass from a n to c (turn_at p [] (replies_of (((one ++ two) ++ three) ++ four) ++ ms))).answer
    ≡ access_answer (copy_result gs from a n to c q two) (number_in q)
copy_is b gs pass from a n to c p one two three four ms h =
    let last : List ℕ = replies_of four ++ ms in
    let rest : List ℕ = replies_of two ++ (replies_of three ++ last) in
    let q : PassState = pass_after_all p one in
    let bytes : List ℕ = bytes_of_read (generation_in gs q) from a n two in
    ap (λ (ns : List ℕ). (pass_turns.copied gs pass from a n to c (turn_at p [] ns)).answer) (replies_four one two three four ms)
    ∙ ap (λ (d : Bool). (copied_on gs pass to c (transferred gs pass from a (reading n)
    (makes [] (enters_unless d pass) (turn_at p [] (replies_of one ++ rest))))).answer) h.inside
    ∙ ap (λ (z : PassTurn). (copied_on gs pass to c (transferred gs pass from a (reading n) z)).answer)
    (makes_are [] (enters_unless b pass) p [] one rest h.enters)
    ∙ ap (λ (z : Transferred). (copied_on gs pass to c z).answer) (transfer_are gs pass from a (reading n) q one two (replies_of three ++ last) h.reads)
    ∙ ap (λ (z : Transferred). access_answer (either (result_of (access (forest_in gs q) from a (reading n))) z.answer.result) (number_in q))
    (transfer_are gs pass to c (writing bytes) (pass_after_all q two) (one ++ two) three last h.writes)

module _ (gs : List Generation) (names : Names) (pass : PassId) (n : ℕ) (p : PassState) (ms : List ℕ) (e : DeskEntry) (ys : List HistoryEntry) where
  -- a line by its task does these entries, and says this
  record Is (task : tasks.Task) (text : Text) : Type 0 where
    does : PassLineDoes (line_of_pass gs names pass n (Ok task) (pass_begins p (replies_of ys ++ ms)) e) ys [] (pass_after_all p ys) None ms
    says_so : (line_of_pass gs names pass n (Ok task) (pass_begins p (replies_of ys ++ ms)) e).said ≡ says text

  access_line : (s : SpaceId) (a : ℕ) (transfer : Transfer) (text : Access → List ℕ → Text) (x : Access) (bytes : List ℕ)
      → (line_of_pass gs names pass n (Ok (tasks.accessed s a transfer)) (pass_begins p (replies_of ys ++ ms)) e).said
      ≡ says (text (access_turn gs pass s a transfer p ys ms).answer (access_turn gs pass s a transfer p ys ms).bytes)
      → DoesAccess gs pass s a transfer p ys x bytes → Is (tasks.accessed s a transfer) (text x bytes)
  access_line s a transfer text x bytes said d =
      let l = lines_do gs names pass n p ms e in
      let whole : List HistoryEntry = (d.one ++ d.two) ++ d.three in
      let is = access_is d.was gs pass s a transfer p d.one d.two d.three ms d.are in
      let turn : access_turn gs pass s a transfer p ys ms ≡ access_turn gs pass s a transfer p whole ms =
      ap (λ (zs : List HistoryEntry). access_turn gs pass s a transfer p zs ms) d.parts in record {
        does = subst (λ (zs : List HistoryEntry). PassLineDoes
            (line_of_pass gs names pass n (Ok (tasks.accessed s a transfer)) (pass_begins p (replies_of zs ++ ms)) e) zs [] (pass_after_all p zs) None ms)
            (sym d.parts) (l.accesses d.was s a transfer d.one d.two d.three d.are);
        says_so = said
            ∙ (λ i. says (text ((ap (λ (z : Transferred). z.answer) (turn ∙ is) ∙ sym d.ended) i)
            ((ap (λ (z : Transferred). z.bytes) (turn ∙ is) ∙ sym d.read) i)));
      }

  copy_line : (from : SpaceId) (a m : ℕ) (to : SpaceId) (c : ℕ) (x : Access) → DoesCopy gs pass from a m to c p ys x
      → Is (tasks.copied from a m to c) (dma_line pass x)
  copy_line from a m to c x d =
      let l = lines_do gs names pass n p ms e in
      let is = copy_is d.was gs pass from a m to c p d.one d.two d.three d.four ms d.are in record {
        does = subst (λ (zs : List HistoryEntry). PassLineDoes
            (line_of_pass gs names pass n (Ok (tasks.copied from a m to c)) (pass_begins p (replies_of zs ++ ms)) e) zs [] (pass_after_all p zs) None ms)
            (sym d.parts) (l.copies d.was from a m to c d.one d.two d.three d.four d.are);
        says_so = ap (λ (zs : List HistoryEntry). says (dma_line pass (pass_turns.copied gs pass from a m to c (turn_at p [] (replies_of zs ++ ms))).answer))
            d.parts
            ∙ ap (λ (y : Access). says (dma_line pass y)) (is ∙ sym d.ended);
      }

  line_is : (task : Task) (answer : LineAnswer) → DoesTask gs pass p ys task answer → Is task (answer_text pass answer)
  line_is tasks.entered answer d = record {
    does = (lines_do gs names pass n p ms e).enters ys d.are;
    says_so = ap (λ (z : PassTurn). says (enter_line pass (number_entered z))) (makes_are [] (enters_anew (is_some p.entered) pass) p [] ys ms d.are)
        ∙ ap (λ (x : LineAnswer). says (answer_text pass x)) (sym d.told);
  }
  line_is tasks.left answer d = record {
    does = (lines_do gs names pass n p ms e).leaves_it ys d.are;
    says_so = ap (λ (x : LineAnswer). says (answer_text pass x)) (sym d.told);
  }
  line_is (tasks.accessed space addr (reading len)) answer d =
      let i = access_line space addr (reading len) (λ x bytes. read_line pass x bytes) d.0 d.1 refl d.3 in
      record { does = i.does; says_so = i.says_so ∙ ap (λ (x : LineAnswer). says (answer_text pass x)) (sym d.2) }
  line_is (tasks.accessed space addr (writing bytes)) answer d =
      let i = access_line space addr (writing bytes) (λ x bytes. write_line pass x) d.0 [] refl d.2 in
      record { does = i.does; says_so = i.says_so ∙ ap (λ (x : LineAnswer). says (answer_text pass x)) (sym d.1) }
  line_is (tasks.copied from addr len to to_addr) answer d =
      let i = copy_line from addr len to to_addr d.0 d.2 in
      record { does = i.does; says_so = i.says_so ∙ ap (λ (x : LineAnswer). says (answer_text pass x)) (sym d.1) }
  line_is tasks.idle answer d = absurd d
  line_is (tasks.ordered order name) answer d = absurd d
  line_is (tasks.shown space) answer d = absurd d
  line_is (tasks.found space addr) answer d = absurd d
  line_is (tasks.watched name region first last) answer d = absurd d
  line_is (tasks.unwatched id) answer d = absurd d

pub lines_are_done : LinesAreDone
lines_are_done v w task answer d names n later replies e =
    let pass : PassId = pass_id v.number in
    let gs : List Generation = generations_published w.seen ++ later in
    let p : PassState = state_seen v in
    let i = line_is gs names pass n p replies e d.entries task answer (d.does later) in record {
      does = subst (λ (q : PassState). PassLineDoes (line_of_pass gs names pass n (Ok task) (pass_begins p (replies_of d.entries ++ replies)) e)
          d.entries [] q None replies) (sym (state_then v w d.entries d.grew)) i.does;
      says = i.says_so;
    }

-- more is seen, and more is published

pub published_prefix : (xs ys : List HistoryEntry) → IsPrefix xs ys → IsPrefix (generations_published xs) (generations_published ys)
published_prefix xs ys h =
    let more = published_grows h.0 (generations_published xs) in
    (more.0, more.1 ∙ sym (published_append xs h.0 (first_generation ∷ [])) ∙ ap generations_published h.1)

pub at_later : (k : Known) (pass : PassId) (count : ℕ) (d : PassDeed) (xs ys : List HistoryEntry) → IsPrefix xs ys
    → PassAt (generations_published xs) k pass xs count d → PassAt (generations_published ys) k pass ys count d
at_later k pass count d xs ys h at =
    let more = published_prefix xs ys h in
    subst (λ (z : List Generation × List HistoryEntry). PassAt z.0 k pass z.1 count d) (λ i. (more.1 i, h.1 i))
    (pass_acts.grows (generations_published xs) more.0 k pass xs h.0 count d at)

pub passes_go_on : PassesGoOn
passes_go_on k count d line v w task answer x at is =
    let pass : PassId = pass_id v.number in
    let gs : List Generation = generations_published w.seen in
    let ys : List HistoryEntry = x.entries in
    let none : List DeskEntry = [] in
    let next : PassState = state_seen w in
    let grown : PassAt gs k pass w.seen count d = at_later k pass count d v.seen w.seen x.grew.begins at.0 in
    let on : PassAt gs k pass w.seen count (deed_on d line ys none next) =
    pass_acts.goes gs k pass w.seen count d line ys none next None grown
    (λ names later replies more. subst (λ (z : Resolved Task × PassState). PassLineDoes
    (line_of_pass (gs ++ later) names pass line.0 z.0 (pass_begins z.1 (replies_of ys ++ replies)) (entry_at (none ++ more) 0)) ys none next None replies)
    (λ i. (sym is i, sym at.1 i)) (lines_are_done v w task answer x names line.0 later replies (entry_at more 0)).does)
    (λ zs. tt) in
    (subst (λ (m : ℕ). PassAt gs k (pass_id m) w.seen count (deed_on d line ys none next)) (sym x.grew.number) on, refl)
