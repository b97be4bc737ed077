-- A pass goes on with its lines: each gives an order, or makes the entries of what it does.
use Rattle.std.proofs.Common.{◌≡◌, ℕ, ◌+◌, ◌<◌, ◌≤◌, Bool, true, List, [], ◌∷◌, ◌++◌, length, map, refl, sym, ap, ◌∙◌, subst, arith}
use Rattle.std.proofs.Common.{Option, Some, None, Result, Ok, Err, append_assoc, append-nil, length-append, is_some, if◌then◌else◌}
use Rattle.std.proofs.lemmas.List.{map-append}
use Rattle.std.proofs.lemmas.List.Folds.{list_any-append}
use Rattle.std.specs.List.{list_any}
use Rattle.mem_base.specs.map.PassIds.{PassId}
use Rattle.mem_base.specs.declared.map.ids.SpaceId.{SpaceId}
use Rattle.mem_base.specs.declared.machine.events.HistoryEntry.{HistoryEntry}
use Rattle.mem_base.specs.declared.machine.records.DeskEntry.{DeskEntry}
use Rattle.mem_base.specs.declared.machine.records.DeskOrder.{DeskOrder}
use Rattle.mem_base.specs.lists.Every.{Every}
use Rattle.mem_base.specs.map.Limits.{most_passes}
use Rattle.mem_base.specs.access.AccessSteps.{Transfer}
use Rattle.mem_base.specs.machine.Passes.{PassState, idle}
use Rattle.mem_base.specs.machine.Generations.{Generation}
use Rattle.mem_base.specs.machine.Actors.{generations_published, own_entries, pass_after_all}
use Rattle.mem_base.specs.machine.Composites.{enters_anew, leaves}
use Rattle.mem_base.specs.machine.PassTurns.{PassTurn, pass_begins}
use Rattle.mem_base.specs.machine.PassTurns as pass_turns
use Rattle.mem_base.specs.machine.Records.{answered, got_by, FitsDeskOrder}
use Rattle.mem_base.specs.machine.Turns.{Answered, replies_of}
use Rattle.mem_base.specs.script.Spelling.{Text}
use Rattle.mem_base.specs.script.Scripts.{Line}
use Rattle.mem_base.specs.script.Named.{Names}
use Rattle.mem_base.specs.script.Tasks.{Task, task_of}
use Rattle.mem_base.specs.script.Tasks as tasks
use Rattle.mem_base.specs.script.RaceLines.{PassLine, entry_at, line_of_pass, number_published}
use Rattle.mem_base.specs.script.Race.{IsAfterPublish, Phase, Stand, Course, pass_state, publishes_number}
use Rattle.history_laws.proofs.AppendLaws.{own_append, pass_by_append}
use Rattle.run_laws.specs.Fitting.{FitsCommand}
use Rattle.race_laws.specs.Acting.{PassAt, PassDeed, PassLineDoes}
use Rattle.race_laws.proofs.GoesOn.{IsRested}
use Rattle.race_laws.proofs.DeskGoes.{HasClerk, published_on}
use Rattle.race_laws.proofs.Fitting.{FitsTask, task_fits}
use Rattle.race_laws.proofs.NextLines.{pass_at_grows, pass_line_done}
use Rattle.race_laws.proofs.MachineGoes.{AreOf, Stands}
use Rattle.race_laws.proofs.PhaseParts.{Only, OrderOn, Part, course_on, only_none, only_then, order_on, own_apart, own_mine, pass_on, published_in}
use Rattle.race_laws.proofs.PassStages.{accessed_are, copied_are, makes_are, turn_at}
use Rattle.race_laws.proofs.Publishing.{stands_after}
use Rattle.race_laws.proofs.Stages.{Inside, enters_again, leaves_if, makes_access, makes_copy, state_on}
use Rattle.std.proofs.lemmas.Bool.{or_left, or_right}

-- what a pass did in a phase so far
abbrev pub deed_of : Stand → Course → PassId → List Line → PassDeed
deed_of s c pass lines = record {
  before = pass_state pass s.seen;
  lines = lines;
  own = own_entries (pass.0 + 1) c.entries;
  got = got_by pass.0 c.clerks;
  now = pass_state pass (s.seen ++ c.entries);
}

abbrev pub count_before : Stand → PassId → ℕ
count_before s pass = length (own_entries (pass.0 + 1) s.seen)

abbrev pub PassIs : Stand → Course → PassId → List Line → Type 0
PassIs s c pass lines = PassAt (published_in s c) s.known pass (s.seen ++ c.entries) (count_before s pass) (deed_of s c pass lines)

-- where others did something
pub state_kept : (pass : PassId) (xs ys zs : List HistoryEntry) → zs ≡ xs ++ ys → own_entries (pass.0 + 1) ys ≡ [] → pass_state pass zs ≡ pass_state pass xs
state_kept pass xs ys zs is none =
    ap (λ (es : List HistoryEntry). pass_after_all idle es)
    (ap (λ (es : List HistoryEntry). own_entries (pass.0 + 1) es) is ∙ own_append (pass.0 + 1) xs ys
    ∙ ap (λ (es : List HistoryEntry). own_entries (pass.0 + 1) xs ++ es) none ∙ append-nil (own_entries (pass.0 + 1) xs))

own_kept : (pass : PassId) (c d : Course) (ys : List HistoryEntry) → d.entries ≡ c.entries ++ ys → own_entries (pass.0 + 1) ys ≡ []
    → own_entries (pass.0 + 1) d.entries ≡ own_entries (pass.0 + 1) c.entries
own_kept pass c d ys is none =
    ap (λ (es : List HistoryEntry). own_entries (pass.0 + 1) es) is ∙ own_append (pass.0 + 1) c.entries ys
    ∙ ap (λ (es : List HistoryEntry). own_entries (pass.0 + 1) c.entries ++ es) none ∙ append-nil (own_entries (pass.0 + 1) c.entries)

pub seen_on : (s : Stand) (c d : Course) (ys : List HistoryEntry) → d.entries ≡ c.entries ++ ys → s.seen ++ d.entries ≡ (s.seen ++ c.entries) ++ ys
seen_on s c d ys is = ap (λ (es : List HistoryEntry). s.seen ++ es) is ∙ sym (append_assoc s.seen c.entries ys)

-- all of it holds, held against the longer history
grown_at : (s : Stand) (c d : Course) (pass : PassId) (lines : List Line) (ys : List HistoryEntry) → d.entries ≡ c.entries ++ ys → PassIs s c pass lines
    → PassAt (published_in s d) s.known pass (s.seen ++ d.entries) (count_before s pass) (deed_of s c pass lines)
grown_at s c d pass lines ys is at =
    let m = published_on s c d ys is in
    let history = seen_on s c d ys is in
    subst (λ (z : List Generation × List HistoryEntry). PassAt z.0 s.known pass z.1 (count_before s pass) (deed_of s c pass lines))
    (λ i. (sym m.1 i, sym history i))
    (pass_at_grows (published_in s c) m.0 s.known pass (s.seen ++ c.entries) ys (count_before s pass) (deed_of s c pass lines) at)

pub pass_kept : (s : Stand) (c d : Course) (pass : PassId) (lines : List Line) (ys : List HistoryEntry) → d.entries ≡ c.entries ++ ys
    → own_entries (pass.0 + 1) ys ≡ [] → got_by pass.0 d.clerks ≡ got_by pass.0 c.clerks → PassIs s c pass lines → PassIs s d pass lines
pass_kept s c d pass lines ys is none got at =
    let own = own_kept pass c d ys is none in
    let now = state_kept pass (s.seen ++ c.entries) ys (s.seen ++ d.entries) (seen_on s c d ys is) none in
    subst (λ (x : PassDeed). PassAt (published_in s d) s.known pass (s.seen ++ d.entries) (count_before s pass) x)
    (λ i. record { before = pass_state pass s.seen; lines = lines; own = sym own i; got = sym got i; now = sym now i })
    (grown_at s c d pass lines ys is at)

-- one more line

pub record PassOn (pool : ℕ) (os : List Answered) (s : Stand) (phase : Phase) (c : Course) (pass : PassId) (lines : List Line) : Type 0 where
  pub course : Course
  pub part : Part pool os s phase course
  pub only : Only pass.0 c course
  pub at : PassIs s course pass lines
  pub rested : IsRested (pass_state pass (s.seen ++ course.entries))

abbrev no_entries : List DeskEntry
no_entries = []

abbrev line_in : List Generation → Names → PassId → Line → Result Task Text → PassState → List ℕ → List DeskEntry → PassLine
line_in gs names pass line task p replies got = line_of_pass gs names pass line.0 task (pass_begins p replies) (entry_at got 0)

module _ (pool : ℕ) (os : List Answered) (s : Stand) (phase : Phase) (pass : PassId) (near : pass.0 < most_passes) (c : Course) (front : List Line)
    (line : Line) (part : Part pool os s phase c) (at : PassIs s c pass front) (rested : IsRested (pass_state pass (s.seen ++ c.entries)))
    (task : Result Task Text) (is : task_of s.known line.1 ≡ task) where
  abbrev now : PassState
  now = pass_state pass (s.seen ++ c.entries)

  -- it makes entries, and gives no order
  made : (ys : List HistoryEntry) → AreOf pass ys → Stands pool (os ++ map answered c.given) ((s.seen ++ c.entries) ++ ys)
      → IsRested (pass_state pass ((s.seen ++ c.entries) ++ ys))
      → ((names : Names) (later : List Generation) (replies : List ℕ) (more : List DeskEntry) → PassLineDoes
      (line_in (published_in s (course_on c ys) ++ later) names pass line task now (replies_of ys ++ replies) more) ys [] (pass_after_all now ys) None replies)
      → PassOn pool os s phase c pass (front ++ line ∷ [])
  made ys mine next after does =
      let d : Course = course_on c ys in
      let history = append_assoc s.seen c.entries ys in
      let grown = grown_at s c d pass front ys refl at in
      let done = pass_line_done (published_in s d) s.known pass (s.seen ++ d.entries) (count_before s pass) (deed_of s c pass front) grown line ys []
      (pass_after_all now ys) None
      (λ names later replies more. subst (λ (t : Result Task Text). PassLineDoes
      (line_in (published_in s d ++ later) names pass line t now (replies_of ys ++ replies) more) ys [] (pass_after_all now ys) None replies)
      (sym is) (does names later replies more))
      (λ zs. tt) in
      let own : own_entries (pass.0 + 1) c.entries ++ ys ≡ own_entries (pass.0 + 1) d.entries =
      ap (λ (es : List HistoryEntry). own_entries (pass.0 + 1) c.entries ++ es) (sym (own_mine pass ys mine)) ∙ sym (own_append (pass.0 + 1) c.entries ys) in
      let state : pass_after_all now ys ≡ pass_state pass (s.seen ++ d.entries) =
      state_on pass (s.seen ++ c.entries) ys mine ∙ ap (λ (es : List HistoryEntry). pass_state pass es) history in
      let got = append-nil (got_by pass.0 c.clerks) in record {
        course = d;
        part = pass_on pool os s phase c pass ys part mine next;
        only = record {
          more = ys;
          is = refl;
          apart = λ v ne. own_apart pass ys v mine ne;
          got = λ n ne. refl;
        };
        at = subst (λ (x : PassDeed). PassAt (published_in s d) s.known pass (s.seen ++ d.entries) (count_before s pass) x)
            (λ i. record { before = pass_state pass s.seen; lines = front ++ line ∷ []; own = own i; got = got i; now = state i }) done;
        rested = subst (λ (es : List HistoryEntry). IsRested (pass_state pass es)) history after;
      }

  -- it does nothing
  quiet : ((names : Names) (later : List Generation) (replies : List ℕ) (more : List DeskEntry) → PassLineDoes
      (line_in (published_in s (course_on c []) ++ later) names pass line task now replies more) [] [] now None replies)
      → PassOn pool os s phase c pass (front ++ line ∷ [])
  quiet does =
      let back = sym (append-nil (s.seen ++ c.entries)) in
      made [] tt (subst (λ (es : List HistoryEntry). Stands pool (os ++ map answered c.given) es) back part.stands)
      (subst (λ (es : List HistoryEntry). IsRested (pass_state pass es)) back rested) does

-- it gives an order
asked : (pool : ℕ) (os : List Answered) (s : Stand) (phase : Phase) (pass : PassId) (c : Course) (front : List Line) (line : Line)
    → Part pool os s phase c → PassIs s c pass front → IsRested (pass_state pass (s.seen ++ c.entries)) → HasClerk phase pass.0
    → (order : DeskOrder) (name : Text) → task_of s.known line.1 ≡ Ok (tasks.ordered order name) → FitsDeskOrder order
    → PassOn pool os s phase c pass (front ++ line ∷ [])
asked pool os s phase pass c front line part at rested there order name is fits =
    let a : OrderOn pool os s phase c pass.0 order = order_on pool os s phase c pass.0 order part (there c.clerks part.clerks) fits in
    let d : Course = a.course in
    let ys : List HistoryEntry = a.only.more in
    let none : own_entries (pass.0 + 1) ys ≡ [] = a.apart pass.0 in
    let e : DeskEntry = a.entry in
    let p : PassState = pass_state pass (s.seen ++ c.entries) in
    let history = seen_on s c d ys a.only.is in
    let grown = grown_at s c d pass front ys a.only.is at in
    let own : own_entries (pass.0 + 1) d.entries ≡ own_entries (pass.0 + 1) c.entries = own_kept pass c d ys a.only.is none in
    let state : pass_state pass (s.seen ++ d.entries) ≡ p = state_kept pass (s.seen ++ c.entries) ys (s.seen ++ d.entries) history none in
    let all = own_append (pass.0 + 1) s.seen d.entries in
    let both : length (own_entries (pass.0 + 1) (s.seen ++ d.entries)) ≡ length (own_entries (pass.0 + 1) s.seen ++ own_entries (pass.0 + 1) c.entries) =
    ap length (all ∙ ap (λ (es : List HistoryEntry). own_entries (pass.0 + 1) s.seen ++ es) own) in
    let long = length-append (own_entries (pass.0 + 1) s.seen) (own_entries (pass.0 + 1) c.entries) in
    let few : length (own_entries (pass.0 + 1) (s.seen ++ d.entries)) ≤ (count_before s pass + length (own_entries (pass.0 + 1) c.entries)) + 0 =
    omega (arith, both, long) in
    let there_is : (number : ℕ) → number_published e.answer ≡ Some number → list_any (publishes_number number) (s.seen ++ d.entries) ≡ true =
    λ number told. ap (λ (es : List HistoryEntry). list_any (publishes_number number) es) history
    ∙ list_any-append (publishes_number number) (s.seen ++ c.entries) ys
    ∙ or_right (list_any (publishes_number number) (s.seen ++ c.entries)) (list_any (publishes_number number) ys) (a.publishes number told) in
    let done = pass_line_done (published_in s d) s.known pass (s.seen ++ d.entries) (count_before s pass) (deed_of s c pass front) grown line []
    (e ∷ []) p (number_published e.answer)
    (λ names later replies more. subst (λ (t : Result Task Text). PassLineDoes
    (line_in (published_in s d ++ later) names pass line t p replies (e ∷ more)) [] (e ∷ []) p (number_published e.answer) replies) (sym is)
    (record { entries = refl; state = refl; replies_left = refl; asks = (λ i. sym a.asked i ∷ []); told = refl }))
    (λ zs. stands (s.seen ++ d.entries) ((count_before s pass + length (own_entries (pass.0 + 1) c.entries)) + 0)
    (number_published e.answer) there_is few zs) in record {
      course = d;
      part = a.part;
      only = a.only;
      at = subst (λ (x : PassDeed). PassAt (published_in s d) s.known pass (s.seen ++ d.entries) (count_before s pass) x)
          (λ i. record {
            before = pass_state pass s.seen;
            lines = front ++ line ∷ [];
            own = (append-nil (own_entries (pass.0 + 1) c.entries) ∙ sym own) i;
            got = sym a.got i;
            now = sym state i;
          }) done;
      rested = subst IsRested (sym state) rested;
    }
  where
    stands : (xs : List HistoryEntry) (count : ℕ) (o : Option ℕ) → ((number : ℕ) → o ≡ Some number → list_any (publishes_number number) xs ≡ true)
        → length (own_entries (pass.0 + 1) xs) ≤ count → (zs : List HistoryEntry) → IsAfterPublish (xs ++ zs) (pass.0 + 1) count o
    stands xs count None h l zs = tt
    stands xs count (Some number) h l zs = stands_after number (pass.0 + 1) count xs zs (h number refl) l

-- a line that gives no order, by where its turn comes to
pub by_turn : (x : PassLine) (p : PassState) (ys : List HistoryEntry) (ms : List ℕ) → x.asks ≡ [] → x.published ≡ None → x.turn ≡ turn_at p ys ms
    → PassLineDoes x ys [] p None ms
by_turn x p ys ms asks told is = record {
  entries = ap (λ (t : PassTurn). t.entries) is;
  state = ap (λ (t : PassTurn). t.state) is;
  replies_left = ap (λ (t : PassTurn). t.replies) is;
  asks = asks;
  told = told;
}

pub replies_both : (xs ys : List HistoryEntry) (ms : List ℕ) → replies_of (xs ++ ys) ++ ms ≡ replies_of xs ++ (replies_of ys ++ ms)
replies_both xs ys ms = ap (λ (ns : List ℕ). ns ++ ms) (map-append (λ (x : HistoryEntry). x.reply) xs ys) ∙ append_assoc (replies_of xs) (replies_of ys) ms

pub replies_three : (xs ys zs : List HistoryEntry) (ms : List ℕ)
    → replies_of ((xs ++ ys) ++ zs) ++ ms ≡ replies_of xs ++ (replies_of ys ++ (replies_of zs ++ ms))
replies_three xs ys zs ms = replies_both (xs ++ ys) zs ms ∙ replies_both xs ys (replies_of zs ++ ms)

pub replies_four : (vs xs ys zs : List HistoryEntry) (ms : List ℕ)
    → replies_of (((vs ++ xs) ++ ys) ++ zs) ++ ms ≡ replies_of vs ++ (replies_of xs ++ (replies_of ys ++ (replies_of zs ++ ms)))
replies_four vs xs ys zs ms = replies_three (vs ++ xs) ys zs ms ∙ replies_both vs xs (replies_of ys ++ (replies_of zs ++ ms))

module _ (pool : ℕ) (os : List Answered) (s : Stand) (phase : Phase) (pass : PassId) (near : pass.0 < most_passes) (there : HasClerk phase pass.0) (c : Course)
    (front : List Line) (line : Line) (part : Part pool os s phase c) (at : PassIs s c pass front)
    (rested : IsRested (pass_state pass (s.seen ++ c.entries))) where
  abbrev xs : List HistoryEntry
  xs = s.seen ++ c.entries

  abbrev now_there : PassState
  now_there = pass_state pass xs

  abbrev given : List Answered
  given = os ++ map answered c.given

  abbrev b : Bool
  b = is_some now_there.entered

  abbrev Done : Type 0
  Done = PassOn pool os s phase c pass (front ++ line ∷ [])

  nothing_done : (task : Result Task Text) → task_of s.known line.1 ≡ task
      → ((gs : List Generation) (names : Names) (replies : List ℕ) (more : List DeskEntry) → PassLineDoes
      (line_in gs names pass line task now_there replies more) [] [] now_there None replies) → Done
  nothing_done task is does = quiet pool os s phase pass near c front line part at rested task is
      (λ names later replies more. does (published_in s (course_on c []) ++ later) names replies more)

  enter_done : task_of s.known line.1 ≡ Ok tasks.entered → Done
  enter_done is =
      let i : Inside pool given pass near xs (enters_anew b pass) = enters_again pool given pass near b xs part.stands refl rested in
      let ys : List HistoryEntry = i.goes.ys in
      made pool os s phase pass near c front line part at rested (Ok tasks.entered) is ys i.goes.mine i.goes.next (or_left _ _ i.here)
      (λ names later replies more. by_turn
      (line_in (published_in s (course_on c ys) ++ later) names pass line (Ok tasks.entered) now_there (replies_of ys ++ replies) more)
      (pass_after_all now_there ys) ys replies refl refl (makes_are [] (enters_anew b pass) now_there [] ys replies i.goes.are))

  leave_done : task_of s.known line.1 ≡ Ok tasks.left → Done
  leave_done is =
      let o = leaves_if pool given pass near b xs part.stands refl rested in
      let ys : List HistoryEntry = o.goes.ys in
      made pool os s phase pass near c front line part at rested (Ok tasks.left) is ys o.goes.mine o.goes.next o.rested
      (λ names later replies more. by_turn
      (line_in (published_in s (course_on c ys) ++ later) names pass line (Ok tasks.left) now_there (replies_of ys ++ replies) more)
      (pass_after_all now_there ys) ys replies refl refl (makes_are [] (if b then leaves pass else []) now_there [] ys replies o.goes.are))

  access_done : (space : SpaceId) (addr : ℕ) (transfer : Transfer) → task_of s.known line.1 ≡ Ok (tasks.accessed space addr transfer) → Done
  access_done space addr transfer is =
      let a = makes_access pool given pass near b xs part.stands refl rested space addr transfer in
      let ys : List HistoryEntry = (a.one ++ a.two) ++ a.three in
      let state : pass_after_all (pass_after_all (pass_after_all now_there a.one) a.two) a.three ≡ pass_after_all now_there ys =
      sym (pass_by_append (a.one ++ a.two) a.three now_there ∙ ap (λ (p : PassState). pass_after_all p a.three) (pass_by_append a.one a.two now_there)) in
      made pool os s phase pass near c front line part at rested (Ok (tasks.accessed space addr transfer)) is ys a.mine a.next a.rested
      (λ names later replies more.
      let gs : List Generation = published_in s (course_on c ys) ++ later in
      let same : generations_published (xs ++ ys) ++ later ≡ gs =
      ap (λ (es : List HistoryEntry). generations_published es ++ later) (append_assoc s.seen c.entries ys) in
      by_turn (line_in gs names pass line (Ok (tasks.accessed space addr transfer)) now_there (replies_of ys ++ replies) more)
      (pass_after_all now_there ys) ys replies refl refl
      (ap (λ (ns : List ℕ). (pass_turns.accessed gs pass space addr transfer (turn_at now_there [] ns)).turn) (replies_three a.one a.two a.three replies)
      ∙ ap (λ (hs : List Generation). (pass_turns.accessed hs pass space addr transfer (turn_at now_there []
      (replies_of a.one ++ (replies_of a.two ++ (replies_of a.three ++ replies))))).turn) (sym same)
      ∙ accessed_are b (generations_published (xs ++ ys) ++ later) pass space addr transfer now_there a.one a.two a.three replies (a.are later)
      ∙ ap (λ (p : PassState). turn_at p ys replies) state))

  copy_done : (from : SpaceId) (addr n : ℕ) (to : SpaceId) (to_addr : ℕ) → task_of s.known line.1 ≡ Ok (tasks.copied from addr n to to_addr) → Done
  copy_done from addr n to to_addr is =
      let a = makes_copy pool given pass near b xs part.stands refl rested from addr n to to_addr in
      let ys : List HistoryEntry = ((a.one ++ a.two) ++ a.three) ++ a.four in
      let three : List HistoryEntry = (a.one ++ a.two) ++ a.three in
      let state : pass_after_all (pass_after_all (pass_after_all (pass_after_all now_there a.one) a.two) a.three) a.four ≡ pass_after_all now_there ys =
      sym (pass_by_append three a.four now_there
      ∙ ap (λ (p : PassState). pass_after_all p a.four) (pass_by_append (a.one ++ a.two) a.three now_there
      ∙ ap (λ (p : PassState). pass_after_all p a.three) (pass_by_append a.one a.two now_there))) in
      made pool os s phase pass near c front line part at rested (Ok (tasks.copied from addr n to to_addr)) is ys a.mine a.next a.rested
      (λ names later replies more.
      let gs : List Generation = published_in s (course_on c ys) ++ later in
      let same : generations_published (xs ++ ys) ++ later ≡ gs =
      ap (λ (es : List HistoryEntry). generations_published es ++ later) (append_assoc s.seen c.entries ys) in
      by_turn (line_in gs names pass line (Ok (tasks.copied from addr n to to_addr)) now_there (replies_of ys ++ replies) more)
      (pass_after_all now_there ys) ys replies refl refl
      (ap (λ (ns : List ℕ). (pass_turns.copied gs pass from addr n to to_addr (turn_at now_there [] ns)).turn)
      (replies_four a.one a.two a.three a.four replies)
      ∙ ap (λ (hs : List Generation). (pass_turns.copied hs pass from addr n to to_addr (turn_at now_there []
      (replies_of a.one ++ (replies_of a.two ++ (replies_of a.three ++ (replies_of a.four ++ replies)))))).turn) (sym same)
      ∙ copied_are b (generations_published (xs ++ ys) ++ later) pass from addr n to to_addr now_there a.one a.two a.three a.four replies (a.are later)
      ∙ ap (λ (p : PassState). turn_at p ys replies) state))

  by_task : (task : Result Task Text) → task_of s.known line.1 ≡ task → FitsTask task → Done
  by_task (Err why) is fits = nothing_done (Err why) is
      (λ gs names ms more. record { entries = refl; state = refl; replies_left = refl; asks = refl; told = refl })
  by_task (Ok tasks.idle) is fits = nothing_done (Ok tasks.idle) is
      (λ gs names ms more. record { entries = refl; state = refl; replies_left = refl; asks = refl; told = refl })
  by_task (Ok (tasks.shown x)) is fits = nothing_done (Ok (tasks.shown x)) is
      (λ gs names ms more. record { entries = refl; state = refl; replies_left = refl; asks = refl; told = refl })
  by_task (Ok (tasks.found x a)) is fits = nothing_done (Ok (tasks.found x a)) is
      (λ gs names ms more. record { entries = refl; state = refl; replies_left = refl; asks = refl; told = refl })
  by_task (Ok (tasks.watched name r first last)) is fits = nothing_done (Ok (tasks.watched name r first last)) is
      (λ gs names ms more. record { entries = refl; state = refl; replies_left = refl; asks = refl; told = refl })
  by_task (Ok (tasks.unwatched id)) is fits = nothing_done (Ok (tasks.unwatched id)) is
      (λ gs names ms more. record { entries = refl; state = refl; replies_left = refl; asks = refl; told = refl })
  by_task (Ok (tasks.ordered order name)) is fits = asked pool os s phase pass c front line part at rested there order name is fits
  by_task (Ok tasks.entered) is fits = enter_done is
  by_task (Ok tasks.left) is fits = leave_done is
  by_task (Ok (tasks.accessed x a transfer)) is fits = access_done x a transfer is
  by_task (Ok (tasks.copied from a n to to_a)) is fits = copy_done from a n to to_a is

pub pass_lines_on : (pool : ℕ) (os : List Answered) (s : Stand) (phase : Phase) (pass : PassId) → pass.0 < most_passes → HasClerk phase pass.0
    → (left front : List Line) (c : Course) → Part pool os s phase c → PassIs s c pass front → IsRested (pass_state pass (s.seen ++ c.entries))
    → Every (λ l. FitsCommand l.1) left → PassOn pool os s phase c pass (front ++ left)
pass_lines_on pool os s phase pass near there [] front c part at rested fits = record {
  course = c;
  part = part;
  only = only_none pass.0 c;
  at = subst (λ (lines : List Line). PassIs s c pass lines) (sym (append-nil front)) at;
  rested = rested;
}
pass_lines_on pool os s phase pass near there (line ∷ left) front c part at rested fits =
    let a = by_task pool os s phase pass near there c front line part at rested (task_of s.known line.1) refl (task_fits s.known line.1 fits.0) in
    let rest = pass_lines_on pool os s phase pass near there left (front ++ line ∷ []) a.course a.part a.at a.rested fits.1 in record {
      course = rest.course;
      part = rest.part;
      only = only_then pass.0 c a.course rest.course a.only rest.only;
      at = subst (λ (lines : List Line). PassIs s rest.course pass lines) (append_assoc front (line ∷ []) left) rest.at;
      rested = rest.rested;
    }
